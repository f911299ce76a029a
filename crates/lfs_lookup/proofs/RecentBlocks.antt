-- The blocks that were used last, as one more is brought.
use Rattle.std.proofs.Common.{ℕ, zero, suc, ◌≡◌, ◌<◌, ◌≤◌, Bool, true, false, cond, not, nat_eq, List, [], ◌∷◌, length, take, Option, Some, None, Result, Ok, Err, refl, sym, ap, subst, ◌∙◌, arith, eqb-true, is_some}
use Rattle.std.specs.Prelude.{IsSome, OnOk}
use Rattle.lfs_lookup.proofs.Common.{AllByRecursion, CachedBlocks, cache_limit, disk_block, read_count, Pair, active_block_at, KeptThread, ThreadView, cached_log, thread_pair, ArePairsCached, KeepsCachedPairs, BecomesMostRecent, IsRecentlyUsed, CachedBlocksStayCached}
use Rattle.std.proofs.lemmas.List.{take-take}
use Rattle.lfs_device.specs.declared.error.Error.{Error}
use Rattle.lfs_model.specs.layers.Cache.{cached_bytes, cache_with, cache_without}
use Rattle.lfs_thread.specs.CachedLog.{loaded_cache as loaded_in}

same : (b : ℕ) → nat_eq b b ≡ true
same b = search arith

-- no block is one of none
in_none : (b : ℕ) → IsRecentlyUsed 0 [] b → ⊥
in_none b h = absurd (cc)

here : (t : Bool) (bytes : List ℕ) (o : Option (List ℕ)) → t ≡ true → IsSome (cond t (Some bytes) o)
here t bytes o e = ap (λ z. is_some (cond z (Some bytes) o)) e

further : (t : Bool) (bytes : List ℕ) (o : Option (List ℕ)) → IsSome o → IsSome (cond t (Some bytes) o)
further true bytes o h = refl
further false bytes o h = h

elsewhere : (t : Bool) (bytes : List ℕ) (o : Option (List ℕ)) → t ≡ false → IsSome (cond t (Some bytes) o) → IsSome o
elsewhere t bytes o e h = subst (λ z. IsSome (cond z (Some bytes) o)) e h

-- one of so many is one of more
pub wider : (m n c : ℕ) (cache : CachedBlocks) → m ≤ n → IsRecentlyUsed m cache c → IsRecentlyUsed n cache c
wider zero n c cache l h = absurd (in_none c h)
wider (suc m) zero c cache l h = absurd (omega arith)
wider (suc m) (suc n) c [] l h = absurd (in_none c h)
wider (suc m) (suc n) c (e ∷ es) l h = go (nat_eq c e.0) (wider m n c es (omega arith)) h
  where
    go : (t : Bool) → (IsRecentlyUsed m es c → IsRecentlyUsed n es c) → IsSome (cond t (Some e.1) (cached_bytes (take m es) c)) → IsSome (cond t (Some e.1) (cached_bytes (take n es) c))
    go true next k = refl
    go false next k = next k

-- and is cached
pub is_cached : (n c : ℕ) (cache : CachedBlocks) → IsRecentlyUsed n cache c → IsSome (cached_bytes cache c)
is_cached zero c cache h = absurd (in_none c h)
is_cached (suc n) c [] h = absurd (in_none c h)
is_cached (suc n) c (e ∷ es) h = go (nat_eq c e.0) (is_cached n c es) h
  where
    go : (t : Bool) → (IsRecentlyUsed n es c → IsSome (cached_bytes es c)) → IsSome (cond t (Some e.1) (cached_bytes (take n es) c)) → IsSome (cond t (Some e.1) (cached_bytes es c))
    go true next k = refl
    go false next k = next k

module _ (b c : ℕ) (other : nat_eq c b ≡ false) where
  not_here : (k : ℕ) → nat_eq b k ≡ true → nat_eq c k ≡ false
  not_here k is = ap (λ z. nat_eq c z) (sym (eqb-true b k is)) ∙ other

  -- another block goes
  past : (n : ℕ) (cache : CachedBlocks) → IsRecentlyUsed n cache c → IsRecentlyUsed n (cache_without cache b) c
  past zero cache h = absurd (in_none c h)
  past (suc n) [] h = absurd (in_none c h)
  past (suc n) (e ∷ es) h = go (nat_eq b e.0) refl (past n es)
    where
      behind : (t : Bool) → (IsRecentlyUsed n es c → IsRecentlyUsed n (cache_without es b) c) → IsSome (cond t (Some e.1) (cached_bytes (take n es) c)) → IsSome (cond t (Some e.1) (cached_bytes (take n (cache_without es b)) c))
      behind true next k = refl
      behind false next k = next k

      go : (t : Bool) → nat_eq b e.0 ≡ t → (IsRecentlyUsed n es c → IsRecentlyUsed n (cache_without es b) c) → IsRecentlyUsed (suc n) (cond (not t) (e ∷ cache_without es b) (cache_without es b)) c
      go true is next = wider n (suc n) c (cache_without es b) (omega arith) (next (elsewhere (nat_eq c e.0) e.1 (cached_bytes (take n es) c) (not_here e.0 is) h))
      go false is next = behind (nat_eq c e.0) next h

  -- where the one that goes is as recent, there is one fewer
  closer : (cache : CachedBlocks) (n : ℕ) → IsRecentlyUsed (suc n) cache b → IsRecentlyUsed (suc n) cache c → IsRecentlyUsed n (cache_without cache b) c
  closer [] n g h = absurd (in_none c h)
  closer (e ∷ es) n g h = go (nat_eq b e.0) refl (closer es) g
    where
      deeper : (n : ℕ) → ((m : ℕ) → IsRecentlyUsed (suc m) es b → IsRecentlyUsed (suc m) es c → IsRecentlyUsed m (cache_without es b) c) → IsRecentlyUsed n es b → IsRecentlyUsed (suc n) (e ∷ es) c → IsRecentlyUsed n (e ∷ cache_without es b) c
      deeper zero next k h = absurd (in_none b k)
      deeper (suc n) next k h = by (nat_eq c e.0) h
        where
          by : (t : Bool) → IsSome (cond t (Some e.1) (cached_bytes (take (suc n) es) c)) → IsSome (cond t (Some e.1) (cached_bytes (take n (cache_without es b)) c))
          by true z = refl
          by false z = next n k z

      go : (t : Bool) → nat_eq b e.0 ≡ t → ((m : ℕ) → IsRecentlyUsed (suc m) es b → IsRecentlyUsed (suc m) es c → IsRecentlyUsed m (cache_without es b) c) → IsSome (cond t (Some e.1) (cached_bytes (take n es) b))
          → IsRecentlyUsed n (cond (not t) (e ∷ cache_without es b) (cache_without es b)) c
      go true is next k = past n es (elsewhere (nat_eq c e.0) e.1 (cached_bytes (take n es) c) (not_here e.0 is) h)
      go false is next k = deeper n next k h

module _ (cache : CachedBlocks) (b : ℕ) (bytes : List ℕ) where
  -- those in front of the others
  front : (n c : ℕ) → n < cache_limit → (nat_eq c b ≡ false → IsRecentlyUsed n (cache_without cache b) c) → IsRecentlyUsed (suc n) (cache_with cache b bytes) c
  front n c few h = go (nat_eq c b) refl
    where
      go : (t : Bool) → nat_eq c b ≡ t → IsSome (cond t (Some bytes) (cached_bytes (take n (take 7 (cache_without cache b))) c))
      go true is = refl
      go false is = subst (λ es. IsSome (cached_bytes es c)) (sym (take-take n 7 (cache_without cache b) (omega (arith, few)))) (h is)

  pub brought : BecomesMostRecent b cache (cache_with cache b bytes)
  brought = record {
    first = here (nat_eq b b) bytes None (same b);
    others = λ n c few h. front n c few (λ other. past b c other n cache h);
  }

  pub stay_loaded : IsRecentlyUsed cache_limit cache b → CachedBlocksStayCached cache (cache_with cache b bytes)
  stay_loaded there c h = front 7 c (omega arith) (λ other. closer b c other cache 7 there h)

-- ---- along the pairs of a directory

pub on_err : {X : Type 0} (r : Result X Error) (e : Error) (P : Type 0) → r ≡ Err e → OnOk r P
on_err r e P is = subst (λ z. OnOk z P) (sym is) tt

pub after : {X P Q : Type 0} (r : Result X Error) → (P → Q) → OnOk r P → OnOk r Q
after (Ok x) f p = f p
after (Err e) f p = tt

pub on_any : {X : Type 0} (r : Result X Error) (P : Type 0) → P → OnOk r P
on_any (Ok x) P p = p
on_any (Err e) P p = tt

pub on_ok : {X : Type 0} (r : Result X Error) (x : X) (P : Type 0) → r ≡ Ok x → OnOk r P → P
on_ok r x P is p = subst (λ z. OnOk z P) is p

-- a result in place of another
abbrev pub Passes : {X Y : Type 0} → Result X Error → Result Y Error → Type 1
Passes r s = (P : Type 0) → OnOk r P → OnOk s P

pub passes_none : {X Y : Type 0} (r : Result X Error) (s : Result Y Error) (e : Error) → s ≡ Err e → Passes r s
passes_none r s e is = λ P p. on_err s e P is

pub along_as : {X Y : Type 0} (ps : List Pair) (old new : ThreadView) (r : Result X Error) (s : Result Y Error) → Passes r s → KeepsCachedPairs ps old new r → KeepsCachedPairs ps old new s
along_as ps old new r s pass b = record { none = b.none; stay = λ there. pass _ (b.stay there); one = λ e. pass _ (b.one e) }

-- a pair is brought without a call where it is cached
pub loads_one : {X : Type 0} (old new : ThreadView) (index : ℕ) (s : Result X Error) → (IsSome (cached_log old index) → new.kept ≡ old.kept)
    → OnOk s (new.cache ≡ loaded_in old index) → KeepsCachedPairs (thread_pair old.kept index ∷ []) old new s
loads_one old new index s no_call was = record {
  none = λ there. ap (λ (t : KeptThread). read_count t.history) (no_call (is_cached cache_limit b old.cache there.0));
  stay = λ there. after s (λ e. subst (CachedBlocksStayCached old.cache) (sym e) (stay_loaded old.cache b (disk_block old.kept.disk b) there.0)) was;
  one = λ e. after s (λ e. (subst (BecomesMostRecent b old.cache) (sym e) (brought old.cache b (disk_block old.kept.disk b)), tt)) was;
}
  where
    b : ℕ
    b = active_block_at old.kept.disk (thread_pair old.kept index).at

-- The pairs of a run up to the rest were brought: where all are cached nothing was read.
pub record HasKept (run rest : List Pair) (old now : ThreadView) : Type 0 where
  pub disk : now.kept.disk ≡ old.kept.disk
  pub none : ArePairsCached old run → read_count now.kept.history ≡ read_count old.kept.history
  pub stay : ArePairsCached old run → CachedBlocksStayCached old.cache now.cache
  pub left : ArePairsCached old run → ArePairsCached old rest

-- and where there is one alone it is still to be brought
pub record HasBrought (run rest : List Pair) (old now : ThreadView) : Type 0 where
  pub kept : HasKept run rest old now
  pub begun : length run ≡ 1 → (now.cache ≡ old.cache) × (rest ≡ run)

pub kept_none : (run : List Pair) (old : ThreadView) → HasKept run run old old
kept_none run old = record { disk = refl; none = λ there. refl; stay = λ there b h. h; left = λ there. there }

pub loaded_none : (run : List Pair) (old : ThreadView) → HasBrought run run old old
loaded_none run old = record { kept = kept_none run old; begun = λ e. (refl, refl) }

module _ {X : Type 0} (run rest more : List Pair) (p : Pair) (old now new : ThreadView) (r : Result X Error) (h : HasKept run rest old now) (is : rest ≡ p ∷ more)
    (b : KeepsCachedPairs (p ∷ []) now new r) where
  here_is_cached : ArePairsCached old run → ArePairsCached now (p ∷ [])
  here_is_cached there =
      let k = subst (ArePairsCached old) is (h.left there) in
      (subst (λ d. IsRecentlyUsed cache_limit now.cache (active_block_at d p.at)) (sym h.disk) (h.stay there _ k.0), tt)

  pub none_on : ArePairsCached old run → read_count new.kept.history ≡ read_count old.kept.history
  none_on there = b.none (here_is_cached there) ∙ h.none there

  pub stay_on : ArePairsCached old run → OnOk r (CachedBlocksStayCached old.cache new.cache)
  stay_on there = after r (λ st x k. st x (h.stay there x k)) (b.stay (here_is_cached there))

  pub keeps_on : (x : X) → r ≡ Ok x → new.kept.disk ≡ now.kept.disk → HasKept run more old new
  keeps_on x ok same = record {
    disk = same ∙ h.disk;
    none = none_on;
    stay = λ there. on_ok r x (CachedBlocksStayCached old.cache new.cache) ok (stay_on there);
    left = λ there. (subst (ArePairsCached old) is (h.left there)).1;
  }

module _ {X : Type 0} (run rest more : List Pair) (p : Pair) (old now new : ThreadView) (r : Result X Error) (h : HasBrought run rest old now) (is : rest ≡ p ∷ more)
    (b : KeepsCachedPairs (p ∷ []) now new r) where
  -- the walk ends here
  pub loads_to_here : {Y : Type 0} (s : Result Y Error) → Passes r s → KeepsCachedPairs run old new s
  loads_to_here s pass = record {
    none = none_on run rest more p old now new r h.kept is b;
    stay = λ there. pass _ (stay_on run rest more p old now new r h.kept is b there);
    one = λ e. let g = h.begun e in let are = sym g.1 ∙ is in let one = ap length are in
        pass _ (subst (λ qs. OnOk r (AllByRecursion (λ q. BecomesMostRecent (active_block_at old.kept.disk q.at) old.cache new.cache) qs)) (sym (are ∙ ap (λ qs. p ∷ qs) (no_more more (omega (arith, one, e)))))
        (subst (λ c. OnOk r (AllByRecursion (λ q. BecomesMostRecent (active_block_at old.kept.disk q.at) c new.cache) (p ∷ []))) g.0
        (subst (λ d. OnOk r (AllByRecursion (λ q. BecomesMostRecent (active_block_at d q.at) now.cache new.cache) (p ∷ []))) h.kept.disk (b.one refl))));
  }
    where
      no_more : (qs : List Pair) → length qs ≡ 0 → qs ≡ []
      no_more [] e = refl
      no_more (q ∷ qs) e = absurd (omega (arith, e))

  -- or goes on
  pub loads_on : (x : X) → r ≡ Ok x → new.kept.disk ≡ now.kept.disk → 1 ≤ length more → HasBrought run more old new
  loads_on x ok same some = record {
    kept = keeps_on run rest more p old now new r h.kept is b x ok same;
    begun = λ e. absurd (let g = h.begun e in let k = ap length (sym g.1 ∙ is) in omega (arith, e, k, some));
  }
