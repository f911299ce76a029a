-- A recovery pair by pair: a pair whose directory a path leads to stays, and the next one of another goes.
use Rattle.std.proofs.Common.{ℕ, suc, ◌≡◌, ◌+◌, ◌⊎◌, inl, inr, Bool, true, false, cond, List, [], ◌∷◌, ◌++◌, length, Option, Some, None, refl, sym, ap, subst, subst₂, ◌∙◌, arith, append_assoc, length-append}
use Rattle.std.specs.Prelude.{All, is_some}
use Rattle.lfs_model.proofs.Common.{same_Some, All-from_recursion, recursion_from_All, Disk, directory_address, continued_directory_address, Gstate, Slot, Tail, same_pair, AreLinkedByTails, ThreadDirectory, Pair, superblock_pair_address, pair_directories, pairs_from_root, pairs_gstate, is_hard_tail, tail_target, unmoved_entries, Path, HasNoEmptyPairs, IsReachedDirectory, IsDirectoryAtPath, all_directories, directories_with_pair}
use Rattle.lfs_model.specs.layers.StepResults.{AreUnreachedFrom}
use Rattle.lfs_model.proofs.Counts.{Each, each_weaker}
use Rattle.lfs_model.proofs.Drops.{softened}
use Rattle.lfs_model.proofs.Global.{HasNoMove, unmoved_all}
use Rattle.lfs_model.proofs.Layouts.{NoneGoes, joined_parts, joined_singles, none_where, onward_all, onward_some, rest_all, singles, none_goes_right, rest_of}
use Rattle.lfs_model.proofs.Moves.{AllReachedBut}
use Rattle.lfs_model.proofs.Pairs.{pair_itself}
use Rattle.lfs_model.proofs.Superblocks.{pairs_behind}
use Rattle.lfs_model.proofs.Unthreaded.{IsReady, IsUnthreaded}
use Rattle.lfs_model.proofs.Recovering.{IsRecovering, recovery_drops, recovery_keeps}

-- ---- where the pairs' directories begin

abbrev pub EachBegins : (ℕ × ℕ → Type 0) → Option (ℕ × ℕ) → List Pair → Type 0
EachBegins R from [] = Unit {0}
EachBegins R from (x ∷ xs) = R (directory_address from x) × EachBegins R (continued_directory_address from x) xs

-- no path leads to a pair that a hard tail leads to
abbrev pub FirstsOnly : (ℕ × ℕ → Type 0) → Option (ℕ × ℕ) → List Pair → Type 0
FirstsOnly R from [] = Unit {0}
FirstsOnly R from (x ∷ xs) = (is_some from ≡ true → R x.at → ⊥) × FirstsOnly R (continued_directory_address from x) xs

end_on : (from : Option (ℕ × ℕ)) (xs : List Pair) (p : Pair) → onward_all from (xs ++ p ∷ []) ≡ continued_directory_address (onward_all from xs) p
end_on from [] p = refl
end_on from (x ∷ xs) p = end_on (continued_directory_address from x) xs p

begins_append : (R : ℕ × ℕ → Type 0) (from : Option (ℕ × ℕ)) (xs ys : List Pair) → EachBegins R from xs → EachBegins R (onward_all from xs) ys → EachBegins R from (xs ++ ys)
begins_append R from [] ys h k = k
begins_append R from (x ∷ xs) ys h k = (h.0, begins_append R (continued_directory_address from x) xs ys h.1 k)

begins_front : (R : ℕ × ℕ → Type 0) (from : Option (ℕ × ℕ)) (xs ys : List Pair) → EachBegins R from (xs ++ ys) → EachBegins R from xs
begins_front R from [] ys h = tt
begins_front R from (x ∷ xs) ys h = (h.0, begins_front R (continued_directory_address from x) xs ys h.1)

begins_behind : (R : ℕ × ℕ → Type 0) (from : Option (ℕ × ℕ)) (xs ys : List Pair) → EachBegins R from (xs ++ ys) → EachBegins R (onward_all from xs) ys
begins_behind R from [] ys h = h
begins_behind R from (x ∷ xs) ys h = begins_behind R (continued_directory_address from x) xs ys h.1

pub begins_weaker : (R Q : ℕ × ℕ → Type 0) → ((a : ℕ × ℕ) → R a → Q a) → (from : Option (ℕ × ℕ)) (xs : List Pair) → EachBegins R from xs → EachBegins Q from xs
begins_weaker R Q f from [] h = tt
begins_weaker R Q f from (x ∷ xs) h = (f (directory_address from x) h.0, begins_weaker R Q f (continued_directory_address from x) xs h.1)

pub begin_same : (from : Option (ℕ × ℕ)) (p q : Pair) → q.at ≡ p.at → directory_address from q ≡ directory_address from p
begin_same None p q e = e
begin_same (Some a) p q e = refl

-- a soft tail begins another directory
soft_onward : (from : Option (ℕ × ℕ)) (p : Pair) → is_hard_tail p.content.tail ≡ false → continued_directory_address from p ≡ None
soft_onward from p e = ap (λ b. cond b (Some (directory_address from p)) None) e

hard_onward : (from : Option (ℕ × ℕ)) (p : Pair) → is_hard_tail p.content.tail ≡ true → continued_directory_address from p ≡ Some (directory_address from p)
hard_onward from p e = ap (λ b. cond b (Some (directory_address from p)) None) e

-- ---- what holds of where each pair's directory begins holds of each directory

joined_each : (Q : ℕ × ℕ → Type 0) (at : ℕ × ℕ) (b : Bool) (slots : List Slot) (ds : List ThreadDirectory) → Q at → Each (λ (d : ThreadDirectory). Q d.at) (rest_of b ds) → Each (λ (d : ThreadDirectory). Q d.at) (directories_with_pair at b slots ds)
joined_each Q at true slots [] h k = (h, tt)
joined_each Q at false slots [] h k = (h, tt)
joined_each Q at true slots (d ∷ ds) h k = (h, k)
joined_each Q at false slots (d ∷ ds) h k = (h, k)

joined_rest : (Q : ℕ × ℕ → Type 0) (at : ℕ × ℕ) (b : Bool) (slots : List Slot) (ds : List ThreadDirectory) → Each (λ (d : ThreadDirectory). Q d.at) (rest_of b ds) → Each (λ (d : ThreadDirectory). Q d.at) (rest_of true (directories_with_pair at b slots ds))
joined_rest Q at true slots [] k = tt
joined_rest Q at false slots [] k = tt
joined_rest Q at true slots (d ∷ ds) k = k
joined_rest Q at false slots (d ∷ ds) k = k

pub all_where : (Q : ℕ × ℕ → Type 0) (g : Gstate) (from : Option (ℕ × ℕ)) (ps : List Pair) → EachBegins Q from ps → Each (λ (d : ThreadDirectory). Q d.at) (rest_of (is_some from) (pair_directories g ps))
all_where Q g from [] h = none (is_some from)
  where
    none : (b : Bool) → Each (λ (d : ThreadDirectory). Q d.at) (rest_of b [])
    none true = tt
    none false = tt
all_where Q g from (p ∷ ps) h = go from h.0 (subst (λ b. Each (λ (d : ThreadDirectory). Q d.at) (rest_of b (pair_directories g ps))) (onward_some from p) (all_where Q g (continued_directory_address from p) ps h.1))
  where
    go : (from : Option (ℕ × ℕ)) → Q (directory_address from p) → Each (λ (d : ThreadDirectory). Q d.at) (rest_of (is_hard_tail p.content.tail) (pair_directories g ps)) → Each (λ (d : ThreadDirectory). Q d.at) (rest_of (is_some from) (pair_directories g (p ∷ ps)))
    go None k behind = subst (Each (λ (d : ThreadDirectory). Q d.at)) (sym (rest_all (pair_directories g (p ∷ ps)))) (joined_each Q p.at (is_hard_tail p.content.tail) (unmoved_entries g p) (pair_directories g ps) k behind)
    go (Some a) k behind = joined_rest Q p.at (is_hard_tail p.content.tail) (unmoved_entries g p) (pair_directories g ps) behind

-- the thread's last pair has no tail
last_soft : (from : Option (ℕ × ℕ)) (xs : List Pair) (p : Pair) → AreLinkedByTails from (xs ++ p ∷ []) → is_hard_tail p.content.tail ≡ false
last_soft from [] p h = go p.content.tail h.1
  where
    go : (t : Option Tail) → tail_target t ≡ None → is_hard_tail t ≡ false
    go None e = refl
    go (Some t) e = absurd (cc)
last_soft from (x ∷ xs) p h = last_soft (tail_target x.content.tail) xs p h.1

-- ---- on the way

-- The pairs seen came to kept; the others, todo, stand as they did. The numbers are those of the others that go.
pub record IsOnWay (disk : Disk) (ps : List Pair) (now : Disk) (cs : List Pair) (dropped : ℕ) (chain seen todo : List Pair) (parts : List (List Pair)) (kept : List Pair) (numbers : List ℕ) : Type 0 where
  pub is : IsRecovering disk ps now chain seen todo parts (singles todo) kept
  pub there : cs ≡ chain ++ (kept ++ todo)
  pub counted : length seen ≡ length kept + dropped
  pub no_move : HasNoMove (pairs_gstate ps)
  pub reported : AreUnreachedFrom (IsReachedDirectory ps) (length chain + length kept + dropped) (onward_all None seen) todo numbers
  pub firsts : FirstsOnly (IsReachedDirectory ps) (onward_all None seen) todo
  pub filled : HasNoEmptyPairs (is_some (onward_all None seen)) todo
  pub begins : EachBegins (IsReachedDirectory ps) None kept
  pub goes_on : (onward_all None kept ≡ onward_all None seen) ⊎ ((onward_all None kept ≡ None) × ((a : ℕ × ℕ) → onward_all None seen ≡ Some a → IsReachedDirectory ps a → ⊥))
  pub root : kept ≡ [] → (x : Pair) (xs : List Pair) → todo ≡ x ∷ xs → IsReachedDirectory ps (directory_address (onward_all None seen) x)

some_behind : (xs : List Pair) (p : Pair) → xs ++ p ∷ [] ≡ [] → ⊥
some_behind xs p e = absurd (let l = ap length e in let k = length-append xs (p ∷ []) in omega arith)

module _ {disk : Disk} {ps : List Pair} {now : Disk} {cs : List Pair} {dropped : ℕ} {chain seen : List Pair} {x : Pair} {todo : List Pair} {parts : List (List Pair)} {kept : List Pair} {numbers : List ℕ}
    (w : IsOnWay disk ps now cs dropped chain seen (x ∷ todo) parts kept numbers) where
  abbrev f : Option (ℕ × ℕ)
  f = onward_all None seen

  e : onward_all None (seen ++ x ∷ []) ≡ continued_directory_address (onward_all None seen) x
  e = end_on None seen x

  now_filled : HasNoEmptyPairs (is_some (onward_all None (seen ++ x ∷ []))) todo
  now_filled = subst (λ z. HasNoEmptyPairs (is_some z) todo) (sym e) (subst (λ b. HasNoEmptyPairs b todo) (sym (onward_some f x)) w.filled.1)

  now_firsts : FirstsOnly (IsReachedDirectory ps) (onward_all None (seen ++ x ∷ [])) todo
  now_firsts = subst (λ z. FirstsOnly (IsReachedDirectory ps) z todo) (sym e) w.firsts.1

  -- where its directory is reached, what is kept goes on as it did
  same_from : IsReachedDirectory ps (directory_address f x) → onward_all None kept ≡ f
  same_from reached = go w.goes_on
    where
      none : (g : Option (ℕ × ℕ)) → ((a : ℕ × ℕ) → g ≡ Some a → IsReachedDirectory ps a → ⊥) → IsReachedDirectory ps (directory_address g x) → g ≡ None
      none None h r = refl
      none (Some a) h r = absurd (h a refl r)

      go : (onward_all None kept ≡ f) ⊎ ((onward_all None kept ≡ None) × ((a : ℕ × ℕ) → f ≡ Some a → IsReachedDirectory ps a → ⊥)) → onward_all None kept ≡ f
      go (inl k) = k
      go (inr k) = k.0 ∙ sym (none f k.1 reached)

  pub keeps : IsReachedDirectory ps (directory_address f x) → AreUnreachedFrom (IsReachedDirectory ps) (suc (length chain + length kept + dropped)) (continued_directory_address f x) todo numbers
      → IsOnWay disk ps now cs dropped chain (seen ++ x ∷ []) todo (parts ++ (x ∷ []) ∷ []) (kept ++ x ∷ []) numbers
  keeps reached more = record {
    is = recovery_keeps disk ps now chain seen x todo parts (singles todo) kept x w.is reached (λ s n. w.filled.0 s (sym (unmoved_all (pairs_gstate ps) w.no_move x) ∙ n));
    there = w.there ∙ ap (λ z. chain ++ z) (sym (append_assoc kept (x ∷ []) todo));
    counted = let c = w.counted in let l = length-append seen (x ∷ []) in let k = length-append kept (x ∷ []) in omega arith;
    no_move = w.no_move;
    reported = subst₂ (λ n z. AreUnreachedFrom (IsReachedDirectory ps) n z todo numbers) (let l = length-append kept (x ∷ []) in omega arith) (sym e) more;
    firsts = now_firsts;
    filled = now_filled;
    begins = begins_append (IsReachedDirectory ps) None kept (x ∷ []) w.begins (subst (λ z. IsReachedDirectory ps (directory_address z x)) (sym (same_from reached)) reached, tt);
    goes_on = inl (end_on None kept x ∙ ap (λ z. continued_directory_address z x) (same_from reached) ∙ sym e);
    root = λ n y ys is. absurd (some_behind kept x n);
  }

  -- ---- the pair goes

  module _ (unreached : IsReachedDirectory ps (directory_address f x) → ⊥) (front : List Pair) (before : Pair) (split : kept ≡ front ++ before ∷ []) where
    begins_last : EachBegins (IsReachedDirectory ps) None (front ++ before ∷ [])
    begins_last = subst (EachBegins (IsReachedDirectory ps) None) split w.begins

    pub soft : is_hard_tail before.content.tail ≡ false
    soft = go (is_hard_tail before.content.tail) refl
      where
        from : Option (ℕ × ℕ)
        from = onward_all None front

        on : onward_all None kept ≡ continued_directory_address (onward_all None front) before
        on = ap (onward_all None) split ∙ end_on None front before

        reached : IsReachedDirectory ps (directory_address (onward_all None front) before)
        reached = (begins_behind (IsReachedDirectory ps) None front (before ∷ []) begins_last).0

        go : (b : Bool) → is_hard_tail before.content.tail ≡ b → b ≡ false
        go false h = refl
        go true h = absurd (by w.goes_on)
          where
            some : onward_all None kept ≡ Some (directory_address (onward_all None front) before)
            some = on ∙ hard_onward (onward_all None front) before h

            by : (onward_all None kept ≡ f) ⊎ ((onward_all None kept ≡ None) × ((a : ℕ × ℕ) → f ≡ Some a → IsReachedDirectory ps a → ⊥)) → ⊥
            by (inl k) = unreached (subst (λ z. IsReachedDirectory ps (directory_address z x)) (sym some ∙ k) reached)
            by (inr k) = absurd (let z = sym k.0 ∙ some in cc)

    pub none_on : onward_all None kept ≡ None
    none_on = ap (onward_all None) split ∙ end_on None front before ∙ soft_onward (onward_all None front) before soft

    -- the thread has it behind the ones that are kept
    pub stands : cs ≡ chain ++ (front ++ before ∷ x ∷ todo)
    stands = w.there ∙ ap (λ z. chain ++ (z ++ x ∷ todo)) split ∙ ap (λ z. chain ++ z) (append_assoc front (before ∷ []) (x ∷ todo))

    -- what is led to now was led to
    led : (path : Path) (a : ℕ × ℕ) → IsDirectoryAtPath cs path a → IsDirectoryAtPath ps path a
    led path a l = ap (λ z. z path) (sym w.is.taken.follows.leads) ∙ subst (λ z. IsDirectoryAtPath z path a) parts_are l
      where
        parts_are : cs ≡ chain ++ (kept ++ joined_parts (singles (x ∷ todo)))
        parts_are = w.there ∙ ap (λ z. chain ++ (kept ++ z)) (sym (joined_singles (x ∷ todo)))

    pub leads_on : (path : Path) (a : ℕ × ℕ) → IsDirectoryAtPath ps path a → IsDirectoryAtPath cs path a
    leads_on path a l = subst (λ z. IsDirectoryAtPath z path a) (sym parts_are) (ap (λ z. z path) w.is.taken.follows.leads ∙ l)
      where
        parts_are : cs ≡ chain ++ (kept ++ joined_parts (singles (x ∷ todo)))
        parts_are = w.there ∙ ap (λ z. chain ++ (kept ++ z)) (sym (joined_singles (x ∷ todo)))

    not_there : IsReachedDirectory ps x.at → ⊥
    not_there r = go f refl
      where
        go : (g : Option (ℕ × ℕ)) → f ≡ g → ⊥
        go None k = unreached (subst (λ z. IsReachedDirectory ps (directory_address z x)) (sym k) r)
        go (Some a) k = w.firsts.0 (ap is_some k) r

    pub unled : (path : Path) (a : ℕ × ℕ) → IsDirectoryAtPath cs path a → same_pair x.at a ≡ true → ⊥
    unled path a l s = not_there (path, a, (led path a l, s))

    -- ---- which directories are reached then

    pub ready : IsReady now chain (kept ++ (x ∷ todo))
    ready = subst (λ z. IsReady now chain (kept ++ z)) (joined_singles (x ∷ todo)) w.is.ready

    -- it isn't, so the sync bit is set
    pub sync_set : (pairs_gstate cs).sync ≡ false → ⊥
    sync_set off = (none_goes_right Goes None kept (x ∷ todo) (subst (NoneGoes Goes None) (pairs_behind chain (kept ++ x ∷ todo) ready.is_chain) none)).0
        (subst (λ z. IsReachedDirectory cur (directory_address z x) → ⊥) (sym none_on) (λ r. unled r.0 r.1 (subst (λ z. IsDirectoryAtPath z r.0 r.1) (sym w.there) r.2.0) r.2.1))
      where
        cur : List Pair
        cur = chain ++ (kept ++ x ∷ todo)

        Goes : ℕ × ℕ → Type 0
        Goes a = IsReachedDirectory (chain ++ (kept ++ x ∷ todo)) a → ⊥

        all : All (λ d. IsReachedDirectory (chain ++ (kept ++ x ∷ todo)) d.at) (all_directories (chain ++ (kept ++ x ∷ todo)))
        all = ready.accepted.reached (ap (λ z. (pairs_gstate z).sync) (sym w.there) ∙ off)

        none : NoneGoes Goes None (pairs_from_root (chain ++ (kept ++ x ∷ todo)))
        none = none_where Goes (pairs_gstate cur) None (pairs_from_root (chain ++ (kept ++ x ∷ todo))) (λ a k. absurd (cc))
            (subst (Each (λ (d : ThreadDirectory). Goes d.at → ⊥)) (sym (rest_all (all_directories cur)))
            (each_weaker (λ (d : ThreadDirectory). IsReachedDirectory (chain ++ (kept ++ x ∷ todo)) d.at) (λ (d : ThreadDirectory). Goes d.at → ⊥) (λ d h k. k h) (all_directories cur)
            (recursion_from_All (λ (d : ThreadDirectory). IsReachedDirectory (chain ++ (kept ++ x ∷ todo)) d.at) (all_directories cur) all)))

    -- where it is the last one, every other directory is reached
    pub all_but : AreUnreachedFrom (IsReachedDirectory ps) (suc (length chain + length kept + dropped)) (continued_directory_address f x) todo [] → (is_hard_tail x.content.tail ≡ false) × AllReachedBut cs x.at
    all_but more = (alone, subst (λ z. AllReachedBut z x.at) (sym w.there) every)
      where
        cur : List Pair
        cur = chain ++ (kept ++ x ∷ todo)

        Q : ℕ × ℕ → Type 0
        Q a = IsReachedDirectory (chain ++ (kept ++ x ∷ todo)) a ⊎ (same_pair a x.at ≡ true)

        still : (a : ℕ × ℕ) → IsReachedDirectory ps a → Q a
        still a (path, at, (l, s)) = inl (path, at, (subst (λ z. IsDirectoryAtPath z path at) w.there (leads_on path at l), s))

        all_reached : (from : Option (ℕ × ℕ)) (n : ℕ) (xs : List Pair) → AreUnreachedFrom (IsReachedDirectory ps) n from xs [] → EachBegins (IsReachedDirectory ps) from xs
        all_reached from n [] h = tt
        all_reached from n (y ∷ ys) (inl h) = (h.0, all_reached (continued_directory_address from y) (suc n) ys h.1)
        all_reached from n (y ∷ ys) (inr (rest, (h, k))) = absurd (let l = ap length h in omega arith)

        others : EachBegins (IsReachedDirectory ps) (continued_directory_address f x) todo
        others = all_reached (continued_directory_address f x) (suc (length chain + length kept + dropped)) todo more

        links : (from : Option (ℕ × ℕ)) (xs ys : List Pair) → AreLinkedByTails from (xs ++ ys) → (z : Option (ℕ × ℕ)) × AreLinkedByTails z ys
        links from [] ys h = (from, h)
        links from (y ∷ xs) ys h = links (tail_target y.content.tail) xs ys h.1

        behind : (z : Option (ℕ × ℕ)) × AreLinkedByTails z (kept ++ x ∷ todo)
        behind = links (Some superblock_pair_address) chain (kept ++ x ∷ todo) ready.accepted.thread.links

        alone : is_hard_tail x.content.tail ≡ false
        alone = go (is_hard_tail x.content.tail) refl todo others behind.1
          where
            go : (b : Bool) → is_hard_tail x.content.tail ≡ b → (ys : List Pair) → EachBegins (IsReachedDirectory ps) (continued_directory_address f x) ys → AreLinkedByTails behind.0 (kept ++ x ∷ ys) → is_hard_tail x.content.tail ≡ false
            go false h ys k l = h
            go true h [] k l = last_soft behind.0 kept x l
            go true h (y ∷ ys) k l = absurd (unreached (subst (λ z. IsReachedDirectory ps (directory_address z y)) (hard_onward f x h) k.0))

        begun : EachBegins Q None (kept ++ x ∷ todo)
        begun = begins_append Q None kept (x ∷ todo) (begins_weaker (IsReachedDirectory ps) Q still None kept w.begins) (
          subst (λ z. Q (directory_address z x)) (sym none_on) (inr (pair_itself x.at)),
          begins_weaker (IsReachedDirectory ps) Q still (continued_directory_address (onward_all None kept) x) todo
              (subst (λ z. EachBegins (IsReachedDirectory ps) z todo) (soft_onward f x alone ∙ sym (soft_onward (onward_all None kept) x alone)) others),
        )

        every : AllReachedBut (chain ++ (kept ++ x ∷ todo)) x.at
        every = All-from_recursion (λ (d : ThreadDirectory). Q d.at) (all_directories cur)
            (subst (Each (λ (d : ThreadDirectory). Q d.at)) (rest_all (all_directories cur))
            (all_where Q (pairs_gstate cur) None (pairs_from_root cur) (subst (EachBegins Q None) (sym (pairs_behind chain (kept ++ x ∷ todo) ready.is_chain)) begun)))

    -- the step that drops it
    module _ (new : Disk) (qs : List Pair) (q : Pair) (rest : List ℕ) (more : AreUnreachedFrom (IsReachedDirectory ps) (suc (length chain + length kept + dropped)) (continued_directory_address f x) todo rest)
        (c : IsUnthreaded now new chain front before x q (joined_parts (singles todo))) (stands_now : qs ≡ chain ++ (front ++ q ∷ todo)) where
      soft_now : is_hard_tail q.content.tail ≡ false
      soft_now = ap is_hard_tail c.tail ∙ go x.content.tail
        where
          go : (t : Option Tail) → is_hard_tail (softened t) ≡ false
          go None = refl
          go (Some t) = refl

      pub drops : IsOnWay disk ps new qs (suc dropped) chain (seen ++ x ∷ []) todo (parts ++ [] ∷ []) (front ++ q ∷ []) rest
      drops = record {
        is = recovery_drops disk ps now chain seen x todo parts (singles todo) kept new front before x q split w.is unreached c;
        there = stands_now ∙ ap (λ z. chain ++ z) (sym (append_assoc front (q ∷ []) todo));
        counted =
            let c = w.counted in let a = length-append seen (x ∷ []) in let l = length-append front (q ∷ []) in let m = length-append front (before ∷ []) in let k = ap length split in
            omega arith;
        no_move = w.no_move;
        reported = subst₂ (λ n z. AreUnreachedFrom (IsReachedDirectory ps) n z todo rest)
            (let l = length-append front (q ∷ []) in let m = length-append front (before ∷ []) in let k = ap length split in omega arith) (sym e) more;
        firsts = now_firsts;
        filled = now_filled;
        begins = begins_append (IsReachedDirectory ps) None front (q ∷ []) (begins_front (IsReachedDirectory ps) None front (before ∷ []) begins_last)
            (subst (IsReachedDirectory ps) (sym (begin_same (onward_all None front) before q c.at)) (begins_behind (IsReachedDirectory ps) None front (before ∷ []) begins_last).0, tt);
        goes_on = inr (end_on None front q ∙ soft_onward (onward_all None front) q soft_now, gone);
        root = λ n y ys is. absurd (some_behind front q n);
      }
        where
          gone : (a : ℕ × ℕ) → onward_all None (seen ++ x ∷ []) ≡ Some a → IsReachedDirectory ps a → ⊥
          gone a k r = go (is_hard_tail x.content.tail) refl
            where
              go : (b : Bool) → is_hard_tail x.content.tail ≡ b → ⊥
              go false h = absurd (let z = sym (soft_onward f x h) ∙ sym e ∙ k in cc)
              go true h = unreached (subst (IsReachedDirectory ps) (same_Some a (directory_address f x) (sym k ∙ e ∙ hard_onward f x h)) r)

-- ---- the next one that goes

pub record IsAtDrop (disk : Disk) (ps : List Pair) (now : Disk) (cs : List Pair) (dropped : ℕ) (chain : List Pair) (numbers : List ℕ) : Type 0 where
  pub seen : List Pair
  pub x : Pair
  pub todo : List Pair
  pub parts : List (List Pair)
  pub kept : List Pair
  pub way : IsOnWay disk ps now cs dropped chain seen (x ∷ todo) parts kept numbers
  pub rest : List ℕ
  pub is : numbers ≡ (length chain + length kept + dropped) ∷ rest
  pub unreached : IsReachedDirectory ps (directory_address (onward_all None seen) x) → ⊥
  pub more : AreUnreachedFrom (IsReachedDirectory ps) (suc (length chain + length kept + dropped)) (continued_directory_address (onward_all None seen) x) todo rest

pub record IsAtEnd (disk : Disk) (ps : List Pair) (now : Disk) (cs : List Pair) (dropped : ℕ) (chain : List Pair) (numbers : List ℕ) : Type 0 where
  pub seen : List Pair
  pub parts : List (List Pair)
  pub kept : List Pair
  pub way : IsOnWay disk ps now cs dropped chain seen [] parts kept numbers
  pub none : numbers ≡ []

pub goes_to : (disk : Disk) (ps : List Pair) (now : Disk) (cs : List Pair) (dropped : ℕ) (chain seen todo : List Pair) (parts : List (List Pair)) (kept : List Pair) (numbers : List ℕ)
    → IsOnWay disk ps now cs dropped chain seen todo parts kept numbers → IsAtEnd disk ps now cs dropped chain numbers ⊎ IsAtDrop disk ps now cs dropped chain numbers
goes_to disk ps now cs dropped chain seen [] parts kept numbers w = inl (record { seen = seen; parts = parts; kept = kept; way = w; none = w.reported })
goes_to disk ps now cs dropped chain seen (x ∷ todo) parts kept numbers w =
    go w.reported (λ k. goes_to disk ps now cs dropped chain (seen ++ x ∷ []) todo (parts ++ (x ∷ []) ∷ []) (kept ++ x ∷ []) numbers k)
  where
    go : AreUnreachedFrom (IsReachedDirectory ps) (length chain + length kept + dropped) (onward_all None seen) (x ∷ todo) numbers
        → (IsOnWay disk ps now cs dropped chain (seen ++ x ∷ []) todo (parts ++ (x ∷ []) ∷ []) (kept ++ x ∷ []) numbers → IsAtEnd disk ps now cs dropped chain numbers ⊎ IsAtDrop disk ps now cs dropped chain numbers)
        → IsAtEnd disk ps now cs dropped chain numbers ⊎ IsAtDrop disk ps now cs dropped chain numbers
    go (inl h) next = next (keeps w h.0 h.1)
    go (inr h) next = inr (record { seen = seen; x = x; todo = todo; parts = parts; kept = kept; way = w; rest = h.0; is = h.1.0; unreached = h.1.1.0; more = h.1.1.1 })
