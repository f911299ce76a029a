-- Look-ups in cached directories, and a stat that has just cached them.
use Rattle.std.proofs.Common.{ℕ, ◌≡◌, List, [], ◌∷◌, Option, Some, None, Result, Ok, Err, unwrap_or, refl, sym, ap, subst, arith}
use Rattle.std.specs.Prelude.{Contains, OnOk}
use Rattle.lfs_fs.proofs.Common.{All-from_recursion, directory_pair_count, searched_directories, read_count, Operation, Refusal, parse_path, path_or_root, first_refusal, Pair, Path, each_weaker, AreFewOnePairDirectories, HasCachedDirectories, TreeState, CachedLookupReadsNothing, NoReadsIfCached, result_unless_refused}
use Rattle.std.proofs.lemmas.List.Elements.{All-contains, recursion_from_All}
use Rattle.lfs_device.specs.declared.error.Error.{Error}
use Rattle.lfs_model.specs.layers.Cache.{cache_limit}
use Rattle.lfs_model.specs.crash.Frame.{SearchesSameDirectories}
use Rattle.lfs_lookup.specs.CachedPairs.{ArePairsRecentlyUsed, pairs_at}
use Rattle.lfs_fs.proofs.FewReads.{reads_over}

-- ---- by the path of bytes

given : (bytes : List ℕ) (p : Path) → Some p ≡ parse_path bytes → p ≡ path_or_root bytes
given bytes p is = ap (λ (o : Option Path). unwrap_or o []) is

pub none_given : (old new : TreeState) (f : Path → List Path) (bytes : List ℕ) (p : Path) → Some p ≡ parse_path bytes → (HasCachedDirectories old (f p) → read_count new.history ≡ read_count old.history)
    → HasCachedDirectories old (f (path_or_root bytes)) → read_count new.history ≡ read_count old.history
none_given old new f bytes p is h = subst (λ q. HasCachedDirectories old (f q) → read_count new.history ≡ read_count old.history) (given bytes p is) h

-- the result of the look-up passes the checks only if no parent refuses the path
pub hand_given : {A : Type 0} (old new : TreeState) (f : Path → List Path) (bytes : List ℕ) (p : Path) (fault : Option Refusal) (others : List (Option Refusal)) (x : A) (r : Result A Error) → Some p ≡ parse_path bytes
    → r ≡ result_unless_refused (first_refusal (fault ∷ others)) x → (AreFewOnePairDirectories old.pairs (f p) → fault ≡ None → HasCachedDirectories new (f p)) → AreFewOnePairDirectories old.pairs (f (path_or_root bytes)) → OnOk r (HasCachedDirectories new (f (path_or_root bytes)))
hand_given {A = A} old new f bytes p fault others x r is passes h small =
    go fault passes (subst (λ q. AreFewOnePairDirectories old.pairs (f q) → fault ≡ None → HasCachedDirectories new (f q)) (given bytes p is) h small)
  where
    go : (o : Option Refusal) → r ≡ result_unless_refused (first_refusal (o ∷ others)) x → (o ≡ None → HasCachedDirectories new (f (path_or_root bytes))) → OnOk r (HasCachedDirectories new (f (path_or_root bytes)))
    go (Some refusal) e k = subst (λ (z : Result A Error). OnOk z (HasCachedDirectories new (f (path_or_root bytes)))) (sym e) tt
    go None e k = any r (k refl)
      where
        any : (z : Result A Error) → HasCachedDirectories new (f (path_or_root bytes)) → OnOk z (HasCachedDirectories new (f (path_or_root bytes)))
        any (Ok y) there = there
        any (Err error) there = tt

pub hand_failed : {A : Type 0} (r : Result A Error) (e : Error) (P : Type 0) → r ≡ Err e → OnOk r P
hand_failed {A = A} r e P is = subst (λ (z : Result A Error). OnOk z P) (sym is) tt

-- by the calls that came
pub reads_none : (old new : TreeState) (op : Operation) → CachedLookupReadsNothing old op new → NoReadsIfCached old op new
reads_none old new op none there calls is =
    let e = ap read_count is in
    let k = reads_over calls old.history in
    let n = none there in
    omega (arith, e, k, n)

-- ---- after a stat

module _ (ps : List Pair) (before op : Operation) (k : SearchesSameDirectories ps before op) where
  -- the directories that it searched are small
  pub kept_small : AreFewOnePairDirectories ps (searched_directories before)
  kept_small = record { few = k.few; small = recursion_from_All (λ p. directory_pair_count ps p ≡ 1) (searched_directories before) k.small }

  -- and if they are cached, so are those of the next look-up
  pub kept_hand : (t : TreeState) → HasCachedDirectories t (searched_directories before) → HasCachedDirectories t (searched_directories op)
  kept_hand t there =
      let P : Path → Type 0 = λ p. ArePairsRecentlyUsed cache_limit t.disk t.cache (pairs_at t.pairs p) in
      let all = All-from_recursion P (searched_directories before) there in
      each_weaker (λ p. Contains (searched_directories before) p) P (λ p c. All-contains P (searched_directories before) p all c) (searched_directories op) (recursion_from_All (λ p. Contains (searched_directories before) p) (searched_directories op) k.within)
