-- How often look-ups by halves read, down the directories of a path.
use Rattle.std.proofs.Common.{ℕ, ◌≡◌, ◌+◌, ◌≤◌, [], ◌∷◌, ◌++◌, length, take, drop, slice_get, Some, sym, ap, subst, ◌∙◌, arith}
use Rattle.std.specs.Prelude.{sum_by}
use Rattle.lfs_lookup.proofs.Common.{take-append-drop, ancestor_paths, read_count, Name, Path, IsAccepted, each_left, each_right, ThreadView, OnlyReadsThread, pairs_at, EachPairHasSlot, EachDirectoryPairHasSlot, ReadsAtMostBinarySearches, halving_count, directory_halving_count, LeadsToPair}
use Rattle.lfs_lookup.specs.Halves.{ReadsAtMostBinarySearch}
use Rattle.lfs_lookup.proofs.Descended.{few_same, parents_on, sum_is, sum_more, sum_on, take_on, take_whole}
use Rattle.lfs_lookup.proofs.LoadedDown.{parent_at, run_same}

-- one directory more
one_more : (old now new : ThreadView) (path : Path) (first : ℕ) → IsAccepted old.kept.disk old.kept.pairs → OnlyReadsThread old.kept now.kept → LeadsToPair old.kept.pairs path first
    → EachPairHasSlot (pairs_at old.kept.pairs path) → ReadsAtMostBinarySearch now new first → read_count new.kept.history ≤ read_count now.kept.history + directory_halving_count old.kept.pairs path
one_more old now new path first ok only on slots by =
    let k = by (subst EachPairHasSlot (sym (run_same old.kept now.kept path first ok only on)) slots) in
    let e = ap halving_count (few_same old.kept now.kept ok only path first on) in
    omega (arith, k, e)

module _ (old now new : ThreadView) (path : Path) (i first : ℕ) (n : Name) (ok : IsAccepted old.kept.disk old.kept.pairs) (only : OnlyReadsThread old.kept now.kept) (on : LeadsToPair old.kept.pairs (take i path) first)
    (at : slice_get path i ≡ Some n) (slots : EachDirectoryPairHasSlot old.kept.pairs (ancestor_paths path))
    (before : read_count now.kept.history ≤ read_count old.kept.history + sum_by (directory_halving_count old.kept.pairs) (ancestor_paths (take i path))) (by : ReadsAtMostBinarySearch now new first) where
  pub halved_step : read_count new.kept.history ≤ read_count old.kept.history + sum_by (directory_halving_count old.kept.pairs) (ancestor_paths (take (i + 1) path))
  halved_step =
      let f = directory_halving_count old.kept.pairs in
      let k = one_more old now new (take i path) first ok only on (parent_at (λ p. EachPairHasSlot (pairs_at old.kept.pairs p)) path i n at slots) by in
      let sum : sum_by (directory_halving_count old.kept.pairs) (ancestor_paths (take (i + 1) path)) ≡ sum_by (directory_halving_count old.kept.pairs) (ancestor_paths (take i path)) + directory_halving_count old.kept.pairs (take i path) =
      ap (λ p. sum_by (directory_halving_count old.kept.pairs) (ancestor_paths p)) (take_on path i n at) ∙ sum_on (directory_halving_count old.kept.pairs) (take i path) n in
      omega (arith, k, sum, before)

  pub halved_stop : read_count new.kept.history ≤ read_count old.kept.history + sum_by (directory_halving_count old.kept.pairs) (ancestor_paths path)
  halved_stop =
      let k = halved_step in
      let more = sum_more (directory_halving_count old.kept.pairs) (take (i + 1) path) (drop (i + 1) path) in
      let whole = ap (λ p. sum_by (directory_halving_count old.kept.pairs) (ancestor_paths p)) (take-append-drop (i + 1) path) in
      omega (arith, k, more, whole)

pub halved_end : (old now : ThreadView) (path : Path) (i : ℕ) → length path ≤ i → read_count now.kept.history ≤ read_count old.kept.history + sum_by (directory_halving_count old.kept.pairs) (ancestor_paths (take i path))
    → read_count now.kept.history ≤ read_count old.kept.history + sum_by (directory_halving_count old.kept.pairs) (ancestor_paths path)
halved_end old now path i l k =
    let e = ap (λ p. sum_by (directory_halving_count old.kept.pairs) (ancestor_paths p)) (take_whole i path l) in
    omega (arith, k, e)

-- ---- the last name of a path

module _ (old mid : ThreadView) (path above : Path) (name : Name) (is : path ≡ above ++ name ∷ []) (by : ReadsAtMostBinarySearches old mid (ancestor_paths above)) where
  both_slots : EachDirectoryPairHasSlot old.kept.pairs (ancestor_paths path) → EachDirectoryPairHasSlot old.kept.pairs (ancestor_paths above ++ above ∷ [])
  both_slots slots = subst (EachDirectoryPairHasSlot old.kept.pairs) (ap ancestor_paths is ∙ parents_on above name) slots

  pub halved_short : ReadsAtMostBinarySearches old mid (ancestor_paths path)
  halved_short slots =
      let k = by (each_left (λ p. EachPairHasSlot (pairs_at old.kept.pairs p)) (ancestor_paths above) (above ∷ []) (both_slots slots)) in
      let s = sum_is (directory_halving_count old.kept.pairs) path above name is in
      omega (arith, k, s)

  pub halved_last : (new : ThreadView) (first : ℕ) → IsAccepted old.kept.disk old.kept.pairs → OnlyReadsThread old.kept mid.kept → LeadsToPair old.kept.pairs above first → ReadsAtMostBinarySearch mid new first → ReadsAtMostBinarySearches old new (ancestor_paths path)
  halved_last new first ok only on last slots =
      let k = by (each_left (λ p. EachPairHasSlot (pairs_at old.kept.pairs p)) (ancestor_paths above) (above ∷ []) (both_slots slots)) in
      let here = (each_right (λ p. EachPairHasSlot (pairs_at old.kept.pairs p)) (ancestor_paths above) (above ∷ []) (both_slots slots)).0 in
      let m = one_more old mid new above first ok only on here last in
      let s = sum_is (directory_halving_count old.kept.pairs) path above name is in
      omega (arith, k, m, s)
