-- How many reads a binary search makes.
use Rattle.std.specs.Prelude.{ℕ, zero, suc, ◌≡◌, ◌+◌, ◌/◌, ◌<◌, ◌≤◌, false, List, [], ◌∷◌, drop, length, sum_by}
use Rattle.std.specs.List.{AllByRecursion}
use Rattle.lfs_model.specs.crash.Frame.{directory_pair_count}
use Rattle.lfs_model.specs.session.History.{read_count}
use Rattle.lfs_model.specs.session.InDirectory.{last_has_hard_tail, joined_pair_count}
use Rattle.lfs_model.specs.format.Thread.{Pair}
use Rattle.lfs_model.specs.tree.Tree.{Path}
use Rattle.lfs_thread.specs.Kept.{ThreadView}
use Rattle.lfs_lookup.specs.CachedPairs.{pairs_at}
use Rattle.lfs_lookup.specs.Listed.{joined_pairs}

-- how often a number has to be halved, rounded down, until it is 0, in at most so many steps
abbrev pub bounded_halving_count : ℕ → ℕ → ℕ
bounded_halving_count zero n = 0
bounded_halving_count (suc steps) zero = 0
bounded_halving_count (suc steps) (suc n) = 1 + bounded_halving_count steps (suc n / 2)

-- How often n has to be halved, rounded down, until it is 0: 0 times for 0, otherwise 1 + log2 n times, rounded down.
abbrev pub halving_count : ℕ → ℕ
halving_count n = bounded_halving_count n n

-- each of these pairs has a slot
abbrev pub EachPairHasSlot : List Pair → Type 0
EachPairHasSlot ps = AllByRecursion (λ p. 0 < length p.content.slots) ps

-- each pair of the directories at these paths has a slot
abbrev pub EachDirectoryPairHasSlot : List Pair → List Path → Type 0
EachDirectoryPairHasSlot ps paths = AllByRecursion (λ p. EachPairHasSlot (pairs_at ps p)) paths

-- how often the number of a directory's pairs has to be halved until it is 0
abbrev pub directory_halving_count : List Pair → Path → ℕ
directory_halving_count ps path = halving_count (directory_pair_count ps path)

-- the last of these pairs, if there is one, has no hard tail
abbrev pub LastHasNoHardTail : List Pair → Type 0
LastHasNoHardTail [] = Unit {0}
LastHasNoHardTail (p ∷ ps) = last_has_hard_tail p ps ≡ false

-- If each pair of the directories at these paths has a slot, at most the sum of their halvings in reads was made.
abbrev pub ReadsAtMostBinarySearches : ThreadView → ThreadView → List Path → Type 0
ReadsAtMostBinarySearches old new paths = EachDirectoryPairHasSlot old.kept.pairs paths → read_count new.kept.history ≤ read_count old.kept.history + sum_by (directory_halving_count old.kept.pairs) paths

-- If each pair of the directory that begins with the pair of index `first` has a slot, at most its halvings in reads were made.
abbrev pub ReadsAtMostBinarySearch : ThreadView → ThreadView → ℕ → Type 0
ReadsAtMostBinarySearch old new first = EachPairHasSlot (joined_pairs (drop first old.kept.pairs)) → read_count new.kept.history ≤ read_count old.kept.history + halving_count (joined_pair_count (drop first old.kept.pairs))
