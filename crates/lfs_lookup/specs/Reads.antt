-- How many reads a search makes.
use Rattle.std.specs.Prelude.{ℕ, ◌≡◌, ◌+◌, ◌≤◌, List, Option, None, Result, drop, sum_by}
use Rattle.lfs_device.specs.declared.error.Error.{Error}
use Rattle.lfs_model.specs.crash.Frame.{directory_pair_count}
use Rattle.lfs_model.specs.session.History.{read_count}
use Rattle.lfs_model.specs.session.InDirectory.{joined_pair_count}
use Rattle.lfs_model.specs.format.Slots.{zero_gstate}
use Rattle.lfs_model.specs.format.Thread.{pairs_gstate}
use Rattle.lfs_model.specs.tree.Tree.{Path}
use Rattle.lfs_thread.specs.Kept.{ThreadView}
use Rattle.lfs_lookup.specs.CachedPairs.{AreDirectoriesCached, KeepsCachedDirectories, KeepsCachedPairs}
use Rattle.lfs_lookup.specs.Halves.{ReadsAtMostBinarySearch, ReadsAtMostBinarySearches}
use Rattle.lfs_lookup.specs.Listed.{joined_pairs}
use Rattle.lfs_lookup.specs.declared.search.SlotPosition.{SlotPosition}

-- The search reads each pair of the directory that begins with the pair of index `first` at most once, and none if all are
-- cached. If `moved` is None it is a binary search.
pub record ReadsDirectoryOnce {X : Type 0} (moved : Option SlotPosition) (first : ℕ) (old new : ThreadView) (result : Result X Error) : Type 0 where
  pub few : read_count new.kept.history ≤ read_count old.kept.history + joined_pair_count (drop first old.kept.pairs)
  pub halves : moved ≡ None → ReadsAtMostBinarySearch old new first
  pub loads : KeepsCachedPairs (joined_pairs (drop first old.kept.pairs)) old new result

-- The search reads each pair of the directories at these paths at most once, and none if all are cached. If `settled` holds,
-- and so no slot is moved, it is a binary search.
pub record ReadsDirectoriesOnce {X : Type 0} (settled : Type 0) (through : X → Type 0) (paths : List Path) (old new : ThreadView) (result : Result X Error) : Type 0 where
  pub few : read_count new.kept.history ≤ read_count old.kept.history + sum_by (directory_pair_count old.kept.pairs) paths
  pub halves : settled → ReadsAtMostBinarySearches old new paths
  pub loads : KeepsCachedDirectories through paths old new result

-- The same without a promise of what is cached afterwards. If nothing is to recover it is a binary search.
pub record ReadsPathsOnce (paths : List Path) (old new : ThreadView) : Type 0 where
  pub few : read_count new.kept.history ≤ read_count old.kept.history + sum_by (directory_pair_count old.kept.pairs) paths
  pub halves : pairs_gstate old.kept.pairs ≡ zero_gstate → ReadsAtMostBinarySearches old new paths
  pub kept : AreDirectoriesCached old paths → read_count new.kept.history ≡ read_count old.kept.history
