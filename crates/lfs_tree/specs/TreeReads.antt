-- How many reads the calls of a tree make.
use Rattle.std.specs.Prelude.{sum_by, ◌≡◌, ◌≤◌, ◌+◌, List}
use Rattle.lfs_model.specs.layers.Cache.{cache_limit}
use Rattle.lfs_model.specs.crash.Frame.{directory_pair_count}
use Rattle.lfs_model.specs.session.History.{CallEvent, read_count}
use Rattle.lfs_model.specs.format.Slots.{zero_gstate}
use Rattle.lfs_model.specs.format.Thread.{pairs_gstate}
use Rattle.lfs_model.specs.tree.Tree.{Path}
use Rattle.lfs_lookup.specs.CachedPairs.{AreDirectoriesRecentlyUsed}
use Rattle.lfs_tree.specs.TreeState.{TreeState}

-- all pairs of the directories at these paths are cached
abbrev pub HasCachedDirectories : TreeState → List Path → Type 0
HasCachedDirectories t paths = AreDirectoriesRecentlyUsed cache_limit t.disk t.cache t.pairs paths

-- At most one read was made for each pair of the directories at these paths, and none if all of them were cached.
pub record ReadsPairsOnce (paths : List Path) (old : TreeState) (history : List CallEvent) : Type 0 where
  pub few : read_count history ≤ read_count old.history + sum_by (directory_pair_count old.pairs) paths
  pub none : HasCachedDirectories old paths → read_count history ≡ read_count old.history

-- If nothing is to recover, at most six reads were made.
abbrev pub ReadsSixAtMost : TreeState → List CallEvent → Type 0
ReadsSixAtMost old history = pairs_gstate old.pairs ≡ zero_gstate → read_count history ≤ read_count old.history + 6
