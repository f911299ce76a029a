-- How many reads a session's look-up makes.
use Rattle.std.specs.Prelude.{◌≡◌, ◌≤◌, ◌+◌, List, ◌++◌, sum_by, Result, OnOk}
use Rattle.lfs_device.specs.declared.error.Error.{Error}
use Rattle.lfs_model.specs.crash.Frame.{directory_pair_count, searched_directories}
use Rattle.lfs_model.specs.session.History.{CallEvent, read_count}
use Rattle.lfs_model.specs.session.Operations.{Operation}
use Rattle.lfs_lookup.specs.CachedPairs.{AreFewOnePairDirectories}
use Rattle.lfs_tree.specs.TreeReads.{HasCachedDirectories}
use Rattle.lfs_tree.specs.TreeState.{TreeState}

-- at most one read was made for each pair of the directories that the operation searches
abbrev pub ReadsSearchedPairsOnce : TreeState → Operation → TreeState → Type 0
ReadsSearchedPairsOnce old op new = read_count new.history ≤ read_count old.history + sum_by (directory_pair_count old.pairs) (searched_directories op)

-- ---- if the directories that it searches are cached

-- then nothing was read
abbrev pub CachedLookupReadsNothing : TreeState → Operation → TreeState → Type 0
CachedLookupReadsNothing old op new = HasCachedDirectories old (searched_directories op) → read_count new.history ≡ read_count old.history

-- the same, of the calls since then
abbrev pub NoReadsIfCached : TreeState → Operation → TreeState → Type 0
NoReadsIfCached old op new = HasCachedDirectories old (searched_directories op) → (calls : List CallEvent) → new.history ≡ calls ++ old.history → read_count calls ≡ 0

-- at most eight directories of one pair each are cached after a search
abbrev pub CachesSearchedDirectories : {A : Type 0} → TreeState → Operation → Result A Error → TreeState → Type 0
CachesSearchedDirectories old op result new = AreFewOnePairDirectories old.pairs (searched_directories op) → OnOk result (HasCachedDirectories new (searched_directories op))
