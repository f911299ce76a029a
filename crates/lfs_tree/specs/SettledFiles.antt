-- A list that a commit names, and the list that it replaces.
use Rattle.std.specs.Prelude.{ℕ, ◌≡◌, ◌++◌, List, length, Contains}
use Rattle.lfs_model.specs.format.Disk.{block_count}
use Rattle.lfs_model.specs.session.History.{OnlyReadsSince}
use Rattle.lfs_model.specs.format.Thread.{pairs_blocks}
use Rattle.lfs_thread.specs.Kept.{KeptThread}
use Rattle.lfs_file.specs.Bases.{IsListOrEmpty, blocks_of_list}
use Rattle.lfs_file.specs.SettledMaps.{SettlesList, AreSharedUsed}
use Rattle.lfs_file.specs.declared.stored_list.StoredList.{StoredList}

abbrev pub stored_list_blocks : KeptThread → StoredList → List ℕ
stored_list_blocks t s = blocks_of_list t.disk.blocks t.disk.block_size s.head s.size

-- Both lists are on the disk, or empty. None of their blocks is a pair's, and those that they share are used.
pub record CanReplaceUsedList (t : KeptThread) (before stored : StoredList) : Type 0 where
  pub was : IsListOrEmpty t.disk.blocks t.disk.block_size before.head before.size
  pub list : IsListOrEmpty t.disk.blocks t.disk.block_size stored.head stored.size
  pub size : length t.map ≡ block_count t.disk
  pub apart : (b : ℕ) → Contains (pairs_blocks t.pairs) b → ¬ (Contains (stored_list_blocks t before ++ stored_list_blocks t stored) b)
  pub shared : AreSharedUsed t.map (stored_list_blocks t before) (stored_list_blocks t stored)

-- only the map has changed
pub record ChangesOnlyMap (old new : KeptThread) : Type 0 where
  pub disk : new.disk ≡ old.disk
  pub reads : OnlyReadsSince old.disk.blocks old.history new.history
  pub pairs : new.pairs ≡ old.pairs

abbrev pub IsUsedListReplaced : KeptThread → StoredList → StoredList → KeptThread → Type 0
IsUsedListReplaced old before stored new = SettlesList old.map new.map (stored_list_blocks old before) (stored_list_blocks old stored)
