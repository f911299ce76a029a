-- Writes over a stored list.
use Rattle.std.specs.Prelude.{ℕ, ◌≤◌, ◌<◌, ◌+◌, ◌^◌, length}
use Rattle.lfs_model.specs.format.Blocks.{Blocks}
use Rattle.lfs_model.specs.layers.BlockSets.{BlockStates, used_count}
use Rattle.lfs_model.specs.format.SkipLists.{skip_list_block_count}
use Rattle.lfs_file.specs.BaseRoom.{in_flight_limit}
use Rattle.lfs_file.specs.Hand.{IsFinishedList}
use Rattle.lfs_file.specs.declared.stored_list.StoredList.{StoredList}

-- `count` bytes, at least one, may be written at an offset over a stored list: besides it there is room for a list up to their
-- end.
pub record CanOverwriteFinished (map : BlockStates) (disk : Blocks) (block_size : ℕ) (list : StoredList) (place count : ℕ) : Type 0 where
  pub stored : IsFinishedList map disk block_size list
  pub some : 1 ≤ count
  pub small : place + count < 2 ^ 31
  pub room : used_count map + skip_list_block_count block_size (place + count) + in_flight_limit block_size list ≤ length map
