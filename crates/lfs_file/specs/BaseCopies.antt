-- Bytes of an old list that are appended to the new one.
use Rattle.std.specs.Prelude.{ℕ, ◌≡◌, ◌≤◌, ◌+◌, ◌-◌, List, length, min, take, slice_range}
use Rattle.lfs_device.specs.declared.geometry.Geometry.{Geometry}
use Rattle.lfs_model.specs.format.Blocks.{Blocks, block_bytes}
use Rattle.lfs_model.specs.layers.BlockSets.{BlockStates, in_flight_count, used_count}
use Rattle.lfs_model.specs.format.SkipLists.{skip_list_block_count}
use Rattle.lfs_file.specs.Bases.{IsBaseApart}
use Rattle.lfs_file.specs.BlocksApart.{HasBlocksTaken}
use Rattle.lfs_file.specs.Extensions.{CanEndAlone}
use Rattle.lfs_file.specs.Growing.{GrowingList, DiskHasList, lasting_blocks, unwritten_block}
use Rattle.lfs_file.specs.declared.stored_list.StoredList.{StoredList}

-- A draft's new list, of this device, can be ended and changes no block of the old list. As many blocks are free as the old list
-- has.
pub record CanAppendBase (map : BlockStates) (disk : Blocks) (now : Geometry) (list : GrowingList) (base : StoredList) : Type 0 where
  pub growing : DiskHasList disk list
  pub geometry : now ≡ list.geometry
  pub marked : HasBlocksTaken map disk list
  pub own : CanEndAlone disk list
  pub apart : IsBaseApart map (unwritten_block list) disk list.geometry.block_size base.head base.size
  pub room : used_count map + in_flight_count map + skip_list_block_count list.geometry.block_size base.size ≤ length map + length (lasting_blocks disk list)

-- The buffer begins with `count` bytes of the block, at least one, from an offset on: all that follow, or `most`.
pub record HasBlockBytes (disk : Blocks) (block_size block off most : ℕ) (buffer : List ℕ) (count : ℕ) : Type 0 where
  pub some : 1 ≤ count
  pub within : count ≤ length buffer
  pub least : count ≡ min (block_size - off) most
  pub bytes : take count buffer ≡ slice_range (block_bytes disk block) off (off + count)
