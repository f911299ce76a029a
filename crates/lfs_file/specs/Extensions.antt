-- A draft's new list, extended.
use Rattle.std.specs.Prelude.{ℕ, ◌≡◌, false, List, length}
use Rattle.lfs_model.specs.format.Blocks.{Blocks}
use Rattle.lfs_model.specs.layers.BlockSets.{BlockStates}
use Rattle.lfs_model.specs.format.SkipLists.{skip_list_block_count}
use Rattle.lfs_file.specs.Growing.{DiskHasList, growing_blocks, growing_bytes, rest_lacks_block, lasting_blocks, growing_size, GrowingList}
use Rattle.lfs_file.specs.BlocksApart.{GrowsInFree, HasBlocksTaken}

-- the list's blocks are its own, as many as its bytes need, and it can be ended
pub record CanEndAlone (disk : Blocks) (list : GrowingList) : Type 0 where
  pub own : growing_blocks disk list ≡ lasting_blocks disk list
  pub many : length (lasting_blocks disk list) ≡ skip_list_block_count list.geometry.block_size (growing_size list)
  pub listed : rest_lacks_block list ≡ false

-- A list was extended to these `size` bytes, in blocks that were free before.
pub record IsExtended (map : BlockStates) (disk : Blocks) (list : GrowingList) (bytes : List ℕ) (size : ℕ) (later : BlockStates) (new : Blocks) (longer : GrowingList) : Type 0 where
  pub geometry : longer.geometry ≡ list.geometry
  pub growing : DiskHasList new longer
  pub content : growing_bytes new longer ≡ bytes
  pub sum : growing_size longer ≡ size
  pub own : CanEndAlone new longer
  pub grown : GrowsInFree map disk list later new longer
  pub marked : HasBlocksTaken later new longer
