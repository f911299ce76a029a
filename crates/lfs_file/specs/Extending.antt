-- The conditions and effects of an extender's calls: `g` is what a contract sees of the device, `disk` are its blocks.
use Rattle.std.specs.Prelude.{ℕ, ◌≡◌, ◌≢◌, ◌≤◌, ◌<◌, ◌+◌, ◌++◌, ◌^◌, List, [], length, take, false, nat_eq, All}
use Rattle.std.specs.List.{IsDistinct}
use Rattle.lfs_device.specs.declared.device.BlockDevice.{Ghosts}
use Rattle.lfs_device.specs.declared.geometry.Geometry.{Geometry}
use Rattle.lfs_model.specs.format.Blocks.{Blocks}
use Rattle.lfs_model.specs.format.SkipLists.{AreListBlocks, IsSkipList, blocks_to_head, skip_list_block_count, list_bytes}
use Rattle.lfs_file.specs.Extended.{ListHasBytes}
use Rattle.lfs_file.specs.Known.{ArePointersKnown, ArePointedKnown}
use Rattle.lfs_file.specs.Growing.{GrowingList, DiskHasList, IsAllBuffered, HasUnwrittenAmong, growing_bytes, growing_size, rest_lacks_block, lasting_blocks, appended_count, unwritten_block}

-- an empty list of a device
pub record IsEmptyList (divided : Geometry) (list : GrowingList) : Type 0 where
  pub grown : (disk : Blocks) → ListHasBytes divided disk list [] 0 [] []
  pub listed : rest_lacks_block list ≡ false
  pub known : ArePointedKnown list.full list.known

-- a well-formed list has at least `keep` bytes, and `keep` is at least 1
pub record CanResumeList (disk : Blocks) (block_size head size keep : ℕ) : Type 0 where
  pub list : IsSkipList disk block_size head size
  pub some : 1 ≤ keep
  pub within : keep ≤ size

-- The first bytes of a list, in its blocks. The full blocks stay its own when it is extended. If the last block isn't full, the
-- blocks that its pointers name are cached.
pub record IsResumedList (disk : Blocks) (divided : Geometry) (head size keep : ℕ) (list : GrowingList) : Type 0 where
  pub grown : ListHasBytes divided disk list (take keep (list_bytes disk divided.block_size head size)) keep
      (take list.full (blocks_to_head disk (skip_list_block_count divided.block_size size) head))
      (take (skip_list_block_count divided.block_size keep) (blocks_to_head disk (skip_list_block_count divided.block_size size) head))
  pub waits : HasUnwrittenAmong [] list
  pub known : 1 ≤ length list.rest → ArePointersKnown list.full list.known

-- its bytes are these, all in memory and none in a block
pub record HasBufferedBytes (divided : Geometry) (list : GrowingList) (bytes : List ℕ) : Type 0 where
  pub held : IsAllBuffered list
  pub rest : list.rest ≡ bytes
  pub holds : (disk : Blocks) → ListHasBytes divided disk list bytes (length bytes) [] []

-- the device has the list as the last call left it
pub record HasGrowingList {D : Type 0} (g : Ghosts D) (dev : D) (list : GrowingList) : Type 0 where
  pub growing : DiskHasList (g.blocks dev) list
  pub geometry : g.geometry dev ≡ list.geometry

-- a block of the device can follow the full blocks of a list, and is none of them
pub record CanFollowBlocks {D : Type 0} (g : Ghosts D) (dev : D) (full head block : ℕ) : Type 0 where
  pub chain : AreListBlocks (g.blocks dev) full head
  pub in_device : block < (g.geometry dev).block_count
  pub apart : All (λ c. c ≢ block) (blocks_to_head (g.blocks dev) full head)

-- These bytes, at least one, can be appended in these blocks: as many as they need, different blocks of the device, none of them
-- the list's.
pub record CanPushBytes {D : Type 0} (g : Ghosts D) (dev : D) (list : GrowingList) (bytes blocks : List ℕ) : Type 0 where
  pub stands : HasGrowingList g dev list
  pub some : 1 ≤ length bytes
  pub room : growing_size list + length bytes < 2 ^ 31
  pub count : length blocks ≡ appended_count list (length bytes)
  pub in_device : All (λ b. b < (g.geometry dev).block_count) blocks
  pub distinct : IsDistinct nat_eq blocks
  pub apart : All (λ b. All (λ c. c ≢ b) (lasting_blocks (g.blocks dev) list)) blocks

-- the bytes were appended, and the blocks are now the list's
pub record HasPushedBytes (disk : Blocks) (list : GrowingList) (bytes blocks : List ℕ) (later : Blocks) (longer : GrowingList) : Type 0 where
  pub grown : ListHasBytes list.geometry later longer (growing_bytes disk list ++ bytes) (growing_size list + length bytes)
      (lasting_blocks disk list ++ blocks) (lasting_blocks disk list ++ blocks)
  pub waits : HasUnwrittenAmong (unwritten_block list ++ blocks) longer

-- a list has a byte, and isn't in memory without a block
pub record CanFinishList {D : Type 0} (g : Ghosts D) (dev : D) (list : GrowingList) : Type 0 where
  pub stands : HasGrowingList g dev list
  pub some : 1 ≤ growing_size list
  pub listed : rest_lacks_block list ≡ false
