-- The conditions of calls.
use Rattle.std.specs.Prelude.{◌≡◌, ◌≤◌, ◌<◌, ◌+◌, ◌-◌, ◌*◌, ◌%◌, ◌^◌, ℕ, List, length, min}
use Rattle.lfs_device.specs.declared.device.BlockDevice.{Ghosts}
use Rattle.lfs_device.specs.declared.geometry.Geometry.{Geometry}
use Rattle.lfs_model.specs.format.Blocks.{Blocks}
use Rattle.lfs_model.specs.format.SkipLists.{AreListBlocks, skip_list_block_count, blocks_to_head, pointer_count}
use Rattle.lfs_model.specs.layers.BlockSets.{BlockStates, in_flight_count, used_count}
use Rattle.lfs_file.specs.declared.block.FullBlocks.{FullBlocks}
use Rattle.lfs_file.specs.declared.way.WalkedBlocks.{WalkedBlocks}
use Rattle.lfs_file.specs.declared.writes.PendingList.{PendingList}
use Rattle.lfs_file.specs.BaseRoom.{in_flight_limit}
use Rattle.lfs_file.specs.BlocksApart.{HasBlocksTaken}
use Rattle.lfs_file.specs.Extending.{CanFollowBlocks}
use Rattle.lfs_file.specs.Growing.{GrowingList, DiskHasList, growing_size, lasting_blocks}
use Rattle.lfs_file.specs.HandWrites.{IsUnfinishedList, unfinished_length}
use Rattle.lfs_file.specs.Known.{AreKnownBlocks}
use Rattle.lfs_file.specs.Way.{HasNotedPointers}

-- a block of the device that isn't the first of its list
pub record HasBlockBefore (count b index : ℕ) : Type 0 where
  pub some : 0 < index
  pub in_device : b < count

-- the first `keep` bytes of a list of that size, at least one
pub record IsFrontSize (keep size : ℕ) : Type 0 where
  pub some : 1 ≤ keep
  pub within : keep ≤ size

-- the number of a pointer, and the index of the block that it names
pub record PointerInRange (k n : ℕ) : Type 0 where
  pub pointer : k ≤ 32
  pub index : n < 2 ^ 32 - 1

-- The block at the index can be checked: the pointers of the walk to the first block are noted, and there is room for its own.
pub record CanFollowBlock (disk : Blocks) (last n : ℕ) (words : List ℕ) (noted : WalkedBlocks) : Type 0 where
  pub some : 0 < n
  pub order : n ≤ last
  pub room : length words ≡ 128
  pub way : HasNotedPointers disk last 0 noted

-- the same for a block of the device, whose pointers can be copied
pub record CanCopyPointers (disk : Blocks) (count b last n : ℕ) (words : List ℕ) (noted : WalkedBlocks) : Type 0 where
  pub some : 0 < n
  pub order : n ≤ last
  pub in_device : b < count
  pub room : length words ≡ 128
  pub way : HasNotedPointers disk last 0 noted

-- the pointers of the next block can be put into a buffer: the full blocks are a list's, and the cached ones are right
pub record CanWritePointers (disk : Blocks) (front : FullBlocks) (len : ℕ) : Type 0 where
  pub chain : AreListBlocks disk front.count front.head
  pub known : AreKnownBlocks (blocks_to_head disk front.count front.head) front.known
  pub room : 1024 ≤ len

-- The next block of a list can be written from a buffer as long as a block, in whole pages, with room for the pointers.
pub record CanWriteBlock {D : Type 0} (g : Ghosts D) (dev : D) (front : FullBlocks) (b end len : ℕ) : Type 0 where
  pub follows : CanFollowBlocks g dev front.count front.head b
  pub known : AreKnownBlocks (blocks_to_head (g.blocks dev) front.count front.head) front.known
  pub size : len ≡ (g.geometry dev).block_size
  pub large : 1024 ≤ len
  pub pages : end % (g.geometry dev).page ≡ 0
  pub room : end ≤ (g.geometry dev).block_size
  pub pointers : 4 * pointer_count front.count ≤ end

-- the partial block of a list can be written as its next block
pub record CanWriteLastBlock {D : Type 0} (g : Ghosts D) (dev : D) (list : GrowingList) (b : ℕ) : Type 0 where
  pub follows : CanFollowBlocks g dev list.full list.head b
  pub known : AreKnownBlocks (blocks_to_head (g.blocks dev) list.full list.head) list.known
  pub geometry : g.geometry dev ≡ list.geometry

-- the next block of a list can be filled with the first of `count` bytes
pub record CanFillBlock {D : Type 0} (g : Ghosts D) (dev : D) (list : GrowingList) (b count : ℕ) : Type 0 where
  pub follows : CanFollowBlocks g dev list.full list.head b
  pub known : AreKnownBlocks (blocks_to_head (g.blocks dev) list.full list.head) list.known
  pub geometry : g.geometry dev ≡ list.geometry
  pub some : 1 ≤ count
  pub room : growing_size list + count < 2 ^ 31

-- `count` bytes can be appended to a list: the disk has it, the map has its blocks, and enough blocks are free.
pub record CanExtendList (map : BlockStates) (disk : Blocks) (now : Geometry) (list : GrowingList) (count : ℕ) : Type 0 where
  pub growing : DiskHasList disk list
  pub geometry : now ≡ list.geometry
  pub some : 1 ≤ count
  pub small : growing_size list + count < 2 ^ 31
  pub marked : HasBlocksTaken map disk list
  pub room : used_count map + in_flight_count map + skip_list_block_count list.geometry.block_size (growing_size list + count) ≤ length map + length (lasting_blocks disk list)

-- `count` zeros can be written at the end of a draft's new list
pub record CanWriteZeros (map : BlockStates) (disk : Blocks) (now : Geometry) (hand : PendingList) (count : ℕ) : Type 0 where
  pub begun : IsUnfinishedList map disk now hand
  pub small : growing_size hand.list + count < 2 ^ 31
  pub room : used_count map + skip_list_block_count now.block_size (growing_size hand.list + count) + in_flight_limit now.block_size hand.base ≤ length map

-- `count` bytes, at least one, can be written there
pub record CanAppendToUnfinished (map : BlockStates) (disk : Blocks) (now : Geometry) (hand : PendingList) (count : ℕ) : Type 0 where
  pub begun : IsUnfinishedList map disk now hand
  pub some : 1 ≤ count
  pub small : growing_size hand.list + count < 2 ^ 31
  pub room : used_count map + skip_list_block_count now.block_size (growing_size hand.list + count) + in_flight_limit now.block_size hand.base ≤ length map

-- `count` bytes, at least one, can be written at an offset, which is its end or is behind all contents
pub record CanFillAndWrite (map : BlockStates) (disk : Blocks) (now : Geometry) (hand : PendingList) (place count : ℕ) : Type 0 where
  pub begun : IsUnfinishedList map disk now hand
  pub at : growing_size hand.list ≡ min place (unfinished_length hand)
  pub some : 1 ≤ count
  pub small : place + count < 2 ^ 31
  pub room : used_count map + skip_list_block_count now.block_size (place + count) + in_flight_limit now.block_size hand.base ≤ length map
