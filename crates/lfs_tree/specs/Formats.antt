-- An empty file system, just formatted.
use Rattle.std.specs.Prelude.{ℕ, ◌≡◌, ◌≢◌, ◌⊎◌, ◌<◌, ◌+◌, List, [], ◌∷◌, Some, None, false, codes, length}
use Rattle.lfs_device.specs.declared.device.BlockDevice.{Ghosts}
use Rattle.lfs_device.specs.declared.error.Error.{Error}
use Rattle.lfs_device.specs.declared.error.Error.TheVariants.{Io, NoMemory}
use Rattle.lfs_device.specs.DeviceCalls.{ChangesTheseBlocks}
use Rattle.lfs_model.specs.format.Disk.{Disk, disk_block, block_count}
use Rattle.lfs_model.specs.layers.BlockSets.{AreInFlight, AreUsed, BlockStates}
use Rattle.lfs_model.specs.layers.Changes.{ContentChange, Create, PutStruct}
use Rattle.lfs_model.specs.format.Content.{RawContent, has_commit}
use Rattle.lfs_model.specs.format.EntryTypes.{inline_struct_type, superblock_name_type}
use Rattle.lfs_model.specs.tree.Fresh.{IsFreshDisk, empty_tree, fresh_pair, superblock_bytes}
use Rattle.lfs_model.specs.session.History.{CallEvent, erase_count, fault_count}
use Rattle.lfs_model.specs.format.Slots.{zero_gstate}
use Rattle.lfs_model.specs.format.Thread.{superblock_pair_address, address_blocks}
use Rattle.lfs_model.specs.tree.View.{IsAccepted, disk_view}
use Rattle.lfs_model.specs.tree.Profile.{IsWritable}
use Rattle.lfs_pair.specs.Pair.{header_address}
use Rattle.lfs_pair.specs.Writing.{HasOneCommit}
use Rattle.lfs_thread.specs.Kept.{PairHeader, IsHeader, KeptThread}
use Rattle.lfs_thread.specs.ThreadSteps.{ChangesThreadBlocks}

-- the changes that create slot 0 with a superblock of that struct
abbrev pub superblock_slot_changes : List ℕ → List ContentChange
superblock_slot_changes bytes = Create 0 superblock_name_type (codes "littlefs") ∷ PutStruct 0 inline_struct_type bytes ∷ []

-- the content of a pair that has only the superblock
abbrev pub superblock_content : Disk → RawContent
superblock_content disk = record {
  slots = record { name = Some (superblock_name_type, codes "littlefs"); struct = Some (inline_struct_type, superblock_bytes disk.profile disk.block_size (block_count disk)); attributes = [] } ∷ [];
  tail = None;
  move = zero_gstate;
}

-- The header is that of the first pair, and the disk is a fresh one. Block 0 holds the superblock, at revision 1, and no log
-- is left in block 1.
pub record IsRootHeader (disk : Disk) (history : List CallEvent) (h : PairHeader) : Type 0 where
  pub header : IsHeader disk history h
  pub at : header_address h ≡ superblock_pair_address
  pub fresh : IsFreshDisk disk
  pub first : HasOneCommit 1 (superblock_content disk) (disk_block disk 0)
  pub second : has_commit (disk_block disk 1) ≡ false

-- the list has one header, that of the first pair
pub record IsRootThread (disk : Disk) (history : List CallEvent) (hs : List PairHeader) : Type 0 where
  pub first : PairHeader
  pub only : hs ≡ first ∷ []
  pub root : IsRootHeader disk history first

-- of `count` blocks only the first two are used
pub record IsFormattedMap (count : ℕ) (sets : BlockStates) : Type 0 where
  pub size : length sets ≡ count
  pub used : AreUsed sets (address_blocks superblock_pair_address)
  pub in_flight : AreInFlight sets []

-- The disk is a fresh one: its thread is the pair {0, 1}, which has the superblock alone. Block 0 holds the superblock, in a log
-- of one commit at revision 1, and no log is left in block 1. These two blocks are used, and no block is in flight; the map has
-- all blocks.
pub record IsFreshlyFormatted (t : KeptThread) : Type 0 where
  pub fresh : IsFreshDisk t.disk
  pub first : HasOneCommit 1 (superblock_content t.disk) (disk_block t.disk 0)
  pub second : has_commit (disk_block t.disk 1) ≡ false
  pub pairs : t.pairs ≡ fresh_pair t.disk ∷ []
  pub used : AreUsed t.map (address_blocks superblock_pair_address)
  pub in_flight : AreInFlight t.map []
  pub size : length t.map ≡ block_count t.disk

-- An accepted image that may be written. Its root directory is empty, and it uses the blocks 0 and 1.
pub record IsEmptyWritable (t : KeptThread) : Type 0 where
  pub accepted : IsAccepted t.disk t.pairs
  pub writable : IsWritable t.disk t.pairs
  pub view : disk_view t.disk t.pairs ≡ record { tree = empty_tree; gstate = zero_gstate; used = address_blocks superblock_pair_address }

-- two blocks were erased, and no device call failed
pub record ErasesTwoBlocks (before history : List CallEvent) : Type 0 where
  pub erases : erase_count history ≡ erase_count before + 2
  pub no_fault : fault_count history ≡ fault_count before

-- The blocks 0 and 1 were erased, no other block was written, and no device call failed.
pub record WritesOnlyFirstTwoBlocks (old new : KeptThread) : Type 0 where
  pub calls : ErasesTwoBlocks old.history new.history
  pub writes : ChangesThreadBlocks (address_blocks superblock_pair_address) old new

-- The call returns the device with an error. It wrote no block but `bs`, and none if memory couldn't be allocated. The error is
-- `Io` exactly if a device call failed.
pub record IsFormatError {D : Type 0} (g : Ghosts D) (bs : List ℕ) (old back : D) (error : Error) : Type 0 where
  pub errors : (error ≡ Io) ⊎ (error ≡ NoMemory)
  pub writes : ChangesTheseBlocks g bs old back
  pub unwritten : error ≡ NoMemory → back ≡ old
  pub fault : error ≡ Io → fault_count (g.history old) < fault_count (g.history back)
  pub no_fault : error ≢ Io → fault_count (g.history back) ≡ fault_count (g.history old)
