-- A writer's contents on a thread's device.
use Rattle.std.specs.Prelude.{ℕ, ◌≡◌, ◌⊎◌, ◌≤◌, ◌<◌, ◌+◌, List, length, Result, IfErr, IsErrOf}
use Rattle.lfs_device.specs.declared.error.Error.{Error}
use Rattle.lfs_device.specs.declared.error.Error.TheVariants.{Io, NoMemory}
use Rattle.lfs_device.specs.declared.geometry.Geometry.{Geometry}
use Rattle.lfs_model.specs.format.Disk.{inline_limit}
use Rattle.lfs_model.specs.layers.BlockSets.{used_count}
use Rattle.lfs_model.specs.session.History.{LossLeavesAtWorst, HoldsAtLosses, fault_count}
use Rattle.lfs_thread.specs.Beside.{HasGeometry}
use Rattle.lfs_thread.specs.Kept.{KeptThread}
use Rattle.lfs_thread.specs.ThreadSteps.{SameGeometryAs}
use Rattle.lfs_file.specs.Contents.{HasTruncationRoom, HasWriteRoom, HaveBytesInForm, AreSoundContents, finish_room, contents_form}
use Rattle.lfs_file.specs.Form.{ContentsForm}
use Rattle.lfs_file.specs.Hand.{KeepsUsedBlocks, KeepsUsedBytes, UsedStayUnprogrammed}
use Rattle.lfs_file.specs.BlockOwners.{contents_blocks}
use Rattle.lfs_file.specs.declared.contents.WriterContents.{WriterContents}

-- the contents are on the disk, and their blocks aren't free in the map
pub record AreContentsOnDisk (t : KeptThread) (contents : WriterContents) : Type 0 where
  pub geometry : Geometry
  pub divided : HasGeometry geometry t.disk
  pub stands : AreSoundContents t.map t.disk.blocks geometry contents

-- the contents are in that form, with these bytes
pub record HaveContentsForm (t : KeptThread) (contents : WriterContents) (bytes : List ℕ) (shape : ContentsForm) : Type 0 where
  pub geometry : Geometry
  pub divided : HasGeometry geometry t.disk
  pub has : HaveBytesInForm t.map t.disk.blocks geometry contents bytes shape

-- `count` bytes may be written at offset `place` of the contents
pub record CanWriteToContents (t : KeptThread) (contents : WriterContents) (place count : ℕ) : Type 0 where
  pub stands : AreContentsOnDisk t contents
  pub fits : HasWriteRoom t.map t.disk.block_size (contents_form contents) (inline_limit t.disk.profile t.disk.block_size) place count

-- The pairs are the same. Used blocks stay used and keep their bytes, also in a power loss during the call, and their
-- unprogrammed bytes stay unprogrammed.
pub record KeepsPairs (old new : KeptThread) : Type 0 where
  pub pairs : new.pairs ≡ old.pairs
  pub shape : SameGeometryAs old.disk new.disk
  pub spared : KeepsUsedBytes old.map old.disk.blocks new.disk.blocks
  pub pages : UsedStayUnprogrammed old.map old.history new.history
  pub at_worst : HoldsAtLosses LossLeavesAtWorst old.history new.history (KeepsUsedBytes old.map old.disk.blocks)
  pub map : KeepsUsedBlocks old.map new.map

-- the result is `Io` exactly if a device call failed
pub record ThreadReportsFaults {X : Type 0} (old new : KeptThread) (result : Result X Error) : Type 0 where
  pub errors : IfErr result (λ e. (e ≡ Io) ⊎ (e ≡ NoMemory))
  pub fault : IsErrOf result Io → fault_count old.history < fault_count new.history
  pub no_fault : ¬ IsErrOf result Io → fault_count new.history ≡ fault_count old.history

-- the contents may be truncated or extended to that size
pub record CanTruncate (t : KeptThread) (contents : WriterContents) (size : ℕ) : Type 0 where
  pub stands : AreContentsOnDisk t contents
  pub fits : HasTruncationRoom t.map t.disk.block_size (contents_form contents) (inline_limit t.disk.profile t.disk.block_size) size

-- the draft may be finished: all its blocks written
pub record CanWriteRemainingDraft (t : KeptThread) (contents : WriterContents) : Type 0 where
  pub stands : AreContentsOnDisk t contents
  pub room : used_count t.map + finish_room t.disk.block_size (contents_form contents) ≤ length t.map

-- the blocks of the contents' lists
abbrev pub contents_list_blocks : KeptThread → WriterContents → List ℕ
contents_list_blocks t contents = contents_blocks t.disk.blocks t.disk.block_size contents
