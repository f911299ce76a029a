-- The effect of copying a pair to two other blocks.
use Rattle.std.specs.Prelude.{ℕ, ◌≡◌, ◌⊎◌, ◌+◌, ◌%◌, ◌^◌, List, Some}
use Rattle.lfs_device.specs.declared.device.BlockDevice.{Ghosts}
use Rattle.lfs_device.specs.declared.error.Error.{Error}
use Rattle.lfs_device.specs.declared.error.Error.TheVariants.{Io, NoMemory}
use Rattle.lfs_device.specs.DeviceCalls.{ReadsOnly}
use Rattle.lfs_model.specs.format.Content.{RawContent}
use Rattle.lfs_model.specs.format.Disk.{Disk}
use Rattle.lfs_model.specs.layers.Changes.{ContentChange}
use Rattle.lfs_model.specs.layers.WrittenContent.{RawContentFitsInPair}
use Rattle.lfs_model.specs.session.History.{CallEvent}
use Rattle.lfs_pair.specs.Commits.{IsPairAddress, CanCommit, HasWrittenContent, changed_pair_content}
use Rattle.lfs_pair.specs.FreshPair.{ErasedOneMore, HasFreshContent}
use Rattle.lfs_pair.specs.Pair.{header_address}
use Rattle.lfs_pair.specs.declared.pair.Pair.{Pair}

-- A copy is possible: a commit is, the changed content fits in a pair, and the copy has two
-- different blocks of the disk.
pub record CanCopyPair (disk : Disk) (history : List CallEvent) (pair : Pair) (fresh : ℕ × ℕ) (changes : List ContentChange) : Type 0 where
  pub commit : CanCommit disk history pair changes
  pub fits : RawContentFitsInPair disk.block_size disk.page commit.new
  pub fresh_is : IsPairAddress disk fresh

-- The copy has the changed content, with the next revision count.
pub record IsPairCopied (old : Disk) (before : List CallEvent) (changes : List ContentChange) (pair : Pair) (disk : Disk) (history : List CallEvent) (fresh : ℕ × ℕ) (copy : Pair) : Type 0 where
  pub new : RawContent
  pub made : changed_pair_content old (header_address pair) changes ≡ Some new
  pub holds : HasWrittenContent disk history fresh copy new
  pub fresh_is : HasFreshContent ((pair.revision + 1) % 2 ^ 32) new disk fresh copy
  pub clears : ErasedOneMore 1 before history

-- The error is `Io` or `NoMemory`, and if it is `NoMemory`, nothing was written.
pub record IsCopyError {D : Type 0} (g : Ghosts D) (old new : D) (e : Error) : Type 0 where
  pub errors : (e ≡ Io) ⊎ (e ≡ NoMemory)
  pub no_memory : e ≡ NoMemory → ReadsOnly g old new
