-- A new pair in two blocks.
use Rattle.std.specs.Prelude.{ℕ, ◌≡◌, ◌⊎◌, ◌+◌, ◌≤◌, Bool, true, false, List, Some}
use Rattle.lfs_device.specs.declared.error.Error.{Error}
use Rattle.lfs_device.specs.declared.error.Error.TheVariants.{Io, NoMemory}
use Rattle.lfs_model.specs.format.Blocks.{Blocks, block_bytes}
use Rattle.lfs_model.specs.format.Disk.{Disk, disk_block}
use Rattle.lfs_model.specs.session.History.{DeviceCall, Read, Program, Erase, Blank, AllCallsSince, CallEvent, erase_count, program_count}
use Rattle.lfs_model.specs.layers.LoggedContent.{AreNamed, IsWellFormed}
use Rattle.lfs_model.specs.format.Content.{RawContent, has_commit, empty_raw_content}
use Rattle.lfs_model.specs.layers.Changes.{ContentChange, content_with_changes}
use Rattle.lfs_model.specs.layers.WrittenContent.{RawContentFitsInPair}
use Rattle.lfs_pair.specs.declared.pair.Pair.{Pair}
use Rattle.lfs_pair.specs.Writing.{HasOneCommit}
use Rattle.lfs_pair.specs.Commits.{IsPairAddress, HasWrittenContent}

-- A new pair can be made: it has two different blocks of the disk, and the changes to an empty
-- content result in one that fits.
pub record CanMakeFresh (disk : Disk) (at : ℕ × ℕ) (changes : List ContentChange) : Type 0 where
  pub address : IsPairAddress disk at
  pub new : RawContent
  pub changed : content_with_changes empty_raw_content changes ≡ Some new
  pub names : AreNamed new.slots
  pub fits : RawContentFitsInPair disk.block_size disk.page new

-- A new pair can be written: it has two different blocks of the disk, its content can be written
-- and fits, and the buffer has one block's size.
pub record CanWriteFreshPair (disk : Disk) (at : ℕ × ℕ) (c : RawContent) (len : ℕ) : Type 0 where
  pub address : IsPairAddress disk at
  pub buf : len ≡ disk.block_size
  pub logged : IsWellFormed c
  pub names : AreNamed c.slots
  pub fits : RawContentFitsInPair disk.block_size disk.page c

-- A successful erase leaves no log in the block.
abbrev pub EraseClearsLog : DeviceCall → Bool → Blocks → Type 0
EraseClearsLog (Read block off len) failed after = Unit {0}
EraseClearsLog (Program block off bytes) failed after = Unit {0}
EraseClearsLog (Erase block) true after = Unit {0}
EraseClearsLog (Erase block) false after = has_commit (block_bytes after block) ≡ false
EraseClearsLog (Blank block off len) failed after = Unit {0}

-- The call, if it is a successful erase, leaves no log in its block.
abbrev pub EventClearsLog : CallEvent → Type 0
EventClearsLog e = EraseClearsLog e.call e.failed e.after

-- `count` blocks were erased and programmed, and one more was erased. That one was also programmed
-- only if it still had a log after its erase.
pub record ErasedOneMore (count : ℕ) (before history : List CallEvent) : Type 0 where
  pub erases : erase_count history ≡ erase_count before + (count + 1)
  pub at_most : program_count history ≤ program_count before + (count + 1)
  pub programs : AllCallsSince EventClearsLog before history → program_count history ≡ program_count before + count

-- The first block has this content and this revision count, the second block has no log, and the
-- header agrees.
pub record HasFreshContent (revision : ℕ) (c : RawContent) (disk : Disk) (at : ℕ × ℕ) (pair : Pair) : Type 0 where
  pub active : pair.active ≡ at.0
  pub revision_is : pair.revision ≡ revision
  pub anew : HasOneCommit revision c (disk_block disk at.0)
  pub cleared : has_commit (disk_block disk at.1) ≡ false

-- The pair is new, and its first block has the content that the changes make of an empty one.
pub record IsFreshPair (before : List CallEvent) (changes : List ContentChange) (disk : Disk) (history : List CallEvent) (at : ℕ × ℕ) (pair : Pair) : Type 0 where
  pub new : RawContent
  pub made : content_with_changes empty_raw_content changes ≡ Some new
  pub holds : HasWrittenContent disk history at pair new
  pub fresh : HasFreshContent 1 new disk at pair
  pub clears : ErasedOneMore 1 before history

-- The error is `Io` or `NoMemory`, and if it is `NoMemory`, the device wasn't called.
pub record IsWriteError {D : Type 0} (old new : D) (e : Error) : Type 0 where
  pub errors : (e ≡ Io) ⊎ (e ≡ NoMemory)
  pub no_memory : e ≡ NoMemory → new ≡ old
