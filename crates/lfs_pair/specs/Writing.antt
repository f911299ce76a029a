-- The effect of a commit on a block, and what a power loss during the commit leaves.
use Rattle.std.specs.Prelude.{ℕ, ◌≡◌, ◌≤◌, ◌<◌, ◌⊎◌, ◌+◌, ◌%◌, ◌++◌, Bool, true, List, [], ◌∷◌, take, IfErr, Result, Some, unwrap_or}
use Rattle.lfs_device.specs.declared.device.BlockDevice.{Ghosts}
use Rattle.lfs_device.specs.declared.error.Error.{Error}
use Rattle.lfs_device.specs.declared.error.Error.TheVariants.{Io}
use Rattle.lfs_device.specs.declared.geometry.Geometry.{Geometry}
use Rattle.lfs_device.specs.DeviceCalls.{ChangesOneBlock, ChangesTheseBlocks, ReportsFaults}
use Rattle.lfs_model.specs.format.Blocks.{Blocks, block_bytes, SameExcept}
use Rattle.lfs_model.specs.format.Disk.{Disk, disk_block}
use Rattle.lfs_model.specs.session.History.{AreUnprogrammed, Blank, CallEvent, call_event, blank_answer_count, erase_count, program_count, read_count}
use Rattle.lfs_model.specs.format.Tag.{tag_class}
use Rattle.lfs_model.specs.format.Log.{LogEntry, chain_of, block_revision, block_entries}
use Rattle.lfs_model.specs.format.Content.{RawContent, has_commit, content_after, empty_raw_content}
use Rattle.lfs_model.specs.layers.WrittenContent.{RawContentFitsInPair, content_entries}
use Rattle.lfs_model.specs.layers.LoggedContent.{AreNamed, IsWellFormed}
use Rattle.lfs_model.specs.crash.Stops.{SameLog, SameRevision, HasNoLog}
use Rattle.lfs_tag.specs.Builder.{IsCommitOffset, PartialCommit, earlier_commits, padded_commit_end}

-- The commit with more entries.
abbrev pub commit_with_entries : List LogEntry → PartialCommit → PartialCommit
commit_with_entries es b = record b { entries = b.entries ++ es }

-- A commit can be programmed at the offset `at` of block `b`: it fits there, it continues the
-- block's log, and the block is unprogrammed from there on.
pub record CanProgramCommit (geometry : Geometry) (blocks : Blocks) (history : List CallEvent) (builder : PartialCommit) (b at : ℕ) : Type 0 where
  pub in_device : b < geometry.block_count
  pub begins : at % geometry.page ≡ 0
  pub page : builder.page ≡ geometry.page
  pub room : padded_commit_end builder ≤ builder.room
  pub ends : at + padded_commit_end builder ≤ geometry.block_size
  pub goes : IsCommitOffset builder.revision builder.previous (block_bytes blocks b) at
  pub unprogrammed : AreUnprogrammed history b at geometry.block_size

-- A commit can be programmed at the offset `at` of block `b`, and the block has these bytes.
pub record CanAppendCommit (geometry : Geometry) (blocks : Blocks) (history : List CallEvent) (builder : PartialCommit) (b at : ℕ) (bytes : List ℕ) : Type 0 where
  pub can : CanProgramCommit geometry blocks history builder b at
  pub holds : bytes ≡ block_bytes blocks b

-- A content can be written to block `b` as its first commit, with a buffer of one block's size.
pub record CanWriteAnew (geometry : Geometry) (b : ℕ) (c : RawContent) (len : ℕ) : Type 0 where
  pub in_device : b < geometry.block_count
  pub buf : len ≡ geometry.block_size
  pub logged : IsWellFormed c
  pub names : AreNamed c.slots
  pub fits : RawContentFitsInPair geometry.block_size geometry.page c

-- The block's log ends at the offset `end`, a page boundary, and its last tag is `last`. The rest
-- of the block is unprogrammed.
pub record EndsBeforeUnprogrammed (disk : Disk) (history : List CallEvent) (block end last : ℕ) : Type 0 where
  pub end_is : end ≡ (chain_of (disk_block disk block)).end
  pub last_is : last ≡ (chain_of (disk_block disk block)).last
  pub whole_pages : end % disk.page ≡ 0
  pub unprogrammed : AreUnprogrammed history block end disk.block_size

-- The block's new log has its earlier commits, then the commit `b`.
pub record LogGetsCommit (b : PartialCommit) (old new : List ℕ) : Type 0 where
  pub checksum : LogEntry
  pub class : tag_class checksum.tag ≡ 5
  pub commits : (chain_of new).commits ≡ earlier_commits b.revision old ++ (b.entries ++ checksum ∷ []) ∷ []
  pub revision : block_revision new ≡ unwrap_or b.revision (block_revision old)

-- The block gets the commit `b` from offset `at` to offset `end`. Its bytes before `at` are
-- unchanged.
pub record BlockGetsCommit (b : PartialCommit) (at end : ℕ) (old new : List ℕ) : Type 0 where
  pub commit : LogGetsCommit b old new
  pub end_is : end ≡ at + padded_commit_end b
  pub kept : take at new ≡ take at old

-- Bytes in memory get the commit `b` from offset `at` to offset `end`, and are then the bytes of
-- the block.
pub record BytesGetCommit (b : PartialCommit) (at end : ℕ) (old new block : List ℕ) : Type 0 where
  pub gets : BlockGetsCommit b at end old new
  pub same : new ≡ block

-- A power loss in the program of a commit leaves the log without it or with it. At offset 0, it may
-- leave no log.
abbrev pub LossLeavesCommit : PartialCommit → ℕ → List ℕ → List ℕ → Type 0
LossLeavesCommit b off old left = SameLog left old ⊎ (((off ≡ 0) × HasNoLog left) ⊎ LogGetsCommit b old left)

-- The block's log is one commit with the entries that a compaction of this content writes.
pub record HasOneCommit (revision : ℕ) (c : RawContent) (block : List ℕ) : Type 0 where
  pub has_commit : has_commit block ≡ true
  pub revision_is : block_revision block ≡ revision
  pub content : content_after empty_raw_content (block_entries block) ≡ Some c
  pub checksum : LogEntry
  pub class : tag_class checksum.tag ≡ 5
  pub commits : (chain_of block).commits ≡ (content_entries c ++ checksum ∷ []) ∷ []

-- The device had one blank check, and answered yes or failed.
pub record SaysBlank {D : Type 0} (g : Ghosts D) (old new : D) : Type 0 where
  pub block : ℕ
  pub off : ℕ
  pub len : ℕ
  pub failed : Bool
  pub word : g.history new ≡ call_event (Blank block off len) (g.blocks old) (g.blocks new) failed ∷ g.history old

-- The device had at most one blank check, and no other call.
pub record OnlyAsksBlank {D : Type 0} (g : Ghosts D) (old new : D) : Type 0 where
  pub same : g.blocks new ≡ g.blocks old
  pub geometry : g.geometry new ≡ g.geometry old
  pub asked : (g.history new ≡ g.history old) ⊎ SaysBlank g old new

-- The calls were one program, any number of reads, no erase and no blank check.
pub record ProgramsOnce (before after : List CallEvent) : Type 0 where
  pub erases : erase_count after ≡ erase_count before
  pub programs : program_count after ≡ program_count before + 1
  pub blanks : blank_answer_count after ≡ blank_answer_count before

-- A block was erased once and programmed once, and its log is one commit with this content.
pub record IsWrittenAnew (revision : ℕ) (c : RawContent) (block : List ℕ) (before after : List CallEvent) : Type 0 where
  pub holds : HasOneCommit revision c block
  pub erases : erase_count after ≡ erase_count before + 1
  pub programs : program_count after ≡ program_count before + 1
  pub blanks : blank_answer_count after ≡ blank_answer_count before

-- A power loss while a block is erased and written leaves a log with the old revision count, no
-- log, or the new content.
abbrev pub LossLeavesRewritten : ℕ → RawContent → List ℕ → List ℕ → Type 0
LossLeavesRewritten revision c old left = SameRevision left old ⊎ (HasNoLog left ⊎ HasOneCommit revision c left)

-- Only block `b` differs, and its old and new bytes are related by `P`.
abbrev pub DiffersInBlock : ℕ → (List ℕ → List ℕ → Type 0) → Blocks → Blocks → Type 0
DiffersInBlock b P old left = SameExcept b old left × P (block_bytes old b) (block_bytes left b)

-- Only the blocks `bs` change, and the device is read at most `most` times.
pub record ChangesReadingFew {D : Type 0} (g : Ghosts D) (most : ℕ) (bs : List ℕ) (old new : D) : Type 0 where
  pub only : ChangesTheseBlocks g bs old new
  pub few : read_count (g.history new) ≤ read_count (g.history old) + most

-- Only block `b` is written, and the device is read at most `most` times. The only error is `Io`,
-- returned if and only if the device had a fault.
pub record WritesOnlyBlock {D X : Type 0} (g : Ghosts D) (most b : ℕ) (old new : D) (result : Result X Error) : Type 0 where
  pub device : ChangesOneBlock g b old new
  pub few : read_count (g.history new) ≤ read_count (g.history old) + most
  pub errors : IfErr result (λ e. e ≡ Io)
  pub faults : ReportsFaults g old new result

-- Only the blocks `bs` are written, and the device is read at most `most` times. The only error is
-- `Io`, returned if and only if the device had a fault.
pub record WritesTheseBlocks {D X : Type 0} (g : Ghosts D) (most : ℕ) (bs : List ℕ) (old new : D) (result : Result X Error) : Type 0 where
  pub device : ChangesTheseBlocks g bs old new
  pub few : read_count (g.history new) ≤ read_count (g.history old) + most
  pub errors : IfErr result (λ e. e ≡ Io)
  pub faults : ReportsFaults g old new result
