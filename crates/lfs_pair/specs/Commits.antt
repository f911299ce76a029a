-- The effect of a commit on a pair.
use Rattle.std.specs.Prelude.{ℕ, ◌≡◌, ◌≢◌, ◌⊎◌, ◌+◌, ◌%◌, ◌^◌, ◌++◌, ◌<◌, ◌≤◌, false, List, [], ◌∷◌, take, slice_get, Option, Some, None}
use Rattle.std.specs.Option.{option_and_then}
use Rattle.lfs_device.specs.declared.device.BlockDevice.{Ghosts}
use Rattle.lfs_device.specs.declared.error.Error.{Error}
use Rattle.lfs_device.specs.declared.geometry.Geometry.{Geometry}
use Rattle.lfs_device.specs.declared.error.Error.TheVariants.{Io, NoMemory}
use Rattle.lfs_device.specs.DeviceCalls.{ReadsOnly}
use Rattle.lfs_device.specs.DeviceDisk.{disk_of_blocks}
use Rattle.lfs_model.specs.format.Blocks.{Blocks, SameExcept, SameExceptBlocks, block_bytes}
use Rattle.lfs_model.specs.format.Disk.{Disk, disk_block, block_count}
use Rattle.lfs_model.specs.session.History.{CallEvent, AreUnprogrammed, OthersStayUnprogrammed, blank_answer_count, erase_count, program_count}
use Rattle.lfs_model.specs.format.Log.{LogEntry, chain_of, block_entries, block_revision}
use Rattle.lfs_model.specs.layers.LoggedContent.{AreNamed, IsWellFormed}
use Rattle.lfs_model.specs.format.Slots.{PairContent, FitsInPair}
use Rattle.lfs_model.specs.format.Content.{RawContent, decoded_content, current_block, raw_content, content_after, empty_raw_content}
use Rattle.lfs_model.specs.tree.View.{HasFirstLogEntry}
use Rattle.lfs_model.specs.layers.Changes.{ContentChange, content_with_changes, entries_of_changes}
use Rattle.lfs_model.specs.layers.Commit.{encoded_size, aligned_commit_end}
use Rattle.lfs_model.specs.layers.WrittenContent.{RawContentFitsInPair, content_entries}
use Rattle.lfs_model.specs.format.Tag.{tag_class}
use Rattle.lfs_pair.specs.Writing.{IsWrittenAnew}
use Rattle.lfs_pair.specs.declared.pair.Pair.{Pair}
use Rattle.lfs_pair.specs.Pair.{IsTrueHeader, IsWrittenHeader, active_block_at, header_address}
use Rattle.lfs_model.specs.format.Thread.{address_blocks}

-- There is a content, and the log that a compaction of it writes begins with the entry `e`.
abbrev pub BeginsWithEntry : Option RawContent → LogEntry → Type 0
BeginsWithEntry None e = ⊥
BeginsWithEntry (Some c) e = slice_get (content_entries c) 0 ≡ Some e

-- If the old log began with an entry, and a compaction of the new content would begin with it too,
-- the log on the new disk begins with that entry.
abbrev pub KeepsFirstEntry : Disk → ℕ × ℕ → Option RawContent → Disk → Type 0
KeepsFirstEntry old at new disk = (e : LogEntry) → HasFirstLogEntry (current_block old at) e → BeginsWithEntry new e → HasFirstLogEntry (current_block disk at) e

-- The pair has its old content, and its log begins with the same entry as before.
pub record HasOldContent (old : Disk) (at : ℕ × ℕ) (disk : Disk) : Type 0 where
  pub content : raw_content disk at ≡ raw_content old at
  pub first : (e : LogEntry) → HasFirstLogEntry (current_block old at) e → HasFirstLogEntry (current_block disk at) e

-- The pair has the content `new`.
pub record HasNewContent (old : Disk) (at : ℕ × ℕ) (new : RawContent) (disk : Disk) : Type 0 where
  pub content : raw_content disk at ≡ Some new
  pub first : KeepsFirstEntry old at (Some new) disk

-- The address has two different blocks of the disk.
pub record IsPairAddress (disk : Disk) (at : ℕ × ℕ) : Type 0 where
  pub apart : at.0 ≢ at.1
  pub first : at.0 < block_count disk
  pub second : at.1 < block_count disk

-- The content after changes to the content `held`, if there is one.
abbrev pub content_after_changes : Option RawContent → List ContentChange → Option RawContent
content_after_changes held changes = option_and_then (λ c. content_with_changes c changes) held

-- The content after changes to the content of a block's log.
abbrev pub changed_log_content : List ℕ → List ContentChange → Option RawContent
changed_log_content block changes = content_after_changes (content_after empty_raw_content (block_entries block)) changes

-- The content after changes to the content of the pair at an address.
abbrev pub changed_pair_content : Disk → ℕ × ℕ → List ContentChange → Option RawContent
changed_pair_content disk at changes = content_after_changes (raw_content disk at) changes

-- A commit is possible: the disk has the pair that the header describes, the log allows each
-- change, and every slot has a name afterwards.
pub record CanCommit (disk : Disk) (history : List CallEvent) (pair : Pair) (changes : List ContentChange) : Type 0 where
  pub address : IsPairAddress disk (header_address pair)
  pub held : RawContent
  pub is_pair : IsTrueHeader disk history pair held
  pub new : RawContent
  pub changed : content_with_changes held changes ≡ Some new
  pub names : AreNamed new.slots

-- The header has the right active block and revision count.
pub record HeaderSaysActive (disk : Disk) (pair : Pair) : Type 0 where
  pub active : pair.active ≡ active_block_at disk (header_address pair)
  pub holds : current_block disk (header_address pair) ≡ Some (disk_block disk pair.active)
  pub revision_is : pair.revision ≡ block_revision (disk_block disk pair.active)

-- The commit is possible, and the active block has these bytes.
pub record CanCommitWithBlock (disk : Disk) (history : List CallEvent) (pair : Pair) (changes : List ContentChange) (block : List ℕ) : Type 0 where
  pub can : CanCommit disk history pair changes
  pub holds : block ≡ block_bytes disk.blocks pair.active

-- The commit is possible, the active block has these bytes, and the buffer has one block's size.
-- These are the conditions of an append.
pub record CanAppendChanges (disk : Disk) (history : List CallEvent) (pair : Pair) (block : List ℕ) (changes : List ContentChange) (len : ℕ) : Type 0 where
  pub can : CanCommit disk history pair changes
  pub holds : block ≡ block_bytes disk.blocks pair.active
  pub buf : len ≡ disk.block_size

-- A compaction is possible: the disk has the pair, the content can be written and fits, and the
-- buffer has one block's size.
pub record CanCompact (disk : Disk) (pair : Pair) (c : RawContent) (len : ℕ) : Type 0 where
  pub address : IsPairAddress disk (header_address pair)
  pub active : HeaderSaysActive disk pair
  pub buf : len ≡ disk.block_size
  pub logged : IsWellFormed c
  pub names : AreNamed c.slots
  pub fits : RawContentFitsInPair disk.block_size disk.page c

-- The pair at the address has this content, and was written to since it was fetched.
pub record HasWrittenContent (disk : Disk) (history : List CallEvent) (at : ℕ × ℕ) (pair : Pair) (held : RawContent) : Type 0 where
  pub is_pair : IsTrueHeader disk history pair held
  pub same : header_address pair ≡ at
  pub content : raw_content disk at ≡ Some held
  pub written : pair.is_fetched ≡ false

-- The rest of the block after the pair's log is known to be unprogrammed: the pair was written to
-- since it was fetched, or the device has confirmed it.
abbrev pub IsEndUnprogrammed : List CallEvent → List CallEvent → Pair → Type 0
IsEndUnprogrammed before after pair = (pair.is_fetched ≡ false) ⊎ (blank_answer_count before < blank_answer_count after)

-- The log ends on a page boundary, and the rest of the block is known to be unprogrammed.
pub record IsEndBlank (geometry : Geometry) (before after : List CallEvent) (pair : Pair) : Type 0 where
  pub known : IsEndUnprogrammed before after pair
  pub whole_pages : pair.end % geometry.page ≡ 0
  pub unprogrammed : AreUnprogrammed after pair.active pair.end geometry.block_size

-- The changes can be appended: the rest of the block is known to be unprogrammed, and the padded
-- commit ends within the block.
pub record AppendFits (disk : Disk) (before after : List CallEvent) (pair : Pair) (changes : List ContentChange) : Type 0 where
  pub known : IsEndUnprogrammed before after pair
  pub room : pair.end + aligned_commit_end disk.page (encoded_size (entries_of_changes changes)) ≤ disk.block_size

-- The block's log has one more commit, with the entries `es`, whose length is padded to whole
-- pages.
pub record LogGetsEntries (page : ℕ) (es : List LogEntry) (old new : List ℕ) : Type 0 where
  pub checksum : LogEntry
  pub class : tag_class checksum.tag ≡ 5
  pub commits : (chain_of new).commits ≡ (chain_of old).commits ++ (es ++ checksum ∷ []) ∷ []
  pub end : (chain_of new).end ≡ (chain_of old).end + aligned_commit_end page (encoded_size es)

-- A commit was appended: with one program and no erase, which changed only the active block, and
-- none of its bytes before the old end.
pub record IsCommitAppended (page : ℕ) (was : Pair) (changes : List ContentChange) (old new : Blocks) (before after : List CallEvent) (pair : Pair) : Type 0 where
  pub active : pair.active ≡ was.active
  pub log : LogGetsEntries page (entries_of_changes changes) (block_bytes old was.active) (block_bytes new was.active)
  pub others : SameExcept was.active old new
  pub erases : erase_count after ≡ erase_count before
  pub programs : program_count after ≡ program_count before + 1
  pub kept : take was.end (block_bytes new was.active) ≡ take was.end (block_bytes old was.active)

-- The pair was compacted: with one erase, its content was written to the block that wasn't active,
-- with the next revision count and padded to whole pages. The block that was active is unchanged.
pub record IsPairRewritten (page : ℕ) (was : Pair) (c : RawContent) (old new : Blocks) (before after : List CallEvent) (pair : Pair) : Type 0 where
  pub active : pair.active ≢ was.active
  pub anew : IsWrittenAnew ((was.revision + 1) % 2 ^ 32) c (block_bytes new pair.active) before after
  pub end : pair.end ≡ aligned_commit_end page (4 + encoded_size (content_entries c))
  pub kept : block_bytes new was.active ≡ block_bytes old was.active

-- The changes could be appended, and were. The pair has the content `c`, and its log begins as
-- before.
pub record AppendsChanges (old : Disk) (before : List CallEvent) (was : Pair) (changes : List ContentChange) (c : RawContent) (disk : Disk) (history : List CallEvent) (pair : Pair) : Type 0 where
  pub holds : HasWrittenContent disk history (header_address was) pair c
  pub first : KeepsFirstEntry old (header_address was) (Some c) disk
  pub appends : AppendFits old before history was changes
  pub appended : IsCommitAppended old.page was changes old.blocks disk.blocks before history pair

-- The changes could be appended, and were: any header with the changed content, and with this end
-- and last tag, describes the pair.
abbrev pub AppendsByHeader : Disk → List CallEvent → Pair → List ContentChange → Disk → List CallEvent → ℕ → ℕ → Type 0
AppendsByHeader old before was changes disk history end last = (c : RawContent) (pair : Pair) → changed_pair_content old (header_address was) changes ≡ Some c → IsWellFormed c
    → IsWrittenHeader (header_address was) was.active was.revision end last c pair → AppendsChanges old before was changes c disk history pair

-- The changes can't be appended, and neither the blocks, the calls nor the header have changed.
pub record RefusesAppend {D : Type 0} (g : Ghosts D) (changes : List ContentChange) (old new : D) (was now : Pair) : Type 0 where
  pub no_room : AppendFits (disk_of_blocks (g.geometry old) (g.blocks old)) (g.history old) (g.history new) was changes → ⊥
  pub blocks : g.blocks new ≡ g.blocks old
  pub geometry : g.geometry new ≡ g.geometry old
  pub history : g.history new ≡ g.history old
  pub pair : now ≡ was

-- The pair was compacted: it has the content `c`, and its log begins as before.
pub record CompactsContent (old : Disk) (before : List CallEvent) (was : Pair) (c : RawContent) (disk : Disk) (history : List CallEvent) (pair : Pair) : Type 0 where
  pub holds : HasWrittenContent disk history (header_address was) pair c
  pub first : KeepsFirstEntry old (header_address was) (Some c) disk
  pub compacted : IsPairRewritten old.page was c old.blocks disk.blocks before history pair

-- The commit succeeded: the changed content fits in the pair, and the pair has it. It was appended
-- if possible, otherwise the pair was compacted.
pub record CommitsChanges (old : Disk) (before : List CallEvent) (changes : List ContentChange) (was : Pair) (disk : Disk) (history : List CallEvent) (pair : Pair) : Type 0 where
  pub new : RawContent
  pub made : changed_pair_content old (header_address was) changes ≡ Some new
  pub fits : RawContentFitsInPair old.block_size old.page new
  pub logged : IsWellFormed new
  pub holds : HasWrittenContent disk history (header_address was) pair new
  pub first : KeepsFirstEntry old (header_address was) (Some new) disk
  pub appended : AppendFits old before history was changes → IsCommitAppended old.page was changes old.blocks disk.blocks before history pair
  pub compacted : (AppendFits old before history was changes → ⊥) → IsPairRewritten old.page was new old.blocks disk.blocks before history pair

-- The commit was refused: the changed content doesn't fit in the pair, neither as the content of a
-- log nor, if every slot is complete, as slots. The header is unchanged, and nothing was written.
pub record RefusesCommit {D : Type 0} (g : Ghosts D) (changes : List ContentChange) (old new : D) (was now : Pair) : Type 0 where
  pub full : (c : RawContent) → changed_pair_content (disk_of_blocks (g.geometry old) (g.blocks old)) (header_address was) changes ≡ Some c → RawContentFitsInPair (g.geometry old).block_size (g.geometry old).page c → ⊥
  pub completed : (c : RawContent) (d : PairContent) → changed_pair_content (disk_of_blocks (g.geometry old) (g.blocks old)) (header_address was) changes ≡ Some c → decoded_content c ≡ Some d
      → FitsInPair (g.geometry old).block_size (g.geometry old).page d → ⊥
  pub pair : now ≡ was
  pub device : ReadsOnly g old new

-- The commit failed with `Io` or `NoMemory`. The header is unchanged, and if the error is
-- `NoMemory`, nothing was written.
pub record CommitFails {D : Type 0} (g : Ghosts D) (old new : D) (was now : Pair) (e : Error) : Type 0 where
  pub errors : (e ≡ Io) ⊎ (e ≡ NoMemory)
  pub pair : now ≡ was
  pub no_memory : e ≡ NoMemory → ReadsOnly g old new

-- Only the pair's blocks change.
abbrev pub KeepsOutsidePair : ℕ × ℕ → Blocks → Blocks → Type 0
KeepsOutsidePair at old new = SameExceptBlocks (address_blocks at) old new

-- The unprogrammed bytes of all other blocks stay unprogrammed.
abbrev pub OutsideStaysUnprogrammed : ℕ × ℕ → List CallEvent → List CallEvent → Type 0
OutsideStaysUnprogrammed at old new = OthersStayUnprogrammed (address_blocks at) old new

-- A power loss leaves other blocks unchanged, and the pair with its old content or with the content
-- `new`.
pub record LossLeavesNew (old : Disk) (at : ℕ × ℕ) (new : RawContent) (left : Blocks) : Type 0 where
  pub others : KeepsOutsidePair at old.blocks left
  pub content : HasOldContent old at (record old { blocks = left }) ⊎ HasNewContent old at new (record old { blocks = left })

-- The pair has the changed content, which fits.
pub record HasChangedContent (old : Disk) (at : ℕ × ℕ) (changes : List ContentChange) (disk : Disk) : Type 0 where
  pub new : RawContent
  pub made : changed_pair_content old at changes ≡ Some new
  pub fits : RawContentFitsInPair old.block_size old.page new
  pub logged : IsWellFormed new
  pub now : HasNewContent old at new disk

-- A power loss in a commit leaves other blocks unchanged, and the pair with its old content or the
-- changed one.
pub record LossLeavesChanged (old : Disk) (at : ℕ × ℕ) (changes : List ContentChange) (left : Blocks) : Type 0 where
  pub others : KeepsOutsidePair at old.blocks left
  pub content : HasOldContent old at (record old { blocks = left }) ⊎ HasChangedContent old at changes (record old { blocks = left })
