-- The header of a pair, and when it agrees with the disk.
use Rattle.std.specs.Prelude.{ℕ, ◌≡◌, ◌≢◌, ◌<◌, ◌==◌, ◌%◌, ◌&&◌, ◌||◌, not, Bool, true, false, if◌then◌else◌, List, length, Some, is_some}
use Rattle.std.specs.Option.{option_map}
use Rattle.lfs_model.specs.format.Disk.{Disk, disk_block}
use Rattle.lfs_model.specs.session.History.{CallEvent, AreUnprogrammed}
use Rattle.lfs_model.specs.format.Log.{chain_of, block_revision, block_entries}
use Rattle.lfs_model.specs.format.Slots.{address_of_array}
use Rattle.lfs_model.specs.format.Content.{RawContent, has_commit, current_block, is_later, content_after, empty_raw_content, raw_content, decoded_content}
use Rattle.lfs_model.specs.layers.LoggedContent.{IsWellFormed}
use Rattle.lfs_tag.specs.ContentView.{tail_view}
use Rattle.lfs_tag.specs.FieldsView.{move_view}
use Rattle.lfs_pair.specs.declared.pair.Pair.{Pair}

-- The address of the pair that the header describes.
abbrev pub header_address : Pair → ℕ × ℕ
header_address pair = address_of_array pair.blocks

-- The address has two different blocks of a device with `count` blocks.
pub record AreTwoBlocks (count : ℕ) (at : ℕ × ℕ) : Type 0 where
  pub apart : at.0 ≢ at.1
  pub first : at.0 < count
  pub second : at.1 < count

-- The block of a pair that isn't active.
abbrev pub opposite_block : ℕ × ℕ → ℕ → ℕ
opposite_block at active = if active == at.0 then at.1 else at.0

-- The block of the header's pair that isn't active.
abbrev pub header_inactive_block : Pair → ℕ
header_inactive_block pair = opposite_block (header_address pair) pair.active

-- The header has the content's number of slots, its tail and its delta of the global state, and
-- says whether every slot is complete.
pub record IsContentHeader (c : RawContent) (pair : Pair) : Type 0 where
  pub slot_count : pair.slot_count ≡ length c.slots
  pub tail : option_map tail_view pair.tail ≡ c.tail
  pub move : move_view pair.move_state ≡ c.move
  pub complete : pair.is_complete ≡ is_some (decoded_content c)

-- The header `now` describes this content, and has the blocks, the active block and the revision
-- count of the header `was`.
pub record IsHeaderWith (c : RawContent) (was now : Pair) : Type 0 where
  pub sums : IsContentHeader c now
  pub blocks : header_address now ≡ header_address was
  pub active : now.active ≡ was.active
  pub revision : now.revision ≡ was.revision

-- The header has this end and this last tag of the log.
pub record HeaderHasEnd (end last : ℕ) (pair : Pair) : Type 0 where
  pub end_is : pair.end ≡ end
  pub last_is : pair.last ≡ last

-- The header describes a pair whose active block was just written: its content is `c`, and its log
-- ends at `end`.
pub record IsWrittenHeader (at : ℕ × ℕ) (block number end last : ℕ) (c : RawContent) (pair : Pair) : Type 0 where
  pub blocks : header_address pair ≡ at
  pub active : pair.active ≡ block
  pub revision : pair.revision ≡ number
  pub ends : HeaderHasEnd end last pair
  pub sums : IsContentHeader c pair
  pub fetched : pair.is_fetched ≡ false

-- The log of the block has the content `held`, and the header describes both.
pub record HeaderDescribesLog (block : List ℕ) (pair : Pair) (held : RawContent) : Type 0 where
  pub content : content_after empty_raw_content (block_entries block) ≡ Some held
  pub end : pair.end ≡ (chain_of block).end
  pub last : pair.last ≡ (chain_of block).last
  pub revision : pair.revision ≡ block_revision block
  pub sums : IsContentHeader held pair
  pub logged : IsWellFormed held

-- Whether block `b` is active rather than `a`: it has a commit, and `a` has none or an earlier
-- revision count.
abbrev pub is_second_active : List ℕ → List ℕ → Bool
is_second_active a b = has_commit b && (not (has_commit a) || is_later (block_revision a) (block_revision b))

-- The blocks of the pair, the one with the later revision count first, or in their original order
-- if neither is later.
abbrev pub later_block_first : Disk → ℕ × ℕ → ℕ × ℕ
later_block_first disk at = if is_later (block_revision (disk_block disk at.0)) (block_revision (disk_block disk at.1)) then (at.1, at.0) else at

-- The number of reads of a fetch: both revision counts, the block with the later one, and the other
-- block if that one has no commit.
abbrev pub fetch_reads : Disk → ℕ × ℕ → ℕ
fetch_reads disk at = if has_commit (disk_block disk (later_block_first disk at).0) then 3 else 4

-- The active block of the pair, or the first block if neither has a commit.
abbrev pub active_block_at : Disk → ℕ × ℕ → ℕ
active_block_at disk at = if is_second_active (disk_block disk at.0) (disk_block disk at.1) then at.1 else at.0

-- The header agrees with the disk, and the pair has the content `held`. If the pair was written to
-- since it was fetched, the rest of the active block after the log is unprogrammed.
pub record IsTrueHeader (disk : Disk) (history : List CallEvent) (pair : Pair) (held : RawContent) : Type 0 where
  pub active : pair.active ≡ active_block_at disk (header_address pair)
  pub holds : current_block disk (header_address pair) ≡ Some (disk_block disk pair.active)
  pub describes : HeaderDescribesLog (disk_block disk pair.active) pair held
  pub whole_pages : pair.is_fetched ≡ false → pair.end % disk.page ≡ 0
  pub unprogrammed : pair.is_fetched ≡ false → AreUnprogrammed history pair.active pair.end disk.block_size

-- The header is the one that a fetch of the pair at the address returns.
pub record FetchFinds (disk : Disk) (history : List CallEvent) (address : ℕ × ℕ) (pair : Pair) : Type 0 where
  pub held : RawContent
  pub is_pair : IsTrueHeader disk history pair held
  pub at : header_address pair ≡ address
  pub content : raw_content disk address ≡ Some held
  pub fetched : pair.is_fetched ≡ true
