-- The effect of a split on a pair.
use Rattle.std.specs.Prelude.{ℕ, ◌≡◌, ◌≢◌, ◌⊎◌, ◌+◌, ◌<◌, ◌%◌, ◌^◌, true, List, length, take, drop, Some}
use Rattle.lfs_model.specs.format.Blocks.{Blocks, SameExceptBlocks, block_bytes}
use Rattle.lfs_model.specs.format.Disk.{Disk, disk_block}
use Rattle.lfs_model.specs.session.History.{CallEvent, OthersStayUnprogrammed}
use Rattle.lfs_model.specs.format.Slots.{zero_gstate}
use Rattle.lfs_model.specs.format.Content.{RawContent, raw_content}
use Rattle.lfs_model.specs.layers.LoggedContent.{IsWellFormed}
use Rattle.lfs_model.specs.layers.Changes.{ContentChange}
use Rattle.lfs_model.specs.layers.WrittenContent.{RawContentFitsInPair}
use Rattle.lfs_pair.specs.FreshPair.{ErasedOneMore, HasFreshContent}
use Rattle.lfs_pair.specs.declared.pair.Pair.{Pair}
use Rattle.lfs_pair.specs.Pair.{header_address}
use Rattle.lfs_pair.specs.Commits.{IsPairAddress, CanCommit, HasNewContent, HasOldContent, KeepsFirstEntry, HasWrittenContent, changed_pair_content}
use Rattle.lfs_pair.specs.Writing.{HasOneCommit}
use Rattle.lfs_pair.specs.HalfCut.{AreSplittable, IsFittingSplit}
use Rattle.lfs_model.specs.format.Thread.{addresses_blocks}

-- The two pairs have no block in common.
pub record AreApart (at fresh : ℕ × ℕ) : Type 0 where
  pub first_first : at.0 ≢ fresh.0
  pub first_second : at.0 ≢ fresh.1
  pub second_first : at.1 ≢ fresh.0
  pub second_second : at.1 ≢ fresh.1

-- A split is possible: a commit is, the fresh pair has two blocks of the disk that aren't the old
-- pair's, and the content can be divided into two parts that each fit in a pair.
pub record CanSplitPair (disk : Disk) (history : List CallEvent) (pair : Pair) (fresh : ℕ × ℕ) (changes : List ContentChange) : Type 0 where
  pub commit : CanCommit disk history pair changes
  pub fresh_is : IsPairAddress disk fresh
  pub apart : AreApart (header_address pair) fresh
  pub cut : AreSplittable disk.block_size disk.page commit.new.slots

-- The split is possible, and the active block has these bytes.
pub record CanSplitWithBlock (disk : Disk) (history : List CallEvent) (pair : Pair) (fresh : ℕ × ℕ) (changes : List ContentChange) (block : List ℕ) : Type 0 where
  pub can : CanSplitPair disk history pair fresh changes
  pub holds : block ≡ block_bytes disk.blocks pair.active

-- The content of the old pair after a split: the first slots, a hard tail to the fresh pair, and
-- the delta of the global state.
abbrev pub split_front : RawContent → ℕ → ℕ × ℕ → RawContent
split_front c cut fresh = record { slots = take cut c.slots; tail = Some (record { hard = true; to = fresh }); move = c.move }

-- The content of the fresh pair after a split: the other slots, and the old tail.
abbrev pub split_back : RawContent → ℕ → RawContent
split_back c cut = record { slots = drop cut c.slots; tail = c.tail; move = zero_gstate }

-- If the whole content doesn't fit in one pair, both parts have slots. So the first slot stays in
-- the old pair.
abbrev pub BothHaveSlots : ℕ → ℕ → RawContent → ℕ → Type 0
BothHaveSlots block_size page whole cut = (RawContentFitsInPair block_size page whole → ⊥) → (0 < cut) × (cut < length whole.slots)

-- These are the two parts into which a split divides a content.
pub record IsContentCut (block_size page : ℕ) (whole : RawContent) (fresh : ℕ × ℕ) (front back : RawContent) : Type 0 where
  pub cut : ℕ
  pub is_cut : IsFittingSplit block_size page whole.slots cut
  pub front_is : front ≡ split_front whole cut fresh
  pub back_is : back ≡ split_back whole cut

-- The split succeeded: each pair has its part of the changed content, and each part fits.
pub record SplitsPair (old : Disk) (before : List CallEvent) (changes : List ContentChange) (was : Pair) (fresh : ℕ × ℕ) (disk : Disk) (history : List CallEvent) (pair fresh_pair : Pair) : Type 0 where
  pub new : RawContent
  pub made : changed_pair_content old (header_address was) changes ≡ Some new
  pub logged : IsWellFormed new
  pub cut : ℕ
  pub is_cut : IsFittingSplit old.block_size old.page new.slots cut
  pub inside : BothHaveSlots old.block_size old.page new cut
  pub front : HasWrittenContent disk history (header_address was) pair (split_front new cut fresh)
  pub back : HasWrittenContent disk history fresh fresh_pair (split_back new cut)
  pub first : KeepsFirstEntry old (header_address was) (Some (split_front new cut fresh)) disk
  -- The old pair's part is in the block that wasn't active, with the next revision count. The block
  -- that was active is unchanged.
  pub moved : pair.active ≢ was.active
  pub kept : disk_block disk was.active ≡ disk_block old was.active
  pub front_anew : HasOneCommit ((was.revision + 1) % 2 ^ 32) (split_front new cut fresh) (disk_block disk pair.active)
  pub back_fresh : HasFreshContent 1 (split_back new cut) disk fresh fresh_pair
  pub clears : ErasedOneMore 2 before history

-- Each pair on the disk has its part.
pub record PairsHaveParts (old : Disk) (at fresh : ℕ × ℕ) (changes : List ContentChange) (disk : Disk) : Type 0 where
  pub new : RawContent
  pub made : changed_pair_content old at changes ≡ Some new
  pub logged : IsWellFormed new
  pub cut : ℕ
  pub is_cut : IsFittingSplit old.block_size old.page new.slots cut
  pub inside : BothHaveSlots old.block_size old.page new cut
  pub front : HasNewContent old at (split_front new cut fresh) disk
  pub back : raw_content disk fresh ≡ Some (split_back new cut)

-- Only the blocks of the two pairs change.
abbrev pub KeepsOutsideBoth : ℕ × ℕ → ℕ × ℕ → Blocks → Blocks → Type 0
KeepsOutsideBoth at fresh old new = SameExceptBlocks (addresses_blocks at fresh) old new

-- The unprogrammed bytes of all other blocks stay unprogrammed.
abbrev pub OutsideBothStaysUnprogrammed : ℕ × ℕ → ℕ × ℕ → List CallEvent → List CallEvent → Type 0
OutsideBothStaysUnprogrammed at fresh old new = OthersStayUnprogrammed (addresses_blocks at fresh) old new

-- A power loss in a split leaves the old pair with its old content, or both pairs with their parts.
pub record LossLeavesSplit (old : Disk) (at fresh : ℕ × ℕ) (changes : List ContentChange) (left : Blocks) : Type 0 where
  pub others : KeepsOutsideBoth at fresh old.blocks left
  pub content : HasOldContent old at (record old { blocks = left }) ⊎ PairsHaveParts old at fresh changes (record old { blocks = left })
