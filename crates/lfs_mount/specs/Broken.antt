-- The rule that a pair of the pass breaks, and its slot.
use Rattle.std.specs.Prelude.{ℕ, ◌≡◌, ◌⊎◌, true, false, List, Option, Some, None, slice_get, take}
use Rattle.std.specs.List.{flat_map}
use Rattle.std.specs.Option.{option_and_then, option_map}
use Rattle.lfs_model.specs.layers.BlockSets.{BlockStates}
use Rattle.lfs_model.specs.format.Content.{RawSlot, content_after, empty_raw_content}
use Rattle.lfs_model.specs.format.Disk.{Disk, disk_block}
use Rattle.lfs_model.specs.format.Log.{block_entries}
use Rattle.lfs_model.specs.format.SkipLists.{IsSkipList}
use Rattle.lfs_model.specs.declared.violations.Violation.{Violation}
use Rattle.lfs_model.specs.declared.violations.Violation.TheVariants as violation
use Rattle.lfs_tag.specs.KindView.{is_superblock_name}
use Rattle.lfs_mount.specs.DirectoryEntries.{IsNoEntryAt, raw_slot_entry}
use Rattle.lfs_mount.specs.Marking.{MarksFreeBlocksUsed, FirstNonFreeBlockIs, list_heads_and_sizes, list_blocks_backwards, list_head_and_size}
use Rattle.lfs_mount.specs.Taken.{entry_slot_id, slots_without_moved, slots_without_superblock, raw_entry_slots}
use Rattle.lfs_mount.specs.declared.pass.DirectoryPairHeader.{DirectoryPairHeader}

-- ---- slots before some are removed

abbrev pub raw_block_slots : List ℕ → Option (List RawSlot)
raw_block_slots block = option_map (λ c. c.slots) (content_after empty_raw_content (block_entries block))

abbrev pub block_entry_slots : DirectoryPairHeader → List ℕ → Option (List RawSlot)
block_entry_slots m block = option_and_then (raw_entry_slots m) (raw_block_slots block)

abbrev pub IsSuperblockOrNone : Option RawSlot → Type 0
IsSuperblockOrNone None = Unit {0}
IsSuperblockOrNone (Some s) = is_superblock_name s.name ≡ true

-- the slot that a set move names doesn't exist, or is a superblock's
abbrev pub IsInvalidMoveSource : Option RawSlot → Violation → Type 0
IsInvalidMoveSource slot v = (v ≡ violation.Move) × IsSuperblockOrNone slot

-- The slot isn't a superblock's, and holds no entry.
abbrev pub IsInvalidEntryAt : List ℕ → ℕ → List RawSlot → Violation → Type 0
IsInvalidEntryAt at id slots v = (v ≡ violation.Entry at id) × (s : RawSlot) × ((slice_get slots id ≡ Some s) × (is_superblock_name s.name ≡ false) × (raw_slot_entry s ≡ None))

-- the slot that a set move names holds no entry
abbrev pub HasInvalidMovedSlot : DirectoryPairHeader → List RawSlot → Violation → Type 0
HasInvalidMovedSlot m slots v = (id : ℕ) × ((m.moved ≡ Some id) × (IsInvalidMoveSource (slice_get slots id) v ⊎ IsInvalidEntryAt m.at id slots v))

abbrev pub LacksSuperblock : DirectoryPairHeader → List RawSlot → Type 0
LacksSuperblock m slots = (mid : List RawSlot) × ((slots_without_moved m.moved slots ≡ Some mid) × (slots_without_superblock m.has_superblock mid ≡ None))

-- The slot that a set move names holds no entry; or the block has no content, or lacks the superblock, which no described pair
-- does.
abbrev pub HasInvalidBlockSlots : DirectoryPairHeader → List ℕ → Violation → Type 0
HasInvalidBlockSlots m block v = (raw_block_slots block ≡ None)
    ⊎ ((slots : List RawSlot) × ((raw_block_slots block ≡ Some slots) × (HasInvalidMovedSlot m slots v ⊎ LacksSuperblock m slots)))

-- ---- slots that are kept

-- the kept slot at an index holds no entry
abbrev pub HasInvalidEntrySlot : DirectoryPairHeader → List RawSlot → Violation → Type 0
HasInvalidEntrySlot m kept v = (index : ℕ) × ((v ≡ violation.Entry m.at (entry_slot_id m index)) × IsNoEntryAt kept index)

-- the kept slot at an index has this list
pub record IsSlotList (kept : List RawSlot) (index : ℕ) (l : ℕ × ℕ) : Type 0 where
  pub slot : RawSlot
  pub there : slice_get kept index ≡ Some slot
  pub list : option_and_then list_head_and_size (raw_slot_entry slot) ≡ Some l

-- the blocks of the lists of the slots before an index
abbrev pub list_blocks_before : Disk → List RawSlot → ℕ → List ℕ
list_blocks_before disk kept index = flat_map (list_blocks_backwards disk) (list_heads_and_sizes (take index kept))

-- the list is well formed, and this block of it was used already
abbrev pub ListHasUsedBlock : Disk → BlockStates → ℕ × ℕ → ℕ → Type 0
ListHasUsedBlock disk old l block = IsSkipList disk.blocks disk.block_size l.0 l.1 × FirstNonFreeBlockIs old (list_blocks_backwards disk l) block

-- the list of a slot isn't well formed, or a block of it was used already
abbrev pub IsInvalidOrSharedList : Disk → BlockStates → ℕ × ℕ → List ℕ → ℕ → Violation → Type 0
IsInvalidOrSharedList disk old l at slot v = ((v ≡ violation.List at slot) × ¬ IsSkipList disk.blocks disk.block_size l.0 l.1)
    ⊎ ((block : ℕ) × ((v ≡ violation.TwoOwners at slot block) × ListHasUsedBlock disk old l block))

-- the same for a kept slot, once the lists of the slots before it are marked
pub record HasInvalidOrSharedList (disk : Disk) (m : DirectoryPairHeader) (old : BlockStates) (kept : List RawSlot) (v : Violation) : Type 0 where
  pub index : ℕ
  pub l : ℕ × ℕ
  pub is : IsSlotList kept index l
  pub mid : BlockStates
  pub before : MarksFreeBlocksUsed old (list_blocks_before disk kept index) mid
  pub breaks : IsInvalidOrSharedList disk mid l m.at (entry_slot_id m index) v

-- ---- a pair

-- A pair breaks the rule, if the used blocks of `sets` were marked before.
abbrev pub PairBreaksRule : Disk → DirectoryPairHeader → BlockStates → Violation → Type 0
PairBreaksRule disk m sets v = HasInvalidBlockSlots m (disk_block disk m.active) v
    ⊎ ((kept : List RawSlot) × ((block_entry_slots m (disk_block disk m.active) ≡ Some kept) × (HasInvalidEntrySlot m kept v ⊎ HasInvalidOrSharedList disk m sets kept v)))
