-- The blocks of files, marked in the block map.
use Rattle.std.specs.Prelude.{Option, None, All, reverse, ℕ, ◌≡◌, ◌⊎◌, ◌<◌, List, [], ◌∷◌, Some, length, nat_eq, slice_get, slice_set}
use Rattle.std.specs.List.{IsDistinct, filter_map, flat_map}
use Rattle.std.specs.Option.{option_and_then}
use Rattle.lfs_model.specs.format.Disk.{Disk}
use Rattle.lfs_model.specs.format.Content.{RawSlot}
use Rattle.lfs_model.specs.format.SkipLists.{IsSkipList, blocks_to_head, skip_list_block_count}
use Rattle.lfs_mount.specs.DirectoryEntries.{NamedReference, InSlot, InList, Below, raw_slot_entry}
use Rattle.lfs_model.specs.layers.BlockSets.{BlockStates, IsFree}
use Rattle.lfs_model.specs.layers.BlockSets.BlockState.{Used}

-- Each block was free, and is used afterwards. A block that occurs twice isn't free the second time.
abbrev pub MarksFreeBlocksUsed : BlockStates → List ℕ → BlockStates → Type 0
MarksFreeBlocksUsed old [] new = old ≡ new
MarksFreeBlocksUsed old (b ∷ bs) new = IsFree old b × MarksFreeBlocksUsed (slice_set old b Used) bs new

-- The blocks before this one were free, and this one wasn't once they were marked.
abbrev pub FirstNonFreeBlockIs : BlockStates → List ℕ → ℕ → Type 0
FirstNonFreeBlockIs old [] block = ⊥
FirstNonFreeBlockIs old (b ∷ bs) block = ((b ≡ block) × ¬ IsFree old b) ⊎ (IsFree old b × FirstNonFreeBlockIs (slice_set old b Used) bs block)

-- A walk marks one block. `before` and `after` are the first block so far that wasn't free, if any.
pub record MarksBlockIfFree (old : BlockStates) (before : Option ℕ) (b : ℕ) (new : BlockStates) (after : Option ℕ) : Type 0 where
  pub free : after ≡ None → (before ≡ None) × IsFree old b × (new ≡ slice_set old b Used)
  pub taken : (block : ℕ) → after ≡ Some block → (before ≡ Some block) ⊎ ((before ≡ None) × (b ≡ block) × ¬ IsFree old b)

-- Each of these blocks is used and occurs once, and all other blocks are free.
pub record HasExactlyUsedBlocks (sets : BlockStates) (bs : List ℕ) : Type 0 where
  pub distinct : IsDistinct nat_eq bs
  pub used : (i b : ℕ) → slice_get bs i ≡ Some b → slice_get sets b ≡ Some Used
  pub free : (b : ℕ) → b < length sets → ((i : ℕ) → slice_get bs i ≡ Some b → ⊥) → IsFree sets b

-- ---- the lists of a pair's slots

abbrev pub list_head_and_size : NamedReference → Option (ℕ × ℕ)
list_head_and_size (name, InList head size) = Some (head, size)
list_head_and_size (name, InSlot) = None
list_head_and_size (name, Below to) = None

-- the last block and the size of each list, in the order of the slots
abbrev pub list_heads_and_sizes : List RawSlot → List (ℕ × ℕ)
list_heads_and_sizes slots = filter_map (λ s. option_and_then list_head_and_size (raw_slot_entry s)) slots

-- a list's blocks from the last one back, in the order in which they are marked
abbrev pub list_blocks_backwards : Disk → ℕ × ℕ → List ℕ
list_blocks_backwards disk l = reverse (blocks_to_head disk.blocks (skip_list_block_count disk.block_size l.1) l.0)

-- the list of this last block and size is well formed, and its blocks were free
pub record MarksListBlocksUsed (disk : Disk) (old : BlockStates) (l : ℕ × ℕ) (new : BlockStates) : Type 0 where
  pub list : IsSkipList disk.blocks disk.block_size l.0 l.1
  pub marked : MarksFreeBlocksUsed old (list_blocks_backwards disk l) new

-- each list is well formed, and the blocks of all of them were free
pub record MarksAllListsUsed (disk : Disk) (old : BlockStates) (all : List (ℕ × ℕ)) (new : BlockStates) : Type 0 where
  pub lists : All (λ l. IsSkipList disk.blocks disk.block_size l.0 l.1) all
  pub marked : MarksFreeBlocksUsed old (flat_map (list_blocks_backwards disk) all) new
