-- Which images are accepted, and what they contain.
use Rattle.std.specs.Prelude.{ℕ, ◌≡◌, ◌==◌, ◌+◌, ◌||◌, ◌⊎◌, Bool, true, false, List, [], ◌∷◌, length, take, drop, slice_get, Option, Some, None, All, AllPairs, Any, nat_eq, codes}
use Rattle.std.specs.List.{IsDistinct}
use Rattle.std.specs.Option.{option_map}
use Rattle.std.specs.declared.cmp.Ordering.TheVariants.{Less}
use Rattle.lfs_model.specs.declared.limits.AcceptedVersions.{AcceptedVersions}
use Rattle.lfs_model.specs.declared.limits.AcceptedVersions.TheVariants.{OnlyTwoZero, AlsoTwoOne}
use Rattle.lfs_model.specs.format.Disk.{Disk, block_count}
use Rattle.lfs_model.specs.format.Log.{LogEntry, block_entries}
use Rattle.lfs_model.specs.format.Tag.{make_tag}
use Rattle.lfs_model.specs.format.Names.{Name, name_cmp, is_valid_name}
use Rattle.lfs_model.specs.format.Slots.{Slot, SlotKind, File, Directory, Superblock, Gstate, Struct, Inline, Ctz, Branch, same_pair, is_superblock, no_move_kind, set_move_kind}
use Rattle.lfs_model.specs.format.Content.{current_block, content_at}
use Rattle.lfs_model.specs.format.EntryTypes.{superblock_name_type, superblock_fields}
use Rattle.lfs_model.specs.format.SkipLists.{IsSkipList}
use Rattle.lfs_model.specs.format.Thread.{Pair, IsThread, pairs_from_root, first_address, pairs_from_nonempty, pairs_gstate, begins_with_superblock, count_before_root, BeginsDirectory}
use Rattle.lfs_model.specs.tree.Tree.{Path, Tree, names_at}
use Rattle.lfs_model.specs.tree.Shown.{all_directories, all_entries, IsDirectoryAtPath, IsReachedDirectory, disk_tree, all_unmoved_slots, used_blocks}

-- ---- the superblock

-- True for version 2.0, and for version 2.1 if it is accepted too.
abbrev pub accepts_version : AcceptedVersions → ℕ → Bool
accepts_version OnlyTwoZero version = version == 0x00020000
accepts_version AlsoTwoOne version = version == 0x00020000 || version == 0x00020001

-- The bytes are the data of a superblock's struct for this disk: an accepted version, its block
-- size, its number of blocks, and any limits.
pub record IsSuperblockStruct (disk : Disk) (bytes : List ℕ) : Type 0 where
  pub len : length bytes ≡ 24
  pub version : accepts_version disk.profile.versions (superblock_fields bytes).version ≡ true
  pub block_size : (superblock_fields bytes).block_size ≡ disk.block_size
  pub block_count : (superblock_fields bytes).block_count ≡ block_count disk

-- There is a block, and the first entry of its log is `e`.
abbrev pub HasFirstLogEntry : Option (List ℕ) → LogEntry → Type 0
HasFirstLogEntry None e = ⊥
HasFirstLogEntry (Some block) e = slice_get (block_entries block) 0 ≡ Some e

abbrev pub superblock_entry : LogEntry
superblock_entry = record { tag = make_tag superblock_name_type 0 8; bytes = codes "littlefs" }

-- ---- the rules

-- The kind is that of a file or a directory, and matches the struct.
abbrev pub IsKindOfStruct : SlotKind → Struct → Type 0
IsKindOfStruct File (Inline bytes) = Unit {0}
IsKindOfStruct File (Ctz head size) = Unit {0}
IsKindOfStruct Directory (Branch to) = Unit {0}
IsKindOfStruct File (Branch to) = ⊥
IsKindOfStruct Directory (Inline bytes) = ⊥
IsKindOfStruct Directory (Ctz head size) = ⊥
IsKindOfStruct Superblock s = ⊥

-- The slot is a file or a directory, with a valid name and a matching struct.
pub record IsFileOrDirectory (s : Slot) : Type 0 where
  pub name : is_valid_name s.name ≡ true
  pub struct : IsKindOfStruct s.kind s.struct

-- Slot 0 is a superblock with the property `P`, and the other slots are files and directories.
abbrev pub IsSuperblockFirst : (Slot → Type 0) → List Slot → Type 0
IsSuperblockFirst P [] = ⊥
IsSuperblockFirst P (s ∷ slots) = (is_superblock s ≡ true) × P s × All IsFileOrDirectory slots

-- There is no slot, or slot 0 is a superblock with the property `P` and the other slots are files
-- and directories.
abbrev pub SuperblockFirstIfAny : (Slot → Type 0) → List Slot → Type 0
SuperblockFirstIfAny P [] = Unit {0}
SuperblockFirstIfAny P (s ∷ slots) = IsSuperblockFirst P (s ∷ slots)

-- `own` differs from `bytes` at most in its version, which is an accepted one.
pub record SameExceptVersion (versions : AcceptedVersions) (bytes own : List ℕ) : Type 0 where
  pub len : length own ≡ length bytes
  pub version : accepts_version versions (superblock_fields own).version ≡ true
  pub rest : drop 4 own ≡ drop 4 bytes

-- The slot's inline struct is `bytes`, except perhaps for another accepted version.
abbrev pub RepeatsSuperblockStruct : AcceptedVersions → List ℕ → Slot → Type 0
RepeatsSuperblockStruct versions bytes s = (own : List ℕ) × ((s.struct ≡ Inline own) × SameExceptVersion versions bytes own)

-- There is no slot, or slot 0 is a superblock that repeats the struct `bytes`, except perhaps for
-- another accepted version, and the other slots are files and directories.
abbrev pub BeginsWithSuperblock : AcceptedVersions → List ℕ → List Slot → Type 0
BeginsWithSuperblock versions bytes slots = SuperblockFirstIfAny (RepeatsSuperblockStruct versions bytes) slots

-- The name in slot 0 of the first pair.
abbrev pub first_slot_name : List Pair → Option Name
first_slot_name [] = None
first_slot_name (p ∷ ps) = option_map (λ s. s.name) (slice_get p.content.slots 0)

-- The slots of the first pair.
abbrev pub first_pair_slots : List Pair → List Slot
first_pair_slots [] = []
first_pair_slots (p ∷ ps) = p.content.slots

-- The pairs of the superblock's chain. The root directory begins with the last of them.
abbrev pub superblock_chain_pairs : List Pair → List Pair
superblock_chain_pairs ps = take (count_before_root ps + 1) ps

-- The pairs after the superblock's chain.
abbrev pub pairs_after_chain : List Pair → List Pair
pairs_after_chain ps = drop (count_before_root ps + 1) ps

-- If the struct is a CTZ skip-list, it is well formed.
abbrev pub IsWellFormedList : Disk → Struct → Type 0
IsWellFormedList disk (Ctz head size) = IsSkipList disk.blocks disk.block_size head size
IsWellFormedList disk (Inline bytes) = Unit {0}
IsWellFormedList disk (Branch to) = Unit {0}

-- There is a slot, and it isn't a superblock.
abbrev pub IsEntry : Option Slot → Type 0
IsEntry None = ⊥
IsEntry (Some s) = is_superblock s ≡ false

-- The thread has a pair at `pair`, and the slot of this pair with the id `id` exists and isn't a
-- superblock.
abbrev pub IsThreadEntry : List Pair → ℕ × ℕ → ℕ → Type 0
IsThreadEntry ps pair id = Any (λ p. (same_pair pair p.at ≡ true) × IsEntry (slice_get p.content.slots id)) ps

-- The global state has no pending move, or one of an existing slot that isn't a superblock.
abbrev pub HasValidMove : List Pair → Gstate → Type 0
HasValidMove ps g = ((g.kind ≡ no_move_kind) × (g.id ≡ 0) × (g.pair ≡ (0, 0))) ⊎ ((g.kind ≡ set_move_kind) × IsThreadEntry ps g.pair g.id)

-- The image is accepted, and its thread is `ps`.
pub record IsAccepted (disk : Disk) (ps : List Pair) : Type 0 where
  -- Every pair of the thread has a well-formed log, the thread ends, its addresses are in range,
  -- and no block is in it twice.
  pub thread : IsThread (content_at disk) (block_count disk) ps
  -- In the first pair that has a slot, the superblock's name is the first entry, and slot 0 still
  -- has that name after all entries.
  pub first : HasFirstLogEntry (current_block disk (first_address (pairs_from_nonempty ps))) superblock_entry
  pub named : first_slot_name (pairs_from_nonempty ps) ≡ Some (codes "littlefs")
  -- The root directory begins with a superblock. All superblocks of the chain have the same struct,
  -- except perhaps for another accepted version.
  pub root : begins_with_superblock (first_pair_slots (pairs_from_root ps)) ≡ true
  pub superblock : (bytes : List ℕ) × (IsSuperblockStruct disk bytes × All (λ p. BeginsWithSuperblock disk.profile.versions bytes p.content.slots) (superblock_chain_pairs ps))
  -- Every other slot is a file or a directory, with a valid name and a matching struct.
  pub slots : All (λ p. All IsFileOrDirectory p.content.slots) (pairs_after_chain ps)
  -- In each directory that a path leads to, the names are strictly ascending in the disk's order.
  pub order : (path : Path) (at : ℕ × ℕ) → IsDirectoryAtPath ps path at → AllPairs (λ a b. name_cmp disk.order a b ≡ Less) (names_at (all_entries ps) at)
  -- Each address that a path leads to is that of a directory's first pair, and no two paths lead to
  -- the same directory.
  pub branches : (path : Path) (at : ℕ × ℕ) → IsDirectoryAtPath ps path at → BeginsDirectory (all_directories ps) at
  pub once : (path other : Path) (at to : ℕ × ℕ) → IsDirectoryAtPath ps path at → IsDirectoryAtPath ps other to → same_pair at to ≡ true → path ≡ other
  -- If the sync bit is clear, a path leads to every directory.
  pub reached : (pairs_gstate ps).sync ≡ false → All (λ d. IsReachedDirectory ps d.at) (all_directories ps)
  pub move : HasValidMove ps (pairs_gstate ps)
  -- Every file's CTZ skip-list is well formed, and no block is used twice.
  pub lists : All (λ s. IsWellFormedList disk s.struct) (all_unmoved_slots ps)
  pub owned_once : IsDistinct nat_eq (used_blocks disk ps)

-- ---- the view of an accepted disk

-- The view of an accepted disk: its tree, its global state and its used blocks.
pub record DiskView : Type 0 where
  pub tree : Tree
  pub gstate : Gstate
  pub used : List ℕ

abbrev pub disk_view : Disk → List Pair → DiskView
disk_view disk ps = record { tree = disk_tree disk ps; gstate = pairs_gstate ps; used = used_blocks disk ps }

-- The disk is accepted, and `view` has its tree, its global state and its used blocks.
abbrev pub HasDiskView : Disk → DiskView → Type 0
HasDiskView disk view = (ps : List Pair) × (IsAccepted disk ps × (view ≡ disk_view disk ps))
