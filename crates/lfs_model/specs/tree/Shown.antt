-- The content of a thread: directories, paths, the tree, and the used blocks.
use Rattle.std.specs.Prelude.{ℕ, ◌≡◌, true, List, [], ◌++◌, Some}
use Rattle.std.specs.List.{flat_map}
use Rattle.lfs_model.specs.format.Disk.{Disk}
use Rattle.lfs_model.specs.format.Slots.{Slot, Struct, Inline, Ctz, Branch, same_pair}
use Rattle.lfs_model.specs.format.SkipLists.{skip_list_block_count, blocks_to_head, list_bytes}
use Rattle.lfs_model.specs.format.Thread.{Pair, pairs_gstate, pairs_blocks, pairs_from_root, root_address, slots_not_moved, ThreadDirectory, pair_directories, directory_slots}
use Rattle.lfs_model.specs.tree.Tree.{Path, Tree, DirectoryEntryMap, address_at_path, root_subtree}

-- ---- the content of the pairs

-- All directories of the thread, the root directory first.
abbrev pub all_directories : List Pair → List ThreadDirectory
all_directories ps = pair_directories (pairs_gstate ps) (pairs_from_root ps)

-- The entries of the directory at each address.
abbrev pub all_entries : List Pair → DirectoryEntryMap
all_entries ps = directory_slots (all_directories ps)

-- The path leads to the directory at the address `at`.
abbrev pub IsDirectoryAtPath : List Pair → Path → ℕ × ℕ → Type 0
IsDirectoryAtPath ps path at = address_at_path (all_entries ps) (root_address ps) path ≡ Some at

-- Some path leads to the directory that begins with the pair at `first`.
abbrev pub IsReachedDirectory : List Pair → ℕ × ℕ → Type 0
IsReachedDirectory ps first = (path : Path) × (at : ℕ × ℕ) × (IsDirectoryAtPath ps path at × (same_pair first at ≡ true))

-- The bytes of the file on the disk whose CTZ skip-list has this head and size.
abbrev pub disk_list_bytes : Disk → ℕ → ℕ → List ℕ
disk_list_bytes disk head size = list_bytes disk.blocks disk.block_size head size

-- The tree of the disk, whose thread is `ps`.
abbrev pub disk_tree : Disk → List Pair → Tree
disk_tree disk ps = root_subtree (disk_list_bytes disk) (all_entries ps) (root_address ps)

-- The blocks of a struct's CTZ skip-list, or none for any other struct.
abbrev pub struct_blocks : Disk → Struct → List ℕ
struct_blocks disk (Ctz head size) = blocks_to_head disk.blocks (skip_list_block_count disk.block_size size) head
struct_blocks disk (Inline bytes) = []
struct_blocks disk (Branch to) = []

-- The slots of all pairs, without the one that counts as moved away.
abbrev pub all_unmoved_slots : List Pair → List Slot
all_unmoved_slots ps = flat_map (slots_not_moved (pairs_gstate ps)) ps

-- The blocks of all pairs, and those of the CTZ skip-lists of all slots but the one that counts as
-- moved away.
abbrev pub used_blocks : Disk → List Pair → List ℕ
used_blocks disk ps = pairs_blocks ps ++ flat_map (λ s. struct_blocks disk s.struct) (all_unmoved_slots ps)
