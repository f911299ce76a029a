-- A freshly formatted file system: a superblock and an empty root directory.
use Rattle.std.specs.Prelude.{ℕ, ◌≡◌, List, [], ◌∷◌, Some, None, codes}
use Rattle.std.specs.List.{flat_map}
use Rattle.byteorder.specs.Endian.{little_bytes}
use Rattle.lfs_model.specs.format.Geometry.{IsValidGeometry}
use Rattle.lfs_model.specs.declared.limits.Profile.{Profile}
use Rattle.lfs_model.specs.format.Disk.{Disk, block_count, profile_name_max, profile_file_max, profile_attr_max}
use Rattle.lfs_model.specs.format.Slots.{Slot, Superblock, Inline, PairContent, zero_gstate}
use Rattle.lfs_model.specs.format.Content.{content_at, current_block}
use Rattle.lfs_model.specs.format.Thread.{Pair, superblock_pair_address}
use Rattle.lfs_model.specs.tree.Tree.{Tree, DirectoryNode}
use Rattle.lfs_model.specs.tree.View.{HasFirstLogEntry, superblock_entry}

-- The data of a new superblock's struct: version 2.0, the block size, the number of blocks, and the
-- profile's limits for names, files and attributes.
abbrev pub superblock_bytes : Profile → ℕ → ℕ → List ℕ
superblock_bytes profile block_size blocks = flat_map (little_bytes 4) (0x00020000 ∷ block_size ∷ blocks ∷ profile_name_max profile ∷ profile_file_max profile ∷ profile_attr_max profile ∷ [])

-- The slot of a new superblock.
abbrev pub superblock_slot : Profile → ℕ → ℕ → Slot
superblock_slot profile block_size blocks = record { kind = Superblock; name = codes "littlefs"; struct = Inline (superblock_bytes profile block_size blocks); attributes = [] }

-- The content of the only pair after formatting.
abbrev pub fresh_content : Profile → ℕ → ℕ → PairContent
fresh_content profile block_size blocks = record { slots = superblock_slot profile block_size blocks ∷ []; tail = None; move = zero_gstate }

-- The only pair of the thread after formatting.
abbrev pub fresh_pair : Disk → Pair
fresh_pair disk = record { at = superblock_pair_address; content = fresh_content disk.profile disk.block_size (block_count disk) }

-- The disk is freshly formatted: the pair {0, 1} has the superblock and nothing else. All other
-- blocks may have any bytes.
pub record IsFreshDisk (disk : Disk) : Type 0 where
  pub geometry : IsValidGeometry disk.block_size disk.page (block_count disk)
  pub content : content_at disk superblock_pair_address ≡ Some (fresh_content disk.profile disk.block_size (block_count disk))
  pub first : HasFirstLogEntry (current_block disk superblock_pair_address) superblock_entry

-- The tree with an empty root directory and nothing else.
abbrev pub empty_tree : Tree
empty_tree [] = Some (DirectoryNode [] [])
empty_tree (name ∷ path) = None
