-- Images as bytes.
use Rattle.std.specs.Prelude.{ℕ, ◌-◌, List, [], ◌∷◌, ◌++◌, length, take, drop, find, replicate, slice_index, slice_set, bit_xor, ◌/◌, ◌%◌, ◌^◌, ◌+◌, Some, None, codes}
use Rattle.std.specs.List.{flat_map}
use Rattle.std.specs.Option.{option_map}
use Rattle.byteorder.specs.Endian.{little_bytes}
use Rattle.lfs_model.specs.declared.order.NameOrder.TheVariants.{ShorterFirst}
use Rattle.lfs_model.specs.declared.limits.AcceptedVersions.{AcceptedVersions}
use Rattle.lfs_model.specs.format.Blocks.{Blocks}
use Rattle.lfs_model.specs.format.Disk.{Disk, default_profile, file_size_limit}
use Rattle.lfs_model.specs.format.Slots.{Gstate, zero_gstate}
use Rattle.lfs_model.specs.format.Log.{LogEntry}
use Rattle.lfs_model.specs.format.Content.{RawSlot, RawContent}
use Rattle.lfs_model.specs.format.EntryTypes.{file_name_type, superblock_name_type, inline_struct_type}
use Rattle.lfs_model.specs.format.Thread.{Pair}
use Rattle.lfs_model.specs.tree.Tree.{Path, Node, FileNode, DirectoryNode, Tree}
use Rattle.lfs_model.specs.session.TreeEdits.{same_path}
use Rattle.lfs_model.specs.tree.View.{DiskView, IsAccepted, superblock_entry}
use Rattle.lfs_model.specs.tree.Profile.{IsWritable}
use Rattle.lfs_model.specs.layers.WrittenContent.{log_entry}
use Rattle.lfs_model.specs.layers.Changes.{ContentChange, Create, Delete, PutStruct, PutAttribute}
use Rattle.lfs_model.specs.format.Names.{Name}
use Rattle.lfs_model.specs.tree.Fresh.{superblock_bytes}
use Rattle.lfs_model.specs.layers.BlockBytes.{unwritten_bytes, block_padded, superblock_entries, checksum_entry, metadata_block_bytes}

-- The tree with these nodes and no others.
abbrev pub tree_of_nodes : List (Path × Node) → Tree
tree_of_nodes nodes path = option_map (λ n. n.1) (find (λ n. same_path path n.0) nodes)

-- The view of a disk with these nodes, this global state and these used blocks.
abbrev pub nodes_view : List (Path × Node) → Gstate → List ℕ → DiskView
nodes_view nodes gstate used = record { tree = tree_of_nodes nodes; gstate = gstate; used = used }

-- A file `a` with the contents `hello`, and a directory `d` with an empty file `x`.
abbrev pub small_nodes : List (Path × Node)
small_nodes =
    ([], DirectoryNode [] (codes "a" ∷ codes "d" ∷ []))
    ∷ (codes "a" ∷ [], FileNode [] (codes "hello"))
    ∷ (codes "d" ∷ [], DirectoryNode [] (codes "x" ∷ []))
    ∷ (codes "d" ∷ codes "x" ∷ [], FileNode [] [])
    ∷ []

-- The disk isn't accepted, with any pairs.
abbrev pub IsNotAccepted : Disk → Type 0
IsNotAccepted disk = (ps : List Pair) → IsAccepted disk ps → ⊥

-- The disk isn't accepted, or isn't in the writing profile.
abbrev pub IsNotWritable : Disk → Type 0
IsNotWritable disk = (ps : List Pair) → IsAccepted disk ps → IsWritable disk ps → ⊥

-- ---- fresh images

-- The first commit of a fresh disk with two blocks of 1,024 bytes and pages of 128 bytes.
abbrev pub small_commit : List ℕ
small_commit =
    0x01 ∷ 0x00 ∷ 0x00 ∷ 0x00 ∷  -- revision 1
    0xf0 ∷ 0x0f ∷ 0xff ∷ 0xf7 ∷ codes "littlefs" ++  -- 0x0ff00008 XOR 0xffffffff: a superblock's name
    0x2f ∷ 0xe0 ∷ 0x00 ∷ 0x10 ∷  -- 0x20100018 XOR 0x0ff00008: an inline struct of 24 bytes
    0x00 ∷ 0x00 ∷ 0x02 ∷ 0x00 ∷  -- version 2.0
    0x00 ∷ 0x04 ∷ 0x00 ∷ 0x00 ∷  -- block size 1024
    0x02 ∷ 0x00 ∷ 0x00 ∷ 0x00 ∷  -- block count 2
    0xff ∷ 0x00 ∷ 0x00 ∷ 0x00 ∷  -- name limit 255
    0xff ∷ 0xff ∷ 0xff ∷ 0x7f ∷  -- file limit 2147483647
    0xfe ∷ 0x03 ∷ 0x00 ∷ 0x00 ∷  -- attribute limit 1022
    0x70 ∷ 0x1f ∷ 0xfc ∷ 0x48 ∷  -- 0x500ffc50 XOR 0x20100018: a checksum entry of 80 bytes
    0x1c ∷ 0x06 ∷ 0xb9 ∷ 0x35 ∷  -- the checksum
    unwritten_bytes 76  -- padding to the page

-- A disk with two blocks of 1,024 bytes. The first one is `block`, and the other was never written.
abbrev pub small_disk_with : List ℕ → Disk
small_disk_with block = record { block_size = 1024; page = 128; order = ShorterFirst; profile = default_profile; blocks = block ∷ unwritten_bytes 1024 ∷ [] }

abbrev pub small_block : List ℕ
small_block = block_padded 1024 small_commit

-- The fresh disk with two blocks.
abbrev pub small_image : Disk
small_image = small_disk_with small_block

-- The first commit of a fresh disk with 16 blocks of 4,096 bytes and pages of 256 bytes.
abbrev pub large_commit : List ℕ
large_commit =
    0x01 ∷ 0x00 ∷ 0x00 ∷ 0x00 ∷  -- revision 1
    0xf0 ∷ 0x0f ∷ 0xff ∷ 0xf7 ∷ codes "littlefs" ++  -- 0x0ff00008 XOR 0xffffffff: a superblock's name
    0x2f ∷ 0xe0 ∷ 0x00 ∷ 0x10 ∷  -- 0x20100018 XOR 0x0ff00008: an inline struct of 24 bytes
    0x00 ∷ 0x00 ∷ 0x02 ∷ 0x00 ∷  -- version 2.0
    0x00 ∷ 0x10 ∷ 0x00 ∷ 0x00 ∷  -- block size 4096
    0x10 ∷ 0x00 ∷ 0x00 ∷ 0x00 ∷  -- block count 16
    0xff ∷ 0x00 ∷ 0x00 ∷ 0x00 ∷  -- name limit 255
    0xff ∷ 0xff ∷ 0xff ∷ 0x7f ∷  -- file limit 2147483647
    0xfe ∷ 0x03 ∷ 0x00 ∷ 0x00 ∷  -- attribute limit 1022
    0x70 ∷ 0x1f ∷ 0xfc ∷ 0xc8 ∷  -- 0x500ffcd0 XOR 0x20100018: a checksum entry of 208 bytes
    0x4a ∷ 0x7f ∷ 0x27 ∷ 0xf3 ∷  -- the checksum
    unwritten_bytes 204  -- padding to the page

-- A disk with 16 blocks of 4,096 bytes. `blocks` are the first ones, and the others were never
-- written.
abbrev pub large_disk_with : Blocks → Disk
large_disk_with blocks = record { block_size = 4096; page = 256; order = ShorterFirst; profile = default_profile; blocks = blocks ++ replicate (16 - length blocks) (unwritten_bytes 4096) }

-- The fresh disk with 16 blocks.
abbrev pub large_image : Disk
large_image = large_disk_with (block_padded 4096 large_commit ∷ [])

-- A commit that adds an empty file `b` to the small image.
abbrev pub appending_commit : List ℕ
appending_commit =
    0x10 ∷ 0x1f ∷ 0xf8 ∷ 0x50 ∷  -- 0x40100400 XOR 0x500ffc50: create id 1
    0x40 ∷ 0x00 ∷ 0x00 ∷ 0x01 ∷ codes "b" ++  -- a file's name of id 1
    0x20 ∷ 0x00 ∷ 0x00 ∷ 0x01 ∷  -- an inline struct of no bytes
    0x70 ∷ 0x1f ∷ 0xf8 ∷ 0x6f ∷  -- a checksum entry of 111 bytes
    0x6a ∷ 0xa8 ∷ 0x34 ∷ 0x70 ∷ unwritten_bytes 107

abbrev pub two_commit_block : List ℕ
two_commit_block = block_padded 1024 (small_commit ++ appending_commit)

-- The fresh disk with two blocks, after a file `b` was added.
abbrev pub two_commit_image : Disk
two_commit_image = small_disk_with two_commit_block

-- The block of the small image, but with revision count 2 and a matching checksum.
abbrev pub later_revision_block : List ℕ
later_revision_block = block_padded 1024 (2 ∷ take 47 (drop 1 small_commit) ++ 0x78 ∷ 0x33 ∷ 0x6b ∷ 0x73 ∷ [])

-- The block of the small image, with bit `k` of its checksum inverted.
abbrev pub bad_checksum_block : ℕ → List ℕ
bad_checksum_block k = slice_set small_block (48 + k / 8) (bit_xor (slice_index small_block (48 + k / 8)) (2 ^ (k % 8)))

-- ---- slots that shift: `b` and then `a` are added, `a` is deleted, `b` changes

-- Four commits that add `b`, add `a` before it, delete `a`, and set an attribute of `b`.
abbrev pub shifting_commits : List ℕ
shifting_commits =
    0x10 ∷ 0x1f ∷ 0xf8 ∷ 0xd0 ∷  -- 0x40100400 XOR 0x500ffcd0: create id 1
    0x40 ∷ 0x00 ∷ 0x00 ∷ 0x01 ∷ codes "b" ++  -- 0x00100401 XOR 0x40100400: a file's name of id 1
    0x20 ∷ 0x00 ∷ 0x00 ∷ 0x01 ∷  -- 0x20100400 XOR 0x00100401: an inline struct of no bytes
    0x70 ∷ 0x1f ∷ 0xf8 ∷ 0xef ∷  -- 0x500ffcef XOR 0x20100400: a checksum entry of 239 bytes
    0xa8 ∷ 0xc4 ∷ 0xff ∷ 0x1e ∷ unwritten_bytes 235 ++
    0x10 ∷ 0x1f ∷ 0xf8 ∷ 0xef ∷  -- 0x40100400 XOR 0x500ffcef: create id 1
    0x40 ∷ 0x00 ∷ 0x00 ∷ 0x01 ∷ codes "a" ++  -- a file's name of id 1
    0x20 ∷ 0x00 ∷ 0x00 ∷ 0x01 ∷  -- an inline struct of no bytes
    0x70 ∷ 0x1f ∷ 0xf8 ∷ 0xef ∷  -- a checksum entry of 239 bytes
    0x2f ∷ 0x08 ∷ 0x30 ∷ 0xda ∷ unwritten_bytes 235 ++
    0x1f ∷ 0xff ∷ 0xf8 ∷ 0xef ∷  -- 0x4ff00400 XOR 0x500ffcef: delete id 1
    0x1f ∷ 0xff ∷ 0xf8 ∷ 0xf8 ∷  -- 0x500ffcf8 XOR 0x4ff00400: a checksum entry of 248 bytes
    0xe4 ∷ 0xe0 ∷ 0xd4 ∷ 0x27 ∷ unwritten_bytes 244 ++
    0x64 ∷ 0x1f ∷ 0xf8 ∷ 0xf9 ∷ codes "x" ++  -- 0x34100401 XOR 0x500ffcf8: attribute 0x41 of id 1
    0x64 ∷ 0x1f ∷ 0xf8 ∷ 0xf6 ∷  -- 0x500ffcf7 XOR 0x34100401: a checksum entry of 247 bytes
    0x9a ∷ 0x37 ∷ 0xc9 ∷ 0x3a ∷ unwritten_bytes 243

abbrev pub shifted_slot_block : List ℕ
shifted_slot_block = block_padded 4096 (large_commit ++ shifting_commits)

abbrev pub shifted_slot_image : Disk
shifted_slot_image = large_disk_with (shifted_slot_block ∷ [])

-- The slot of an empty file, as a log has it.
abbrev pub raw_empty_file : Name → RawSlot
raw_empty_file name = record { name = Some (file_name_type, name); struct = Some (inline_struct_type, []); attributes = [] }

-- The slot of the superblock, as a log has it.
abbrev pub raw_superblock : RawSlot
raw_superblock = record { name = Some (superblock_name_type, codes "littlefs"); struct = Some (inline_struct_type, superblock_bytes default_profile 4096 16); attributes = [] }

-- The content of a pair with these slots, no tail and no delta of the global state.
abbrev pub slots_content : List RawSlot → RawContent
slots_content slots = record { slots = slots; tail = None; move = zero_gstate }

-- The changes that `shifting_commits` make.
abbrev pub shifting_changes : List ContentChange
shifting_changes =
    Create 1 file_name_type (codes "b") ∷ PutStruct 1 inline_struct_type []
    ∷ Create 1 file_name_type (codes "a") ∷ PutStruct 1 inline_struct_type []
    ∷ Delete 1
    ∷ PutAttribute 1 0x41 (codes "x")
    ∷ []

-- ---- a file is added over zeros: the tag after the checksum has its top bit inverted

abbrev pub block_on_zeroed_storage : List ℕ
block_on_zeroed_storage =
    take 44 large_commit ++  -- revision, name and struct as above
    0x70 ∷ 0x0f ∷ 0xfc ∷ 0xc8 ∷  -- 0x501ffcd0 XOR 0x20100018: a checksum entry of 208 bytes
    0x3a ∷ 0xdc ∷ 0x01 ∷ 0xef ∷ unwritten_bytes 204 ++
    0x90 ∷ 0x0f ∷ 0xf8 ∷ 0xd0 ∷  -- 0x40100400 XOR 0xd01ffcd0: create id 1
    0x40 ∷ 0x00 ∷ 0x00 ∷ 0x01 ∷ codes "b" ++  -- a file's name of id 1
    0x20 ∷ 0x00 ∷ 0x00 ∷ 0x01 ∷  -- an inline struct of no bytes
    0x70 ∷ 0x0f ∷ 0xf8 ∷ 0xef ∷  -- 0x501ffcef XOR 0x20100400: a checksum entry of 239 bytes
    0xae ∷ 0x92 ∷ 0x72 ∷ 0x5e ∷ unwritten_bytes 235 ++
    replicate 3584 0

abbrev pub image_on_zeroed_storage : Disk
image_on_zeroed_storage = record { block_size = 4096; page = 256; order = ShorterFirst; profile = default_profile; blocks = block_on_zeroed_storage ∷ replicate 15 (replicate 4096 0) }

-- ---- other images of 16 blocks, by their entries

-- A block of the root's pair: the superblock, these entries, the checksum `number` and the padding.
abbrev pub root_block_with : List LogEntry → ℕ → ℕ → List ℕ
root_block_with entries number padding = metadata_block_bytes 4096 1 (superblock_entries default_profile 4096 16 ++ entries ++ checksum_entry number padding ∷ [])

-- A block of another pair: these entries, the checksum `number` and the padding.
abbrev pub pair_block_with : List LogEntry → ℕ → ℕ → List ℕ
pair_block_with entries number padding = metadata_block_bytes 4096 1 (entries ++ checksum_entry number padding ∷ [])

-- The disk with the root in block 0, and these blocks from block 2 on.
abbrev pub blocks_image : List ℕ → Blocks → Disk
blocks_image root blocks = large_disk_with (root ∷ unwritten_bytes 4096 ∷ blocks)

-- The fresh disk, cut or extended to `count` blocks.
abbrev pub resized_image : ℕ → Disk
resized_image count = record { block_size = 4096; page = 256; order = ShorterFirst; profile = default_profile; blocks = block_padded 4096 large_commit ∷ replicate (count - 1) (unwritten_bytes 4096) }

-- The disk, with these versions accepted.
abbrev pub disk_with_versions : AcceptedVersions → Disk → Disk
disk_with_versions versions disk = record disk { profile = record disk.profile { versions = versions } }

-- The struct of a superblock with this version, block size and name limit.
abbrev pub superblock_struct_with : ℕ → ℕ → ℕ → List ℕ
superblock_struct_with version block_size name_limit = flat_map (little_bytes 4) (version ∷ block_size ∷ 16 ∷ name_limit ∷ file_size_limit ∷ 1022 ∷ [])

abbrev pub superblock_entries_with : List ℕ → List LogEntry
superblock_entries_with struct = superblock_entry ∷ log_entry inline_struct_type 0 struct ∷ []

-- The block of a fresh root with this struct of the superblock, and the checksum `number`.
abbrev pub root_struct_block : List ℕ → ℕ → List ℕ
root_struct_block struct number = metadata_block_bytes 4096 1 (superblock_entries_with struct ++ checksum_entry number 204 ∷ [])

-- ---- a skip list

-- A CTZ skip-list of 2,045 bytes in the blocks 5, 6 and 7. The second pointer of block 7 is
-- `pointer`.
abbrev pub three_block_list_with : ℕ → Blocks
three_block_list_with pointer =
    replicate 5 (unwritten_bytes 1024)
    ++ replicate 1024 1
    ∷ (little_bytes 4 5 ++ replicate 1020 2)
    ∷ (little_bytes 4 6 ++ little_bytes 4 pointer ++ replicate 1016 3) ∷ []

abbrev pub three_block_list : Blocks
three_block_list = three_block_list_with 5

-- The blocks of `three_block_list`, but with the first pointer of block 7 to block 7 itself.
abbrev pub cyclic_list_blocks : Blocks
cyclic_list_blocks = slice_set three_block_list 7 (little_bytes 4 7 ++ little_bytes 4 5 ++ replicate 1016 3)
