-- Images that each break one rule. Their checksums are correct.
use Rattle.std.specs.Prelude.{false, true, List, [], ◌∷◌, ◌++◌, Some, codes, replicate}
use Rattle.lfs_model.specs.layers.BlockBytes.{block_padded, list_file_entries, directory_slot_entries, inline_file_entries, move_state_entry, superblock_entries}
use Rattle.lfs_model.specs.format.Disk.{Disk, default_profile}
use Rattle.lfs_model.specs.format.EntryTypes.{create_tag_type, inline_struct_type}
use Rattle.lfs_model.specs.tree.Fresh.{superblock_bytes}
use Rattle.lfs_model.specs.layers.ProfileBreaches.{BreaksProfile}
use Rattle.lfs_model.specs.format.Thread.{Pair}
use Rattle.lfs_model.specs.tree.View.{IsAccepted, superblock_entry}
use Rattle.lfs_model.specs.layers.WrittenContent.{log_entry, tail_entry}
use Rattle.lfs_model.specs.declared.breaches.ProfileBreach.{ProfileBreach}
use Rattle.lfs_model.specs.examples.Images.{blocks_image, pair_block_with, root_block_with, root_struct_block, superblock_struct_with}

-- ---- the thread

-- A pair has block 2, which has a commit, and block 16, which the device doesn't have.
abbrev pub absent_block_image : Disk
absent_block_image = blocks_image (root_block_with (tail_entry false (Some (2, 16)) ∷ []) 0x45f64334 192) (pair_block_with [] 0x43f29ceb 244 ∷ [])

-- Both blocks of a pair are block 2.
abbrev pub same_block_pair_image : Disk
same_block_pair_image = blocks_image (root_block_with (tail_entry false (Some (2, 2)) ∷ []) 0x7b687562 192) (pair_block_with [] 0x43f29ceb 244 ∷ [])

-- The root's tail points to the root.
abbrev pub tail_to_root_image : Disk
tail_to_root_image = blocks_image (root_block_with (tail_entry false (Some (0, 1)) ∷ []) 0x19dcec1e 192) []

-- The root's tail points to blocks 2 and 3, which were never written.
abbrev pub unwritten_pair_image : Disk
unwritten_pair_image = blocks_image (root_block_with (tail_entry false (Some (2, 3)) ∷ []) 0xb7c275fc 192) []

-- ---- the superblock

-- The root has no slot.
abbrev pub no_superblock_image : Disk
no_superblock_image = blocks_image (pair_block_with [] 0x43f29ceb 244) []

-- The log begins with a create tag before the superblock's name.
abbrev pub create_first_image : Disk
create_first_image = blocks_image (pair_block_with (log_entry create_tag_type 0 [] ∷ superblock_entry ∷ log_entry inline_struct_type 0 (superblock_bytes default_profile 4096 16) ∷ []) 0x914ab51c 200) []

-- The superblock's version is 2.1.
abbrev pub later_version_image : Disk
later_version_image = blocks_image (root_struct_block (superblock_struct_with 0x00020001 4096 255) 0xf2928257) []

-- The superblock of the second pair has a block count of 17.
abbrev pub differing_superblocks_image : Disk
differing_superblocks_image = blocks_image (root_block_with (tail_entry true (Some (2, 3)) ∷ []) 0xef8649c3 192)
    (pair_block_with (superblock_entries default_profile 4096 17 ++ inline_file_entries 1 (codes "a") (codes "hi")) 0xa947a470 193 ∷ [])

-- ---- slots and directories

-- A file has the name `.`.
abbrev pub dot_name_image : Disk
dot_name_image = blocks_image (root_block_with (inline_file_entries 1 (codes ".") []) 0x78002b02 195) []

-- The name `b` is before `a`.
abbrev pub unsorted_names_image : Disk
unsorted_names_image = blocks_image (root_block_with (inline_file_entries 1 (codes "b") [] ++ inline_file_entries 2 (codes "a") []) 0x5f10df56 186) []

-- The entry `d` points to a pair that isn't in the thread.
abbrev pub dangling_directory_image : Disk
dangling_directory_image = blocks_image (root_block_with (directory_slot_entries 1 (codes "d") (2, 3)) 0x4c654d37 187) (pair_block_with [] 0x43f29ceb 244 ∷ [])

-- The entries `d` and `e` point to the same pair.
abbrev pub shared_directory_image : Disk
shared_directory_image = blocks_image
    (root_block_with (directory_slot_entries 1 (codes "d") (2, 3) ++ directory_slot_entries 2 (codes "e") (2, 3) ++ tail_entry false (Some (2, 3)) ∷ []) 0x9b4a311a 158)
    (pair_block_with [] 0x43f29ceb 244 ∷ [])

-- The thread has a pair that no entry points to.
abbrev pub orphan_pair_image : Disk
orphan_pair_image = blocks_image (root_block_with (tail_entry false (Some (2, 3)) ∷ []) 0xb7c275fc 192) (pair_block_with [] 0x43f29ceb 244 ∷ [])

-- ---- the global state and the lists

-- The global state has an id, but no kind.
abbrev pub bad_move_image : Disk
bad_move_image = blocks_image (root_block_with (move_state_entry 0x00000400 (0, 0) ∷ []) 0x33e0939e 188) []

-- A CTZ skip-list has the size 0.
abbrev pub empty_list_image : Disk
empty_list_image = blocks_image (root_block_with (list_file_entries 1 (codes "a") 2 0) 0xb05184d9 187) []

-- Block 2 is in the CTZ skip-lists of `a` and `b`.
abbrev pub shared_block_image : Disk
shared_block_image = blocks_image
    (root_block_with (list_file_entries 1 (codes "a") 2 10 ++ list_file_entries 2 (codes "b") 2 10) 0xc767c5eb 170)
    (block_padded 4096 (codes "0123456789") ∷ [])

-- ---- the writing profile

-- The image is accepted, but breaks a rule of the writing profile.
abbrev pub BreaksProfileRule : Disk → ProfileBreach → Type 0
BreaksProfileRule disk b = (ps : List Pair) × (IsAccepted disk ps × BreaksProfile disk ps b)

-- The superblock limits names to 32 bytes.
abbrev pub short_name_limit_image : Disk
short_name_limit_image = blocks_image (root_struct_block (superblock_struct_with 0x00020000 4096 32) 0xe9693de0) []

-- The file `a` has 600 bytes inline. A written image has at most 512.
abbrev pub long_inline_image : Disk
long_inline_image = blocks_image (root_block_with (inline_file_entries 1 (codes "a") (replicate 600 97)) 0x961dcdc4 107) []

-- The root continues in a pair without slots.
abbrev pub empty_pair_image : Disk
empty_pair_image = blocks_image (root_block_with (tail_entry true (Some (2, 3)) ∷ []) 0xef8649c3 192) (pair_block_with [] 0x43f29ceb 244 ∷ [])

-- The attributes of `a` have 1,422 bytes.
abbrev pub large_entry_image : Disk
large_entry_image = blocks_image (root_block_with (inline_file_entries 1 (codes "a") [] ++ log_entry 0x341 1 (replicate 1022 1) ∷ log_entry 0x342 1 (replicate 400 1) ∷ []) 0xf45b3dfa 45) []
