use Rattle.std.proofs.Common.{◌≡◌, sym, ap, ◌∙◌, [], ◌∷◌, None, refl}
use Rattle.std.specs.Prelude.{codes}
use Rattle.lfs_model.proofs.Common.{default_profile, zero_gstate, superblock_bytes, small_image, two_commit_image, disk_tree, tree_creating, FileNode, empty_tree}
use Rattle.lfs_model.specs.format.Crc.{crc_of, checksum_after_bits}
use Rattle.lfs_model.specs.format.Log.{chain_of, bounded_commit_sequence, bounded_commit_at, entry_at, closes}
use Rattle.lfs_model.proofs.Skips.{list_from}
use Rattle.lfs_model.proofs.Examples.{image_shows, pair, file, long_file, large_superblock}
use Rattle.lfs_model.proofs.Fresh.{shows}
use Rattle.lfs_model.proofs.Example.{next, file_came}
use Rattle.lfs_model.proofs.images.image_shows_its_only_file.Goals as goal

pub returns-clause-shifted : goal.returns-clause-shifted
unfolding chain_of bounded_commit_sequence bounded_commit_at entry_at closes crc_of checksum_after_bits
returns-clause-shifted c = image_shows _ (pair (0, 1) (large_superblock ∷ record (file (codes "b") []) { attributes = (0x41, codes "x") ∷ [] } ∷ []) None zero_gstate ∷ []) (superblock_bytes default_profile 4096 16) 2
    (record { links = (refl, refl); contents = (refl, tt); first = refl; named = refl; lists = (tt, (tt, tt)); pass = refl }) _ _ _ refl refl refl

pub returns-clause-inline : goal.returns-clause-inline
unfolding chain_of bounded_commit_sequence bounded_commit_at entry_at closes crc_of checksum_after_bits
returns-clause-inline c = image_shows _ (pair (0, 1) (large_superblock ∷ file (codes "a") (codes "hello") ∷ []) None zero_gstate ∷ []) (superblock_bytes default_profile 4096 16) 2
    (record { links = (refl, refl); contents = (refl, tt); first = refl; named = refl; lists = (tt, (tt, tt)); pass = refl }) _ _ _ refl refl refl

pub returns-clause-list : goal.returns-clause-list
unfolding chain_of bounded_commit_sequence bounded_commit_at entry_at closes crc_of checksum_after_bits lib.Count.count_trailing_zeros
returns-clause-list c = image_shows _ (pair (0, 1) (large_superblock ∷ long_file (codes "a") 4 8189 ∷ []) None zero_gstate ∷ []) (superblock_bytes default_profile 4096 16) 2
    (record { links = (refl, refl); contents = (refl, tt); first = refl; named = refl; lists = (tt, (list_from _ 4096 4 8189 refl, tt)); pass = refl }) _ _ _ refl refl refl

pub returns-clause-zeroed : goal.returns-clause-zeroed
unfolding chain_of bounded_commit_sequence bounded_commit_at entry_at closes crc_of checksum_after_bits
returns-clause-zeroed c = image_shows _ (pair (0, 1) (large_superblock ∷ file (codes "b") [] ∷ []) None zero_gstate ∷ []) (superblock_bytes default_profile 4096 16) 2
    (record { links = (refl, refl); contents = (refl, tt); first = refl; named = refl; lists = (tt, (tt, tt)); pass = refl }) _ _ _ refl refl refl

pub returns-clause-appended : goal.returns-clause-appended
returns-clause-appended c =
    let tree : disk_tree two_commit_image (next ∷ []) ≡ tree_creating (codes "b" ∷ []) (FileNode [] []) empty_tree = file_came.shows ∙ ap (tree_creating (codes "b" ∷ []) (FileNode [] [])) (shows small_image) in
    (next ∷ [], (file_came.accepted, λ i. record { tree = sym tree i; gstate = zero_gstate; used = 0 ∷ 1 ∷ [] }))
