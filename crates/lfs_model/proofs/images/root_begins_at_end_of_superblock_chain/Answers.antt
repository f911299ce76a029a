use Rattle.std.proofs.Common.{List, [], ◌∷◌, None, refl}
use Rattle.std.specs.Prelude.{codes}
use Rattle.lfs_model.proofs.Common.{default_profile, Slot, Inline, zero_gstate, Pair, superblock_struct_with, superblock_bytes}
use Rattle.lfs_model.specs.format.Crc.{crc_of, checksum_after_bits}
use Rattle.lfs_model.specs.format.Log.{chain_of, bounded_commit_sequence, bounded_commit_at, entry_at, closes}
use Rattle.lfs_model.proofs.Examples.{image_shows, pair, hard, file, large_superblock}
use Rattle.lfs_model.proofs.images.root_begins_at_end_of_superblock_chain.Goals as goal

pub returns-clause-expanded : goal.returns-clause-expanded
unfolding chain_of bounded_commit_sequence bounded_commit_at entry_at closes crc_of checksum_after_bits
returns-clause-expanded c = image_shows _ (pair (0, 1) (large_superblock ∷ []) (hard (2, 3)) zero_gstate ∷ pair (2, 3) (large_superblock ∷ file (codes "a") (codes "hi") ∷ []) None zero_gstate ∷ []) (superblock_bytes default_profile 4096 16) 2
    (record { links = (refl, (refl, refl)); contents = (refl, (refl, tt)); first = refl; named = refl; lists = (tt, (tt, (tt, tt))); pass = refl }) _ _ _ refl refl refl

pub returns-clause-follower : goal.returns-clause-follower
unfolding chain_of bounded_commit_sequence bounded_commit_at entry_at closes crc_of checksum_after_bits
returns-clause-follower c = image_shows _ (pair (0, 1) (large_superblock ∷ []) (hard (2, 3)) zero_gstate ∷ pair (2, 3) (file (codes "a") (codes "hi") ∷ []) None zero_gstate ∷ []) (superblock_bytes default_profile 4096 16) 2
    (record { links = (refl, (refl, refl)); contents = (refl, (refl, tt)); first = refl; named = refl; lists = (tt, (tt, tt)); pass = refl }) _ _ _ refl refl refl

pub returns-clause-three_pairs : goal.returns-clause-three_pairs
unfolding chain_of bounded_commit_sequence bounded_commit_at entry_at closes crc_of checksum_after_bits
returns-clause-three_pairs c = image_shows _ (pair (0, 1) (large_superblock ∷ []) (hard (2, 3)) zero_gstate ∷ pair (2, 3) (large_superblock ∷ []) (hard (4, 5)) zero_gstate ∷ pair (4, 5) (large_superblock ∷ file (codes "a") (codes "hi") ∷ []) None zero_gstate ∷ []) (superblock_bytes default_profile 4096 16) 2
    (record { links = (refl, (refl, (refl, refl))); contents = (refl, (refl, (refl, tt))); first = refl; named = refl; lists = (tt, (tt, (tt, (tt, tt)))); pass = refl }) _ _ _ refl refl refl

-- the second superblock's version is 2.1
abbrev newer : Slot
newer = record large_superblock { struct = Inline (superblock_struct_with 0x00020001 4096 255) }

abbrev two_versions : List Pair
two_versions = pair (0, 1) (large_superblock ∷ []) (hard (2, 3)) zero_gstate ∷ pair (2, 3) (newer ∷ file (codes "a") (codes "hi") ∷ []) None zero_gstate ∷ []

pub returns-clause-two_versions : goal.returns-clause-two_versions
unfolding chain_of bounded_commit_sequence bounded_commit_at entry_at closes crc_of checksum_after_bits
returns-clause-two_versions c = image_shows _ two_versions (superblock_bytes default_profile 4096 16) 2
    (record { links = (refl, (refl, refl)); contents = (refl, (refl, tt)); first = refl; named = refl; lists = (tt, (tt, (tt, tt))); pass = refl }) _ _ _ refl refl refl
