use Rattle.std.proofs.Common.{[], ◌∷◌, None, refl}
use Rattle.std.specs.Prelude.{codes}
use Rattle.lfs_model.proofs.Common.{default_profile, zero_gstate, superblock_bytes}
use Rattle.lfs_model.specs.format.Crc.{crc_of, checksum_after_bits}
use Rattle.lfs_model.specs.format.Log.{chain_of, bounded_commit_sequence, bounded_commit_at, entry_at, closes}
use Rattle.lfs_model.proofs.Examples.{image_shows, hard, pair, soft, file, folder, large_superblock}
use Rattle.lfs_model.proofs.images.directory_consists_of_joined_pairs.Goals as goal

pub returns-clause-either_order : goal.returns-clause-either_order
unfolding chain_of bounded_commit_sequence bounded_commit_at entry_at closes crc_of checksum_after_bits
returns-clause-either_order c = image_shows _ (pair (0, 1) (large_superblock ∷ folder (codes "d") (3, 2) ∷ []) (soft (2, 3)) zero_gstate ∷ pair (2, 3) (file (codes "x") (codes "hi") ∷ []) None zero_gstate ∷ []) (superblock_bytes default_profile 4096 16) 3
    (record { links = (refl, (refl, refl)); contents = (refl, (refl, tt)); first = refl; named = refl; lists = (tt, (tt, (tt, tt))); pass = refl }) _ _ _ refl refl refl

pub returns-clause-two_pairs : goal.returns-clause-two_pairs
unfolding chain_of bounded_commit_sequence bounded_commit_at entry_at closes crc_of checksum_after_bits
returns-clause-two_pairs c = image_shows _ (pair (0, 1) (large_superblock ∷ folder (codes "d") (4, 5) ∷ []) (soft (4, 5)) zero_gstate ∷ pair (4, 5) (file (codes "a") (codes "hi") ∷ []) (hard (6, 7)) zero_gstate ∷ pair (6, 7) (file (codes "z") (codes "hi") ∷ []) None zero_gstate ∷ []) (superblock_bytes default_profile 4096 16) 3
    (record { links = (refl, (refl, (refl, refl))); contents = (refl, (refl, (refl, tt))); first = refl; named = refl; lists = (tt, (tt, (tt, (tt, tt)))); pass = refl }) _ _ _ refl refl refl
