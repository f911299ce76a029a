use Rattle.std.proofs.Common.{[], ◌∷◌, None, true, refl}
use Rattle.lfs_model.proofs.Common.{default_profile, zero_gstate, superblock_bytes}
use Rattle.lfs_model.specs.format.Crc.{crc_of, checksum_after_bits}
use Rattle.lfs_model.specs.format.Log.{chain_of, bounded_commit_sequence, bounded_commit_at, entry_at, closes}
use Rattle.lfs_model.proofs.Examples.{image_shows, pair, soft, large_superblock}
use Rattle.lfs_model.proofs.Refusals.{refused_with, fails_reached}
use Rattle.lfs_model.proofs.images.unreached_pair_needs_sync_bit.Goals as goal

pub returns-clause-with_it : goal.returns-clause-with_it
unfolding chain_of bounded_commit_sequence bounded_commit_at entry_at closes crc_of checksum_after_bits
returns-clause-with_it c = image_shows _ (pair (0, 1) (large_superblock ∷ []) (soft (2, 3)) (record { sync = true; kind = 0; id = 0; pair = (0, 0) }) ∷ pair (2, 3) [] None zero_gstate ∷ []) (superblock_bytes default_profile 4096 16) 1
    (record { links = (refl, (refl, refl)); contents = (refl, (refl, tt)); first = refl; named = refl; lists = (tt, tt); pass = refl }) _ _ _ refl refl refl

pub returns-clause-without : goal.returns-clause-without
unfolding chain_of bounded_commit_sequence bounded_commit_at entry_at closes crc_of checksum_after_bits
returns-clause-without c = refused_with _ (pair (0, 1) (large_superblock ∷ []) (soft (2, 3)) zero_gstate ∷ pair (2, 3) [] None zero_gstate ∷ []) (refl, (refl, refl)) (refl, (refl, tt))
    (fails_reached _ _ 1 refl refl 1 (record { at = (2, 3); slots = [] }) refl refl)
