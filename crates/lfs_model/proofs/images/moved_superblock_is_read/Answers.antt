use Rattle.std.proofs.Common.{[], ◌∷◌, None, refl}
use Rattle.std.specs.Prelude.{codes}
use Rattle.lfs_model.proofs.Common.{default_profile, zero_gstate, superblock_bytes}
use Rattle.lfs_model.specs.format.Crc.{crc_of, checksum_after_bits}
use Rattle.lfs_model.specs.format.Log.{chain_of, bounded_commit_sequence, bounded_commit_at, entry_at, closes}
use Rattle.lfs_model.proofs.Examples.{image_shows, pair, hard, soft, file, large_superblock}
use Rattle.lfs_model.proofs.Refusals.{refused_with, fails_root}
use Rattle.lfs_model.proofs.images.moved_superblock_is_read.Goals as goal

pub returns-clause-moved : goal.returns-clause-moved
unfolding chain_of bounded_commit_sequence bounded_commit_at entry_at closes crc_of checksum_after_bits
returns-clause-moved c = image_shows _ (pair (0, 1) [] (hard (2, 3)) zero_gstate ∷ pair (2, 3) (large_superblock ∷ file (codes "a") (codes "hi") ∷ []) None zero_gstate ∷ []) (superblock_bytes default_profile 4096 16) 2
    (record { links = (refl, (refl, refl)); contents = (refl, (refl, tt)); first = refl; named = refl; lists = (tt, (tt, tt)); pass = refl }) _ _ _ refl refl refl

pub returns-clause-between : goal.returns-clause-between
unfolding chain_of bounded_commit_sequence bounded_commit_at entry_at closes crc_of checksum_after_bits
returns-clause-between c = image_shows _ (pair (0, 1) (large_superblock ∷ []) (hard (2, 3)) zero_gstate ∷ pair (2, 3) [] (hard (4, 5)) zero_gstate ∷ pair (4, 5) (large_superblock ∷ file (codes "a") (codes "hi") ∷ []) None zero_gstate ∷ []) (superblock_bytes default_profile 4096 16) 2
    (record { links = (refl, (refl, (refl, refl))); contents = (refl, (refl, (refl, tt))); first = refl; named = refl; lists = (tt, (tt, (tt, tt))); pass = refl }) _ _ _ refl refl refl

pub returns-clause-no_more : goal.returns-clause-no_more
unfolding chain_of bounded_commit_sequence bounded_commit_at entry_at closes crc_of checksum_after_bits
returns-clause-no_more c = image_shows _ (pair (0, 1) (large_superblock ∷ []) (hard (2, 3)) zero_gstate ∷ pair (2, 3) [] (hard (4, 5)) zero_gstate ∷ pair (4, 5) (file (codes "a") (codes "hi") ∷ []) None zero_gstate ∷ []) (superblock_bytes default_profile 4096 16) 2
    (record { links = (refl, (refl, (refl, refl))); contents = (refl, (refl, (refl, tt))); first = refl; named = refl; lists = (tt, (tt, tt)); pass = refl }) _ _ _ refl refl refl

pub returns-clause-soft : goal.returns-clause-soft
unfolding chain_of bounded_commit_sequence bounded_commit_at entry_at closes crc_of checksum_after_bits
returns-clause-soft c = refused_with _ (pair (0, 1) [] (soft (2, 3)) zero_gstate ∷ pair (2, 3) (large_superblock ∷ file (codes "a") (codes "hi") ∷ []) None zero_gstate ∷ []) (refl, (refl, refl)) (refl, (refl, tt))
    (fails_root _ _ refl)

pub returns-clause-none : goal.returns-clause-none
unfolding chain_of bounded_commit_sequence bounded_commit_at entry_at closes crc_of checksum_after_bits
returns-clause-none c = refused_with _ (pair (0, 1) [] (hard (2, 3)) zero_gstate ∷ pair (2, 3) (file (codes "a") (codes "hi") ∷ []) None zero_gstate ∷ []) (refl, (refl, refl)) (refl, (refl, tt))
    (fails_root _ _ refl)
