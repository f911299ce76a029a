use Rattle.std.proofs.Common.{[], ◌∷◌, None, refl}
use Rattle.std.specs.Prelude.{codes}
use Rattle.lfs_model.proofs.Common.{default_profile, zero_gstate, superblock_bytes}
use Rattle.lfs_model.specs.format.Crc.{crc_of, checksum_after_bits}
use Rattle.lfs_model.specs.format.Log.{chain_of, bounded_commit_sequence, bounded_commit_at, entry_at, closes}
use Rattle.lfs_model.proofs.Examples.{image_shows, pair, file, large_superblock}
use Rattle.lfs_model.proofs.images.later_block_of_pair_is_shown.Goals as goal

pub returns-clause-first : goal.returns-clause-first
unfolding chain_of bounded_commit_sequence bounded_commit_at entry_at closes crc_of checksum_after_bits
returns-clause-first c = image_shows _ (pair (0, 1) (large_superblock ∷ record (file (codes "b") []) { attributes = (0x41, codes "x") ∷ [] } ∷ []) None zero_gstate ∷ []) (superblock_bytes default_profile 4096 16) 2
    (record { links = (refl, refl); contents = (refl, tt); first = refl; named = refl; lists = (tt, (tt, tt)); pass = refl }) _ _ _ refl refl refl

pub returns-clause-second : goal.returns-clause-second
unfolding chain_of bounded_commit_sequence bounded_commit_at entry_at closes crc_of checksum_after_bits
returns-clause-second c = image_shows _ (pair (0, 1) (large_superblock ∷ file (codes "a") (codes "hello") ∷ []) None zero_gstate ∷ []) (superblock_bytes default_profile 4096 16) 2
    (record { links = (refl, refl); contents = (refl, tt); first = refl; named = refl; lists = (tt, (tt, tt)); pass = refl }) _ _ _ refl refl refl
