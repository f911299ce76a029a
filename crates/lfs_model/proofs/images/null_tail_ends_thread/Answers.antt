use Rattle.std.proofs.Common.{[], ◌∷◌, None, refl}
use Rattle.lfs_model.proofs.Common.{default_profile, zero_gstate, superblock_bytes}
use Rattle.lfs_model.specs.format.Crc.{crc_of, checksum_after_bits}
use Rattle.lfs_model.specs.format.Log.{chain_of, bounded_commit_sequence, bounded_commit_at, entry_at, closes}
use Rattle.lfs_model.proofs.Examples.{image_shows, pair, large_superblock}
use Rattle.lfs_model.proofs.images.null_tail_ends_thread.Goals as goal

pub returns : goal.returns
unfolding chain_of bounded_commit_sequence bounded_commit_at entry_at closes crc_of checksum_after_bits
returns c = image_shows _ (pair (0, 1) (large_superblock ∷ []) None zero_gstate ∷ []) (superblock_bytes default_profile 4096 16) 1
    (record { links = (refl, refl); contents = (refl, tt); first = refl; named = refl; lists = (tt, tt); pass = refl }) _ _ _ refl refl refl
