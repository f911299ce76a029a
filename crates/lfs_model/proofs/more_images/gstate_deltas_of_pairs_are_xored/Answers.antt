use Rattle.std.proofs.Common.{[], ◌∷◌, None, true, refl}
use Rattle.std.specs.Prelude.{codes}
use Rattle.lfs_model.proofs.Common.{default_profile, zero_gstate, superblock_bytes}
use Rattle.lfs_model.specs.format.Crc.{crc_of, checksum_after_bits}
use Rattle.lfs_model.specs.format.Log.{chain_of, bounded_commit_sequence, bounded_commit_at, entry_at, closes}
use Rattle.lfs_model.proofs.Examples.{image_shows, pair, soft, folder, large_superblock}
use Rattle.lfs_model.proofs.more_images.gstate_deltas_of_pairs_are_xored.Goals as goal

pub returns : goal.returns
unfolding chain_of bounded_commit_sequence bounded_commit_at entry_at closes crc_of checksum_after_bits
returns c = image_shows _ (pair (0, 1) (large_superblock ∷ folder (codes "d") (2, 3) ∷ []) (soft (2, 3)) (record zero_gstate { sync = true }) ∷ pair (2, 3) [] None (record zero_gstate { sync = true }) ∷ []) (superblock_bytes default_profile 4096 16) 2
    (record { links = (refl, (refl, refl)); contents = (refl, (refl, tt)); first = refl; named = refl; lists = (tt, (tt, tt)); pass = refl }) _ _ _ refl refl refl
