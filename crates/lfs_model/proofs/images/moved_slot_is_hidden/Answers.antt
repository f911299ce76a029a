use Rattle.std.proofs.Common.{[], ◌∷◌, None, false, refl}
use Rattle.std.specs.Prelude.{codes}
use Rattle.lfs_model.proofs.Common.{default_profile, zero_gstate, superblock_bytes}
use Rattle.lfs_model.specs.format.Crc.{crc_of, checksum_after_bits}
use Rattle.lfs_model.specs.format.Log.{chain_of, bounded_commit_sequence, bounded_commit_at, entry_at, closes}
use Rattle.lfs_model.proofs.Examples.{image_shows, pair, soft, file, long_file, folder, large_superblock}
use Rattle.lfs_model.proofs.images.moved_slot_is_hidden.Goals as goal

pub returns-clause-old_place : goal.returns-clause-old_place
unfolding chain_of bounded_commit_sequence bounded_commit_at entry_at closes crc_of checksum_after_bits
returns-clause-old_place c = image_shows _ (pair (0, 1) (large_superblock ∷ folder (codes "d") (2, 3) ∷ file (codes "g") (codes "hi") ∷ []) (soft (2, 3)) (record { sync = false; kind = 0x4ff; id = 0; pair = (2, 3) }) ∷ pair (2, 3) (file (codes "f") (codes "hi") ∷ []) None zero_gstate ∷ []) (superblock_bytes default_profile 4096 16) 2
    (record { links = (refl, (refl, refl)); contents = (refl, (refl, tt)); first = refl; named = refl; lists = (tt, (tt, (tt, tt))); pass = refl }) _ _ _ refl refl refl

pub returns-clause-same_name : goal.returns-clause-same_name
unfolding chain_of bounded_commit_sequence bounded_commit_at entry_at closes crc_of checksum_after_bits
returns-clause-same_name c = image_shows _ (pair (0, 1) (large_superblock ∷ long_file (codes "f") 16 5 ∷ file (codes "f") (codes "hi") ∷ []) None (record { sync = false; kind = 0x4ff; id = 1; pair = (0, 1) }) ∷ []) (superblock_bytes default_profile 4096 16) 2
    (record { links = (refl, refl); contents = (refl, tt); first = refl; named = refl; lists = (tt, (tt, tt)); pass = refl }) _ _ _ refl refl refl
