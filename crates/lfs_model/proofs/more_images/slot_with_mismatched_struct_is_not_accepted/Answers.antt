use Rattle.std.proofs.Common.{[], ◌∷◌, None, false, refl}
use Rattle.std.specs.Prelude.{codes}
use Rattle.lfs_model.proofs.Common.{default_profile, zero_gstate, File, Directory, superblock_bytes}
use Rattle.lfs_model.specs.format.Crc.{crc_of, checksum_after_bits}
use Rattle.lfs_model.specs.format.Log.{chain_of, bounded_commit_sequence, bounded_commit_at, entry_at, closes}
use Rattle.lfs_model.proofs.Examples.{pair, folder, file, large_superblock}
use Rattle.lfs_model.proofs.Refusals.{no_first, refused_with, fails_superblock, fails_move}
use Rattle.lfs_model.proofs.more_images.slot_with_mismatched_struct_is_not_accepted.Goals as goal

pub returns-clause-no_struct : goal.returns-clause-no_struct
unfolding chain_of bounded_commit_sequence bounded_commit_at entry_at closes crc_of checksum_after_bits
returns-clause-no_struct c = no_first _ refl

pub returns-clause-move_elsewhere : goal.returns-clause-move_elsewhere
unfolding chain_of bounded_commit_sequence bounded_commit_at entry_at closes crc_of checksum_after_bits
returns-clause-move_elsewhere c = refused_with _ (pair (0, 1) (large_superblock ∷ []) None (record { sync = false; kind = 0x4ff; id = 0; pair = (2, 3) }) ∷ []) (refl, refl) (refl, tt) (fails_move _ _ refl)

pub returns-clause-file_branch : goal.returns-clause-file_branch
unfolding chain_of bounded_commit_sequence bounded_commit_at entry_at closes crc_of checksum_after_bits
returns-clause-file_branch c = refused_with _ (pair (0, 1) (large_superblock ∷ record (folder (codes "a") (2, 3)) { kind = File } ∷ []) None zero_gstate ∷ []) (refl, refl) (refl, tt) (fails_superblock _ _ _ _ (superblock_bytes default_profile 4096 16) refl (λ held h. h.1) refl)

pub returns-clause-directory_inline : goal.returns-clause-directory_inline
unfolding chain_of bounded_commit_sequence bounded_commit_at entry_at closes crc_of checksum_after_bits
returns-clause-directory_inline c = refused_with _ (pair (0, 1) (large_superblock ∷ record (file (codes "a") []) { kind = Directory } ∷ []) None zero_gstate ∷ []) (refl, refl) (refl, tt) (fails_superblock _ _ _ _ (superblock_bytes default_profile 4096 16) refl (λ held h. h.1) refl)
