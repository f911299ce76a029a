use Rattle.std.proofs.Common.{[], ◌∷◌, None, refl}
use Rattle.lfs_model.proofs.Common.{default_profile, zero_gstate, Inline, superblock_bytes, superblock_struct_with}
use Rattle.lfs_model.specs.format.Crc.{crc_of, checksum_after_bits}
use Rattle.lfs_model.specs.format.Log.{chain_of, bounded_commit_sequence, bounded_commit_at, entry_at, closes}
use Rattle.lfs_model.proofs.Examples.{pair, large_superblock}
use Rattle.lfs_model.proofs.Refusals.{no_first, refused_with, fails_superblock}
use Rattle.lfs_model.proofs.refused.bad_superblock_is_not_accepted.Goals as goal

pub returns-clause-cut : goal.returns-clause-cut
unfolding chain_of bounded_commit_sequence bounded_commit_at entry_at closes crc_of checksum_after_bits
returns-clause-cut c = refused_with _ (pair (0, 1) (large_superblock ∷ []) (None) (zero_gstate) ∷ []) (refl, refl) (refl, tt) (fails_superblock _ _ _ _ (superblock_bytes default_profile 4096 16) refl (λ held h. h.1) refl)

pub returns-clause-lengthened : goal.returns-clause-lengthened
unfolding chain_of bounded_commit_sequence bounded_commit_at entry_at closes crc_of checksum_after_bits
returns-clause-lengthened c = refused_with _ (pair (0, 1) (large_superblock ∷ []) (None) (zero_gstate) ∷ []) (refl, refl) (refl, tt) (fails_superblock _ _ _ _ (superblock_bytes default_profile 4096 16) refl (λ held h. h.1) refl)

pub returns-clause-version : goal.returns-clause-version
unfolding chain_of bounded_commit_sequence bounded_commit_at entry_at closes crc_of checksum_after_bits
returns-clause-version c = refused_with _ (pair (0, 1) (record large_superblock { struct = Inline (superblock_struct_with 0x00020001 4096 255) } ∷ []) None zero_gstate ∷ []) (refl, refl) (refl, tt) (fails_superblock _ _ _ _ (superblock_struct_with 0x00020001 4096 255) refl (λ held h. h.1) refl)

pub returns-clause-later_version : goal.returns-clause-later_version
unfolding chain_of bounded_commit_sequence bounded_commit_at entry_at closes crc_of checksum_after_bits
returns-clause-later_version c = refused_with _ (pair (0, 1) (record large_superblock { struct = Inline (superblock_struct_with 0x00020002 4096 255) } ∷ []) None zero_gstate ∷ []) (refl, refl) (refl, tt) (fails_superblock _ _ _ _ (superblock_struct_with 0x00020002 4096 255) refl (λ held h. h.1) refl)

pub returns-clause-block_size : goal.returns-clause-block_size
unfolding chain_of bounded_commit_sequence bounded_commit_at entry_at closes crc_of checksum_after_bits
returns-clause-block_size c = refused_with _ (pair (0, 1) (record large_superblock { struct = Inline (superblock_struct_with 0x00020000 8192 255) } ∷ []) None zero_gstate ∷ []) (refl, refl) (refl, tt) (fails_superblock _ _ _ _ (superblock_struct_with 0x00020000 8192 255) refl (λ held h. h.1) refl)

pub returns-clause-unwritten : goal.returns-clause-unwritten
unfolding chain_of bounded_commit_sequence bounded_commit_at entry_at closes crc_of checksum_after_bits
returns-clause-unwritten c = no_first _ refl
