use Rattle.std.proofs.Common.{[], ◌∷◌, None, refl, replicate}
use Rattle.std.specs.Prelude.{codes}
use Rattle.lfs_model.proofs.Common.{default_profile, zero_gstate, superblock_bytes}
use Rattle.lfs_model.specs.format.Crc.{crc_of, checksum_after_bits}
use Rattle.lfs_model.specs.format.Log.{chain_of, bounded_commit_sequence, bounded_commit_at, entry_at, closes}
use Rattle.lfs_model.proofs.Examples.{pair, hard, file, large_superblock}
use Rattle.lfs_model.proofs.Refusals.{refused_with, fails_order, fails_superblock}
use Rattle.lfs_model.proofs.refused.bad_name_is_not_accepted.Goals as goal

pub returns-clause-descending : goal.returns-clause-descending
unfolding chain_of bounded_commit_sequence bounded_commit_at entry_at closes crc_of checksum_after_bits
returns-clause-descending c = refused_with _ (pair (0, 1) (large_superblock ∷ file (codes "b") [] ∷ file (codes "a") [] ∷ []) (None) (zero_gstate) ∷ []) (refl, refl) (refl, tt) (fails_order _ _ [] (0, 1) refl refl)

pub returns-clause-twice : goal.returns-clause-twice
unfolding chain_of bounded_commit_sequence bounded_commit_at entry_at closes crc_of checksum_after_bits
returns-clause-twice c = refused_with _ (pair (0, 1) (large_superblock ∷ file (codes "a") [] ∷ file (codes "a") [] ∷ []) (None) (zero_gstate) ∷ []) (refl, refl) (refl, tt) (fails_order _ _ [] (0, 1) refl refl)

pub returns-clause-dot : goal.returns-clause-dot
unfolding chain_of bounded_commit_sequence bounded_commit_at entry_at closes crc_of checksum_after_bits
returns-clause-dot c = refused_with _ (pair (0, 1) (large_superblock ∷ file (codes ".") [] ∷ []) (None) (zero_gstate) ∷ []) (refl, refl) (refl, tt) (fails_superblock _ _ _ _ (superblock_bytes default_profile 4096 16) refl (λ held h. h.1) refl)

pub returns-clause-slash : goal.returns-clause-slash
unfolding chain_of bounded_commit_sequence bounded_commit_at entry_at closes crc_of checksum_after_bits
returns-clause-slash c = refused_with _ (pair (0, 1) (large_superblock ∷ file (codes "a/b") [] ∷ []) (None) (zero_gstate) ∷ []) (refl, refl) (refl, tt) (fails_superblock _ _ _ _ (superblock_bytes default_profile 4096 16) refl (λ held h. h.1) refl)

pub returns-clause-long : goal.returns-clause-long
unfolding chain_of bounded_commit_sequence bounded_commit_at entry_at closes crc_of checksum_after_bits
returns-clause-long c = refused_with _ (pair (0, 1) (large_superblock ∷ file (replicate 256 97) [] ∷ []) (None) (zero_gstate) ∷ []) (refl, refl) (refl, tt) (fails_superblock _ _ _ _ (superblock_bytes default_profile 4096 16) refl (λ held h. h.1) refl)

pub returns-clause-across : goal.returns-clause-across
unfolding chain_of bounded_commit_sequence bounded_commit_at entry_at closes crc_of checksum_after_bits
returns-clause-across c = refused_with _ (pair (0, 1) (large_superblock ∷ file (codes "b") [] ∷ []) (hard (2, 3)) (zero_gstate) ∷ pair (2, 3) (file (codes "a") (codes "hi") ∷ []) None zero_gstate ∷ []) (refl, (refl, refl)) (refl, (refl, tt)) (fails_order _ _ [] (0, 1) refl refl)
