use Rattle.std.proofs.Common.{[], ◌∷◌, None, refl}
use Rattle.std.specs.Prelude.{codes}
use Rattle.lfs_model.specs.format.Crc.{crc_of, checksum_after_bits}
use Rattle.lfs_model.specs.format.Log.{chain_of, bounded_commit_sequence, bounded_commit_at, entry_at, closes}
use Rattle.lfs_model.proofs.Common.{zero_gstate}
use Rattle.lfs_model.proofs.Examples.{pair, hard, soft, folder, large_superblock}
use Rattle.lfs_model.proofs.Refusals.{refused_with, fails_branches, fails_once}
use Rattle.lfs_model.proofs.refused.bad_directory_address_is_not_accepted.Goals as goal

pub returns-clause-root : goal.returns-clause-root
unfolding chain_of bounded_commit_sequence bounded_commit_at entry_at closes crc_of checksum_after_bits
returns-clause-root c = refused_with _ (pair (0, 1) (large_superblock ∷ folder (codes "d") (0, 1) ∷ []) (None) (zero_gstate) ∷ []) (refl, refl) (refl, tt) (fails_once _ _ [] (codes "d" ∷ []) (0, 1) (0, 1) refl refl refl refl)

pub returns-clause-twice : goal.returns-clause-twice
unfolding chain_of bounded_commit_sequence bounded_commit_at entry_at closes crc_of checksum_after_bits
returns-clause-twice c = refused_with _ (pair (0, 1) (large_superblock ∷ folder (codes "d") (2, 3) ∷ folder (codes "e") (2, 3) ∷ []) (soft (2, 3)) (zero_gstate) ∷ pair (2, 3) [] None zero_gstate ∷ []) (refl, (refl, refl)) (refl, (refl, tt)) (fails_once _ _ (codes "d" ∷ []) (codes "e" ∷ []) (2, 3) (2, 3) refl refl refl refl)

pub returns-clause-absent : goal.returns-clause-absent
unfolding chain_of bounded_commit_sequence bounded_commit_at entry_at closes crc_of checksum_after_bits
returns-clause-absent c = refused_with _ (pair (0, 1) (large_superblock ∷ folder (codes "d") (2, 3) ∷ []) (None) (zero_gstate) ∷ []) (refl, refl) (refl, tt) (fails_branches _ _ (codes "d" ∷ []) (2, 3) refl refl)

pub returns-clause-follower : goal.returns-clause-follower
unfolding chain_of bounded_commit_sequence bounded_commit_at entry_at closes crc_of checksum_after_bits
returns-clause-follower c = refused_with _ (pair (0, 1) (large_superblock ∷ folder (codes "d") (2, 3) ∷ []) (hard (2, 3)) (zero_gstate) ∷ pair (2, 3) [] None zero_gstate ∷ []) (refl, (refl, refl)) (refl, (refl, tt)) (fails_branches _ _ (codes "d" ∷ []) (2, 3) refl refl)
