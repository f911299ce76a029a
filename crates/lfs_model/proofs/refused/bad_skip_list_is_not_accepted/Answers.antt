use Rattle.std.proofs.Common.{[], ◌∷◌, None, refl}
use Rattle.std.specs.Prelude.{codes}
use Rattle.lfs_model.specs.format.Crc.{crc_of, checksum_after_bits}
use Rattle.lfs_model.specs.format.Log.{chain_of, bounded_commit_sequence, bounded_commit_at, entry_at, closes}
use Rattle.lfs_model.proofs.Common.{zero_gstate}
use Rattle.lfs_model.proofs.Examples.{pair, long_file, large_superblock}
use Rattle.lfs_model.proofs.Refusals.{refused_with, fails_owners, fails_lists}
use Rattle.lfs_model.proofs.refused.bad_skip_list_is_not_accepted.Goals as goal

pub returns-clause-shared : goal.returns-clause-shared
unfolding chain_of bounded_commit_sequence bounded_commit_at entry_at closes crc_of checksum_after_bits lib.Count.count_trailing_zeros
returns-clause-shared c = refused_with _ (pair (0, 1) (large_superblock ∷ long_file (codes "a") 2 10 ∷ long_file (codes "b") 2 10 ∷ []) (None) (zero_gstate) ∷ []) (refl, refl) (refl, tt) (fails_owners _ _ refl)

pub returns-clause-of_the_root : goal.returns-clause-of_the_root
unfolding chain_of bounded_commit_sequence bounded_commit_at entry_at closes crc_of checksum_after_bits lib.Count.count_trailing_zeros
returns-clause-of_the_root c = refused_with _ (pair (0, 1) (large_superblock ∷ long_file (codes "a") 1 10 ∷ []) (None) (zero_gstate) ∷ []) (refl, refl) (refl, tt) (fails_owners _ _ refl)

pub returns-clause-head : goal.returns-clause-head
unfolding chain_of bounded_commit_sequence bounded_commit_at entry_at closes crc_of checksum_after_bits lib.Count.count_trailing_zeros
returns-clause-head c = refused_with _ (pair (0, 1) (large_superblock ∷ long_file (codes "a") 16 10 ∷ []) (None) (zero_gstate) ∷ []) (refl, refl) (refl, tt) (fails_lists _ _ refl)

pub returns-clause-empty : goal.returns-clause-empty
unfolding chain_of bounded_commit_sequence bounded_commit_at entry_at closes crc_of checksum_after_bits lib.Count.count_trailing_zeros
returns-clause-empty c = refused_with _ (pair (0, 1) (large_superblock ∷ long_file (codes "a") 2 0 ∷ []) (None) (zero_gstate) ∷ []) (refl, refl) (refl, tt) (fails_lists _ _ refl)

pub returns-clause-too_long : goal.returns-clause-too_long
unfolding chain_of bounded_commit_sequence bounded_commit_at entry_at closes crc_of checksum_after_bits lib.Count.count_trailing_zeros
returns-clause-too_long c = refused_with _ (pair (0, 1) (large_superblock ∷ long_file (codes "a") 2 0x80000000 ∷ []) (None) (zero_gstate) ∷ []) (refl, refl) (refl, tt) (fails_lists _ _ refl)

pub returns-clause-pointer : goal.returns-clause-pointer
unfolding chain_of bounded_commit_sequence bounded_commit_at entry_at closes crc_of checksum_after_bits lib.Count.count_trailing_zeros
returns-clause-pointer c = refused_with _ (pair (0, 1) (large_superblock ∷ long_file (codes "a") 4 8189 ∷ []) (None) (zero_gstate) ∷ []) (refl, refl) (refl, tt) (fails_lists _ _ refl)
