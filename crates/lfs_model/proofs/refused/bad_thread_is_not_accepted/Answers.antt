use Rattle.std.proofs.Common.{[], ◌∷◌, None, refl}
use Rattle.lfs_model.specs.format.Crc.{crc_of, checksum_after_bits}
use Rattle.lfs_model.specs.format.Log.{chain_of, bounded_commit_sequence, bounded_commit_at, entry_at, closes}
use Rattle.lfs_model.proofs.Common.{zero_gstate}
use Rattle.lfs_model.proofs.Examples.{pair, soft, large_superblock}
use Rattle.lfs_model.proofs.Refusals.{no_second, no_distinct, fails_range, refused_with}
use Rattle.lfs_model.proofs.refused.bad_thread_is_not_accepted.Goals as goal

pub returns-clause-itself : goal.returns-clause-itself
unfolding chain_of bounded_commit_sequence bounded_commit_at entry_at closes crc_of checksum_after_bits
returns-clause-itself c = no_distinct _ (record { slots = large_superblock ∷ []; tail = soft (0, 1); move = zero_gstate }) (record { slots = large_superblock ∷ []; tail = soft (0, 1); move = zero_gstate }) (0, 1) refl refl refl refl

pub returns-clause-block_twice : goal.returns-clause-block_twice
unfolding chain_of bounded_commit_sequence bounded_commit_at entry_at closes crc_of checksum_after_bits
returns-clause-block_twice c = no_distinct _ (record { slots = large_superblock ∷ []; tail = soft (2, 2); move = zero_gstate }) (record { slots = []; tail = None; move = zero_gstate }) (2, 2) refl refl refl refl

pub returns-clause-one_null : goal.returns-clause-one_null
unfolding chain_of bounded_commit_sequence bounded_commit_at entry_at closes crc_of checksum_after_bits
returns-clause-one_null c = no_second _ (record { slots = large_superblock ∷ []; tail = soft (2, 0xffffffff); move = zero_gstate }) (2, 0xffffffff) refl refl refl

pub returns-clause-out_of_range : goal.returns-clause-out_of_range
unfolding chain_of bounded_commit_sequence bounded_commit_at entry_at closes crc_of checksum_after_bits
returns-clause-out_of_range c = refused_with _ (pair (0, 1) (large_superblock ∷ []) (soft (2, 16)) (zero_gstate) ∷ pair (2, 16) [] None zero_gstate ∷ []) (refl, (refl, refl)) (refl, (refl, tt)) (fails_range _ _ refl)

pub returns-clause-unwritten_pair : goal.returns-clause-unwritten_pair
unfolding chain_of bounded_commit_sequence bounded_commit_at entry_at closes crc_of checksum_after_bits
returns-clause-unwritten_pair c = no_second _ (record { slots = large_superblock ∷ []; tail = soft (2, 3); move = zero_gstate }) (2, 3) refl refl refl
