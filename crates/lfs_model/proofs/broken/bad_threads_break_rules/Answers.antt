use Rattle.std.proofs.Common.{[], ◌∷◌, inl, refl, arith}
use Rattle.lfs_model.specs.format.Crc.{crc_of, checksum_after_bits}
use Rattle.lfs_model.proofs.Common.{fresh_pair, zero_gstate}
use Rattle.lfs_model.specs.format.Log.{chain_of, bounded_commit_sequence, bounded_commit_at, entry_at, closes}
use Rattle.lfs_model.specs.examples.Violations.{absent_block_image, same_block_pair_image, tail_to_root_image, unwritten_pair_image}
use Rattle.lfs_model.proofs.BrokenImages.{begins_with}
use Rattle.lfs_model.proofs.BrokenRules.{accepted_breaks_none}
use Rattle.lfs_model.proofs.Examples.{pair, soft, large_superblock}
use Rattle.lfs_model.proofs.Fresh as fresh
use Rattle.lfs_model.proofs.broken.bad_threads_break_rules.Goals as goal

pub returns-clause-out_of_range : goal.returns-clause-out_of_range
unfolding chain_of bounded_commit_sequence bounded_commit_at entry_at closes crc_of checksum_after_bits
returns-clause-out_of_range c = inl ((pair (0, 1) (large_superblock ∷ []) (soft (2, 16)) zero_gstate ∷ [], begins_with absent_block_image _ (2, 16) (refl, refl) (refl, tt)), λ h. let past = h.1 in absurd (omega arith))

pub returns-clause-one_block : goal.returns-clause-one_block
unfolding chain_of bounded_commit_sequence bounded_commit_at entry_at closes crc_of checksum_after_bits
returns-clause-one_block c = inl ((pair (0, 1) (large_superblock ∷ []) (soft (2, 2)) zero_gstate ∷ [], begins_with same_block_pair_image _ (2, 2) (refl, refl) (refl, tt)), refl)

pub returns-clause-two_pairs : goal.returns-clause-two_pairs
unfolding chain_of bounded_commit_sequence bounded_commit_at entry_at closes crc_of checksum_after_bits
returns-clause-two_pairs c = inl (record {
  before = pair (0, 1) (large_superblock ∷ []) (soft (0, 1)) zero_gstate ∷ [];
  begins = begins_with tail_to_root_image _ (0, 1) (refl, refl) (refl, tt);
  own = inl refl;
  earlier = (0, omega arith, refl);
})

pub returns-clause-no_content : goal.returns-clause-no_content
unfolding chain_of bounded_commit_sequence bounded_commit_at entry_at closes crc_of checksum_after_bits
returns-clause-no_content c = inl ((pair (0, 1) (large_superblock ∷ []) (soft (2, 3)) zero_gstate ∷ [], begins_with unwritten_pair_image _ (2, 3) (refl, refl) (refl, tt)), (omega arith, omega arith), refl)

pub returns-clause-none : goal.returns-clause-none
returns-clause-none c = λ disk v is broken. accepted_breaks_none disk v broken (fresh_pair disk ∷ []) (fresh.accepted disk is)
