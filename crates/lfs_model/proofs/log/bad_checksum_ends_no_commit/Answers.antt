use Rattle.std.proofs.Common.{refl}
use Rattle.lfs_model.specs.format.Crc.{crc_of, checksum_after_bits}
use Rattle.lfs_model.specs.format.Log.{chain_of, bounded_commit_sequence, bounded_commit_at, entry_at, closes}
use Rattle.lfs_model.proofs.log.bad_checksum_ends_no_commit.Goals as goal

pub returns-clause-too_short : goal.returns-clause-too_short
unfolding chain_of bounded_commit_sequence bounded_commit_at entry_at closes crc_of checksum_after_bits
returns-clause-too_short c = refl

pub returns-clause-no_checksum : goal.returns-clause-no_checksum
unfolding chain_of bounded_commit_sequence bounded_commit_at entry_at closes crc_of checksum_after_bits
returns-clause-no_checksum c = refl

pub returns-clause-not_its_tag : goal.returns-clause-not_its_tag
unfolding chain_of bounded_commit_sequence bounded_commit_at entry_at closes crc_of checksum_after_bits
returns-clause-not_its_tag c = refl

pub returns-clause-past_the_end : goal.returns-clause-past_the_end
unfolding chain_of bounded_commit_sequence bounded_commit_at entry_at closes crc_of checksum_after_bits
returns-clause-past_the_end c = refl

pub returns-clause-within : goal.returns-clause-within
unfolding chain_of bounded_commit_sequence bounded_commit_at entry_at closes crc_of checksum_after_bits
returns-clause-within c = refl

pub returns-clause-absent : goal.returns-clause-absent
unfolding chain_of bounded_commit_sequence bounded_commit_at entry_at closes crc_of checksum_after_bits
returns-clause-absent c = refl
