use Rattle.std.proofs.Common.{refl}
use Rattle.lfs_model.specs.format.Crc.{crc_of, checksum_after_bits}
use Rattle.lfs_model.specs.format.Log.{chain_of, bounded_commit_sequence, bounded_commit_at, entry_at, closes}
use Rattle.lfs_model.proofs.log.checksum_ends_commit.Goals as goal

pub returns-clause-shortest : goal.returns-clause-shortest
unfolding chain_of bounded_commit_sequence bounded_commit_at entry_at closes crc_of checksum_after_bits
returns-clause-shortest c = refl

pub returns-clause-longest : goal.returns-clause-longest
unfolding chain_of bounded_commit_sequence bounded_commit_at entry_at closes crc_of checksum_after_bits
returns-clause-longest c = refl

pub returns-clause-other_type : goal.returns-clause-other_type
unfolding chain_of bounded_commit_sequence bounded_commit_at entry_at closes crc_of checksum_after_bits
returns-clause-other_type c = refl
