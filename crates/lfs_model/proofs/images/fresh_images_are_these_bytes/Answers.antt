use Rattle.std.proofs.Common.{refl, arith}
use Rattle.lfs_model.specs.format.Crc.{crc_of, checksum_after_bits}
use Rattle.lfs_model.specs.format.Log.{chain_of, bounded_commit_sequence, bounded_commit_at, entry_at, closes}
use Rattle.lfs_model.proofs.images.fresh_images_are_these_bytes.Goals as goal

pub returns-clause-small : goal.returns-clause-small
unfolding chain_of bounded_commit_sequence bounded_commit_at entry_at closes crc_of checksum_after_bits
returns-clause-small c = record {
  geometry = record { power = refl; pages = omega arith; no_smaller = omega arith; no_larger = omega arith; whole_pages = refl; no_fewer = omega arith; no_more = omega arith; bytes = omega arith };
  content = refl;
  first = refl;
}

pub returns-clause-large : goal.returns-clause-large
unfolding chain_of bounded_commit_sequence bounded_commit_at entry_at closes crc_of checksum_after_bits
returns-clause-large c = record {
  geometry = record { power = refl; pages = omega arith; no_smaller = omega arith; no_larger = omega arith; whole_pages = refl; no_fewer = omega arith; no_more = omega arith; bytes = omega arith };
  content = refl;
  first = refl;
}
