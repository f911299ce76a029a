use Rattle.std.proofs.Common.{◌≡◌, true, refl, ◌+◌, ◌==◌, eqb-true, slice_set}
use Rattle.lfs_model.specs.format.Crc.{crc_of, checksum_after_bits}
use Rattle.lfs_model.specs.format.Log.{chain_of, bounded_commit_sequence, bounded_commit_at, entry_at, closes}
use Rattle.lfs_model.proofs.Common.{small_block}
use Rattle.lfs_model.proofs.Skips.{all_below, below_from}
use Rattle.lfs_model.proofs.log.padding_may_be_any_bytes.Goals as goal

each_pad : all_below (λ k. (chain_of (slice_set small_block (52 + k) 0x00)).end == 128) 76 ≡ true
unfolding chain_of bounded_commit_sequence bounded_commit_at entry_at closes crc_of checksum_after_bits
each_pad = refl

pub returns : goal.returns
unfolding chain_of bounded_commit_sequence bounded_commit_at entry_at closes crc_of checksum_after_bits
returns c = λ k l. eqb-true (chain_of (slice_set small_block (52 + k) 0x00)).end 128 (below_from (λ k. (chain_of (slice_set small_block (52 + k) 0x00)).end == 128) 76 each_pad k l)
