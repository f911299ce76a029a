use Rattle.std.proofs.Common.{◌≡◌, List, [], ◌∷◌, ◌++◌, inl, refl}
use Rattle.std.specs.Prelude.{ℕ, take}
use Rattle.lfs_model.proofs.Common.{get_or-set_other, block_log, unwritten_bytes, small_commit, appending_commit}
use Rattle.lfs_model.specs.format.Crc.{crc_of, checksum_after_bits}
use Rattle.lfs_model.specs.format.Log.{chain_of, bounded_commit_sequence, bounded_commit_at, entry_at, closes}
use Rattle.lfs_model.proofs.Stopped.{stops_before, stops_whole}
use Rattle.lfs_model.proofs.stops.power_loss_in_call_leaves_log_before_or_after.Goals as goal

pub returns-clause-before : goal.returns-clause-before
returns-clause-before c = stops_before

pub returns-clause-whole : goal.returns-clause-whole
returns-clause-whole c = stops_whole

abbrev first : List ℕ
first = small_commit ++ unwritten_bytes 896

abbrev torn : List ℕ
torn = small_commit ++ take 10 appending_commit ++ unwritten_bytes 886

torn_log : block_log torn ≡ block_log first
unfolding chain_of bounded_commit_sequence bounded_commit_at entry_at closes crc_of checksum_after_bits
torn_log = refl

pub returns-clause-torn : goal.returns-clause-torn
returns-clause-torn c = λ after. (record { count = refl; size = refl; others = λ other d. get_or-set_other (first ∷ []) 0 other torn [] d }, inl torn_log)
