use Rattle.std.proofs.Common.{ℕ, ◌≡◌, ◌<◌, Bool, true, false, List, [], ◌∷◌, refl, ap, length}
use Rattle.std.specs.Prelude.{nat_lt}
use Rattle.lfs_model.specs.format.Crc.{crc_of, checksum_after_bits}
use Rattle.lfs_model.specs.format.Log.{chain_of, bounded_commit_sequence, bounded_commit_at, entry_at, closes}
use Rattle.lfs_model.specs.examples.Images.{small_disk_with, bad_checksum_block}
use Rattle.lfs_model.proofs.Skips.{all_below, below_from}
use Rattle.lfs_model.proofs.Refusals.{no_commit}
use Rattle.lfs_model.proofs.log.altered_commit_ends_log.Goals as goal

pub returns-clause-second : goal.returns-clause-second
unfolding chain_of bounded_commit_sequence bounded_commit_at entry_at closes crc_of checksum_after_bits
returns-clause-second c = refl

pub returns-clause-fourth : goal.returns-clause-fourth
unfolding chain_of bounded_commit_sequence bounded_commit_at entry_at closes crc_of checksum_after_bits
returns-clause-fourth c = refl

pub returns-clause-first : goal.returns-clause-first
unfolding chain_of bounded_commit_sequence bounded_commit_at entry_at closes crc_of checksum_after_bits
returns-clause-first c = refl

pub returns-clause-whole : goal.returns-clause-whole
unfolding chain_of bounded_commit_sequence bounded_commit_at entry_at closes crc_of checksum_after_bits
returns-clause-whole c = refl

is_nil : {A : Type 0} → List A → Bool
is_nil [] = true
is_nil (x ∷ xs) = false

nil_from : {A : Type 0} (xs : List A) → is_nil xs ≡ true → xs ≡ []
unfolding is_nil
nil_from [] e = refl
nil_from (x ∷ xs) e = absurd (cc)

each_bit : all_below (λ k. is_nil (chain_of (bad_checksum_block k)).commits) 32 ≡ true
unfolding is_nil chain_of bounded_commit_sequence bounded_commit_at entry_at closes crc_of checksum_after_bits
each_bit = refl

no_log : (k : ℕ) → k < 32 → (chain_of (bad_checksum_block k)).commits ≡ []
no_log k l = nil_from (chain_of (bad_checksum_block k)).commits (below_from (λ k. is_nil (chain_of (bad_checksum_block k)).commits) 32 each_bit k l)

pub returns-clause-no_log : goal.returns-clause-no_log
returns-clause-no_log c = no_log

pub returns-clause-no_image : goal.returns-clause-no_image
unfolding chain_of bounded_commit_sequence bounded_commit_at entry_at closes crc_of checksum_after_bits
returns-clause-no_image c = λ k l. no_commit (small_disk_with (bad_checksum_block k)) (ap (λ commits. nat_lt 0 (length commits)) (no_log k l)) refl
