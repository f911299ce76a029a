use Rattle.std.proofs.Common.{ℕ, ◌≡◌, ◌<◌, inl, inr, Some, None, List, [], ◌∷◌, true, refl, sym, ap, ◌∙◌, zero, suc, option_map, arith}
use Rattle.lfs_model.proofs.Common.{Blocks, block_bytes, BlockLog, Erase, call_event, LeftByLoss, MayEraseLeave, small_block}
use Rattle.lfs_model.specs.crash.Stops.{HasNoLog, log_revision}
use Rattle.lfs_model.specs.examples.Images.{two_commit_block, later_revision_block}
use Rattle.lfs_model.specs.format.Crc.{crc_of, checksum_after_bits}
use Rattle.lfs_model.specs.format.Log.{chain_of, bounded_commit_sequence, bounded_commit_at, entry_at, closes}
use Rattle.lfs_model.proofs.stops.stopped_erase_leaves_no_later_log.Goals as goal

old_revision : log_revision two_commit_block ≡ Some 1
unfolding chain_of bounded_commit_sequence bounded_commit_at entry_at closes crc_of checksum_after_bits
old_revision = refl

beginning_revision : log_revision small_block ≡ Some 1
unfolding chain_of bounded_commit_sequence bounded_commit_at entry_at closes crc_of checksum_after_bits
beginning_revision = refl

later_revision : log_revision later_revision_block ≡ Some 2
unfolding chain_of bounded_commit_sequence bounded_commit_at entry_at closes crc_of checksum_after_bits
later_revision = refl

beginning : MayEraseLeave two_commit_block small_block
beginning = inl (beginning_revision ∙ sym old_revision)

one_revision : (m n : ℕ) → Some m ≡ Some n → m ≡ n
one_revision m n is = cc

other_revision : (m n : ℕ) → n < m → Some m ≡ Some n → ⊥
other_revision m n less is = let same = one_revision m n is in absurd (omega (arith, less, same))

no_revision : (m : ℕ) → Some m ≡ None → ⊥
no_revision m is = absurd (cc)

revision_none : (block : List ℕ) → HasNoLog block → log_revision block ≡ None
revision_none block none = ap (option_map (λ (log : BlockLog). log.revision)) none

never : MayEraseLeave two_commit_block later_revision_block → ⊥
never (inl same) = other_revision 2 1 (omega arith) (sym later_revision ∙ same ∙ old_revision)
never (inr none) = no_revision 2 (sym later_revision ∙ revision_none later_revision_block none)

others : (b : ℕ) (x y : List ℕ) → (b ≡ 0 → ⊥) → block_bytes (y ∷ []) b ≡ block_bytes (x ∷ []) b
others zero x y other = absurd (other refl)
others (suc b) x y other = refl

pub returns-clause-none : goal.returns-clause-none
unfolding chain_of bounded_commit_sequence bounded_commit_at entry_at closes crc_of checksum_after_bits
returns-clause-none c = λ after. (record { count = refl; size = refl; others = λ b other. others b _ _ other }, inr refl)

stops : (after : Blocks) → LeftByLoss (call_event (Erase 0) (two_commit_block ∷ []) after true) (small_block ∷ [])
stops after = (record { count = refl; size = refl; others = λ b other. others b _ _ other }, beginning)

pub returns-clause-beginning : goal.returns-clause-beginning
returns-clause-beginning c = stops

pub returns-clause-later : goal.returns-clause-later
returns-clause-later c = λ after stop. never stop.1

pub returns-clause-clean : goal.returns-clause-clean
returns-clause-clean c = beginning

pub returns-clause-not_clean : goal.returns-clause-not_clean
returns-clause-not_clean c = never

pub returns-clause-failed : goal.returns-clause-failed
returns-clause-failed c = (λ e. stops (small_block ∷ []), λ h. never (h refl).1)
