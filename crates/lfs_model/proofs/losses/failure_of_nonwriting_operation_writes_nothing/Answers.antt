use Rattle.std.proofs.Common.{refl, sym, ap, subst, ◌∙◌, append-nil}
use Rattle.lfs_model.proofs.Common.{AllCalls, IsRead, program_count, small_image}
use Rattle.lfs_model.proofs.FreshSession.{differ, no_blocks, none_accepted}
use Rattle.lfs_model.proofs.losses.failure_of_nonwriting_operation_writes_nothing.Goals as goal

pub returns-clause-no_call : goal.returns-clause-no_call
returns-clause-no_call c = λ h. absurd (let e = h.called ∙ append-nil h.calls ∙ (h.silent refl refl).1 in cc)

pub returns-clause-no_write : goal.returns-clause-no_write
returns-clause-no_write c = λ h. differ (sym (h.remounted refl).0)

pub returns-clause-no_other_blocks : goal.returns-clause-no_other_blocks
returns-clause-no_other_blocks c = λ h. no_blocks (subst (AllCalls (IsRead small_image.blocks)) (sym (h.called ∙ append-nil h.calls)) (h.reads refl)).0.before

pub returns-clause-itself : goal.returns-clause-itself
returns-clause-itself c = λ h. absurd (let e = ap program_count (h.called ∙ append-nil h.calls) ∙ (h.itself refl).1.0 in cc)

pub returns-clause-unwritten : goal.returns-clause-unwritten
returns-clause-unwritten c = λ h. absurd (let e = ap program_count (h.called ∙ append-nil h.calls) ∙ (h.unwritten (λ ps a w. none_accepted ps a)).1.0 in cc)
