use Rattle.std.proofs.Common.{◌≡◌, false, [], ◌∷◌, refl, sym, ◌∙◌, subst, append-nil}
use Rattle.lfs_model.proofs.Common.{AllCalls, IsRead, example_after_program, program_event, failed_read, history_after_erase, history_after_program, append_cancel_right}
use Rattle.lfs_model.proofs.calls.property_holds_of_later_calls.Goals as goal

pub returns-clause-succeeded : goal.returns-clause-succeeded
returns-clause-succeeded c = record { events = history_after_program; extends = refl; each = (refl, (refl, tt)) }

pub returns-clause-one_failed : goal.returns-clause-one_failed
returns-clause-one_failed c = λ h. absurd (let k = (subst (AllCalls (λ e. e.failed ≡ false)) (sym (h.extends ∙ append-nil h.events)) h.each).0 in cc)

pub returns-clause-only_read : goal.returns-clause-only_read
returns-clause-only_read c = record { events = failed_read ∷ []; extends = refl; each = (record { reads = refl; before = refl; after = refl }, tt) }

pub returns-clause-not_only : goal.returns-clause-not_only
returns-clause-not_only c = λ h. absurd (
    let k = subst (AllCalls (IsRead example_after_program)) (append_cancel_right h.events (failed_read ∷ program_event ∷ []) history_after_erase (sym h.extends)) h.each in
    let e = k.1.0.reads in
    cc)
