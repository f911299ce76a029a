use Rattle.std.proofs.Common.{◌≡◌, false, List, [], ◌∷◌, ◌++◌, refl, sym, ap, subst, ◌∙◌, append-nil}
use Rattle.lfs_model.specs.declared.order.NameOrder.TheVariants.{LongerFirst, ShorterFirst}
use Rattle.lfs_model.proofs.Common.{disk_with_order, AllCalls, CallEvent, IsRead, Read, call_event, program_count, IsAccepted, HasFailed, Healthy, mounted_session, Tree, empty_tree, IsStep, small_image, fresh_state}
use Rattle.lfs_model.specs.session.Operations as ops
use Rattle.lfs_model.specs.session.Run.{WriteNothing}
use Rattle.lfs_model.proofs.Fresh.{accepted, shows}
use Rattle.lfs_model.proofs.Example.{fresh}
use Rattle.lfs_model.proofs.FreshSession.{around, are_accepted, no_blocks, none_in_order, pairs, surrounds}
use Rattle.lfs_model.proofs.StepsMade.{remounted_step}
use Rattle.lfs_model.proofs.runs.remount_finds_name_order.Goals as goal

fits_longer : IsAccepted (disk_with_order LongerFirst small_image) pairs
fits_longer = accepted (disk_with_order LongerFirst small_image) (record { geometry = fresh.geometry; content = fresh.content; first = fresh.first })

-- a remount by these calls, which only read
found : (calls : List CallEvent) → WriteNothing calls → AllCalls (IsRead small_image.blocks) calls
    → IsStep fresh_state ops.Remount ops.Done (record { disk = disk_with_order LongerFirst small_image; calls = calls ++ []; state = Healthy (mounted_session empty_tree) })
found calls writes reads =
    subst (λ (tree : Tree). IsStep fresh_state ops.Remount ops.Done (record { disk = disk_with_order LongerFirst small_image; calls = calls ++ []; state = Healthy (mounted_session tree) })) (shows small_image)
    (remounted_step small_image LongerFirst pairs around fresh_state.state calls [] (λ s e. (pairs, (are_accepted, surrounds))) fits_longer (λ e. absurd (cc)) writes reads)

pub returns-clause-found : goal.returns-clause-found
returns-clause-found c = found [] (refl, refl) tt

pub returns-clause-reads : goal.returns-clause-reads
returns-clause-reads c = found (call_event (Read 0 0 4) small_image.blocks small_image.blocks false ∷ []) (refl, refl) (record { reads = refl; before = refl; after = refl }, tt)

pub returns-clause-no_other_blocks : goal.returns-clause-no_other_blocks
returns-clause-no_other_blocks c = λ h. no_blocks (subst (AllCalls (IsRead small_image.blocks)) (sym (h.called ∙ append-nil h.calls)) (h.remounted refl).reads).0.before

pub returns-clause-no_program : goal.returns-clause-no_program
returns-clause-no_program c = λ h. absurd (let e = ap program_count (h.called ∙ append-nil h.calls) ∙ (h.remounted refl).untouched.1.0 in cc)

pub returns-clause-not_kept : goal.returns-clause-not_kept
returns-clause-not_kept c = λ h. (h.remounted refl).longer refl pairs fits_longer

pub returns-clause-none : goal.returns-clause-none
returns-clause-none c = none_in_order

pub returns-clause-other : goal.returns-clause-other
returns-clause-other c = λ disk order ps ok longer. remounted_step disk order ps around HasFailed [] [] (λ s e. absurd (cc)) ok longer (refl, refl) tt

pub returns-clause-no_other : goal.returns-clause-no_other
returns-clause-no_other c = λ h. absurd (let k : LongerFirst ≡ ShorterFirst = h.geometry.order in cc)
