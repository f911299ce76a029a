use Rattle.std.proofs.Common.{◌≡◌, [], ◌∷◌, None, refl, sym, ◌∙◌}
use Rattle.lfs_model.proofs.Common.{fresh_pair, empty_tree, mounted_session, SystemState, IsStep, small_image, two_commit_image, fresh_state}
use Rattle.lfs_model.specs.session.Operations as ops
use Rattle.lfs_model.proofs.Fresh.{accepted}
use Rattle.lfs_model.proofs.Example.{fresh}
use Rattle.lfs_model.proofs.SessionSteps.{session_step_is_healthy, true_from}
use Rattle.lfs_model.proofs.FreshSession.{differ}
use Rattle.lfs_model.proofs.AskedStep.{op, turn}
use Rattle.lfs_model.proofs.runs.query_leaves_disk_unchanged.Goals as goal

pub returns-clause-answered : goal.returns-clause-answered
returns-clause-answered c = turn

pub returns-clause-run : goal.returns-clause-run
returns-clause-run c = (fresh_state, (turn, refl))

no_change : (to : SystemState) → to.disk ≡ two_commit_image → IsStep fresh_state op (ops.StatIs None) to → ⊥
no_change to e h =
    let known = true_from to (session_step_is_healthy fresh_state to op (ops.StatIs None) h tt) h.agrees in
    let done = h.effect_on_disk refl (mounted_session empty_tree) refl (fresh_pair small_image ∷ []) known.shows.0 (accepted small_image fresh) known.shows.1.0 in
    differ (sym (done.effect.asks refl).0 ∙ e)

pub returns-clause-no_change : goal.returns-clause-no_change
returns-clause-no_change c = no_change
