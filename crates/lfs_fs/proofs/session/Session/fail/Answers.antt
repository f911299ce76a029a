use Rattle.std.proofs.Common.{◌≡◌, ◌∙◌, ap, subst, true}
use Rattle.lfs_fs.proofs.Common.{HealthyHasDiskTree, SessionView, session_view, system_state}
use Rattle.lfs_fs.proofs.Stopping.{failing_survives}
use Rattle.lfs_fs.proofs.Surviving.{ready_agrees, untouched_survives_loss}
use Rattle.lfs_fs.proofs.session.Session.fail.Goals as goal

pub returns-clause-failed : goal.returns-clause-failed
returns-clause-failed g c = ap (λ t. session_view t c.self.inside.files) c.fail.ensures ∙ ap {A = SessionView} (λ h. record h { tree = record h.tree { failed = true } }) c.self.view_is

pub returns-clause-survives_loss : goal.returns-clause-survives_loss
returns-clause-survives_loss g c op =
    let new = session_view c.fail.new.self c.self.inside.files in
    let failed : new ≡ record c.args.self.now { tree = record c.args.self.now.tree { failed = true } } = ap (λ t. session_view t c.self.inside.files) c.fail.ensures ∙ ap {A = SessionView} (λ h. record h { tree = record h.tree { failed = true } }) c.self.view_is in
    untouched_survives_loss (system_state c.args.self.now) op (system_state new) (subst (λ (h : SessionView). HealthyHasDiskTree h.tree.disk (system_state h).state) c.self.view_is (ready_agrees c.self.inside.tree c.self.inside.files c.self.invariant.ready))
    (ap (λ (h : SessionView). h.tree.disk) failed) (failing_survives c.args.self.now new op failed)
