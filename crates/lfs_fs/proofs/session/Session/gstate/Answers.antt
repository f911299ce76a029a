use Rattle.std.proofs.Common.{◌∙◌, ap, refl, None}
use Rattle.lfs_device.specs.declared.error.Error.TheVariants as error
use Rattle.lfs_model.specs.session.Operations as ops
use Rattle.lfs_fs.specs.GstateView.{gstate_reply_from_disk}
use Rattle.lfs_fs.proofs.Common.{session_view}
use Rattle.lfs_fs.proofs.Questions.{failed_by, works_by, refused_kept, question_kept}
use Rattle.lfs_fs.proofs.Answered.{sound_by}
use Rattle.lfs_fs.proofs.Sparing.{kept_asking}
use Rattle.lfs_fs.proofs.Ending.{kept_ends, refused_ends}
use Rattle.lfs_fs.proofs.session.Session.gstate.Goals as goal

pub returns-then-has_failed : goal.returns-then-has_failed
returns-then-has_failed g c =
    kept_asking c.self.inside.tree c.self.inside.files _ ops.AskGstate _ c.self.view_is c.self.invariant.ready (λ s. refl) refl
    (refused_ends (session_view c.self.inside.tree c.self.inside.files) _ ops.AskGstate ops.Failed c.self.view_is (failed_by (session_view c.self.inside.tree c.self.inside.files) ops.AskGstate c.if-has_failed.ensures))
    (refused_kept (session_view c.self.inside.tree c.self.inside.files) _ (ops.AskGstate) error.Failed c.self.view_is (sound_by c.self.inside.tree c.self.inside.files c.self.invariant.ready) refl (failed_by (session_view c.self.inside.tree c.self.inside.files) (ops.AskGstate) c.if-has_failed.ensures))

pub returns : goal.returns
returns g c =
    kept_asking c.self.inside.tree c.self.inside.files _ ops.AskGstate _ c.self.view_is c.self.invariant.ready (λ s. refl) refl
    (kept_ends (session_view c.self.inside.tree c.self.inside.files) _ ops.AskGstate _ c.self.view_is (works_by (session_view c.self.inside.tree c.self.inside.files) ops.AskGstate None c.if-has_failed.ensures refl))
    (question_kept (session_view c.self.inside.tree c.self.inside.files) _ ops.AskGstate _ c.self.view_is (sound_by c.self.inside.tree c.self.inside.files c.self.invariant.ready) refl (works_by (session_view c.self.inside.tree c.self.inside.files) ops.AskGstate None c.if-has_failed.ensures refl)
    (c.gstate_from_move.ensures ∙ ap gstate_reply_from_disk c.gstate.ensures))
