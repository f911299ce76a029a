use Rattle.std.proofs.Common.{ap, refl, sym}
use Rattle.lfs_model.specs.session.Operations as ops
use Rattle.lfs_fs.proofs.Common.{reply_from, session_view}
use Rattle.lfs_fs.proofs.Answered.{question_call, files_asked, asked_by_checks, sound_by}
use Rattle.lfs_fs.proofs.Stopping.{only_read, reads_of_checks}
use Rattle.lfs_fs.proofs.Sparing.{asking_call}
use Rattle.lfs_fs.proofs.Ending.{checked_ends}
use Rattle.lfs_fs.proofs.DeviceLaws.{between_checked}
use Rattle.lfs_fs.proofs.session.Session.get_attr.Goals as goal

pub returns : goal.returns
returns g c =
    asking_call c.self.inside.tree c.self.inside.files _ (ops.GetAttr c.args.path.now c.args.kind) _ _ c.self.view_is c.self.invariant.ready (λ s. refl) (λ k. absurd (cc))
    (record { few = λ l. c.check_get_attr.ensures.few; none = λ l. c.check_get_attr.ensures.kept; hand = λ path reply is same accepted s at ps a small. absurd (cc) })
    (checked_ends c.self.inside.tree c.self.inside.files _ (ops.GetAttr c.args.path.now c.args.kind) (λ v. ops.Bytes v.items) _ c.check_get_attr.result c.check_get_attr.new.tree c.self.view_is refl c.check_get_attr.ensures.checks)
    (files_asked c.args.self.now (ops.GetAttr c.args.path.now c.args.kind) (reply_from (λ v. ops.Bytes v.items) c.check_get_attr.result) c.self.inside.tree c.check_get_attr.new.tree c.self.inside.files (asked_by_checks c.self.inside.tree c.self.inside.files (ops.GetAttr c.args.path.now c.args.kind) _ c.check_get_attr.result c.check_get_attr.new.tree c.check_get_attr.ensures.checks)
    (question_call (session_view c.self.inside.tree c.self.inside.files) _ (ops.GetAttr c.args.path.now c.args.kind) (λ v. ops.Bytes v.items) _ c.check_get_attr.result c.check_get_attr.new.tree c.self.view_is
    (sound_by c.self.inside.tree c.self.inside.files c.self.invariant.ready) refl refl (λ x p. ap ops.Bytes (sym p)) c.check_get_attr.ensures.checks))
    (only_read (session_view c.self.inside.tree c.self.inside.files) _ (ops.GetAttr c.args.path.now c.args.kind) c.check_get_attr.new.tree c.self.view_is (sound_by c.self.inside.tree c.self.inside.files c.self.invariant.ready) (reads_of_checks (session_view c.self.inside.tree c.self.inside.files) (ops.GetAttr c.args.path.now c.args.kind) _ c.check_get_attr.result c.check_get_attr.new.tree c.check_get_attr.ensures.checks))

pub invariant_of-self : goal.invariant_of-self
invariant_of-self g c = between_checked c.self.inside.tree c.self.inside.files (ops.GetAttr c.args.path.now c.args.kind) _ c.check_get_attr.result c.check_get_attr.new.tree c.self.invariant c.check_get_attr.ensures.checks
