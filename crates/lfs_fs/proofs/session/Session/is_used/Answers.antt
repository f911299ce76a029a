use Rattle.std.proofs.Common.{ap, refl, None}
use Rattle.lfs_device.specs.declared.error.Error.TheVariants as error
use Rattle.lfs_model.specs.session.Operations as ops
use Rattle.lfs_fs.proofs.Common.{session_view}
use Rattle.lfs_fs.proofs.Questions.{failed_by, works_by, refused_kept, question_kept, block_outside, block_inside}
use Rattle.lfs_fs.proofs.Answered.{sound_by}
use Rattle.lfs_fs.proofs.Sparing.{kept_asking}
use Rattle.lfs_fs.proofs.Ending.{kept_ends, refused_ends}
use Rattle.lfs_fs.proofs.session.Session.is_used.Goals as goal

pub returns-then-has_failed : goal.returns-then-has_failed
returns-then-has_failed g c =
    kept_asking c.self.inside.tree c.self.inside.files _ (ops.IsUsed c.args.block) _ c.self.view_is c.self.invariant.ready (λ s. refl) refl
    (refused_ends (session_view c.self.inside.tree c.self.inside.files) _ (ops.IsUsed c.args.block) ops.Failed c.self.view_is (failed_by (session_view c.self.inside.tree c.self.inside.files) (ops.IsUsed c.args.block) c.if-has_failed.ensures))
    (refused_kept (session_view c.self.inside.tree c.self.inside.files) _ (ops.IsUsed c.args.block) error.Failed c.self.view_is (sound_by c.self.inside.tree c.self.inside.files c.self.invariant.ready) refl (failed_by (session_view c.self.inside.tree c.self.inside.files) (ops.IsUsed c.args.block) c.if-has_failed.ensures))

pub returns-then-block-geometry : goal.returns-then-block-geometry
returns-then-block-geometry g c =
    kept_asking c.self.inside.tree c.self.inside.files _ (ops.IsUsed c.args.block) _ c.self.view_is c.self.invariant.ready (λ s. refl) refl
    (refused_ends (session_view c.self.inside.tree c.self.inside.files) _ (ops.IsUsed c.args.block) ops.Invalid c.self.view_is (works_by (session_view c.self.inside.tree c.self.inside.files) (ops.IsUsed c.args.block) _ c.if-has_failed.ensures (block_outside _ c.args.block _ c.geometry.ensures.block_count c.if-block-geometry.true)))
    (refused_kept (session_view c.self.inside.tree c.self.inside.files) _ (ops.IsUsed c.args.block) error.Invalid c.self.view_is (sound_by c.self.inside.tree c.self.inside.files c.self.invariant.ready) refl
    (works_by (session_view c.self.inside.tree c.self.inside.files) (ops.IsUsed c.args.block) _ c.if-has_failed.ensures (block_outside _ c.args.block _ c.geometry.ensures.block_count c.if-block-geometry.true)))

pub returns : goal.returns
returns g c =
    kept_asking c.self.inside.tree c.self.inside.files _ (ops.IsUsed c.args.block) _ c.self.view_is c.self.invariant.ready (λ s. refl) refl
    (kept_ends (session_view c.self.inside.tree c.self.inside.files) _ (ops.IsUsed c.args.block) _ c.self.view_is (works_by (session_view c.self.inside.tree c.self.inside.files) (ops.IsUsed c.args.block) None c.if-has_failed.ensures (block_inside _ c.args.block _ c.geometry.ensures.block_count c.if-block-geometry.false)))
    (question_kept (session_view c.self.inside.tree c.self.inside.files) _ (ops.IsUsed c.args.block) _ c.self.view_is (sound_by c.self.inside.tree c.self.inside.files c.self.invariant.ready) refl (works_by (session_view c.self.inside.tree c.self.inside.files) (ops.IsUsed c.args.block) None c.if-has_failed.ensures (block_inside _ c.args.block _ c.geometry.ensures.block_count c.if-block-geometry.false))
    (ap ops.Yes c.is_used.ensures))
