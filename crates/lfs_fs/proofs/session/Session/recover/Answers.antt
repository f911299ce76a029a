use Rattle.std.proofs.Common.{None, Some, ap, refl, sym}
use Rattle.lfs_device.specs.declared.error.Error.TheVariants as error
use Rattle.lfs_model.specs.session.Operations as ops
use Rattle.lfs_fs.proofs.Common.{SessionView, session_view}
use Rattle.lfs_fs.proofs.Answered.{sound_by, nothing_asked}
use Rattle.lfs_fs.proofs.Questions.{failed_by, is_read_only, is_writable, refused_kept, works_by}
use Rattle.lfs_fs.proofs.RecoverAnswered.{ok_then, recover_answers, recovered_left}
use Rattle.lfs_fs.proofs.Stopping.{kept_call, tree_changed}
use Rattle.lfs_fs.proofs.Ending.{carried_ends, refused_ends}
use Rattle.lfs_fs.proofs.Called.{changed_call, still_call}
use Rattle.lfs_fs.proofs.Sparing.{recovered_others}
use Rattle.lfs_fs.proofs.session.Session.recover.Goals as goal

-- a check ends it
pub returns-then-has_failed : goal.returns-then-has_failed
returns-then-has_failed g c =
    still_call c.self.inside.tree c.self.inside.files _ ops.Recover _ _ c.self.view_is c.self.invariant.ready refl refl (ap (λ (h : SessionView). h.tree.disk) (sym c.self.view_is))
    (refused_ends (session_view c.self.inside.tree c.self.inside.files) _ ops.Recover ops.Failed c.self.view_is (failed_by (session_view c.self.inside.tree c.self.inside.files) ops.Recover c.if-has_failed.ensures))
    (refused_kept (session_view c.self.inside.tree c.self.inside.files) _ ops.Recover error.Failed c.self.view_is (sound_by c.self.inside.tree c.self.inside.files c.self.invariant.ready) refl (failed_by (session_view c.self.inside.tree c.self.inside.files) ops.Recover c.if-has_failed.ensures))
    (kept_call (session_view c.self.inside.tree c.self.inside.files) _ ops.Recover c.self.view_is (sound_by c.self.inside.tree c.self.inside.files c.self.invariant.ready))

pub returns-then-not-is_writable : goal.returns-then-not-is_writable
returns-then-not-is_writable g c =
    still_call c.self.inside.tree c.self.inside.files _ ops.Recover _ _ c.self.view_is c.self.invariant.ready refl refl (ap (λ (h : SessionView). h.tree.disk) (sym c.self.view_is))
    (refused_ends (session_view c.self.inside.tree c.self.inside.files) _ ops.Recover ops.ReadOnly c.self.view_is (works_by (session_view c.self.inside.tree c.self.inside.files) ops.Recover (Some ops.ReadOnly) c.if-has_failed.ensures (is_read_only _ c.if-not-is_writable.ensures)))
    (refused_kept (session_view c.self.inside.tree c.self.inside.files) _ ops.Recover error.ReadOnly c.self.view_is (sound_by c.self.inside.tree c.self.inside.files c.self.invariant.ready) refl
    (works_by (session_view c.self.inside.tree c.self.inside.files) ops.Recover (Some ops.ReadOnly) c.if-has_failed.ensures (is_read_only _ c.if-not-is_writable.ensures)))
    (kept_call (session_view c.self.inside.tree c.self.inside.files) _ ops.Recover c.self.view_is (sound_by c.self.inside.tree c.self.inside.files c.self.invariant.ready))

-- the tree's call ends it
pub invariant_of-self : goal.invariant_of-self
invariant_of-self g c = record {
  ready = λ works. (recovered_left c.self.inside.tree c.recover-answer.new.self c.self.inside.files c.recover-answer.result c.lemma_files_stay.ensures.stay c.self.invariant.ready
      (works_by (session_view c.self.inside.tree c.self.inside.files) ops.Recover None c.if-has_failed.ensures (is_writable _ c.if-not-is_writable.ensures))
      (ok_then c.recover-answer.result _ _ (λ k. k ops.Recover refl) c.recover-answer.ensures.does.done) c.recover-answer.ensures.does.broken works).ready;
  reported = λ works. c.lemma_calls_conform.ensures;
}

pub returns : goal.returns
returns g c =
    let answers = recover_answers c.self.inside.tree c.recover-answer.new.self c.self.inside.files _ c.recover-answer.result c.lemma_files_stay.ensures.stay c.self.view_is c.self.invariant.ready
    (works_by (session_view c.self.inside.tree c.self.inside.files) ops.Recover None c.if-has_failed.ensures (is_writable _ c.if-not-is_writable.ensures))
    (ok_then c.recover-answer.result _ _ (λ k. k ops.Recover refl) c.recover-answer.ensures.does.done) c.recover-answer.ensures.does.broken c.recover-answer.ensures.does.errors in
    changed_call c.self.inside.tree c.self.inside.files _ ops.Recover (λ u. ops.Done) c.recover-answer.result _ c.self.view_is c.self.invariant c.lemma_calls_conform.ensures refl refl refl
    (recovered_others c.args.self.now c.recover-answer.result _ answers)
    (carried_ends (session_view c.self.inside.tree c.self.inside.files) _ ops.Recover (λ u. ops.Done) c.self.inside.tree c.recover-answer.new.self _ c.recover-answer.result c.self.view_is
    (works_by (session_view c.self.inside.tree c.self.inside.files) ops.Recover None c.if-has_failed.ensures (is_writable _ c.if-not-is_writable.ensures)) refl (nothing_asked c.self.inside.tree) c.recover-answer.ensures.does.done (λ k. (k ops.Recover refl).no_fault) c.recover-answer.ensures.does.errors)
    answers
    (tree_changed (session_view c.self.inside.tree c.self.inside.files) _ ops.Recover c.recover-answer.new.self _ c.self.view_is (sound_by c.self.inside.tree c.self.inside.files c.self.invariant.ready)
    (works_by (session_view c.self.inside.tree c.self.inside.files) ops.Recover None c.if-has_failed.ensures (is_writable _ c.if-not-is_writable.ensures)) c.recover-answer.ensures.does.survives refl)
