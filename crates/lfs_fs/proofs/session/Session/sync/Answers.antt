use Rattle.std.proofs.Common.{◌≡◌, ℕ, false, true, None, Some, Result, Ok, Err, ◌∙◌, refl, sym, ap}
use Rattle.std.specs.Prelude.{IfErr, OnErr, OnOk}
use Rattle.lfs_device.specs.declared.error.Error.{Error}
use Rattle.lfs_model.specs.session.Operations as ops
use Rattle.lfs_fs.proofs.Common.{IsStoreApplied, DeviceConforms, HasErrorCause, HasSessionInvariant, IsCall, IsFailedTree, IsReady, IsSavedWriter, RuntimeFiles, SessionView, PowerLossesLeaveEither, TreeState, files_view, is_writer_with_draft, node_with_bytes, open_file_at, refusal_by_checks, reply_from, session_view, visible_tree, synced_writer, tree_with_change, draft_or_stored_bytes, writer_view}
use Rattle.lfs_fs.specs.WriterChanges.{ChangesWriterAt}
use Rattle.lfs_fs.specs.declared.files.OpenFile.TheVariants as file
use Rattle.lfs_fs.specs.declared.files.Writer.{Writer}
use Rattle.lfs_fs.proofs.Answered.{not_failed, sound_by}
use Rattle.lfs_fs.proofs.Errors.{given_on}
use Rattle.lfs_fs.proofs.SavedSteps.{can_save, dirty_at, sync_answers, sync_idle, sync_ready, unsaved_there, unsaved_writer}
use Rattle.lfs_fs.proofs.Stopping.{kept_call, tree_changed}
use Rattle.lfs_fs.proofs.StoppedCalls.{saved_tree}
use Rattle.lfs_fs.proofs.Sparing.{stored_others}
use Rattle.lfs_fs.proofs.Called.{changed_call, saving_call, still_call, unread_call}
use Rattle.lfs_fs.proofs.Ending.{answer_ends, kept_ends}
use Rattle.lfs_fs.proofs.session.Session.sync.Goals as goal

pub save-answer-requires : goal.save-answer-requires
save-answer-requires g c =
    let works = not_failed (session_view c.self.inside.tree c.self.inside.files) (ops.Sync c.args.fd) c.in_ok-check_sync_file.ensures.0 in
    let w = unsaved_there (open_file_at c.self.inside.files c.args.fd) (sym c.if-not-is_unsaved_at.ensures) in
    (w.0, sym w.1, can_save c.self.inside.tree c.self.inside.files c.args.fd w.0 works (c.self.invariant.ready works) (sym c.if-not-is_unsaved_at.ensures) w.1)

-- a check ends it
pub returns-in_err-check_sync_file : goal.returns-in_err-check_sync_file
returns-in_err-check_sync_file g c =
    unread_call c.self.inside.tree c.self.inside.files _ (ops.Sync c.args.fd) (λ u. ops.Done) _ c.from_residual.result c.self.view_is c.self.invariant.ready refl refl refl c.in_err-check_sync_file.ensures (given_on _ c.from_residual.result c.from_residual.ensures.1)

-- there is nothing to save
pub returns-then-not-is_unsaved_at : goal.returns-then-not-is_unsaved_at
returns-then-not-is_unsaved_at g c =
    still_call c.self.inside.tree c.self.inside.files _ (ops.Sync c.args.fd) _ _ c.self.view_is c.self.invariant.ready refl refl (ap (λ (h : SessionView). h.tree.disk) (sym c.self.view_is))
    (kept_ends (session_view c.self.inside.tree c.self.inside.files) _ (ops.Sync c.args.fd) ops.Done c.self.view_is c.in_ok-check_sync_file.ensures.0)
    (sync_idle c.self.inside.tree c.self.inside.files _ c.args.fd c.self.view_is c.self.invariant.ready c.in_ok-check_sync_file.ensures.0 c.in_ok-check_sync_file.ensures.1 (sym c.if-not-is_unsaved_at.ensures))
    (kept_call (session_view c.self.inside.tree c.self.inside.files) _ (ops.Sync c.args.fd) c.self.view_is (sound_by c.self.inside.tree c.self.inside.files c.self.invariant.ready))

-- the tree's call ends it
module _ (t new : TreeState) (fs gs : RuntimeFiles) (fd : ℕ) (w : Writer) (between : HasSessionInvariant t fs) (e : refusal_by_checks (session_view t fs) (ops.Sync fd) ≡ None) (is : Some (file.Writing w) ≡ open_file_at fs fd) where
  ready_after : (r : Result (Unit {0}) Error) → OnOk r (IsStoreApplied t w.path (draft_or_stored_bytes t w.path w.unsaved) new) → ChangesWriterAt fs fd (λ v. OnOk r (IsSavedWriter new (synced_writer (writer_view t w)) v)) gs → OnErr r (IsFailedTree t new) → new.failed ≡ false → IsReady new gs
  ready_after (Ok u) stored saved broken works = sync_ready t new fs gs fd w saved.writer _ between.ready e is stored saved.holds saved.only
  ready_after (Err x) stored saved broken works = absurd (let k = sym works ∙ broken.failed in cc)

  ended : (now : SessionView) (r : Result (Unit {0}) Error) → session_view t fs ≡ now → is_writer_with_draft (open_file_at fs fd) ≡ true → DeviceConforms new →
      OnOk r (IsStoreApplied t w.path (draft_or_stored_bytes t w.path w.unsaved) new) → ChangesWriterAt fs fd (λ v. OnOk r (IsSavedWriter new (synced_writer (writer_view t w)) v)) gs → OnErr r (IsFailedTree t new) → IfErr r (HasErrorCause t new) →
      PowerLossesLeaveEither t new (tree_with_change w.path (node_with_bytes (draft_or_stored_bytes t w.path w.unsaved)) (visible_tree t)) → IsCall now (ops.Sync fd) (reply_from (λ u. ops.Done) r) (session_view new gs)
  ended now (Ok u) same unsaved reported stored saved broken errors survives =
      changed_call t fs now (ops.Sync fd) (λ u. ops.Done) (Ok u) (session_view new gs) same between reported refl refl refl
      (stored_others t new fs now (ops.Sync fd) fd w _ same between.ready is (λ s. refl) stored)
      (answer_ends (session_view t fs) now (ops.Sync fd) ops.Done (session_view new gs) same e stored.no_fault)
      (sync_answers t new fs gs now fd w saved.writer same between.ready e unsaved is stored saved.holds saved.only)
      (tree_changed (session_view t fs) now (ops.Sync fd) new _ same (sound_by t fs between.ready) e survives (saved_tree t fs fd w unsaved is))
  ended now (Err x) same unsaved reported stored saved broken errors survives =
      let works = not_failed (session_view t fs) (ops.Sync fd) e in
      saving_call {B = Unit {0}} t new fs (files_view new gs) now (ops.Sync fd) (λ u. ops.Done) x (Err x) _ same between e refl refl refl refl refl
      (dirty_at t fs fd w is (unsaved_writer (open_file_at fs fd) w unsaved is)) (can_save t fs fd w works (between.ready works) unsaved is).written.writable reported broken errors refl
      survives (saved_tree t fs fd w unsaved is)

pub invariant_of-self : goal.invariant_of-self
invariant_of-self g c =
    let w = unsaved_there (open_file_at c.self.inside.files c.args.fd) (sym c.if-not-is_unsaved_at.ensures) in
    record {
      ready = ready_after c.self.inside.tree c.save-answer.new.tree c.self.inside.files c.save-answer.new.self c.args.fd w.0 c.self.invariant c.in_ok-check_sync_file.ensures.0 w.1 c.save-answer.result (c.save-answer.ensures.stored w.0 (sym w.1)) (c.save-answer.ensures.saved w.0 (sym w.1)) c.save-answer.ensures.broken;
      reported = λ works. c.lemma_calls_conform.ensures;
    }

pub returns : goal.returns
returns g c =
    let w = unsaved_there (open_file_at c.self.inside.files c.args.fd) (sym c.if-not-is_unsaved_at.ensures) in
    ended c.self.inside.tree c.save-answer.new.tree c.self.inside.files c.save-answer.new.self c.args.fd w.0 c.self.invariant c.in_ok-check_sync_file.ensures.0 w.1 _ c.save-answer.result c.self.view_is (sym c.if-not-is_unsaved_at.ensures) c.lemma_calls_conform.ensures
    (c.save-answer.ensures.stored w.0 (sym w.1)) (c.save-answer.ensures.saved w.0 (sym w.1)) c.save-answer.ensures.broken c.save-answer.ensures.errors (c.save-answer.ensures.survives w.0 (sym w.1))
