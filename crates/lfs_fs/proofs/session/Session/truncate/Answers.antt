use Rattle.std.proofs.Common.{◌≡◌, ◌∙◌, ℕ, Some, None, Result, Ok, Err, ap, false, refl, sym, subst}
use Rattle.std.specs.Prelude.{◌==◌, IfErr, OnErr, OnOk}
use Rattle.lfs_device.specs.declared.error.Error.{Error}
use Rattle.lfs_model.specs.session.Operations as ops
use Rattle.lfs_fs.proofs.Common.{CanTruncateTo, DeviceConforms, HasErrorCause, HasSessionInvariant, IsCall, IsChangedWriter, IsFailedTree, IsReady, IsStep, KeepsImage, RuntimeFiles, SessionView, PowerLossesLeaveEither, TreeState, files_view, open_file_at, refusal_by_checks, reply_from, session_view, visible_tree, system_state, truncated_writer, writer_if_any, writer_view}
use Rattle.lfs_fs.specs.WriterChanges.{ChangesWriterAt}
use Rattle.lfs_fs.specs.declared.files.OpenFile.TheVariants as file
use Rattle.lfs_fs.specs.declared.files.Writer.{Writer}
use Rattle.lfs_fs.proofs.Answered.{sound_by, not_failed}
use Rattle.lfs_fs.proofs.Errors.{given_on}
use Rattle.lfs_fs.proofs.WriterPaths.{truncate_path}
use Rattle.lfs_fs.proofs.Truncating.{alone, can_now, other_needed, other_size, ready_with, same_size, some_writer}
use Rattle.lfs_fs.proofs.Stopping.{kept_call, tree_changed}
use Rattle.lfs_fs.proofs.Sparing.{beside_others}
use Rattle.lfs_fs.proofs.Called.{changed_call, saving_call, still_call, unread_call}
use Rattle.lfs_fs.proofs.Ending.{answer_ends, kept_ends}
use Rattle.lfs_fs.proofs.session.Session.truncate.Goals as goal

pub truncate-answer-requires : goal.truncate-answer-requires
truncate-answer-requires g c =
    let h = c.in_ok-check_truncate.ensures in
    let w = some_writer c.self.inside.files c.args.fd h.1 in
    let ready = c.self.invariant.ready (not_failed (session_view c.self.inside.tree c.self.inside.files) (ops.Truncate c.args.fd c.args.size) h.0) in
    (w.0, w.1, can_now c.self.inside.tree c.self.inside.files c.args.fd c.args.size w.0 w.1 h.0 ready (sym (c.writer_has_size.ensures w.0 (ap writer_if_any w.1)) ∙ c.if-writer_has_size.false))

-- a check ends it
pub returns-in_err-check_truncate : goal.returns-in_err-check_truncate
returns-in_err-check_truncate g c =
    unread_call c.self.inside.tree c.self.inside.files _ (ops.Truncate c.args.fd c.args.size) (λ u. ops.Done) _ c.from_residual.result c.self.view_is c.self.invariant.ready refl refl refl c.in_err-check_truncate.ensures (given_on _ c.from_residual.result c.from_residual.ensures.1)

-- it has that size
pub returns-then-writer_has_size : goal.returns-then-writer_has_size
returns-then-writer_has_size g c =
    let h = c.in_ok-check_truncate.ensures in
    let w = some_writer c.self.inside.files c.args.fd h.1 in
    still_call c.self.inside.tree c.self.inside.files _ (ops.Truncate c.args.fd c.args.size) _ _ c.self.view_is c.self.invariant.ready refl refl (ap (λ (h : SessionView). h.tree.disk) (sym c.self.view_is))
    (kept_ends (session_view c.self.inside.tree c.self.inside.files) _ (ops.Truncate c.args.fd c.args.size) ops.Done c.self.view_is c.in_ok-check_truncate.ensures.0)
    (same_size c.self.inside.tree c.self.inside.files c.args.fd c.args.size _ w.0 c.self.view_is c.self.invariant.ready h.0 w.1 (sym (c.writer_has_size.ensures w.0 (ap writer_if_any w.1)) ∙ c.if-writer_has_size.true))
    (kept_call (session_view c.self.inside.tree c.self.inside.files) _ (ops.Truncate c.args.fd c.args.size) c.self.view_is (sound_by c.self.inside.tree c.self.inside.files c.self.invariant.ready))

-- the tree's call ends it
module _ (t new : TreeState) (fs gs : RuntimeFiles) (fd size : ℕ) (w : Writer) (between : HasSessionInvariant t fs) (e : refusal_by_checks (session_view t fs) (ops.Truncate fd size) ≡ None) (is : open_file_at fs fd ≡ Some (file.Writing w)) (other : (size == w.size) ≡ false) where
  ready : IsReady t fs
  ready = between.ready (not_failed (session_view t fs) (ops.Truncate fd size) e)

  can : CanTruncateTo t w size
  can = can_now t fs fd size w is e ready other

  ready_after : (r : Result (Unit {0}) Error) → ChangesWriterAt fs fd (λ v. OnOk r (IsChangedWriter new (truncated_writer (writer_view t w) size) v)) gs → OnOk r (KeepsImage t new) → OnErr r (IsFailedTree t new) → new.failed ≡ false → IsReady new gs
  ready_after (Ok u) made beside broken works = subst (IsReady new) (sym made.only) (ready_with t new fs fd w made.writer _ (alone t fs fd size w is e ready) made.holds beside (truncate_path (writer_view t w) size) ready)
  ready_after (Err x) made beside broken works = absurd (let k = sym works ∙ broken.failed in cc)

  ended : (now : SessionView) (r : Result (Unit {0}) Error) → session_view t fs ≡ now → DeviceConforms new → ChangesWriterAt fs fd (λ v. OnOk r (IsChangedWriter new (truncated_writer (writer_view t w) size) v)) gs → OnOk r (KeepsImage t new) → OnErr r (IsFailedTree t new) → IfErr r (HasErrorCause t new) →
      PowerLossesLeaveEither t new (visible_tree t) → IsCall now (ops.Truncate fd size) (reply_from (λ u. ops.Done) r) (session_view new gs)
  ended now (Ok u) same reported made beside broken errors survives =
      changed_call t fs now (ops.Truncate fd size) (λ u. ops.Done) (Ok u) (session_view new gs) same between reported refl refl refl
      (beside_others t new fs now (ops.Truncate fd size) same between.ready beside)
      (answer_ends (session_view t fs) now (ops.Truncate fd size) ops.Done (session_view new gs) same e beside.no_fault)
      (subst (λ xs. IsStep (system_state now) (ops.Truncate fd size) ops.Done (system_state (session_view new xs))) (sym made.only)
      (other_size t new fs fd size now w made.writer same between.ready e is other made.holds beside))
      (tree_changed (session_view t fs) now (ops.Truncate fd size) new _ same (sound_by t fs between.ready) e survives refl)
  ended now (Err x) same reported made beside broken errors survives =
      saving_call {B = Unit {0}} t new fs (files_view new gs) now (ops.Truncate fd size) (λ u. ops.Done) x (Err x) _ same between e refl refl refl refl refl
      (other_needed t fs fd size w is can.can.written other) can.can.written.writable reported broken errors refl survives refl

pub invariant_of-self : goal.invariant_of-self
invariant_of-self g c =
    let w = some_writer c.self.inside.files c.args.fd c.in_ok-check_truncate.ensures.1 in
    record {
      ready = ready_after c.self.inside.tree c.truncate-answer.new.tree c.self.inside.files c.truncate-answer.new.self c.args.fd c.args.size w.0 c.self.invariant c.in_ok-check_truncate.ensures.0 w.1 (sym (c.writer_has_size.ensures w.0 (ap writer_if_any w.1)) ∙ c.if-writer_has_size.false)
          c.truncate-answer.result (c.truncate-answer.ensures.written w.0 w.1) c.truncate-answer.ensures.beside c.truncate-answer.ensures.broken;
      reported = λ works. c.lemma_calls_conform.ensures;
    }

pub returns : goal.returns
returns g c =
    let w = some_writer c.self.inside.files c.args.fd c.in_ok-check_truncate.ensures.1 in
    ended c.self.inside.tree c.truncate-answer.new.tree c.self.inside.files c.truncate-answer.new.self c.args.fd c.args.size w.0 c.self.invariant c.in_ok-check_truncate.ensures.0 w.1 (sym (c.writer_has_size.ensures w.0 (ap writer_if_any w.1)) ∙ c.if-writer_has_size.false)
    _ c.truncate-answer.result c.self.view_is c.lemma_calls_conform.ensures (c.truncate-answer.ensures.written w.0 w.1) c.truncate-answer.ensures.beside c.truncate-answer.ensures.broken c.truncate-answer.ensures.errors
    (c.truncate-answer.ensures.survives (sound_by c.self.inside.tree c.self.inside.files c.self.invariant.ready (not_failed (session_view c.self.inside.tree c.self.inside.files) (ops.Truncate c.args.fd c.args.size) c.in_ok-check_truncate.ensures.0)))
