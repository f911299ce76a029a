-- The reply of a recovery, and what it leaves of the open files.
use Rattle.std.proofs.Common.{inl, ◌≡◌, false, not, [], None, Result, Ok, Err, refl, sym, subst}
use Rattle.std.specs.Prelude.{OnErr, OnOk, IfErr}
use Rattle.lfs_device.specs.declared.error.Error.{Error}
use Rattle.lfs_model.specs.session.Operations as ops
use Rattle.lfs_fs.proofs.Common.{Tree, TreeState, IsFailedTree, IsOperationApplied, HasErrorCause, tree_summary, visible_tree, RuntimeFiles, files_view, readers_among, writers_among, StepsOrFails, SessionView, IsReady, session_view, refusal_by_checks, reply_from, OpenFilesStayReady, UnrelatedOperationKeepsFiles}
use Rattle.lfs_fs.proofs.Answered.{KeepsFiles, done_answers, done_left, keeps_writers, none_concerned, not_refused, nothing_asked, called_before, sound_by, with_files}
use Rattle.lfs_fs.proofs.OpenReaders.{none_read}
use Rattle.lfs_fs.proofs.Checked.{negated, unrefused}
use Rattle.lfs_fs.proofs.Staying.{SameFile}

-- what follows from what holds at Ok
pub ok_then : {X Y : Type 0} (r : Result X Y) (P Q : Type 0) → (P → Q) → OnOk r P → OnOk r Q
ok_then (Ok x) P Q f h = f h
ok_then (Err e) P Q f h = tt

-- the tree stays, and every file with it
recover_keeps : (t s : TreeState) → IsOperationApplied t ops.Recover s → KeepsFiles t s
recover_keeps t s carried q e = subst (λ (z : Tree). SameFile (visible_tree t q) (z q)) (sym (carried.shows (tree_summary t) [])) (λ h. (h, refl)) e

pub recovered_left : (t new : TreeState) (files : RuntimeFiles) (r : Result (Unit {0}) Error) → UnrelatedOperationKeepsFiles → (t.failed ≡ false → IsReady t files) → refusal_by_checks (session_view t files) ops.Recover ≡ None →
    OnOk r (IsOperationApplied t ops.Recover new) → OnErr r (IsFailedTree t new) → new.failed ≡ false → OpenFilesStayReady t new files
recovered_left t new files r stay ready e done broken =
    done_left (IsOperationApplied t ops.Recover new) t t new files ops.Recover r stay ready (nothing_asked t) e (λ was. record { apart = none_concerned ops.Recover (λ p. refl) (writers_among files); unread = none_read ops.Recover (λ p. refl) (readers_among files); room = inl refl })
    (λ now k. keeps_writers t new (writers_among files) (recover_keeps t new k) now.written) done (λ k. k) broken

-- ---- once no check refuses it

pub recover_answers : (t new : TreeState) (files : RuntimeFiles) (now : SessionView) (r : Result (Unit {0}) Error) → UnrelatedOperationKeepsFiles → session_view t files ≡ now → (t.failed ≡ false → IsReady t files) → refusal_by_checks (session_view t files) ops.Recover ≡ None →
    OnOk r (IsOperationApplied t ops.Recover new) → OnErr r (IsFailedTree t new) → IfErr r (HasErrorCause t new) → StepsOrFails now ops.Recover (reply_from (λ u. ops.Done) r) (session_view new files)
recover_answers t new files now r stay same ready e done broken errors =
    with_files now ops.Recover (reply_from (λ u. ops.Done) r) new (files_view t files) (files_view new files)
    (λ works. (recovered_left t new files r stay ready e done broken works).same)
    (done_answers (IsOperationApplied t ops.Recover new) (session_view t files) now ops.Recover t new r same (sound_by t files ready) (called_before t files ready) (nothing_asked t) e refl refl refl refl refl refl refl refl
    (negated t.writable (unrefused (not t.writable) ops.ReadOnly (not_refused (session_view t files) ops.Recover e))) done (λ k. k) broken errors)
