-- The promises of a session's call, from the way in which it ends.
use Rattle.std.proofs.Common.{◌≡◌, Bool, true, false, Some, None, Result, Err, sym, ap, subst, ◌∙◌}
use Rattle.std.specs.Prelude.{OnOk, OnErr, IfErr, is_err}
use Rattle.lfs_device.specs.declared.error.Error.{Error}
use Rattle.lfs_fs.proofs.Common.{is_session_query, is_look_up, needs_session_alone, operation_effect, Operation, Reply, SurvivesStoppedCalls, SurvivesPowerLoss, HealthyHasDiskTree, opens_existing_file, writes_or_truncates, needs_no_device, is_read_only, renames_itself, OpenFilesByNumber, is_remount, Tree, is_refusal, error_refusal, OnlyReadsTree, IsFailedTree, IsOperationApplied, HasErrorCause, KeepsOthersIfRecovered, TreeState, PowerLossesLeaveEither, tree_summary, RuntimeFiles, files_view, StepsOrFails, FailsChecks, SessionView, IsReady, session_view, view_with_files, system_state, refusal_by_checks, viewed_session, reply_from, OpenFilesStayReady, MeetsReplyRules, IsCall, KeepsUnrelatedIfRecovered, HasSessionInvariant, DeviceConforms}
use Rattle.lfs_model.specs.session.Operations as ops
use Rattle.lfs_fs.proofs.Answered.{asked_by_checks, done_answers, ended_call, ended_kept, files_asked, not_failed, called_before, sound_by, with_files}
use Rattle.lfs_fs.proofs.Ending.{broken_ends, carried_ends, ended_ends, unread_ends}
use Rattle.lfs_fs.proofs.SavedSteps.{saving_fails}
use Rattle.lfs_fs.proofs.Sparing.{asks_not, done_others, ok_others, untouched_others}
use Rattle.lfs_fs.proofs.Stopping.{asked_changed, called_by, kept_call, only_read, reads_of_ended, tree_changed}
use Rattle.lfs_fs.proofs.Surviving.{call_survives_loss, ready_agrees, untouched_survives_loss}

-- no question
unasked_call : (now : SessionView) (op : Operation) (r : Result Reply Error) (new : SessionView) → is_session_query op ≡ false → is_look_up op ≡ false → SurvivesPowerLoss (system_state now) op (system_state new) → (is_err r ≡ false → KeepsUnrelatedIfRecovered (system_state now) op (system_state new)) →
    MeetsReplyRules now op r new → StepsOrFails now op r new → IsCall now op r new
unasked_call now op r new kept looks survives_loss alone ends answers = record {
  answers = answers;
  ends = ends;
  survives_loss = survives_loss;
  alone = alone;
  asks = record {
    asked = λ k. absurd (let l = sym kept ∙ k in cc);
    few = λ s at ps a calls is look. absurd (let l = sym looks ∙ look in cc);
    none = λ look. absurd (let l = sym looks ∙ look in cc);
    hand = (asks_not now.tree op r new looks).hand;
  };
}

-- the disk is as it was
pub still_call : (t : TreeState) (fs : RuntimeFiles) (now : SessionView) (op : Operation) (r : Result Reply Error) (new : SessionView) → session_view t fs ≡ now → (t.failed ≡ false → IsReady t fs) → is_session_query op ≡ false → is_look_up op ≡ false → new.tree.disk ≡ t.disk →
    MeetsReplyRules now op r new → StepsOrFails now op r new → SurvivesStoppedCalls (system_state now) op (system_state new) → IsCall now op r new
still_call t fs now op r new is ready kept looks same ends answers survives =
    let stays : new.tree.disk ≡ now.tree.disk = same ∙ ap (λ (h : SessionView). h.tree.disk) is in
    let agrees : HealthyHasDiskTree now.tree.disk (system_state now).state = subst (λ (h : SessionView). HealthyHasDiskTree h.tree.disk (system_state h).state) is (ready_agrees t fs ready) in
    unasked_call now op r new kept looks (untouched_survives_loss (system_state now) op (system_state new) agrees stays survives) (λ e. untouched_others (system_state now) op (system_state new) stays) ends answers

-- the disk may have changed
pub changed_call : {A : Type 0} (t : TreeState) (fs : RuntimeFiles) (now : SessionView) (op : Operation) (reply : A → Reply) (r : Result A Error) (new : SessionView) → session_view t fs ≡ now → HasSessionInvariant t fs → DeviceConforms new.tree → is_remount op ≡ false → is_session_query op ≡ false → is_look_up op ≡ false →
    OnOk r (KeepsUnrelatedIfRecovered (system_state now) op (system_state new)) → MeetsReplyRules now op (reply_from reply r) new → StepsOrFails now op (reply_from reply r) new → SurvivesStoppedCalls (system_state now) op (system_state new) → IsCall now op (reply_from reply r) new
changed_call t fs now op reply r new is between reported other kept looks alone ends answers survives =
    unasked_call now op (reply_from reply r) new kept looks (call_survives_loss t fs now op (reply_from reply r) new is between reported other answers survives) (λ e. ok_others now op reply r new answers alone e) ends answers

-- after a failure nothing is promised of what the call left alone
pub failed_others : {A : Type 0} (now : SessionView) (op : Operation) (new : SessionView) {e : Error} (r : Result A Error) → r ≡ Err e → OnOk r (KeepsUnrelatedIfRecovered (system_state now) op (system_state new))
failed_others now op new r is = subst (λ z. OnOk z (KeepsUnrelatedIfRecovered (system_state now) op (system_state new))) (sym is) tt

-- ---- a check ends it

disk_of_ended : (h : SessionView) (op : Operation) (e : Error) (tree : TreeState) → FailsChecks (is_refusal e) h op e tree → tree.disk ≡ h.tree.disk
disk_of_ended h op e tree k = go (is_refusal e) k
  where
    go : (b : Bool) → FailsChecks b h op e tree → tree.disk ≡ h.tree.disk
    go true k = ap (λ (s : TreeState). s.disk) k.0.same
    go false k = k.0.disk

pub ended_as_call : {B : Type 0} (t : TreeState) (fs : RuntimeFiles) (now : SessionView) (op : Operation) (reply : B → Reply) (e : Error) (tree : TreeState) (r : Result B Error) → session_view t fs ≡ now → (t.failed ≡ false → IsReady t fs) → is_remount op ≡ false → is_session_query op ≡ false → is_look_up op ≡ false →
    needs_session_alone (viewed_session (session_view t fs)) op ≡ false → FailsChecks (is_refusal e) (session_view t fs) op e tree → r ≡ Err e → IsCall now op (reply_from reply r) (session_view tree fs)
ended_as_call t fs now op reply e tree r is ready other kept looks takes h given =
    still_call t fs now op (reply_from reply r) (session_view tree fs) is ready kept looks (disk_of_ended (session_view t fs) op e tree h)
    (ended_ends t fs now op reply e tree r is takes h given)
    (files_asked now op (reply_from reply r) t tree fs (asked_by_checks {A = Unit {0}} t fs op (λ u. Unit {0}) (Err e) tree h) (ended_call (session_view t fs) now op reply e tree r is (sound_by t fs ready) other h given))
    (only_read (session_view t fs) now op tree is (sound_by t fs ready) (reads_of_ended (session_view t fs) op e tree h))

-- one without a read
pub unread_call : {B : Type 0} (t : TreeState) (fs : RuntimeFiles) (now : SessionView) (op : Operation) (reply : B → Reply) (e : Error) (r : Result B Error) → session_view t fs ≡ now → (t.failed ≡ false → IsReady t fs) → is_remount op ≡ false → is_session_query op ≡ false → is_look_up op ≡ false →
    (is_refusal e ≡ true) × (refusal_by_checks (session_view t fs) op ≡ Some (error_refusal e)) → r ≡ Err e → IsCall now op (reply_from reply r) now
unread_call t fs now op reply e r is ready other kept looks h given =
    still_call t fs now op (reply_from reply r) now is ready kept looks (ap (λ (h : SessionView). h.tree.disk) (sym is))
    (unread_ends (session_view t fs) now op reply e r is h given)
    (ended_kept (session_view t fs) now op reply e r is (sound_by t fs ready) other h given)
    (kept_call (session_view t fs) now op is (sound_by t fs ready))

-- ---- a call of the tree ends it

-- after reads only, the tree performs the operation, or its call fails
pub done_call : (C K : Type 0) (t mid new : TreeState) (fs : RuntimeFiles) (now : SessionView) (op : Operation) (r : Result (Unit {0}) Error) (after : Tree) → session_view t fs ≡ now → HasSessionInvariant t fs → OnlyReadsTree t mid → refusal_by_checks (session_view t fs) op ≡ None →
    is_remount op ≡ false → is_read_only (viewed_session (session_view t fs)) op ≡ false → writes_or_truncates op ≡ false → opens_existing_file (viewed_session (session_view t fs)) op ≡ false → needs_no_device (viewed_session (session_view t fs)) op ≡ false →
    (operation_effect (tree_summary t) (viewed_session (session_view t fs)) op).0 ≡ ops.Done → (operation_effect (tree_summary t) (viewed_session (session_view t fs)) op).1.files ≡ files_view t fs → is_session_query op ≡ false → is_look_up op ≡ false → needs_session_alone (viewed_session (session_view t fs)) op ≡ false →
    renames_itself op ≡ false → t.writable ≡ true → (new.failed ≡ false → OpenFilesStayReady t new fs) → DeviceConforms new → OnOk r C → (C → IsOperationApplied mid op new) → OnOk r K → (K → KeepsOthersIfRecovered mid op new) → OnErr r (IsFailedTree mid new) → IfErr r (HasErrorCause mid new) →
    PowerLossesLeaveEither mid new after → after ≡ (operation_effect (tree_summary t) (viewed_session (session_view t fs)) op).1.tree → IsCall now op (reply_from (λ u. ops.Done) r) (session_view new fs)
done_call C K t mid new fs now op r after is between asked e other asks fill creates silent done files kept looks takes itself writable left reported c carried k rest broken errors survives makes =
    changed_call t fs now op (λ u. ops.Done) r (session_view new fs) is between reported other kept looks
    (done_others C K t mid new fs now op r is between.ready asked c carried k rest)
    (carried_ends (session_view t fs) now op (λ u. ops.Done) mid new (files_view new fs) r is e takes asked c (λ x. (carried x).no_fault) errors)
    (with_files now op (reply_from (λ u. ops.Done) r) new (files_view t fs) (files_view new fs) (λ works. (left works).same)
    (done_answers C (session_view t fs) now op mid new r is (sound_by t fs between.ready) (called_before t fs between.ready) asked e other asks fill creates silent done files itself writable c carried broken errors))
    (asked_changed (session_view t fs) now op mid new after is (sound_by t fs between.ready) e asked (called_by op mid new r c carried broken) survives makes)

-- what was written can't be brought to the device
pub saving_call : {B : Type 0} (t new : TreeState) (fs : RuntimeFiles) (files : OpenFilesByNumber) (now : SessionView) (op : Operation) (reply : B → Reply) (e : Error) (r : Result B Error) (after : Tree) → session_view t fs ≡ now → HasSessionInvariant t fs → refusal_by_checks (session_view t fs) op ≡ None →
    is_remount op ≡ false → is_read_only (viewed_session (session_view t fs)) op ≡ false → renames_itself op ≡ false → is_session_query op ≡ false → is_look_up op ≡ false → needs_session_alone (viewed_session (session_view t fs)) op ≡ false → t.writable ≡ true →
    DeviceConforms new → IsFailedTree t new → HasErrorCause t new e → r ≡ Err e → PowerLossesLeaveEither t new after → after ≡ (operation_effect (tree_summary t) (viewed_session (session_view t fs)) op).1.tree → IsCall now op (reply_from reply r) (view_with_files new files)
saving_call t new fs files now op reply e r after is between accepted other asks itself kept looks takes writable reported broken error given survives makes =
    changed_call t fs now op reply r (view_with_files new files) is between reported other kept looks
    (failed_others now op (view_with_files new files) r given)
    (broken_ends (session_view t fs) now op reply e r (view_with_files new files) is accepted takes error.errors given)
    (saving_fails t new fs files now op reply e r is accepted other asks itself (between.ready (not_failed (session_view t fs) op accepted)).sound writable broken error given)
    (tree_changed (session_view t fs) now op new after is (sound_by t fs between.ready) accepted survives makes)
