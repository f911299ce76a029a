-- How each of a session's calls ends.
use Rattle.std.proofs.Common.{◌≡◌, Bool, true, false, cond, Some, None, Result, Ok, Err, refl, sym, ap, subst, ◌∙◌}
use Rattle.std.specs.Prelude.{◌⊎◌, OnOk, IfErr, is_err}
use Rattle.lfs_fs.proofs.Common.{same_Some, fault_count, Failed, Operation, Refusal, Reply, operation_refusal, OpenFilesByNumber, is_refusal, error_refusal, OnlyReadsTree, HasErrorCause, HasMountCause, IsRemountedTree, TreeState, tree_summary, refused_before_search, needs_session_alone, MeetsReplyRules, RuntimeFiles, IsChecksResult, PassesReadlessChecks, FailsChecks, SessionView, session_view, view_with_files, refusal_by_checks, viewed_session, reply_from}
use Rattle.lfs_device.specs.declared.error.Error.{Error}
use Rattle.lfs_device.specs.declared.error.Error.TheVariants.{Io, NoMemory}
use Rattle.lfs_model.specs.session.Operations as ops
use Rattle.lfs_fs.proofs.Answered.{no_refusal_io, not_failed}
use Rattle.lfs_fs.proofs.Remounting.{no_refusal}
use Rattle.lfs_fs.proofs.Stopping.{session_at}

-- a check that refuses in a failed session is that of a failed session
failed_first : (h : SessionView) (op : Operation) (r : Refusal) → refusal_by_checks h op ≡ Some r → h.tree.failed ≡ true → r ≡ Failed
failed_first h op r e f = sym (same_Some Failed r (sym (ap (λ b. cond b (Some Failed) (operation_refusal (tree_summary h.tree) (viewed_session h) op)) f) ∙ e))

-- no check refuses it
unrefused_late : (old : SessionView) (op : Operation) → refusal_by_checks old op ≡ None → PassesReadlessChecks old op
unrefused_late old op e r f = absurd (let k : None ≡ Some r = sym e ∙ f in cc)

-- ---- the session worked

at_work : (old now : SessionView) (op : Operation) (r : Result Reply Error) (new : SessionView) → old ≡ now → old.tree.failed ≡ false → PassesReadlessChecks old op → (is_err r ≡ false → fault_count new.tree.history ≡ fault_count old.tree.history) →
    (needs_session_alone (viewed_session old) op ≡ true → is_err r ≡ false) → MeetsReplyRules now op r new
at_work old now op r new same works late calm quiet = subst (λ z. MeetsReplyRules z op r new) same (record {
  failed = λ f other. absurd (let k = sym works ∙ f in cc);
  no_fault = calm;
  answered = λ s at e. quiet (ap (λ z. needs_session_alone z op) (session_at old s at) ∙ e);
  at_once = λ e is once. absurd (let k = sym (late e is) ∙ once in cc);
})

-- by a reply
pub answer_ends : (old now : SessionView) (op : Operation) (reply : Reply) (new : SessionView) → old ≡ now → refusal_by_checks old op ≡ None → fault_count new.tree.history ≡ fault_count old.tree.history → MeetsReplyRules now op (Ok reply) new
answer_ends old now op reply new same e calm = at_work old now op (Ok reply) new same (not_failed old op e) (unrefused_late old op e) (λ k. calm) (λ k. refl)

-- by an error
error_late : (old now : SessionView) (op : Operation) (e : Error) (new : SessionView) → old ≡ now → old.tree.failed ≡ false → PassesReadlessChecks old op → needs_session_alone (viewed_session old) op ≡ false → MeetsReplyRules now op (Err e) new
error_late old now op e new same works late takes = at_work old now op (Err e) new same works late (λ k. absurd (cc)) (λ k. absurd (let l = sym takes ∙ k in cc))

pub error_ends : (old now : SessionView) (op : Operation) (e : Error) (new : SessionView) → old ≡ now → refusal_by_checks old op ≡ None → needs_session_alone (viewed_session old) op ≡ false → MeetsReplyRules now op (Err e) new
error_ends old now op e new same passed takes = error_late old now op e new same (not_failed old op passed) (unrefused_late old op passed) takes

-- either of them, and an error is none of the refusals
pub result_ends : {A : Type 0} (old now : SessionView) (op : Operation) (reply : A → Reply) (r : Result A Error) (new : SessionView) → old ≡ now → refusal_by_checks old op ≡ None → needs_session_alone (viewed_session old) op ≡ false →
    OnOk r (fault_count new.tree.history ≡ fault_count old.tree.history) → IfErr r (λ e. is_refusal e ≡ false) → MeetsReplyRules now op (reply_from reply r) new
result_ends old now op reply (Ok x) new same passed takes calm errors = answer_ends old now op (reply x) new same passed calm
result_ends old now op reply (Err e) new same passed takes calm errors =
    subst (λ b. MeetsReplyRules now op (cond b (Ok (ops.Refused (error_refusal e))) (Err e)) new) (sym errors) (error_ends old now op e new same passed takes)

-- a call of the tree failed
pub broken_ends : {A : Type 0} (old now : SessionView) (op : Operation) (reply : A → Reply) (e : Error) (r : Result A Error) (new : SessionView) → old ≡ now → refusal_by_checks old op ≡ None → needs_session_alone (viewed_session old) op ≡ false →
    (e ≡ Io) ⊎ (e ≡ NoMemory) → r ≡ Err e → MeetsReplyRules now op (reply_from reply r) new
broken_ends old now op reply e r new same passed takes error is =
    subst (λ z. MeetsReplyRules now op (reply_from reply z) new) (sym is) (result_ends old now op reply (Err e) new same passed takes tt (no_refusal_io e error))

no_refusals : {A : Type 0} (old new : TreeState) (r : Result A Error) → IfErr r (HasErrorCause old new) → IfErr r (λ e. is_refusal e ≡ false)
no_refusals old new (Ok x) errors = tt
no_refusals old new (Err e) errors = no_refusal_io e errors.errors

-- by the tree's call, after reads
pub carried_ends : {A K : Type 0} (old now : SessionView) (op : Operation) (reply : A → Reply) (mid new : TreeState) (files : OpenFilesByNumber) (r : Result A Error) → old ≡ now → refusal_by_checks old op ≡ None → needs_session_alone (viewed_session old) op ≡ false → OnlyReadsTree old.tree mid →
    OnOk r K → (K → fault_count new.history ≡ fault_count mid.history) → IfErr r (HasErrorCause mid new) → MeetsReplyRules now op (reply_from reply r) (view_with_files new files)
carried_ends {A} {K} old now op reply mid new files r same e takes asked done calm errors =
    result_ends old now op reply r (view_with_files new files) same e takes (go r done) (no_refusals mid new r errors)
  where
    go : (r : Result A Error) → OnOk r K → OnOk r (fault_count new.history ≡ fault_count old.tree.history)
    go (Ok x) k = calm k ∙ asked.no_fault
    go (Err x) k = tt

-- memory is asked for last
memory_refuses_not : {A : Type 0} (r : Result A Error) → IfErr r (λ e. e ≡ NoMemory) → IfErr r (λ e. is_refusal e ≡ false)
memory_refuses_not (Ok x) errors = tt
memory_refuses_not (Err e) errors = ap is_refusal errors

pub granted_ends : {A : Type 0} (old now : SessionView) (op : Operation) (reply : A → Reply) (r : Result A Error) (new : SessionView) → old ≡ now → refusal_by_checks old op ≡ None → needs_session_alone (viewed_session old) op ≡ false →
    fault_count new.tree.history ≡ fault_count old.tree.history → IfErr r (λ e. e ≡ NoMemory) → MeetsReplyRules now op (reply_from reply r) new
granted_ends {A} old now op reply r new same e takes calm errors = result_ends old now op reply r new same e takes (go r) (memory_refuses_not r errors)
  where
    go : (r : Result A Error) → OnOk r (fault_count new.tree.history ≡ fault_count old.tree.history)
    go (Ok x) = calm
    go (Err x) = tt

-- ---- a refusal, or checks that ended

refusal_ends : (old now : SessionView) (op : Operation) (refusal : Refusal) (new : SessionView) → old ≡ now → refusal_by_checks old op ≡ Some refusal → fault_count new.tree.history ≡ fault_count old.tree.history →
    (refused_before_search op refusal ≡ true → new ≡ old) → MeetsReplyRules now op (Ok (ops.Refused refusal)) new
refusal_ends old now op refusal new same e calm stays = subst (λ z. MeetsReplyRules z op (Ok (ops.Refused refusal)) new) same (record {
  failed = λ f other. ap (λ (z : Refusal). let k : Result Reply Error = Ok (ops.Refused z) in k) (failed_first old op refusal e f);
  no_fault = λ k. calm;
  answered = λ s at k. refl;
  at_once = λ x is once. stays (subst (λ z. refused_before_search op z ≡ true) (same_Some x refusal (sym is ∙ e)) once);
})

-- without a call
pub refused_ends : (old now : SessionView) (op : Operation) (refusal : Refusal) → old ≡ now → refusal_by_checks old op ≡ Some refusal → MeetsReplyRules now op (Ok (ops.Refused refusal)) now
refused_ends old now op refusal same e = refusal_ends old now op refusal now same e (ap (λ (h : SessionView). fault_count h.tree.history) (sym same)) (λ once. sym same)

-- a question without a call
pub kept_ends : (old now : SessionView) (op : Operation) (reply : Reply) → old ≡ now → refusal_by_checks old op ≡ None → MeetsReplyRules now op (Ok reply) now
kept_ends old now op reply same e = answer_ends old now op reply now same e (ap (λ (h : SessionView). fault_count h.tree.history) (sym same))

checks_end : (t : TreeState) (fs : RuntimeFiles) (now : SessionView) (op : Operation) (e : Error) (tree : TreeState) → session_view t fs ≡ now → needs_session_alone (viewed_session (session_view t fs)) op ≡ false → FailsChecks (is_refusal e) (session_view t fs) op e tree →
    MeetsReplyRules now op (cond (is_refusal e) (Ok (ops.Refused (error_refusal e))) (Err e)) (session_view tree fs)
checks_end t fs now op e tree same takes h = go (is_refusal e) h
  where
    go : (b : Bool) → FailsChecks b (session_view t fs) op e tree → MeetsReplyRules now op (cond b (Ok (ops.Refused (error_refusal e))) (Err e)) (session_view tree fs)
    go true k = refusal_ends (session_view t fs) now op (error_refusal e) (session_view tree fs) same k.1 k.0.no_fault (λ once. ap (λ z. session_view z fs) (k.2 once))
    go false k = error_late (session_view t fs) now op e (session_view tree fs) same k.1 k.3 takes

-- checks by reads
pub checked_ends : {A : Type 0} (t : TreeState) (fs : RuntimeFiles) (now : SessionView) (op : Operation) (reply : A → Reply) (P : A → Type 0) (r : Result A Error) (tree : TreeState) → session_view t fs ≡ now → needs_session_alone (viewed_session (session_view t fs)) op ≡ false →
    IsChecksResult (session_view t fs) op P r tree → MeetsReplyRules now op (reply_from reply r) (session_view tree fs)
checked_ends t fs now op reply P (Ok x) tree same takes h = answer_ends (session_view t fs) now op (reply x) (session_view tree fs) same h.1 h.0.no_fault
checked_ends t fs now op reply P (Err e) tree same takes h = checks_end t fs now op e tree same takes h

-- the same of a call that passes the error on
pub ended_ends : {A : Type 0} (t : TreeState) (fs : RuntimeFiles) (now : SessionView) (op : Operation) (reply : A → Reply) (e : Error) (tree : TreeState) (r : Result A Error) → session_view t fs ≡ now → needs_session_alone (viewed_session (session_view t fs)) op ≡ false →
    FailsChecks (is_refusal e) (session_view t fs) op e tree → r ≡ Err e → MeetsReplyRules now op (reply_from reply r) (session_view tree fs)
ended_ends t fs now op reply e tree r same takes h is = subst (λ z. MeetsReplyRules now op (reply_from reply z) (session_view tree fs)) (sym is) (checks_end t fs now op e tree same takes h)

-- of checks without a read
pub unread_ends : {A : Type 0} (old now : SessionView) (op : Operation) (reply : A → Reply) (e : Error) (r : Result A Error) → old ≡ now → (is_refusal e ≡ true) × (refusal_by_checks old op ≡ Some (error_refusal e)) → r ≡ Err e →
    MeetsReplyRules now op (reply_from reply r) now
unread_ends old now op reply e r same h is =
    subst (λ z. MeetsReplyRules now op (reply_from reply z) now) (sym is)
    (subst (λ b. MeetsReplyRules now op (cond b (Ok (ops.Refused (error_refusal e))) (Err e)) now) (sym h.0) (refused_ends old now op (error_refusal e) same h.1))

-- ---- a remount

pub remount_refuses_not : {A : Type 0} (old new : TreeState) (r : Result A Error) → IfErr r (HasMountCause old new) → IfErr r (λ e. is_refusal e ≡ false)
remount_refuses_not old new (Ok x) errors = tt
remount_refuses_not old new (Err e) errors = no_refusal e errors.errors

pub remount_ends : (old now : SessionView) (new : TreeState) (files : OpenFilesByNumber) (r : Result (Unit {0}) Error) → old ≡ now → OnOk r (IsRemountedTree old.tree new) → IfErr r (λ e. is_refusal e ≡ false) →
    MeetsReplyRules now ops.Remount (reply_from (λ u. ops.Done) r) (view_with_files new files)
remount_ends old now new files r same mounted errors = subst (λ z. MeetsReplyRules z ops.Remount (reply_from (λ u. ops.Done) r) (view_with_files new files)) same (record {
  failed = λ f other. absurd (cc);
  no_fault = calm r mounted errors;
  answered = λ s at e. absurd (cc);
  at_once = λ e is once. absurd (let k = sym (never_at_once old.tree.failed e is) ∙ once in cc);
})
  where
    -- none but a failed session's refuses it
    never_at_once : (b : Bool) (e : Refusal) → cond b (Some Failed) None ≡ Some e → refused_before_search ops.Remount e ≡ false
    never_at_once true e is = ap (refused_before_search ops.Remount) (sym (same_Some Failed e is))
    never_at_once false e is = absurd (cc)

    calm : (r : Result (Unit {0}) Error) → OnOk r (IsRemountedTree old.tree new) → IfErr r (λ e. is_refusal e ≡ false) → is_err (reply_from (λ u. ops.Done) r) ≡ false → fault_count new.history ≡ fault_count old.tree.history
    calm (Ok u) m errors k = m.mounted.no_fault
    calm (Err e) m errors k = absurd (let l = sym (ap (λ b. is_err (cond b (let z : Result Reply Error = Ok (ops.Refused (error_refusal e)) in z) (Err e))) errors) ∙ k in cc)
