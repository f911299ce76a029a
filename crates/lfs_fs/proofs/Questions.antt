-- Questions, and what is answered without a call.
use Rattle.std.proofs.Common.{◌≡◌, ◌<◌, ◌≤◌, Bool, not, nat_le, arith, true, false, cond, ℕ, Option, Some, None, Result, Ok, Err, refl, sym, ap, subst, ◌∙◌}
use Rattle.std.specs.Prelude.{IfErr}
use Rattle.lfs_device.specs.declared.error.Error.{Error}
use Rattle.lfs_fs.proofs.Common.{fault_count, Operation, Reply, Failed, operation_refusal, operation_effect, le-leb, refuse_if, is_remount, IsStep, is_query, OnlyReadsSince-trans, not_remount, error_refusal, TreeState, IsSoundState, tree_summary, OnlyReadsTree, FailedByReading, HasErrorCause, SessionView, viewed_session, system_state, refusal_by_checks, StepsOrFails}
use Rattle.lfs_model.specs.session.Operations as ops
use Rattle.std.proofs.lemmas.Bool.{leb-true}
use Rattle.lfs_fs.proofs.Answered.{refused_answer, asked_answer, nothing_asked, question_only_asks, question_keeps, question_recovers_nothing, question_lays_nothing}

-- ---- without a call

pub failed_by : (h : SessionView) (op : Operation) → true ≡ h.tree.failed → refusal_by_checks h op ≡ Some Failed
failed_by h op e = ap (λ b. cond b (Some Failed) (operation_refusal (tree_summary h.tree) (viewed_session h) op)) (sym e)

pub works_by : (h : SessionView) (op : Operation) (r : Option ops.Refusal) → false ≡ h.tree.failed → operation_refusal (tree_summary h.tree) (viewed_session h) op ≡ r → refusal_by_checks h op ≡ r
works_by h op r e is = ap (λ b. cond b (Some Failed) (operation_refusal (tree_summary h.tree) (viewed_session h) op)) (sym e) ∙ is

pub refused_kept : (old now : SessionView) (op : Operation) (e : Error) → old ≡ now → (old.tree.failed ≡ false → IsSoundState old.tree) → is_remount op ≡ false → refusal_by_checks old op ≡ Some (error_refusal e) →
    StepsOrFails now op (Ok (ops.Refused (error_refusal e))) now
refused_kept old now op e same ready other is =
    subst (λ z. StepsOrFails z op (Ok (ops.Refused (error_refusal e))) z) same (refused_answer old op (error_refusal e) old.tree ready other (nothing_asked old.tree) is)

pub question_kept : (old now : SessionView) (op : Operation) (reply : Reply) → old ≡ now → (old.tree.failed ≡ false → IsSoundState old.tree) → is_query op ≡ true → refusal_by_checks old op ≡ None →
    reply ≡ (operation_effect (tree_summary old.tree) (viewed_session old) op).0 → StepsOrFails now op (Ok reply) now
question_kept old now op reply same ready asks e is =
    subst (λ z. StepsOrFails z op (Ok reply) z) same
    (subst (λ r. IsStep (system_state old) op r (system_state old)) (sym is)
    (asked_answer old op old.tree old.files ready (nothing_asked old.tree) e (not_remount op asks) (question_only_asks (viewed_session old) op asks) (question_keeps (tree_summary old.tree) (viewed_session old) op asks)
    (question_recovers_nothing op asks) (question_lays_nothing (viewed_session old) op asks) (λ k. refl)))

-- ---- two calls

pub asked_twice : (a b c : TreeState) → OnlyReadsTree a b → OnlyReadsTree b c → OnlyReadsTree a c
asked_twice a b c h k = record {
  same = k.same ∙ ap (λ (t : TreeState). record t { history = c.history; cache = c.cache }) h.same;
  failed = λ e. k.failed (ap (λ (t : TreeState). t.failed) (h.failed e) ∙ e) ∙ h.failed e;
  reads = OnlyReadsSince-trans h.reads k.reads (ap (λ (t : TreeState). t.disk.blocks) h.same);
  no_fault = k.no_fault ∙ h.no_fault;
}

pub broken_twice : (a b c : TreeState) → OnlyReadsTree a b → FailedByReading b c → FailedByReading a c
broken_twice a b c h k = record {
  failed = k.failed;
  disk = k.disk ∙ ap (λ (t : TreeState). t.disk) h.same;
  reads = OnlyReadsSince-trans h.reads k.reads (ap (λ (t : TreeState). t.disk.blocks) h.same);
}

pub error_twice : (a b c : TreeState) (e : Error) → OnlyReadsTree a b → HasErrorCause b c e → HasErrorCause a c e
error_twice a b c e h k = record {
  errors = k.errors;
  fault = λ x. subst (λ n. n < fault_count c.history) h.no_fault (k.fault x);
  no_fault = λ x. k.no_fault x ∙ h.no_fault;
}

pub error_either : {A : Type 0} (a b c : TreeState) (r : Result A Error) → OnlyReadsTree a b → IfErr r (HasErrorCause b c) → IfErr r (HasErrorCause a c)
error_either a b c (Ok x) h k = tt
error_either a b c (Err e) h k = error_twice a b c e h k

pub is_read_only : (w : Bool) → false ≡ w → refuse_if (not w) ops.ReadOnly ≡ Some ops.ReadOnly
is_read_only w e = ap (λ b. refuse_if (not b) ops.ReadOnly) (sym e)

pub is_writable : (w : Bool) → true ≡ w → refuse_if (not w) ops.ReadOnly ≡ None
is_writable w e = ap (λ b. refuse_if (not b) ops.ReadOnly) (sym e)

pub block_outside : (n b m : ℕ) → m ≡ n → m ≤ b → refuse_if (nat_le n b) ops.Invalid ≡ Some ops.Invalid
block_outside n b m e h = ap (λ z. refuse_if z ops.Invalid) (le-leb n b (subst (λ k. k ≤ b) e h))

pub block_inside : (n b m : ℕ) → m ≡ n → b < m → refuse_if (nat_le n b) ops.Invalid ≡ None
block_inside n b m e h = ap (λ z. refuse_if z ops.Invalid) (outside (nat_le n b) refl)
  where
    outside : (z : Bool) → nat_le n b ≡ z → nat_le n b ≡ false
    outside false k = k
    outside true k = let l = leb-true n b k in absurd (omega (arith, l, h, e))
