use Rattle.std.proofs.Common.{rules, ◌∙◌, length, ap, refl, sym, subst, Ok}
use Rattle.lfs_model.specs.session.Operations as ops
use Rattle.lfs_fs.proofs.Common.{IsStep, files_view, writer_view, SessionView, IsReady, session_view, system_state}
use Rattle.lfs_fs.proofs.Answered.{sound_by, not_failed}
use Rattle.lfs_fs.proofs.Errors.{given_on}
use Rattle.lfs_fs.proofs.WriterPaths.{write_path}
use Rattle.lfs_fs.proofs.Truncating.{ready_with, some_writer}
use Rattle.lfs_fs.proofs.WrittenSteps.{alone, can_now, few_bytes, nothing_put, some_put, some_taken}
use Rattle.lfs_fs.proofs.Stopping.{kept_call, tree_changed}
use Rattle.lfs_fs.proofs.Sparing.{beside_others}
use Rattle.lfs_fs.proofs.Called.{changed_call, saving_call, still_call, unread_call}
use Rattle.lfs_fs.proofs.Ending.{answer_ends, kept_ends}
use Rattle.lfs_fs.proofs.session.Session.write.Goals as goal

pub write-answer-requires : goal.write-answer-requires
write-answer-requires g c =
    let w = some_writer c.self.inside.files c.args.fd c.in_ok-check_write.ensures.1 in
    (w.0, w.1, can_now c.self.inside.tree c.self.inside.files c.args.fd c.args.bytes.now w.0 w.1 c.in_ok-check_write.ensures.0 c.self.invariant.ready (sym c.is_empty.ensures ∙ c.if-is_empty.false))

pub overflow_cast-result : goal.overflow_cast-result
overflow_cast-result g c =
    let w = some_writer c.self.inside.files c.args.fd c.in_ok-check_write.ensures.1 in
    let few = few_bytes c.self.inside.tree c.self.inside.files c.args.fd c.args.bytes.now w.0 w.1 c.in_ok-check_write.ensures.0 (sym c.is_empty.ensures ∙ c.if-is_empty.false) in
    search (rules, few)

-- a check ends it
pub returns-in_err-check_write : goal.returns-in_err-check_write
returns-in_err-check_write g c =
    unread_call c.self.inside.tree c.self.inside.files _ (ops.Write c.args.fd c.args.bytes.now) ops.Count _ c.from_residual.result c.self.view_is c.self.invariant.ready refl refl refl c.in_err-check_write.ensures (given_on _ c.from_residual.result c.from_residual.ensures.1)

-- there is nothing to write
pub returns-then-is_empty : goal.returns-then-is_empty
returns-then-is_empty g c =
    let h = c.in_ok-check_write.ensures in
    let w = some_writer c.self.inside.files c.args.fd h.1 in
    still_call c.self.inside.tree c.self.inside.files _ (ops.Write c.args.fd c.args.bytes.now) _ _ c.self.view_is c.self.invariant.ready refl refl (ap (λ (h : SessionView). h.tree.disk) (sym c.self.view_is))
    (kept_ends (session_view c.self.inside.tree c.self.inside.files) _ (ops.Write c.args.fd c.args.bytes.now) (ops.Count 0) c.self.view_is c.in_ok-check_write.ensures.0)
    (nothing_put c.self.inside.tree c.self.inside.files c.args.fd c.args.bytes.now _ w.0 c.self.view_is c.self.invariant.ready h.0 w.1 (sym c.is_empty.ensures ∙ c.if-is_empty.true))
    (kept_call (session_view c.self.inside.tree c.self.inside.files) _ (ops.Write c.args.fd c.args.bytes.now) c.self.view_is (sound_by c.self.inside.tree c.self.inside.files c.self.invariant.ready))

-- the tree's call ends it
pub invariant_of-self-2 : goal.invariant_of-self-2
invariant_of-self-2 g c =
    let w = some_writer c.self.inside.files c.args.fd c.in_ok-check_write.ensures.1 in
    let h = c.in_ok-answer.ensures.written w.0 w.1 in
    let all = alone c.self.inside.tree c.self.inside.files c.args.fd c.args.bytes.now w.0 w.1 c.in_ok-check_write.ensures.0 c.self.invariant.ready in
    record {
      ready = λ f. subst (IsReady c.write-answer.new.tree) (sym h.only)
          (ready_with c.self.inside.tree c.write-answer.new.tree c.self.inside.files c.args.fd w.0 h.writer _ all h.holds c.in_ok-answer.ensures.beside (write_path (writer_view c.self.inside.tree w.0) c.args.bytes.now)
          (c.self.invariant.ready (not_failed (session_view c.self.inside.tree c.self.inside.files) (ops.Write c.args.fd c.args.bytes.now) c.in_ok-check_write.ensures.0)));
      reported = λ f. c.lemma_calls_conform.ensures;
    }

pub returns-in_err-answer : goal.returns-in_err-answer
returns-in_err-answer g c =
    let w = some_writer c.self.inside.files c.args.fd c.in_ok-check_write.ensures.1 in
    let can = can_now c.self.inside.tree c.self.inside.files c.args.fd c.args.bytes.now w.0 w.1 c.in_ok-check_write.ensures.0 c.self.invariant.ready (sym c.is_empty.ensures ∙ c.if-is_empty.false) in
    saving_call c.self.inside.tree c.write-answer.new.tree c.self.inside.files (files_view c.write-answer.new.tree c.write-answer.new.self) _ (ops.Write c.args.fd c.args.bytes.now) ops.Count _ c.from_residual-in_err-answer.result _ c.self.view_is c.self.invariant c.in_ok-check_write.ensures.0 refl refl refl refl refl
    (some_taken c.self.inside.tree c.self.inside.files c.args.fd c.args.bytes.now (sym c.is_empty.ensures ∙ c.if-is_empty.false)) can.can.written.writable c.lemma_calls_conform.ensures c.in_err-answer.ensures.broken c.in_err-answer.ensures.errors (given_on _ c.from_residual-in_err-answer.result c.from_residual-in_err-answer.ensures.1)
    (c.write-answer.ensures.survives (sound_by c.self.inside.tree c.self.inside.files c.self.invariant.ready (not_failed (session_view c.self.inside.tree c.self.inside.files) (ops.Write c.args.fd c.args.bytes.now) c.in_ok-check_write.ensures.0))) refl

pub returns : goal.returns
returns g c =
    let w = some_writer c.self.inside.files c.args.fd c.in_ok-check_write.ensures.1 in
    let h = c.in_ok-answer.ensures.written w.0 w.1 in
    changed_call c.self.inside.tree c.self.inside.files _ (ops.Write c.args.fd c.args.bytes.now) ops.Count (Ok (length c.args.bytes.now)) _ c.self.view_is c.self.invariant c.lemma_calls_conform.ensures refl refl refl
    (beside_others c.self.inside.tree c.write-answer.new.tree c.self.inside.files _ (ops.Write c.args.fd c.args.bytes.now) c.self.view_is c.self.invariant.ready c.in_ok-answer.ensures.beside)
    (answer_ends (session_view c.self.inside.tree c.self.inside.files) _ (ops.Write c.args.fd c.args.bytes.now) (ops.Count (length c.args.bytes.now)) _ c.self.view_is c.in_ok-check_write.ensures.0 c.in_ok-answer.ensures.beside.no_fault)
    (subst (λ xs. IsStep (system_state c.args.self.now) (ops.Write c.args.fd c.args.bytes.now) (ops.Count (length c.args.bytes.now)) (system_state (session_view c.write-answer.new.tree xs)))
    (sym h.only)
    (some_put c.self.inside.tree c.write-answer.new.tree c.self.inside.files c.args.fd c.args.bytes.now _ w.0 h.writer c.self.view_is c.self.invariant.ready c.in_ok-check_write.ensures.0 w.1 (sym c.is_empty.ensures ∙ c.if-is_empty.false) h.holds c.in_ok-answer.ensures.beside))
    (tree_changed (session_view c.self.inside.tree c.self.inside.files) _ (ops.Write c.args.fd c.args.bytes.now) c.write-answer.new.tree _ c.self.view_is (sound_by c.self.inside.tree c.self.inside.files c.self.invariant.ready) c.in_ok-check_write.ensures.0
    (c.write-answer.ensures.survives (sound_by c.self.inside.tree c.self.inside.files c.self.invariant.ready (not_failed (session_view c.self.inside.tree c.self.inside.files) (ops.Write c.args.fd c.args.bytes.now) c.in_ok-check_write.ensures.0))) refl)
