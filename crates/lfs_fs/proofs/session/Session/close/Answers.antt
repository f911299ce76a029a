use Rattle.std.proofs.Common.{refl, sym, Ok}
use Rattle.lfs_model.specs.session.Operations as ops
use Rattle.lfs_fs.proofs.Common.{files_view, open_file_at, session_view}
use Rattle.lfs_fs.proofs.Answered.{not_failed, sound_by}
use Rattle.lfs_fs.proofs.Errors.{given_on}
use Rattle.lfs_fs.proofs.Remounting.{closed_answers, closed_ready}
use Rattle.lfs_fs.proofs.SavedSteps.{can_save, close_answers, close_asks, close_ready, closed_behind, dirty_at, still_there, unsaved_there, unsaved_writer}
use Rattle.lfs_fs.proofs.Stopping.{no_call, tree_changed}
use Rattle.lfs_fs.proofs.StoppedCalls.{saved_tree}
use Rattle.lfs_fs.proofs.Sparing.{stored_others}
use Rattle.lfs_fs.proofs.Called.{changed_call, saving_call, still_call, unread_call}
use Rattle.lfs_fs.proofs.Ending.{answer_ends}
use Rattle.lfs_fs.proofs.session.Session.close.Goals as goal

pub save-answer-requires : goal.save-answer-requires
save-answer-requires g c =
    let works = not_failed (session_view c.self.inside.tree c.self.inside.files) (ops.Close c.args.fd) c.in_ok-check_is_open.ensures.0 in
    let w = unsaved_there (open_file_at c.self.inside.files c.args.fd) (sym c.if-not-is_unsaved_at.ensures) in
    (w.0, sym w.1, can_save c.self.inside.tree c.self.inside.files c.args.fd w.0 works (c.self.invariant.ready works) (sym c.if-not-is_unsaved_at.ensures) w.1)

-- the writer is still there
pub close-requires-2 : goal.close-requires-2
close-requires-2 g c =
    let w = unsaved_there (open_file_at c.self.inside.files c.args.fd) (sym c.if-not-is_unsaved_at.ensures) in
    still_there c.self.inside.files c.save-answer.new.self c.args.fd _ _ w.1 (c.in_ok-answer.ensures.saved w.0 (sym w.1)).only

-- a check ends it
pub returns-in_err-check_is_open : goal.returns-in_err-check_is_open
returns-in_err-check_is_open g c =
    unread_call c.self.inside.tree c.self.inside.files _ (ops.Close c.args.fd) (λ u. ops.Done) _ c.from_residual.result c.self.view_is c.self.invariant.ready refl refl refl c.in_err-check_is_open.ensures (given_on _ c.from_residual.result c.from_residual.ensures.1)

-- there is nothing to save
pub returns-then-not-is_unsaved_at : goal.returns-then-not-is_unsaved_at
returns-then-not-is_unsaved_at g c =
    still_call c.self.inside.tree c.self.inside.files _ (ops.Close c.args.fd) _ _ c.self.view_is c.self.invariant.ready refl refl refl
    (answer_ends (session_view c.self.inside.tree c.self.inside.files) _ (ops.Close c.args.fd) ops.Done _ c.self.view_is c.in_ok-check_is_open.ensures.0 refl)
    (closed_answers c.self.inside.tree c.self.inside.files c.close.new.self _ c.args.fd c.self.view_is c.self.invariant.ready c.in_ok-check_is_open.ensures.0 c.in_ok-check_is_open.ensures.1 c.if-not-is_unsaved_at.ensures c.close.ensures)
    (no_call (session_view c.self.inside.tree c.self.inside.files) _ (ops.Close c.args.fd) c.self.inside.tree c.self.view_is (sound_by c.self.inside.tree c.self.inside.files c.self.invariant.ready) refl)

pub invariant_of-self : goal.invariant_of-self
invariant_of-self g c = record {
  ready = closed_ready c.self.inside.tree c.self.inside.files c.close.new.self c.args.fd c.if-not-is_unsaved_at.ensures c.self.invariant.ready c.close.ensures;
  reported = c.self.invariant.reported;
}

-- the tree's call ends it
pub invariant_of-self-2 : goal.invariant_of-self-2
invariant_of-self-2 g c =
    let w = unsaved_there (open_file_at c.self.inside.files c.args.fd) (sym c.if-not-is_unsaved_at.ensures) in
    record {
      ready = λ works. close_ready c.self.inside.tree c.save-answer.new.tree c.self.inside.files c.close-2.new.self c.args.fd w.0 _ c.self.invariant.ready c.in_ok-check_is_open.ensures.0
          w.1 (c.in_ok-answer.ensures.stored w.0 (sym w.1)) (closed_behind c.self.inside.files c.save-answer.new.self c.close-2.new.self c.args.fd _ (c.in_ok-answer.ensures.saved w.0 (sym w.1)).only c.close-2.ensures);
      reported = λ works. c.lemma_calls_conform.ensures;
    }

pub returns-in_err-answer : goal.returns-in_err-answer
returns-in_err-answer g c =
    let works = not_failed (session_view c.self.inside.tree c.self.inside.files) (ops.Close c.args.fd) c.in_ok-check_is_open.ensures.0 in
    let w = unsaved_there (open_file_at c.self.inside.files c.args.fd) (sym c.if-not-is_unsaved_at.ensures) in
    let can = can_save c.self.inside.tree c.self.inside.files c.args.fd w.0 works (c.self.invariant.ready works) (sym c.if-not-is_unsaved_at.ensures) w.1 in
    saving_call c.self.inside.tree c.save-answer.new.tree c.self.inside.files (files_view c.save-answer.new.tree c.save-answer.new.self) _ (ops.Close c.args.fd) (λ u. ops.Done) _ c.from_residual-in_err-answer.result _ c.self.view_is c.self.invariant c.in_ok-check_is_open.ensures.0 refl (close_asks c.self.inside.tree c.self.inside.files c.args.fd w.0 w.1) refl refl refl
    (dirty_at c.self.inside.tree c.self.inside.files c.args.fd w.0 w.1 (unsaved_writer (open_file_at c.self.inside.files c.args.fd) w.0 (sym c.if-not-is_unsaved_at.ensures) w.1)) can.written.writable c.lemma_calls_conform.ensures c.in_err-answer.ensures.broken c.in_err-answer.ensures.errors (given_on _ c.from_residual-in_err-answer.result c.from_residual-in_err-answer.ensures.1)
    (c.save-answer.ensures.survives w.0 (sym w.1)) (saved_tree c.self.inside.tree c.self.inside.files c.args.fd w.0 (sym c.if-not-is_unsaved_at.ensures) w.1)

pub returns : goal.returns
returns g c =
    let w = unsaved_there (open_file_at c.self.inside.files c.args.fd) (sym c.if-not-is_unsaved_at.ensures) in
    let stored = c.in_ok-answer.ensures.stored w.0 (sym w.1) in
    changed_call {A = Unit {0}} c.self.inside.tree c.self.inside.files _ (ops.Close c.args.fd) (λ u. ops.Done) (Ok tt) _ c.self.view_is c.self.invariant c.lemma_calls_conform.ensures refl refl refl
    (stored_others c.self.inside.tree c.save-answer.new.tree c.self.inside.files _ (ops.Close c.args.fd) c.args.fd w.0 _ c.self.view_is c.self.invariant.ready w.1 (λ s. refl) stored)
    (answer_ends (session_view c.self.inside.tree c.self.inside.files) _ (ops.Close c.args.fd) ops.Done _ c.self.view_is c.in_ok-check_is_open.ensures.0 stored.no_fault)
    (close_answers c.self.inside.tree c.save-answer.new.tree c.self.inside.files c.close-2.new.self _ c.args.fd w.0 c.self.view_is c.self.invariant.ready c.in_ok-check_is_open.ensures.0 (sym c.if-not-is_unsaved_at.ensures) w.1 stored
    (closed_behind c.self.inside.files c.save-answer.new.self c.close-2.new.self c.args.fd _ (c.in_ok-answer.ensures.saved w.0 (sym w.1)).only c.close-2.ensures))
    (tree_changed (session_view c.self.inside.tree c.self.inside.files) _ (ops.Close c.args.fd) c.save-answer.new.tree _ c.self.view_is (sound_by c.self.inside.tree c.self.inside.files c.self.invariant.ready) c.in_ok-check_is_open.ensures.0 (c.save-answer.ensures.survives w.0 (sym w.1))
    (saved_tree c.self.inside.tree c.self.inside.files c.args.fd w.0 (sym c.if-not-is_unsaved_at.ensures) w.1))
