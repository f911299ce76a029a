use Rattle.std.proofs.Common.{rules, arith, ap, inl, inr, subst, sym}
use Rattle.lfs_fs.proofs.Common.{All-from_recursion, AllByRecursion, SessionView, system_state, HasRefusalError}
use Rattle.lfs_model.proofs.Performing.{performed_turns}
use Rattle.lfs_model.proofs.Kept.{session_shows}
use Rattle.lfs_model.proofs.SessionSteps.{session_steps_joined}
use Rattle.lfs_fs.proofs.Failing.{memory_fails_now}
use Rattle.lfs_fs.proofs.Running.{first_op, named_further, none_run, run_further, run_ended, run_cut, silent_few}
use Rattle.lfs_fs.proofs.SessionTurns.{run_is_safe}
use Rattle.lfs_fs.proofs.session.Session.run.Goals as goal

pub loop-op-init : goal.loop-op-init
loop-op-init g c = (none_run c.args.self.now c.new-replies.result.items c.new-replies.ensures.items, subst (AllByRecursion HasRefusalError) (sym c.new-replies.ensures.items) tt)

pub loop-op-preserved : goal.loop-op-preserved
loop-op-preserved g c = (
  run_further c.args.ops.now c.loop-op.op-index _ c.loop-op.replies.items c.push_reserved.new.self.items c.in-Ok.reply _ _ _ c.loop-op-test.true c.loop-op.invariant.0 c.in-Ok.ensures.call (search rules),
  named_further c.loop-op.replies.items c.push_reserved.new.self.items c.in-Ok.reply c.loop-op.invariant.1 c.in-Ok.ensures.named (search rules),
)

pub returns-in-Err-clause-ended : goal.returns-in-Err-clause-ended
returns-in-Err-clause-ended g c = run_cut _ c.args.ops.now c.loop-op.op-index _ c.loop-op.replies.items _ _ _ c.loop-op-test.true c.loop-op.invariant.0 c.in-Err.ensures.call.asks.few c.in-Err.ensures.call.answers c.in-Err.ensures.call.survives_loss

pub returns-in-Err-clause-survives : goal.returns-in-Err-clause-survives
returns-in-Err-clause-survives g c may = run_is_safe _ _ _ (inr (returns-in-Err-clause-ended g c).ended) may

pub returns-then-is_err-clause-ended : goal.returns-then-is_err-clause-ended
returns-then-is_err-clause-ended g c =
    run_cut _ c.args.ops.now c.loop-op.op-index (first_op c.args.ops.now c.loop-op.op-index c.loop-op-test.true) c.loop-op.replies.items _ _ _ c.loop-op-test.true c.loop-op.invariant.0
    (silent_few (system_state c.loop-op.self) _ (system_state c.fail.new.self) (ap (λ (h : SessionView). h.tree.history) c.fail.ensures.failed)) (memory_fails_now c.loop-op.self c.fail.new.self _ c.fail.ensures.failed) (c.fail.ensures.survives_loss _)

pub returns-then-is_err-clause-survives : goal.returns-then-is_err-clause-survives
returns-then-is_err-clause-survives g c may = run_is_safe _ _ _ (inr (returns-then-is_err-clause-ended g c).ended) may

pub returns-clause-survives : goal.returns-clause-survives
returns-clause-survives g c may =
    run_is_safe _ _ _ (inl (_, (run_ended c.args.ops.now c.loop-op.op-index c.loop-op.replies.items (system_state c.args.self.now) c.loop-op.self (omega arith) c.loop-op.invariant.0).performed)) may

pub returns-clause-performed : goal.returns-clause-performed
returns-clause-performed g c = (run_ended c.args.ops.now c.loop-op.op-index c.loop-op.replies.items _ _ (omega arith) c.loop-op.invariant.0).performed

pub returns-clause-headline : goal.returns-clause-headline
returns-clause-headline g c from done answers known session_steps =
    let run = performed_turns _ _ _ _ _ (run_ended c.args.ops.now c.loop-op.op-index c.loop-op.replies.items (system_state c.args.self.now) c.loop-op.self (omega arith) c.loop-op.invariant.0).performed in
    session_shows from (system_state c.loop-op.self) _ _ known (session_steps_joined _ _ _ _ from (system_state c.args.self.now) (system_state c.loop-op.self) session_steps run)

pub returns-clause-named : goal.returns-clause-named
returns-clause-named g c = All-from_recursion HasRefusalError c.loop-op.replies.items c.loop-op.invariant.1

pub returns-clause-no_fault : goal.returns-clause-no_fault
returns-clause-no_fault g c = c.loop-op.invariant.0.no_fault
