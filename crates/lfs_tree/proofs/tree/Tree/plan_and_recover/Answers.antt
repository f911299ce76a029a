use Rattle.std.proofs.Common.{Option, Result, Ok, subst}
use Rattle.lfs_device.specs.declared.error.Error.{Error}
use Rattle.lfs_operations.specs.declared.wear.RelocationPlan.{RelocationPlan}
use Rattle.lfs_tree.proofs.Common.{err_from_is_err_and, HasRecovered, TreeState, kept_thread}
use Rattle.lfs_tree.specs.TreeCalls as call
use Rattle.lfs_tree.specs.TreeCalls.{AppliesCallOrFails}
use Rattle.lfs_tree.proofs.TreeCalls.{recovers_with, recovery_failed}
use Rattle.lfs_tree.proofs.tree.Tree.plan_and_recover.Goals as goal

pub returns-in_err-recover-clause-does : goal.returns-in_err-recover-clause-does
returns-in_err-recover-clause-does g c =
    let p = err_from_is_err_and c.from_residual.result c.from_residual.ensures.1 in
    subst (λ (s : TreeState). AppliesCallOrFails s call.Recover c.from_residual.result c.recover.new.self) c.plan_move-plan.ensures.same
    (recovery_failed c.plan_move-plan.new.self c.recover.new.self call.Recover c.recover.result c.from_residual.result _ p.0 c.in_err-recover.was p.1 p.2 c.recover.ensures.does)

pub returns-clause-does : goal.returns-clause-does
returns-clause-does g c =
    subst (λ (s : TreeState). let r : Result (Option RelocationPlan) Error = Ok c.plan_move-plan.result in AppliesCallOrFails s call.Recover r c.recover.new.self) c.plan_move-plan.ensures.same
    (recovers_with c.plan_move-plan.new.self c.recover.new.self c.recover.result _ c.plan_move-plan.result c.in_ok-recover.was c.recover.ensures.does)

pub returns-clause-settled : goal.returns-clause-settled
returns-clause-settled g c = subst (λ (s : TreeState). HasRecovered (kept_thread s) (kept_thread c.recover.new.self)) c.plan_move-plan.ensures.same c.in_ok-recover.ensures.settled
