use Rattle.std.proofs.Common.{refl}
use Rattle.lfs_tree.proofs.Common.{err_from_is_err_and, kept_thread}
use Rattle.lfs_model.specs.session.Operations as ops
use Rattle.lfs_tree.specs.Permissions.{CanRemoveAttrIn}
use Rattle.lfs_tree.specs.TreeCalls as call
use Rattle.lfs_tree.proofs.Operated.{plain_clear}
use Rattle.lfs_tree.proofs.RecoveredFirst.{remove_attr_after}
use Rattle.lfs_tree.proofs.TreeCalls.{allowed, held_noted, may_move, operates_moving, recovery_failed, rests_behind, settled_here}
use Rattle.lfs_tree.proofs.tree.Tree.remove_attr.Goals as goal

pub returns-in_err-plan : goal.returns-in_err-plan
returns-in_err-plan g c =
    let p = err_from_is_err_and c.from_residual.result c.from_residual.ensures.1 in
    recovery_failed c.args.self.now c.plan_and_recover.new.self (call.RemoveAttr c.args.path.now c.args.kind) c.plan_and_recover.result c.from_residual.result _ p.0 c.in_err-plan.was p.1 p.2 c.plan_and_recover.ensures.does

pub remove_attr_at-removed-requires-clause-rests : goal.remove_attr_at-removed-requires-clause-rests
remove_attr_at-removed-requires-clause-rests g c = rests_behind c.args.self.now c.plan_and_recover.new.self c.requires.works c.requires.writable (c.in_ok-plan.ensures.does.done ops.Recover refl) c.in_ok-plan.ensures.settled c.self.inside.thread c.self.inside.root c.self.inside.is_writable c.self.invariant c.self.view_is

pub remove_attr_at-removed-requires-clause-can : goal.remove_attr_at-removed-requires-clause-can
remove_attr_at-removed-requires-clause-can g c =
    remove_attr_after (kept_thread c.args.self.now) c.self.inside.thread.kept (settled_here c.args.self.now c.plan_and_recover.new.self c.requires.works c.requires.writable (c.in_ok-plan.ensures.does.done ops.Recover refl) c.in_ok-plan.ensures.settled c.self.inside.thread c.self.inside.root c.self.inside.is_writable c.self.invariant c.self.view_is) c.args.path.now c.args.kind
    (allowed c.args.self.now c.plan_and_recover.new.self c.requires.works c.requires.writable (c.in_ok-plan.ensures.does.done ops.Recover refl) c.in_ok-plan.ensures.settled c.self.inside.thread c.self.inside.root c.self.inside.is_writable c.self.invariant c.self.view_is (λ s. CanRemoveAttrIn s c.args.path.now c.args.kind) c.requires)

pub invariant_of-self : goal.invariant_of-self
invariant_of-self g c =
    held_noted c.args.self.now c.plan_and_recover.new.self c.requires.works c.requires.writable (c.in_ok-plan.ensures.does.done ops.Recover refl) c.in_ok-plan.ensures.settled c.self.inside.thread c.self.inside.root c.self.inside.is_writable c.self.invariant c.self.view_is (call.RemoveAttr c.args.path.now c.args.kind) (plain_clear c.args.path.now c.args.kind) c.plan_and_recover.ensures.does.survives
    c.remove_attr_at-removed.new.thread c.fail_on_error.new.thread c.remove_attr_at-removed.result c.remove_attr_at-removed.ensures c.fail_on_error.ensures

pub relocate-requires : goal.relocate-requires
relocate-requires g c =
    may_move c.args.self.now c.plan_and_recover.new.self c.requires.works c.requires.writable (c.in_ok-plan.ensures.does.done ops.Recover refl) c.in_ok-plan.ensures.settled c.self.inside.thread c.self.inside.root c.self.inside.is_writable c.self.invariant c.self.view_is (call.RemoveAttr c.args.path.now c.args.kind) (plain_clear c.args.path.now c.args.kind) c.plan_and_recover.ensures.does.survives
    c.remove_attr_at-removed.new.thread c.fail_on_error.new.thread c.remove_attr_at-removed.result c.remove_attr_at-removed.ensures c.fail_on_error.ensures c.in_ok-plan.plan c.in_ok-plan.ensures.planned

pub returns : goal.returns
returns g c =
    operates_moving c.args.self.now c.plan_and_recover.new.self c.requires.works c.requires.writable (c.in_ok-plan.ensures.does.done ops.Recover refl) c.in_ok-plan.ensures.settled c.self.inside.thread c.self.inside.root c.self.inside.is_writable c.self.invariant c.self.view_is (call.RemoveAttr c.args.path.now c.args.kind) (plain_clear c.args.path.now c.args.kind) c.plan_and_recover.ensures.does.survives
    c.remove_attr_at-removed.new.thread c.fail_on_error.new.thread c.remove_attr_at-removed.result c.remove_attr_at-removed.ensures c.fail_on_error.ensures
    c.in_ok-plan.plan c.in_ok-plan.ensures.planned c.relocate.result c.relocate.new.self c.relocate.ensures.does
