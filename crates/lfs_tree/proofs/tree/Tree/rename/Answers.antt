use Rattle.std.proofs.Common.{ap, refl}
use Rattle.lfs_tree.proofs.Common.{err_from_is_err_and, kept_thread}
use Rattle.lfs_model.specs.session.Operations as ops
use Rattle.lfs_tree.specs.Permissions.{CanRenameIn}
use Rattle.lfs_tree.specs.TreeCalls as call
use Rattle.lfs_tree.proofs.Operated.{plain_rename}
use Rattle.lfs_tree.proofs.RecoveredFirst.{rename_after}
use Rattle.lfs_tree.proofs.RenamePaths.{known_behind}
use Rattle.lfs_tree.proofs.TreeCalls.{allowed, held_noted, may_move, operates_moving, recovery_failed, rests_behind, settled_here}
use Rattle.lfs_tree.proofs.tree.Tree.rename.Goals as goal

pub returns-in_err-plan : goal.returns-in_err-plan
returns-in_err-plan g c =
    let p = err_from_is_err_and c.from_residual.result c.from_residual.ensures.1 in
    recovery_failed c.args.self.now c.plan_and_recover.new.self (call.Rename c.args.from.now c.args.to.now) c.plan_and_recover.result c.from_residual.result _ p.0 c.in_err-plan.was p.1 p.2 c.plan_and_recover.ensures.does

pub rename_at-renamed-requires-clause-rests : goal.rename_at-renamed-requires-clause-rests
rename_at-renamed-requires-clause-rests g c = rests_behind c.args.self.now c.plan_and_recover.new.self c.requires.can.works c.requires.can.writable (c.in_ok-plan.ensures.does.done ops.Recover refl) c.in_ok-plan.ensures.settled c.self.inside.thread c.self.inside.root c.self.inside.is_writable c.self.invariant c.self.view_is

pub rename_at-renamed-requires-clause-can : goal.rename_at-renamed-requires-clause-can
rename_at-renamed-requires-clause-can g c =
    rename_after (kept_thread c.args.self.now) c.self.inside.thread.kept (settled_here c.args.self.now c.plan_and_recover.new.self c.requires.can.works c.requires.can.writable (c.in_ok-plan.ensures.does.done ops.Recover refl) c.in_ok-plan.ensures.settled c.self.inside.thread c.self.inside.root c.self.inside.is_writable c.self.invariant c.self.view_is) c.args.from.now c.args.to.now
    (allowed c.args.self.now c.plan_and_recover.new.self c.requires.can.works c.requires.can.writable (c.in_ok-plan.ensures.does.done ops.Recover refl) c.in_ok-plan.ensures.settled c.self.inside.thread c.self.inside.root c.self.inside.is_writable c.self.invariant c.self.view_is (λ s. CanRenameIn s c.args.from.now c.args.to.now) c.requires.can)

pub rename_at-renamed-requires-clause-known : goal.rename_at-renamed-requires-clause-known
rename_at-renamed-requires-clause-known g c = known_behind c.args.self.now c.plan_and_recover.new.self c.self.inside.thread c.args.from.now c.args.to.now c.args.known c.plan_and_recover.ensures.idle (ap kept_thread c.self.view_is) c.requires.known

pub invariant_of-self : goal.invariant_of-self
invariant_of-self g c =
    held_noted c.args.self.now c.plan_and_recover.new.self c.requires.can.works c.requires.can.writable (c.in_ok-plan.ensures.does.done ops.Recover refl) c.in_ok-plan.ensures.settled c.self.inside.thread c.self.inside.root c.self.inside.is_writable c.self.invariant c.self.view_is (call.Rename c.args.from.now c.args.to.now) (plain_rename c.args.from.now c.args.to.now c.requires.apart) c.plan_and_recover.ensures.does.survives
    c.rename_at-renamed.new.thread c.fail_on_error.new.thread c.rename_at-renamed.result c.rename_at-renamed.ensures c.fail_on_error.ensures

pub relocate-requires : goal.relocate-requires
relocate-requires g c =
    may_move c.args.self.now c.plan_and_recover.new.self c.requires.can.works c.requires.can.writable (c.in_ok-plan.ensures.does.done ops.Recover refl) c.in_ok-plan.ensures.settled c.self.inside.thread c.self.inside.root c.self.inside.is_writable c.self.invariant c.self.view_is (call.Rename c.args.from.now c.args.to.now) (plain_rename c.args.from.now c.args.to.now c.requires.apart) c.plan_and_recover.ensures.does.survives
    c.rename_at-renamed.new.thread c.fail_on_error.new.thread c.rename_at-renamed.result c.rename_at-renamed.ensures c.fail_on_error.ensures c.in_ok-plan.plan c.in_ok-plan.ensures.planned

pub returns : goal.returns
returns g c =
    operates_moving c.args.self.now c.plan_and_recover.new.self c.requires.can.works c.requires.can.writable (c.in_ok-plan.ensures.does.done ops.Recover refl) c.in_ok-plan.ensures.settled c.self.inside.thread c.self.inside.root c.self.inside.is_writable c.self.invariant c.self.view_is (call.Rename c.args.from.now c.args.to.now) (plain_rename c.args.from.now c.args.to.now c.requires.apart) c.plan_and_recover.ensures.does.survives
    c.rename_at-renamed.new.thread c.fail_on_error.new.thread c.rename_at-renamed.result c.rename_at-renamed.ensures c.fail_on_error.ensures
    c.in_ok-plan.plan c.in_ok-plan.ensures.planned c.relocate.result c.relocate.new.self c.relocate.ensures.does
