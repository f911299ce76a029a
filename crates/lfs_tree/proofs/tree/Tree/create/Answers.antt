use Rattle.std.proofs.Common.{◌∙◌, ap, arith, refl, subst}
use Rattle.lfs_tree.proofs.Common.{err_from_is_err_and, read_count, ThreadView, CanAddEntryIn, TreeState, kept_thread}
use Rattle.lfs_model.specs.session.Operations as ops
use Rattle.lfs_tree.specs.TreeCalls as call
use Rattle.lfs_tree.specs.TreeReads.{ReadsSixAtMost}
use Rattle.lfs_tree.proofs.CreationPaths.{creation_known_behind}
use Rattle.lfs_tree.proofs.Operated.{plain_create}
use Rattle.lfs_tree.proofs.RecoveredFirst.{add_after}
use Rattle.lfs_tree.proofs.TreeCalls.{allowed, held_noted, may_move, operates_moving, recovery_failed, rests_behind, settled_here}
use Rattle.lfs_tree.proofs.tree.Tree.create.Goals as goal

pub returns-in_err-plan-clause-does : goal.returns-in_err-plan-clause-does
returns-in_err-plan-clause-does g c =
    let p = err_from_is_err_and c.from_residual.result c.from_residual.ensures.1 in
    recovery_failed c.args.self.now c.plan_and_recover.new.self (call.Create c.args.path.now) c.plan_and_recover.result c.from_residual.result _ p.0 c.in_err-plan.was p.1 p.2 c.plan_and_recover.ensures.does

pub returns-in_err-plan-clause-few : goal.returns-in_err-plan-clause-few
returns-in_err-plan-clause-few g c cycles none = let same = ap (λ (s : TreeState). read_count s.history) (c.plan_and_recover.ensures.idle none) in omega (arith, same)

pub create_empty_file-created-requires-clause-rests : goal.create_empty_file-created-requires-clause-rests
create_empty_file-created-requires-clause-rests g c = rests_behind c.args.self.now c.plan_and_recover.new.self c.requires.can.works c.requires.can.writable (c.in_ok-plan.ensures.does.done ops.Recover refl) c.in_ok-plan.ensures.settled c.self.inside.thread c.self.inside.root c.self.inside.is_writable c.self.invariant c.self.view_is

pub create_empty_file-created-requires-clause-can : goal.create_empty_file-created-requires-clause-can
create_empty_file-created-requires-clause-can g c =
    add_after (kept_thread c.args.self.now) c.self.inside.thread.kept (settled_here c.args.self.now c.plan_and_recover.new.self c.requires.can.works c.requires.can.writable (c.in_ok-plan.ensures.does.done ops.Recover refl) c.in_ok-plan.ensures.settled c.self.inside.thread c.self.inside.root c.self.inside.is_writable c.self.invariant c.self.view_is) c.args.path.now 2
    (allowed c.args.self.now c.plan_and_recover.new.self c.requires.can.works c.requires.can.writable (c.in_ok-plan.ensures.does.done ops.Recover refl) c.in_ok-plan.ensures.settled c.self.inside.thread c.self.inside.root c.self.inside.is_writable c.self.invariant c.self.view_is (λ s. CanAddEntryIn s c.args.path.now 2) c.requires.can)

pub create_empty_file-created-requires-clause-known : goal.create_empty_file-created-requires-clause-known
create_empty_file-created-requires-clause-known g c = creation_known_behind c.args.self.now c.plan_and_recover.new.self c.self.inside.thread c.args.path.now c.args.known c.plan_and_recover.ensures.idle (ap kept_thread c.self.view_is) c.requires.known

pub invariant_of-self : goal.invariant_of-self
invariant_of-self g c =
    held_noted c.args.self.now c.plan_and_recover.new.self c.requires.can.works c.requires.can.writable (c.in_ok-plan.ensures.does.done ops.Recover refl) c.in_ok-plan.ensures.settled c.self.inside.thread c.self.inside.root c.self.inside.is_writable c.self.invariant c.self.view_is (call.Create c.args.path.now) (plain_create c.args.path.now) c.plan_and_recover.ensures.does.survives
    c.create_empty_file-created.new.thread c.fail_on_error.new.thread c.create_empty_file-created.result c.create_empty_file-created.ensures.does c.fail_on_error.ensures

pub relocate-requires : goal.relocate-requires
relocate-requires g c =
    may_move c.args.self.now c.plan_and_recover.new.self c.requires.can.works c.requires.can.writable (c.in_ok-plan.ensures.does.done ops.Recover refl) c.in_ok-plan.ensures.settled c.self.inside.thread c.self.inside.root c.self.inside.is_writable c.self.invariant c.self.view_is (call.Create c.args.path.now) (plain_create c.args.path.now) c.plan_and_recover.ensures.does.survives
    c.create_empty_file-created.new.thread c.fail_on_error.new.thread c.create_empty_file-created.result c.create_empty_file-created.ensures.does c.fail_on_error.ensures c.in_ok-plan.plan c.in_ok-plan.ensures.planned

pub returns-clause-does : goal.returns-clause-does
returns-clause-does g c =
    operates_moving c.args.self.now c.plan_and_recover.new.self c.requires.can.works c.requires.can.writable (c.in_ok-plan.ensures.does.done ops.Recover refl) c.in_ok-plan.ensures.settled c.self.inside.thread c.self.inside.root c.self.inside.is_writable c.self.invariant c.self.view_is (call.Create c.args.path.now) (plain_create c.args.path.now) c.plan_and_recover.ensures.does.survives
    c.create_empty_file-created.new.thread c.fail_on_error.new.thread c.create_empty_file-created.result c.create_empty_file-created.ensures.does c.fail_on_error.ensures
    c.in_ok-plan.plan c.in_ok-plan.ensures.planned c.relocate.result c.relocate.new.self c.relocate.ensures.does

pub returns-clause-few : goal.returns-clause-few
returns-clause-few g c cycles none =
    let few = subst (λ (s : TreeState). ReadsSixAtMost s c.create_empty_file-created.new.thread.kept.history) (c.self.view_is ∙ c.plan_and_recover.ensures.idle none) (λ settled. c.create_empty_file-created.ensures.few (c.requires.looked_up none)) none in
    let same = ap (λ (t : ThreadView). read_count t.kept.history) c.fail_on_error.ensures in
    let idle = c.relocate.ensures.idle (c.in_ok-plan.ensures.planned.none cycles) in
    let last = ap (λ (s : TreeState). read_count s.history) idle.1 in
    omega (arith, few, same, last)
