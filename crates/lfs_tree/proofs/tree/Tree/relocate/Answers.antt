use Rattle.std.proofs.Common.{◌≤◌, ◌∙◌, Result, Err, ap, subst, sym}
use Rattle.std.specs.Prelude.{OnOk}
use Rattle.lfs_device.specs.declared.error.Error.{Error}
use Rattle.lfs_tree.proofs.Common.{Disk, err_from_is_err_and, thread_state}
use Rattle.lfs_tree.specs.Wear.{CanRelocateByPlan, RelocatesOrFails}
use Rattle.lfs_tree.proofs.SpreadWear.{can_relocate, newest_of, nothing_here, relocated_failed, relocated_held, relocated_ok, spreads_behind}
use Rattle.lfs_tree.proofs.tree.Tree.relocate.Goals as goal

pub returns-in_default-clause-does : goal.returns-in_default-clause-does
returns-in_default-clause-does g c =
    let device = c.device-device.result.now in
    let large = subst (λ (k : Disk). 1024 ≤ k.block_size) c.device-device.ensures.disk (g.D.BlockDevice.geometry device).valid.no_smaller in
    let newest = newest_of (g.D.BlockDevice.history device) c.self.inside.thread.kept.history (g.D.BlockDevice.blocks device) c.self.inside.thread.kept.disk.blocks (ap (λ (d : Disk). d.blocks) c.device-device.ensures.disk) c.device-device.ensures.history (g.met.D.BlockDevice.newest device) in
    let can : CanRelocateByPlan c.args.self.now c.args.plan = subst (λ (d : Result (Unit {0}) Error). OnOk d (CanRelocateByPlan c.args.self.now c.args.plan)) c.in_ok-done.was c.requires in
    spreads_behind c.args.self.now c.args.plan c.args.done _ c.in_ok-done.field-0 c.args.self.now c.in_ok-done.was (nothing_here c.self.inside.thread c.self.inside.root c.self.inside.is_writable c.args.self.now c.self.invariant c.self.view_is c.args.plan can large newest)

pub relocate-requires : goal.relocate-requires
relocate-requires g c =
    let device = c.device-device.result.now in
    let large = subst (λ (k : Disk). 1024 ≤ k.block_size) c.device-device.ensures.disk (g.D.BlockDevice.geometry device).valid.no_smaller in
    let can : CanRelocateByPlan c.args.self.now c.args.plan = subst (λ (d : Result (Unit {0}) Error). OnOk d (CanRelocateByPlan c.args.self.now c.args.plan)) c.in_ok-done.was c.requires in
    can_relocate c.self.inside.thread c.self.inside.root c.self.inside.is_writable c.args.self.now c.self.invariant c.self.view_is c.args.plan can c.in-Some.plan c.in-Some.is large

pub returns-in_err-self-inside-clause-does : goal.returns-in_err-self-inside-clause-does
returns-in_err-self-inside-clause-does g c =
    let device = c.device-device.result.now in
    let large = subst (λ (k : Disk). 1024 ≤ k.block_size) c.device-device.ensures.disk (g.D.BlockDevice.geometry device).valid.no_smaller in
    let newest = newest_of (g.D.BlockDevice.history device) c.self.inside.thread.kept.history (g.D.BlockDevice.blocks device) c.self.inside.thread.kept.disk.blocks (ap (λ (d : Disk). d.blocks) c.device-device.ensures.disk) c.device-device.ensures.history (g.met.D.BlockDevice.newest device) in
    let can : CanRelocateByPlan c.args.self.now c.args.plan = subst (λ (d : Result (Unit {0}) Error). OnOk d (CanRelocateByPlan c.args.self.now c.args.plan)) c.in_ok-done.was c.requires in
    let p = err_from_is_err_and c.from_residual-in_err-self-inside.result c.from_residual-in_err-self-inside.ensures.1 in
    let now = thread_state c.relocate.new.thread c.self.inside.is_writable in
    spreads_behind c.args.self.now c.args.plan c.args.done c.from_residual-in_err-self-inside.result c.in_ok-done.field-0 now c.in_ok-done.was
    (subst (λ (s : Result (Unit {0}) Error). RelocatesOrFails c.args.self.now c.args.plan s now) (sym p.1)
    (relocated_failed c.self.inside.thread c.self.inside.root c.self.inside.is_writable c.args.self.now c.self.invariant c.self.view_is c.args.plan can c.in-Some.plan c.in-Some.is c.relocate.new.thread c.relocate.result c.relocate.ensures.done c.relocate.ensures.errors c.relocate.ensures.device c.relocate.ensures.survives newest p.0 (c.in_err-self-inside.was ∙ ap Err (sym p.2))))

pub invariant_of-self-2 : goal.invariant_of-self-2
invariant_of-self-2 g c =
    let device = c.device-device.result.now in
    let large = subst (λ (k : Disk). 1024 ≤ k.block_size) c.device-device.ensures.disk (g.D.BlockDevice.geometry device).valid.no_smaller in
    let newest = newest_of (g.D.BlockDevice.history device) c.self.inside.thread.kept.history (g.D.BlockDevice.blocks device) c.self.inside.thread.kept.disk.blocks (ap (λ (d : Disk). d.blocks) c.device-device.ensures.disk) c.device-device.ensures.history (g.met.D.BlockDevice.newest device) in
    let can : CanRelocateByPlan c.args.self.now c.args.plan = subst (λ (d : Result (Unit {0}) Error). OnOk d (CanRelocateByPlan c.args.self.now c.args.plan)) c.in_ok-done.was c.requires in
    relocated_held c.self.inside.thread c.self.inside.root c.self.inside.is_writable c.args.self.now c.self.invariant c.self.view_is c.args.plan can c.in-Some.plan c.in-Some.is c.relocate.new.thread c.relocate.result c.relocate.ensures.done c.relocate.ensures.errors c.relocate.ensures.device c.relocate.ensures.survives newest c.in_ok-self-inside.field-0 c.in_ok-self-inside.was

pub returns-clause-does : goal.returns-clause-does
returns-clause-does g c =
    let device = c.device-device.result.now in
    let large = subst (λ (k : Disk). 1024 ≤ k.block_size) c.device-device.ensures.disk (g.D.BlockDevice.geometry device).valid.no_smaller in
    let newest = newest_of (g.D.BlockDevice.history device) c.self.inside.thread.kept.history (g.D.BlockDevice.blocks device) c.self.inside.thread.kept.disk.blocks (ap (λ (d : Disk). d.blocks) c.device-device.ensures.disk) c.device-device.ensures.history (g.met.D.BlockDevice.newest device) in
    let can : CanRelocateByPlan c.args.self.now c.args.plan = subst (λ (d : Result (Unit {0}) Error). OnOk d (CanRelocateByPlan c.args.self.now c.args.plan)) c.in_ok-done.was c.requires in
    spreads_behind c.args.self.now c.args.plan c.args.done _ c.in_ok-done.field-0 (thread_state c.relocate.new.thread c.self.inside.is_writable) c.in_ok-done.was (relocated_ok c.self.inside.thread c.self.inside.root c.self.inside.is_writable c.args.self.now c.self.invariant c.self.view_is c.args.plan can c.in-Some.plan c.in-Some.is c.relocate.new.thread c.relocate.result c.relocate.ensures.done c.relocate.ensures.errors c.relocate.ensures.device c.relocate.ensures.survives newest c.in_ok-self-inside.field-0 c.in_ok-self-inside.was)
