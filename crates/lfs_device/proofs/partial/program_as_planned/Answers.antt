use Rattle.std.proofs.Common.{◌≡◌, sym, ◌∙◌, ap}
use Rattle.lfs_model.specs.format.Blocks.{programmed}
use Rattle.lfs_model.proofs.Overwrites.{programmed_none}
use Rattle.lfs_device.specs.declared.fault.FaultExtent.{FaultExtent}
use Rattle.lfs_device.specs.declared.fault.FaultExtent.TheVariants.{Nothing, AllButFirst}
use Rattle.lfs_device.specs.CallsBelow.{bytes_stored_at_fault}
use Rattle.lfs_device.proofs.partial.program_as_planned.Goals as goal

pub returns-in-Some-Nothing-clause-stored : goal.returns-in-Some-Nothing-clause-stored
returns-in-Some-Nothing-clause-stored g c =
    let is : c.in-Some-Nothing.field-0 ≡ Nothing = rw c.in-Some-Nothing.is at c.in-Some-Nothing.field-0-is in
    let blocks = g.D.BlockDevice.blocks c.args.device.now in
    rw c.in-Some-Nothing.is (λ no_fault. sym (programmed_none blocks c.args.block c.args.off) ∙ ap (λ (extent : FaultExtent). programmed blocks c.args.block c.args.off (bytes_stored_at_fault extent c.args.bytes.now)) (sym is))

pub returns-in-Some-AllButFirst-clause-stored : goal.returns-in-Some-AllButFirst-clause-stored
returns-in-Some-AllButFirst-clause-stored g c =
    let is : c.in-Some-AllButFirst.field-0 ≡ AllButFirst c.in-Some-AllButFirst.field-0-0 = rw c.in-Some-AllButFirst.is at c.in-Some-AllButFirst.field-0-is in
    let blocks = g.D.BlockDevice.blocks c.args.device.now in
    rw c.in-Some-AllButFirst.is (λ no_fault. sym (programmed_none blocks c.args.block c.args.off) ∙ ap (λ (extent : FaultExtent). programmed blocks c.args.block c.args.off (bytes_stored_at_fault extent c.args.bytes.now)) (sym is))
