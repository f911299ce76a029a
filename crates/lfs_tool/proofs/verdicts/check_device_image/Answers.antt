use Rattle.std.proofs.Common.{sym, subst}
use Rattle.std.specs.Prelude.{IfOk}
use Rattle.lfs_device.specs.DeviceDisk.{disk_of_blocks}
use Rattle.lfs_device.specs.RamDevice.{ram_history}
use Rattle.lfs_tool.proofs.Common.{disk_with_order, Disk, IsDiskVerdict, ram_blocks, ram_geometry}
use Rattle.lfs_model.specs.declared.order.NameOrder.TheVariants.{LongerFirst, ShorterFirst}
use Rattle.lfs_model.specs.layers.Violations.{Breaks}
use Rattle.lfs_mount.specs.ReadImage.{IsReadImage}
use Rattle.lfs_mount.specs.TrueViolation.{ReportsActualViolation}
use Rattle.lfs_tool.proofs.verdicts.check_device_image.Goals as goal

pub verdict_after_mount-requires : goal.verdict_after_mount-requires
verdict_after_mount-requires c =
    let read = c.in-Ok.ensures.read in
    (ram_history c.args.device, subst (λ (d : Disk). IsReadImage d (ram_history c.args.device) c.in-Ok.image.thread c.in-Ok.image.findings) (sym read.disk_is) read)

pub returns-in-Ok-clause-verdict : goal.returns-in-Ok-clause-verdict
returns-in-Ok-clause-verdict c = subst (λ (d : Disk). IfOk c.verdict_after_mount.result (IsDiskVerdict (disk_with_order LongerFirst d))) c.in-Ok.ensures.read.disk_is c.verdict_after_mount.ensures.verdict

pub refused_image_verdict-requires-clause-longer : goal.refused_image_verdict-requires-clause-longer
refused_image_verdict-requires-clause-longer c =
    let disk = disk_of_blocks (ram_geometry c.args.device) (ram_blocks c.args.device) in
    subst (λ (d : Disk). Breaks (disk_with_order LongerFirst d) c.in-Corrupt.violation) (sym c.in-Err.ensures.back.disk) (subst (ReportsActualViolation (disk_with_order LongerFirst disk)) c.in-Corrupt.is (c.in-Err.ensures.broken LongerFirst))

pub refused_image_verdict-requires-clause-shorter : goal.refused_image_verdict-requires-clause-shorter
refused_image_verdict-requires-clause-shorter c =
    let disk = disk_of_blocks (ram_geometry c.args.device) (ram_blocks c.args.device) in
    subst (λ (d : Disk). Breaks (disk_with_order ShorterFirst d) c.in-Corrupt.violation) (sym c.in-Err.ensures.back.disk) (subst (ReportsActualViolation (disk_with_order ShorterFirst disk)) c.in-Corrupt.is (c.in-Err.ensures.broken ShorterFirst))

pub returns-in-Corrupt-clause-verdict : goal.returns-in-Corrupt-clause-verdict
returns-in-Corrupt-clause-verdict c = subst (λ (d : Disk). IfOk c.refused_image_verdict.result (IsDiskVerdict d)) c.in-Err.ensures.back.disk c.refused_image_verdict.ensures.verdict
