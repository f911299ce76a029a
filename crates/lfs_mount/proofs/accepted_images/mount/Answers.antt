use Rattle.std.proofs.Common.{◌≡◌, ◌∙◌, Ok, ap, sym}
use Rattle.lfs_mount.proofs.Common.{err_from_is_err_and, disk_with_order, ThreadView, disk_of_device, violation_in_order}
use Rattle.lfs_model.specs.declared.order.NameOrder.TheVariants.{LongerFirst, ShorterFirst}
use Rattle.lfs_mount.proofs.Unaccepted.{found_broken, none_accepted}
use Rattle.lfs_mount.proofs.ReadImages.{refused_back, mounted_image}
use Rattle.lfs_mount.proofs.accepted_images.mount.Goals as goal

pub returns-in_err-image-clause-broken : goal.returns-in_err-image-clause-broken
returns-in_err-image-clause-broken g c =
    let e = err_from_is_err_and c.from_residual.result c.from_residual.ensures.1 in
    rw e.1 (rw e.2 (c.in_err-image.ensures.broken LongerFirst))

pub returns-in_err-image-clause-corrupt : goal.returns-in_err-image-clause-corrupt
returns-in_err-image-clause-corrupt g c =
    let disk = disk_of_device g.D.BlockDevice c.args.device in
    let e = err_from_is_err_and c.from_residual.result c.from_residual.ensures.1 in
    rw e.1 (rw e.2 (λ is order ps a. none_accepted (disk_with_order order disk) _ (c.in_err-image.ensures.broken order) is ps a))

pub returns-in-Ok-clause-longer : goal.returns-in-Ok-clause-longer
returns-in-Ok-clause-longer g c = λ is ps a.
    let disk = disk_of_device g.D.BlockDevice c.args.device in
    let shorter : c.in-Ok.order ≡ ShorterFirst = sym (ap (λ (t : ThreadView). t.kept.disk.order) c.set_order.ensures) ∙ is in
    found_broken (disk_with_order LongerFirst disk) (violation_in_order LongerFirst c.in_ok-image.image.findings.violations) (c.in-Ok.ensures.longer (ap Ok shorter)) (c.in_ok-image.ensures.read.broken LongerFirst) ps a

pub returns-in-Err-clause-broken : goal.returns-in-Err-clause-broken
returns-in-Err-clause-broken g c = c.in_ok-image.ensures.read.broken LongerFirst c.in-Err.violation c.in-Err.ensures.broken

pub returns-in-Err-clause-corrupt : goal.returns-in-Err-clause-corrupt
returns-in-Err-clause-corrupt g c = λ is order ps a.
    let disk = disk_of_device g.D.BlockDevice c.args.device in
    found_broken (disk_with_order order disk) (violation_in_order order c.in_ok-image.image.findings.violations) (c.in-Err.ensures.neither order) (c.in_ok-image.ensures.read.broken order) ps a

pub returns-in-Err-clause-back : goal.returns-in-Err-clause-back
returns-in-Err-clause-back g c = refused_back g.D.BlockDevice c.args.device c.into_device.result c.in_ok-image.image.thread c.in_ok-image.image.findings c.in_ok-image.ensures.read c.into_device.ensures.disk c.into_device.ensures.history

pub returns-in-Ok-clause-mounted : goal.returns-in-Ok-clause-mounted
returns-in-Ok-clause-mounted g c =
    mounted_image (disk_of_device g.D.BlockDevice c.args.device) (g.D.BlockDevice.history c.args.device) c.in_ok-image.image.thread _ c.in_ok-image.image.findings c.in-Ok.order c.in_ok-image.ensures.read c.in-Ok.ensures.kept c.set_order.ensures
