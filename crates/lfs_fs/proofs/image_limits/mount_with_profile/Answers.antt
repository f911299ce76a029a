use Rattle.std.proofs.Common.{ap, subst, sym}
use Rattle.lfs_fs.proofs.Common.{disk_with_profile, disk_with_order, Disk, IsAccepted, disk_of_device, ReturnsUnchangedDevice}
use Rattle.lfs_model.specs.declared.order.NameOrder.TheVariants.{LongerFirst}
use Rattle.lfs_fs.proofs.image_limits.mount_with_profile.Goals as goal

pub returns-in-Ok-clause-longer : goal.returns-in-Ok-clause-longer
returns-in-Ok-clause-longer g c = λ short ps ok.
    let below = subst (λ d. IsAccepted (disk_with_order LongerFirst (disk_with_profile c.args.profile (disk_of_device g.D.BlockDevice d))) ps) (sym c.new.ensures.inner) ok in
    c.in-Ok.ensures.longer short ps (subst (λ k. IsAccepted (disk_with_order LongerFirst (disk_with_profile k (disk_of_device g.D.BlockDevice c.new.result.inner))) ps) (sym c.new.ensures.profile) below)

pub returns-in-Err-clause-corrupt : goal.returns-in-Err-clause-corrupt
returns-in-Err-clause-corrupt g c = λ corrupt order ps ok.
    let below = subst (λ d. IsAccepted (disk_with_order order (disk_with_profile c.args.profile (disk_of_device g.D.BlockDevice d))) ps) (sym c.new.ensures.inner) ok in
    c.in-Err.ensures.corrupt corrupt order ps (subst (λ k. IsAccepted (disk_with_order order (disk_with_profile k (disk_of_device g.D.BlockDevice c.new.result.inner))) ps) (sym c.new.ensures.profile) below)

pub returns-in-Err-clause-back : goal.returns-in-Err-clause-back
returns-in-Err-clause-back g c =
    let back = c.in-Err.ensures.back in
    subst (λ old. ReturnsUnchangedDevice g.D.BlockDevice old c.into_inner.result c.in-Err.error) c.new.ensures.inner
    (subst (λ new. ReturnsUnchangedDevice g.D.BlockDevice c.new.result.inner new c.in-Err.error) (sym c.into_inner.ensures) (record {
      disk = λ order profile. ap (λ (d : Disk). disk_with_order order (disk_with_profile profile d)) back.disk;
      reads = back.reads;
      fault = back.fault;
      no_fault = back.no_fault;
    }))
