use Rattle.std.proofs.Common.{◌≡◌, List, sym, subst}
use Rattle.lfs_device.specs.DeviceDisk.{disk_with_profile}
use Rattle.lfs_model.specs.declared.order.NameOrder.TheVariants.{LongerFirst, ShorterFirst}
use Rattle.lfs_model.specs.format.Disk.{disk_with_order}
use Rattle.lfs_model.specs.format.Thread.{Pair}
use Rattle.lfs_model.specs.tree.View.{IsAccepted}
use Rattle.lfs_thread.specs.Kept.{disk_of_device}
use Rattle.lfs_volume.specs.Volume.{VolumeView}
use Rattle.lfs_volume.proofs.mounts.mount_with_limits.Goals as goal

pub begin-requires : goal.begin-requires
begin-requires g c = c.in-Ok.ensures.begun.begun.no_files

pub returns-in-Ok-clause-longer : goal.returns-in-Ok-clause-longer
returns-in-Ok-clause-longer g c =
    subst (λ (v : VolumeView). v.session.tree.disk.order ≡ ShorterFirst → (ps : List Pair) → IsAccepted (disk_with_order LongerFirst (disk_with_profile v.session.tree.disk.profile (disk_of_device g.D.BlockDevice c.args.device))) ps → ⊥) (sym c.begin.ensures) c.in-Ok.ensures.longer
