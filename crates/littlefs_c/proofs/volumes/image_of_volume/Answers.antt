-- The bytes are those of the volume's device.
use Rattle.std.proofs.Common.{ap, subst, sym, ◌∙◌}
use Rattle.lfs_device.specs.RamDevice.{ram_bytes}
use Rattle.littlefs_c.specs.Volumes.{IsDiskImage}
use Rattle.littlefs_c.proofs.Images.{image_of_disk}
use Rattle.littlefs_c.proofs.volumes.image_of_volume.Goals as goal

pub returns : goal.returns
returns c =
    let disk = c.args.volume.now.session.tree.disk in
    subst (IsDiskImage disk) (sym (c.bytes.ensures.bytes ∙ ap ram_bytes (c.inner-2.ensures ∙ ap (λ d. d.inner) c.inner.ensures)))
    (image_of_disk c.device.result.now.inner.inner c.device.result.now.profile disk.order disk c.device.ensures.disk)
