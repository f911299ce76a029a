use Rattle.std.proofs.Common.{subst}
use Rattle.std.proofs.lemmas.Result.{IfOk-weaker}
use Rattle.lfs_tool.specs.Unpackings.{IsStillMounted}
use Rattle.lfs_tool.proofs.Common.{IfErr-weaker, on_ok_weaker, ram_blocks, ram_geometry, Disk}
use Rattle.lfs_device.specs.DeviceDisk.{disk_of_blocks as shown}
use Rattle.lfs_device.specs.declared.ram.RamDevice.{RamDevice}
use Rattle.lfs_tool.proofs.Unpacks.{done_image, fails_image}
use Rattle.lfs_tool.proofs.unpacked_images.unpack.Goals as goal

-- the disk that a device in memory shows
abbrev disk_in : RamDevice → Disk
disk_in d = shown (ram_geometry d) (ram_blocks d)

pub returns-in-Ok-clause-done : goal.returns-in-Ok-clause-done
returns-in-Ok-clause-done g c =
    let d = c.in-Ok.ensures in
    on_ok_weaker c.unpack_ram_device.result (λ h. done_image c.args.layout c.args.image.items (disk_in c.in-Ok.device) _ _ d.image d.disk h) c.unpack_ram_device.ensures.done

pub returns-in-Ok-clause-failed : goal.returns-in-Ok-clause-failed
returns-in-Ok-clause-failed g c =
    let d = c.in-Ok.ensures in
    IfErr-weaker c.unpack_ram_device.result _ _ (λ e h. fails_image c.args.layout c.args.image.items (disk_in c.in-Ok.device) _ _ e d.image d.disk h) c.unpack_ram_device.ensures.failed

pub returns-in-Ok-clause-mounted : goal.returns-in-Ok-clause-mounted
returns-in-Ok-clause-mounted g c =
    IfOk-weaker c.unpack_ram_device.result _ _ (λ image still. subst (λ (d : Disk). IsStillMounted d image) c.in-Ok.ensures.disk still) c.unpack_ram_device.ensures.mounted
