use Rattle.std.proofs.Common.{ap}
use Rattle.lfs_fs.proofs.Common.{Disk}
use Rattle.lfs_fs.proofs.DeviceLaws.{laws_met}
use Rattle.lfs_fs.proofs.device_laws.lemma_calls_conform.Goals as goal

pub returns : goal.returns
returns g c =
    let device = c.device-device.result.now in
    laws_met g.D.BlockDevice device c.args.tree.now (ap (λ (d : Disk). d.blocks) c.device-device.ensures.disk) c.device-device.ensures.history (g.met.D.BlockDevice.newest device) (g.met.D.BlockDevice.conforms device)
