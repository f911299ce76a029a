use Rattle.std.proofs.Common.{rules, ◌≡◌, ◌∙◌, false, sym, ap, subst}
use Rattle.lfs_device.specs.FaultDevice.{can_tear}
use Rattle.lfs_device.specs.RamDevice.{ram_geometry, ram_blocks}
use Rattle.lfs_device.specs.DeviceDisk.{disk_of_blocks}
use Rattle.lfs_device.specs.declared.ram.RamDevice.{RamDevice}
use Rattle.lfs_model.specs.format.Disk.{disk_with_order}
use Rattle.lfs_model.specs.crash.PowerLoss.{HasEitherTree}
use Rattle.lfs_model.specs.crash.Premises.{MeetsPowerLossPremises}
use Rattle.lfs_fs_tests.proofs.recovery.recover_after_loss.Goals as goal

pub returns : goal.returns
returns c = λ before after stop.
    let session = c.args.session in
    let untorn : can_tear c.unmount-device.result ≡ false = search rules in
    let met = subst MeetsPowerLossPremises c.unmount-device.ensures.history (c.lemma_premises_hold.ensures untorn c.lemma_ram_premises.ensures) in
    let same = ap (λ (r : RamDevice). disk_with_order session.tree.disk.order (disk_of_blocks (ram_geometry r) (ram_blocks r))) c.into_inner.ensures ∙ c.unmount-device.ensures.disk in
    c.recover_device.ensures session.tree.disk.order before after (subst (λ d. HasEitherTree d before after) (sym same) (stop met))
