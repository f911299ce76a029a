use Rattle.std.proofs.Common.{rules, ◌≡◌, ◌∙◌, false, ap, subst}
use Rattle.lfs_device.specs.FaultDevice.{can_tear}
use Rattle.lfs_device.specs.RamDevice.{ram_geometry, ram_blocks}
use Rattle.lfs_device.specs.DeviceDisk.{disk_of_blocks}
use Rattle.lfs_device.specs.declared.ram.RamDevice.{RamDevice}
use Rattle.lfs_model.specs.format.Disk.{disk_with_order}
use Rattle.lfs_model.specs.crash.Premises.{MeetsPowerLossPremises}
use Rattle.lfs_fs.specs.SessionView.{system_state}
use Rattle.saved_files.proofs.Stopped.{finds_save}
use Rattle.saved_files.proofs.stops.save_and_remount.Goals as goal

pub returns : goal.returns
returns c =
    let left = c.save_settings.new.session in
    let untorn : can_tear c.unmount-device.result ≡ false = search rules in
    let met = subst MeetsPowerLossPremises c.unmount-device.ensures.history (c.lemma_premises_hold.ensures untorn c.lemma_ram_premises.ensures) in
    let same = ap (λ (r : RamDevice). disk_with_order left.tree.disk.order (disk_of_blocks (ram_geometry r) (ram_blocks r))) c.into_inner.ensures ∙ c.unmount-device.ensures.disk in
    finds_save (system_state c.args.session) (system_state left) (system_state c.in_ok-next.next) (disk_of_blocks (ram_geometry c.into_inner.result) (ram_blocks c.into_inner.result)) c.args.bytes.now
    c.save_settings.ensures.survives c.save_settings.ensures.lived met same c.in_ok-next.ensures.mounted
