use Rattle.std.proofs.Common.{rules, refl}
use Rattle.lfs_device.specs.RamDevice.{ram_geometry, ram_blocks}
use Rattle.lfs_device.specs.DeviceDisk.{disk_of_blocks}
use Rattle.lfs_model.specs.format.Disk.{disk_with_order}
use Rattle.lfs_fs_tests.proofs.recovery.recover_device.Goals as goal

pub returns-in-Ok : goal.returns-in-Ok
returns-in-Ok c = λ order before after stop.
    let disk = disk_of_blocks (ram_geometry c.args.device) (ram_blocks c.args.device) in
    c.recover_session.ensures (disk_with_order order disk) (disk_with_order c.in-Ok.session.tree.disk.order disk) before after stop refl c.in-Ok.ensures.state

pub returns : goal.returns
returns c = λ order before after stop. record {
  shows = search rules;
  accepted = λ is. c.in-Err.ensures.corrupt is order stop.pairs stop.accepted;
}
