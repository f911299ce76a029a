use Rattle.std.proofs.Common.{subst, sym}
use Rattle.lfs_device.specs.DeviceDisk.{disk_of_blocks}
use Rattle.lfs_model.specs.format.Disk.{disk_with_order}
use Rattle.lfs_device.specs.declared.error.Error.TheVariants.{NoMemory}
use Rattle.lfs_fs.specs.SessionView.{BeginsByMount, SessionView}
use Rattle.littlefs_flash.specs.Starts.{IsSessionOfChip, PreventsMount}
use Rattle.littlefs_flash.specs.declared.chip.Chip.{Chip}
use Rattle.littlefs_flash.proofs.Mounts.{failed, mounted, no_room}
use Rattle.littlefs_flash.proofs.starts.mount_chip.Goals as goal

pub returns-in-Ok-new-clause-ok : goal.returns-in-Ok-new-clause-ok
returns-in-Ok-new-clause-ok g c =
    let d = c.in-Ok.device in
    let made = c.in-Ok.ensures.ok in
    subst (IsSessionOfChip c.args.config.now c.args.chip) (sym c.in-Ok-new.ensures.ok)
    (mounted c.args.config.now c.args.chip d.geometry d.chip made.0 made.1 made.2 d.block_size d.page c.in-Ok-mount.session c.in-Ok-mount.ensures.begun c.in-Ok-mount.ensures.state c.in-Ok-mount.ensures.longer)

pub returns-in-Err-new-clause-err : goal.returns-in-Err-new-clause-err
returns-in-Err-new-clause-err g c =
    let d = c.in-Ok.device in
    let made = c.in-Ok.ensures.ok in
    let r = c.unmount.result in
    subst (λ (x : Chip). PreventsMount c.args.config.now c.args.chip x NoMemory) (sym c.into_chip.ensures)
    (no_room c.args.config.now c.args.chip d.geometry d.chip made.0 made.1 made.2 d.block_size d.page r.geometry r.chip r.block_size r.page c.in-Err-new.failed.value
    (subst (λ (s : SessionView). BeginsByMount (disk_with_order s.tree.disk.order (disk_of_blocks d.geometry d.chip.state.blocks)) d.chip.state.history s) (sym c.in-Err-new.ensures.value_returned) c.in-Ok-mount.ensures.begun) c.unmount.ensures.disk
    c.unmount.ensures.history)

pub returns-in-Err-mount-clause-err : goal.returns-in-Err-mount-clause-err
returns-in-Err-mount-clause-err g c =
    let d = c.in-Ok.device in
    let made = c.in-Ok.ensures.ok in
    let r = c.in-Err-mount.device in
    let m = c.in-Err-mount.ensures in
    subst (λ (x : Chip). PreventsMount c.args.config.now c.args.chip x c.in-Err-mount.error) (sym c.into_chip-in-Err-mount.ensures)
    (failed c.args.config.now c.args.chip d.geometry d.chip made.0 made.1 made.2 d.block_size d.page r.geometry r.chip r.block_size r.page c.in-Err-mount.error m.errors m.corrupt m.back.disk m.back.reads m.back.fault m.back.no_fault)
