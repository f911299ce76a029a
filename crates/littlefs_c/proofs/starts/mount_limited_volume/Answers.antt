use Rattle.std.proofs.Common.{inr, subst, sym}
use Rattle.lfs_device.specs.RamDevice.{ram_history}
use Rattle.littlefs_c.specs.Images.{PreventsSession, IsImageDevice}
use Rattle.lfs_fs.specs.SessionView.{system_state}
use Rattle.lfs_volume.specs.Volume.{VolumeView}
use Rattle.littlefs_c.specs.Configs.{config_profile}
use Rattle.littlefs_c.specs.Mounts.{IsMountedWithLimits}
use Rattle.littlefs_c.proofs.Images.{none_below}
use Rattle.littlefs_c.proofs.Mountings.{mounted_with_limits, nothing_open, prevented_by}
use Rattle.littlefs_c.proofs.starts.mount_limited_volume.Goals as goal

pub returns-in-Ok-clause-ok : goal.returns-in-Ok-clause-ok
returns-in-Ok-clause-ok c =
    let k = c.args.config.now in
    let d = c.new.result.inner in
    let m : IsMountedWithLimits k c.args.image.now (system_state c.in-Ok.volume.session) =
    mounted_with_limits k c.args.image.now d c.profile-profile.result (ram_history d) c.in-Ok.volume.session c.in_ok-ram.ensures.ok.0
    (subst (IsImageDevice k.block_size k.page (config_profile k) c.args.image.now) (sym c.new.ensures) c.in_ok-ram.ensures.ok.1) c.profile-profile.ensures c.in-Ok.ensures.begun.1 c.in-Ok.ensures.longer in (
      nothing_open c.in-Ok.volume c.new_mounted.result c.new_mounted.ensures.volume c.new_mounted.ensures.none c.in-Ok.ensures.begun.0,
      subst (λ (v : VolumeView). IsMountedWithLimits k c.args.image.now (system_state v.session)) (sym c.new_mounted.ensures.volume) m,
    )

pub returns-in-Err-clause-err : goal.returns-in-Err-clause-err
returns-in-Err-clause-err c =
    let k = c.args.config.now in
    let d = c.new.result.inner in
    inr
    (subst (λ p. PreventsSession k.block_size k.page p c.args.image.now c.in-Err.error) c.profile-profile.ensures
    (prevented_by k.block_size k.page (config_profile k) c.args.image.now d
    (subst (IsImageDevice k.block_size k.page (config_profile k) c.args.image.now) (sym c.new.ensures) c.in_ok-ram.ensures.ok.1) c.profile-profile.result c.in-Err.error c.in-Err.ensures.errors
    (λ io. none_below _ _ (c.in-Err.ensures.back.fault io) c.in-Err._device.inner.no_fault) c.in-Err.ensures.corrupt))
