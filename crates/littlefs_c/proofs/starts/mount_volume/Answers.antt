use Rattle.std.proofs.Common.{inr, subst, sym, ◌∙◌}
use Rattle.lfs_device.specs.RamDevice.{ram_history}
use Rattle.lfs_fs.specs.SessionView.{system_state}
use Rattle.littlefs_c.specs.Images.{PreventsSession, IsSessionOverImage, IsImageDevice}
use Rattle.lfs_volume.specs.Volume.{VolumeView}
use Rattle.littlefs_c.specs.Configs.{config_profile}
use Rattle.littlefs_c.specs.Mounts.{IsMountedByConfig}
use Rattle.littlefs_c.proofs.Images.{none_below}
use Rattle.littlefs_c.proofs.Mountings.{mounted_by, nothing_open, prevented_by}
use Rattle.littlefs_c.proofs.starts.mount_volume.Goals as goal

pub returns-in-Ok-clause-ok : goal.returns-in-Ok-clause-ok
returns-in-Ok-clause-ok c =
    let k = c.args.config.now in
    let d = c.image_device.result.inner.inner in
    let is : IsImageDevice k.block_size k.page (config_profile k) c.args.image.now d = subst (IsImageDevice k.block_size k.page (config_profile k) c.args.image.now) (sym c.image_device.ensures.ram) c.in_ok-ram.ensures.ok.1 in
    let m : IsMountedByConfig k c.args.image.now (system_state c.in-Ok.volume.session) = (
      c.in_ok-ram.ensures.ok.0,
      subst (λ p. IsSessionOverImage k.block_size k.page p c.args.image.now (system_state c.in-Ok.volume.session)) (c.image_device.ensures.profile ∙ c.profile-profile.ensures)
          (mounted_by k.block_size k.page (config_profile k) c.args.image.now d is c.image_device.result.profile (ram_history d) c.in-Ok.volume.session c.in-Ok.ensures.begun.1 c.in-Ok.ensures.longer),
    ) in (
      nothing_open c.in-Ok.volume c.new_mounted.result c.new_mounted.ensures.volume c.new_mounted.ensures.none c.in-Ok.ensures.begun.0,
      subst (λ (v : VolumeView). IsMountedByConfig k c.args.image.now (system_state v.session)) (sym c.new_mounted.ensures.volume) m,
    )

pub returns-in-Err-clause-err : goal.returns-in-Err-clause-err
returns-in-Err-clause-err c =
    let k = c.args.config.now in
    let d = c.image_device.result.inner.inner in
    let is : IsImageDevice k.block_size k.page (config_profile k) c.args.image.now d = subst (IsImageDevice k.block_size k.page (config_profile k) c.args.image.now) (sym c.image_device.ensures.ram) c.in_ok-ram.ensures.ok.1 in
    inr
    (subst (λ p. PreventsSession k.block_size k.page p c.args.image.now c.in-Err.error) (c.image_device.ensures.profile ∙ c.profile-profile.ensures)
    (prevented_by k.block_size k.page (config_profile k) c.args.image.now d is c.image_device.result.profile c.in-Err.error c.in-Err.ensures.errors (λ io. none_below _ _ (c.in-Err.ensures.back.fault io) c.in-Err._device.inner.inner.no_fault) c.in-Err.ensures.corrupt))
