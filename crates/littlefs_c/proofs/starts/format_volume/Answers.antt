use Rattle.std.proofs.Common.{subst, sym, ◌∙◌}
use Rattle.lfs_volume.specs.Volume.{VolumeView}
use Rattle.littlefs_c.specs.Mounts.{IsBlankDevice, IsFormattedByConfig}
use Rattle.littlefs_c.proofs.Formats.{formatted_by_config, prevented_format}
use Rattle.littlefs_c.proofs.Images.{none_below}
use Rattle.littlefs_c.proofs.Mountings.{nothing_open}
use Rattle.littlefs_c.proofs.starts.format_volume.Goals as goal

pub returns-in-Ok-clause-ok : goal.returns-in-Ok-clause-ok
returns-in-Ok-clause-ok c =
    let d = c.image_device-device.result.inner.inner in
    let f : IsFormattedByConfig c.args.config.now c.args.block_count c.in-Ok.volume.session =
    formatted_by_config c.args.config.now c.args.block_count d c.image_device-device.result.profile c.name_order.result c.in-Ok.volume.session
    (subst (IsBlankDevice c.args.config.now c.args.block_count) (sym c.image_device-device.ensures.ram) c.in_ok-ram.ensures.ok) (c.image_device-device.ensures.profile ∙ c.profile.ensures) c.name_order.ensures c.in-Ok.ensures.formatted.1.fresh
    c.in-Ok.ensures.geometry c.in-Ok.ensures.calls.writes.others c.in-Ok.ensures.state in (
      nothing_open c.in-Ok.volume c.new_mounted.result c.new_mounted.ensures.volume c.new_mounted.ensures.none c.in-Ok.ensures.formatted.0,
      subst (λ (v : VolumeView). IsFormattedByConfig c.args.config.now c.args.block_count v.session) (sym c.new_mounted.ensures.volume) f,
    )

pub returns-in-Err-clause-err : goal.returns-in-Err-clause-err
returns-in-Err-clause-err c = prevented_format c.args.config.now c.args.block_count c.in-Err.error c.in-Err.ensures.back.errors (λ io. none_below _ _ (c.in-Err.ensures.back.fault io) c.in-Err._device.inner.inner.no_fault)
