use Rattle.std.proofs.Common.{ap, ap₂, sym, ◌∙◌, ◌+◌, nat_le}
use Rattle.lfs_device.specs.declared.geometry.Geometry.{Geometry}
use Rattle.lfs_model.specs.format.Disk.{Disk, block_count}
use Rattle.lfs_model.specs.session.Session.{file_block_count}
use Rattle.lfs_volume.proofs.Saving.{room_answer, room_error}
use Rattle.lfs_volume.proofs.saves.has_save_blocks.Goals as goal

pub returns-in_err-used : goal.returns-in_err-used
returns-in_err-used g c works = room_error c.args.session.now c.args.size c.from_residual.result _ c.from_residual.ensures.1 c.in_err-used.ensures

pub returns : goal.returns
returns g c works =
    let disk = c.device.ensures.disk in
    let same = c.geometry-geometry.ensures in
    room_answer c.args.session.now c.args.size c.in_ok-used.used c.blocks_for_save.result c.from-2.result _ works c.in_ok-used.ensures
    (c.blocks_for_save.ensures.need ∙ ap₂ (λ p b. 2 + file_block_count p b c.args.size) (ap (λ (x : Geometry). x.profile) same ∙ ap (λ (d : Disk). d.profile) disk) (ap (λ (x : Geometry). x.block_size) same ∙ ap (λ (d : Disk). d.block_size) disk))
    (c.from-2.ensures ∙ ap (λ (x : Geometry). x.block_count) same ∙ sym (g.met.D.BlockDevice.shape c.device.result.now).count ∙ ap block_count disk)
    (ap (λ m. nat_le (m + c.blocks_for_save.result) c.from-2.result) c.from.ensures)
