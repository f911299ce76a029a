use Rattle.std.proofs.Common.{◌∙◌}
use Rattle.lfs_tree.proofs.Common.{sized_on, answered, further}
use Rattle.lfs_tree.proofs.OpenedFiles.{bytes_led, can_open_led, form_led, not_led, over_led}
use Rattle.lfs_tree.proofs.opened_contents.open_contents_at.Goals as goal

pub unreachable-requires : goal.unreachable-requires
unreachable-requires g c = not_led c.args.thread.now.kept c.args.path.now c.in_ok-target.target.found c.requires.file c.in_ok-target.ensures.target.leads c.in_default.not-File

pub open_contents-requires-clause-can : goal.open_contents-requires-clause-can
open_contents-requires-clause-can g c =
    can_open_led c.args.thread.now c.args.root c.args.path.now c.requires c.in_ok-target.target.found c.in_ok-target.ensures.target.leads c.in-File.parent c.in-File.slot c.in-File.contents c.in-File.is c.find_at_path.new.thread.kept c.find_at_path.ensures.reading.only

pub returns-clause-over : goal.returns-clause-over
returns-clause-over g c =
    over_led c.args.thread.now c.args.root c.args.path.now c.requires c.in_ok-target.target.found c.in_ok-target.ensures.target.leads c.in-File.parent c.in-File.slot c.in-File.contents c.in-File.is c.find_at_path.new.thread.kept c.find_at_path.ensures.reading.only
    c.open_contents.new.thread.kept c.open_contents.ensures.reading.only c.open_contents.result c.open_contents.ensures.opened

pub returns-clause-bytes : goal.returns-clause-bytes
returns-clause-bytes g c =
    bytes_led c.args.thread.now c.args.root c.args.path.now c.requires c.in_ok-target.target.found c.in_ok-target.ensures.target.leads c.in-File.parent c.in-File.slot c.in-File.contents c.in-File.is c.find_at_path.new.thread.kept c.find_at_path.ensures.reading.only
    c.open_contents.new.thread.kept c.open_contents.ensures.reading.only c.open_contents.result c.open_contents.ensures.opened

pub returns-clause-form : goal.returns-clause-form
returns-clause-form g c =
    let t = c.args.thread.now.kept in
    let device = c.device-device.result.now in
    let sized = sized_on g.D.BlockDevice device t.disk (g.D.BlockDevice.geometry device).block_count (c.device-device.ensures.disk ∙ c.find_at_path.ensures.reading.only.disk)
    (g.D.BlockDevice.geometry device).valid.no_smaller (g.met.D.BlockDevice.shape device) in
    form_led c.args.thread.now c.args.root c.args.path.now c.requires c.in_ok-target.target.found c.in_ok-target.ensures.target.leads c.in-File.parent c.in-File.slot c.in-File.contents c.in-File.is c.find_at_path.new.thread.kept c.find_at_path.ensures.reading.only
    c.open_contents.new.thread.kept c.open_contents.ensures.reading.only c.open_contents.result c.open_contents.ensures.opened sized

pub returns-clause-reading : goal.returns-clause-reading
returns-clause-reading g c =
    further _ _ _ c.open_contents.result (answered _ _ c.find_at_path.result c.in_ok-target.target c.in_ok-target.was c.find_at_path.ensures.reading) c.open_contents.ensures.reading
