use Rattle.std.proofs.Common.{ap, sym, ◌∙◌, Err}
use Rattle.lfs_tool.proofs.Common.{fault_count}
use Rattle.lfs_tool.proofs.Mounts.{can_still, only_memory}
use Rattle.lfs_tool.proofs.image_devices.MountedImage.attribute.Goals as goal

pub returns-in-Ok-clause-can : goal.returns-in-Ok-clause-can
returns-in-Ok-clause-can c =
    let reading = c.find_attribute.ensures.reading in
    can_still c.args.self.now.thread c.find_attribute.new.thread c.args.self.now.root reading.only reading.works c.requires

pub returns-in-Err-clause-can : goal.returns-in-Err-clause-can
returns-in-Err-clause-can c =
    let reading = c.find_attribute.ensures.reading in
    can_still c.args.self.now.thread c.find_attribute.new.thread c.args.self.now.root reading.only reading.works c.requires

pub returns-in-Err-clause-err : goal.returns-in-Err-clause-err
returns-in-Err-clause-err c =
    let reported = c.in-Err.ensures.reading.reported in
    only_memory c.in-Err.error _ _ reported.errors (λ io. reported.fault (ap Err io)) (ap fault_count (sym c.device-device.ensures.history) ∙ c.device-device.result.now.no_fault)
