use Rattle.std.proofs.Common.{ap, sym, ◌∙◌, Err}
use Rattle.lfs_tool.proofs.Common.{fault_count}
use Rattle.lfs_tool.proofs.Mounts.{only_memory}
use Rattle.lfs_tool.specs.declared.errors.ToolError.TheVariants.{Fs}
use Rattle.lfs_tool.proofs.unpacked_images.file_bytes.Goals as goal

pub returns-in-Err-clause-err : goal.returns-in-Err-clause-err
returns-in-Err-clause-err c =
    let reported = c.in-Err.ensures.reading.reported in
    ap Fs (only_memory c.in-Err.error _ _ reported.errors (λ io. reported.fault (ap Err io)) (ap fault_count (sym c.device-device.ensures.history) ∙ c.device-device.result.now.no_fault))
