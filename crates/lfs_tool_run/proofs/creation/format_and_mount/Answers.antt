use Rattle.lfs_tool_run.proofs.ImagesMade.{begins}
use Rattle.lfs_tool_run.proofs.creation.format_and_mount.Goals as goal

pub returns-in-Ok-clause-begins : goal.returns-in-Ok-clause-begins
returns-in-Ok-clause-begins c =
    begins c.args.geometry c.args.order c.in_ok-device.device c.in-Ok.session c.in_ok-device.ensures.geometry c.in-Ok.ensures.formatted.fresh c.in-Ok.ensures.state c.in-Ok.ensures.geometry
