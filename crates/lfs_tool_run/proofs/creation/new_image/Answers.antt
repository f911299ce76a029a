use Rattle.std.proofs.Common.{refl}
use Rattle.lfs_tool_run.proofs.Common.{system_state, ram_bytes}
use Rattle.lfs_tool_run.proofs.ImagesMade.{left}
use Rattle.lfs_tool_run.proofs.creation.new_image.Goals as goal

pub returns-clause-ok : goal.returns-clause-ok
returns-clause-ok g c =
    let h = c.in_ok-session.ensures.ok in
    left c.args.geometry c.args.order h.from (system_state c.in_ok-session.session) c.args.entries.now c.unmount.result (ram_bytes c.unmount.result) h.begins h.carried c.unmount.ensures.disk refl
