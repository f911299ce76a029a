use Rattle.std.proofs.Common.{◌∷◌, true}
use Rattle.lfs_model.specs.format.Blocks.{Blocks}
use Rattle.lfs_model.specs.session.History.{call_event, history_with_outcome}
use Rattle.lfs_model.specs.session.History.DeviceCall.{Read}
use Rattle.lfs_device.proofs.fault.FaultDeviceBlockDevice.read.Given as goal

-- the call, as if it failed and left all as it was
abbrev pub ghost-with_ghost_history : goal.ghost-with_ghost_history
ghost-with_ghost_history g a =
    let disk : Blocks = g.D.BlockDevice.blocks a._device.now.inner in
    call_event (Read a._call.now.0 a._call.now.1 a._call.now.2) disk disk true ∷ a._device.now.trace.events

-- the call as it went
abbrev pub ghost-with_ghost_history-2 : goal.ghost-with_ghost_history-2
ghost-with_ghost_history-2 g a = history_with_outcome a._call.now.0.events (g.D.BlockDevice.blocks a._device.now) a._call.now.1
