use Rattle.std.proofs.Common.{◌∷◌, true}
use Rattle.lfs_model.specs.format.Blocks.{Blocks}
use Rattle.lfs_model.specs.session.History.{call_event}
use Rattle.lfs_model.specs.session.History.DeviceCall.{Blank}
use Rattle.lfs_device.proofs.Questions.{answered_history}
use Rattle.lfs_device.proofs.fault.FaultDeviceBlockDevice.is_unprogrammed.Given as goal

-- the call, as if it failed
abbrev pub ghost-with_ghost_history : goal.ghost-with_ghost_history
ghost-with_ghost_history g a =
    let disk : Blocks = g.D.BlockDevice.blocks a._device.now.inner in
    call_event (Blank a._call.now.0 a._call.now.1 a._call.now.2) disk disk true ∷ a._device.now.trace.events

-- the call as it went, if it was one
abbrev pub ghost-with_ghost_history-2 : goal.ghost-with_ghost_history-2
ghost-with_ghost_history-2 g a = answered_history a._call.now.0.events (g.D.BlockDevice.blocks a._device.now) a._call.now.1
