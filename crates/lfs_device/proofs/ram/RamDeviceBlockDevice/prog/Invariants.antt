use Rattle.std.proofs.Common.{◌∷◌, false}
use Rattle.lfs_model.specs.format.Blocks.{Blocks, cut, programmed}
use Rattle.lfs_model.specs.session.History.{call_event}
use Rattle.lfs_model.specs.session.History.DeviceCall.{Program}
use Rattle.lfs_device.proofs.ram.RamDeviceBlockDevice.prog.Given as goal

abbrev pub ghost-with_ghost_history : goal.ghost-with_ghost_history
ghost-with_ghost_history a =
    let d = a._device.now in
    let disk : Blocks = cut d.geometry.block_size d.geometry.block_count d.bytes.items in
    call_event (Program a._call.now.0 a._call.now.1 a._call.now.2.now) disk (programmed disk a._call.now.0 a._call.now.1 a._call.now.2.now) false ∷ d.trace.events
