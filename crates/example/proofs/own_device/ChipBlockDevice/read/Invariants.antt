use Rattle.std.proofs.Common.{◌∷◌, false}
use Rattle.lfs_model.specs.format.Blocks.{Blocks, cut}
use Rattle.lfs_model.specs.session.History.{call_event}
use Rattle.lfs_model.specs.session.History.DeviceCall.{Read}
use Rattle.example.proofs.own_device.ChipBlockDevice.read.Given as goal

abbrev pub ghost-with_ghost_history : goal.ghost-with_ghost_history
ghost-with_ghost_history a =
    let d = a._device.now in
    let disk : Blocks = cut d.geometry.block_size d.geometry.block_count d.bytes.items in
    call_event (Read a._call.now.0 a._call.now.1 a._call.now.2) disk disk false ∷ d.trace.events
