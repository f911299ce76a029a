use Rattle.std.proofs.Common.{◌∷◌, false, replicate}
use Rattle.lfs_model.specs.format.Blocks.{Blocks, cut, programmed}
use Rattle.lfs_model.specs.session.History.{call_event}
use Rattle.lfs_model.specs.session.History.DeviceCall.{Erase}
use Rattle.example.proofs.own_device.ChipBlockDevice.erase.Given as goal

abbrev pub ghost-with_ghost_history : goal.ghost-with_ghost_history
ghost-with_ghost_history a =
    let d = a._device.now in
    let disk : Blocks = cut d.geometry.block_size d.geometry.block_count d.bytes.items in
    call_event (Erase a._call.now) disk (programmed disk a._call.now 0 (replicate d.geometry.block_size 255)) false ∷ d.trace.events
