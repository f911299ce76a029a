use Rattle.std.proofs.Common.{◌∷◌, false}
use Rattle.lfs_model.specs.format.Blocks.{Blocks, cut}
use Rattle.lfs_device.specs.Erased.{blocks_after_erase}
use Rattle.lfs_model.specs.session.History.{call_event}
use Rattle.lfs_model.specs.session.History.DeviceCall.{Erase}
use Rattle.lfs_device.proofs.ram.RamDeviceBlockDevice.erase.Given as goal

abbrev pub ghost-with_ghost_history : goal.ghost-with_ghost_history
ghost-with_ghost_history a =
    let d = a._device.now in
    let disk : Blocks = cut d.geometry.block_size d.geometry.block_count d.bytes.items in
    call_event (Erase a._call.now) disk (blocks_after_erase d.erased d.geometry.block_size disk a._call.now) false ∷ d.trace.events
