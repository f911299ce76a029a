-- A slot may go to another thread, as its volume and its block's right may.
use Rattle.std.specs.declared.option.Option.{Option}
use Rattle.std.specs.declared.option.Option.TheVariants.{None, Some}
use mir.Raw.{raw}
use denote.Memory.{lone}
use base.Shift.{Keyless}
use denote.RawPtr.{Ptr}
use denote.Struct.Struct.{exits_of}
use denote.Struct.Owning.{shape, fields, to}
use denote.Param.Send.{IsSend, AllSend, owning_send, struct_send, sendable}
use Rattle.std.proofs.Crossing as heap
use Rattle.std_alloc.proofs.SendSync.{quiet, lies}
use Rattle.std_heap.proofs.Global.TheSendSync as handle
use Rattle.std_heap.specs.declared.Global.{Global}
use Rattle.littlefs_c.specs.HandleSlots.{handle_owns}
use Rattle.littlefs_c.specs.contracts.mounted.Mounted.{the_row as mounted_row}
use Rattle.littlefs_c.specs.declared.mounted.Mounted.{Mounted}
use Rattle.littlefs_c.proofs.mounted.Mounted.TheSendSync.{the_send as mounted_send}
use Rattle.littlefs_c.specs.contracts.slot.Slot.{the_row, the_type}

keyless : (a : Global) (p : Ptr) (o : Option Mounted) → Keyless (handle_owns a p o)
keyless a p None = tt
keyless a p (Some x) = (lies mounted_row mounted_send p x, heap.frees.frees a (raw (lone mounted_row.mir)) p)

pub send : IsSend the_row
send =
    let all : AllSend (fields the_type) = (search sendable, (handle.the_field_send, tt)) in
    owning_send the_type all (λ d. keyless d.alloc d.at d.mounted) (λ k. quiet (to the_type) (exits_of k (fields the_type)) ((struct_send (shape the_type) all).leaving k))
