-- A copied slot in contracts.
use Rattle.std.specs.Prelude.{ℕ, List, map}
use Rattle.lfs_model.specs.layers.SlotChanges.{NamelessSlot}
use Rattle.lfs_operations.specs.declared.slot_copies.StructCopy.{StructCopy}
use Rattle.lfs_operations.specs.declared.slot_copies.AttributeCopy.{AttributeCopy}
use Rattle.lfs_operations.specs.declared.slot_copies.SlotCopy.{SlotCopy}

abbrev pub struct_copy_view : StructCopy → ℕ × List ℕ
struct_copy_view p = (p.kind, p.bytes.items)

abbrev pub attribute_copy_view : AttributeCopy → ℕ × List ℕ
attribute_copy_view a = (a.kind, a.bytes.items)

abbrev pub slot_copy_view : SlotCopy → NamelessSlot
slot_copy_view s = record { kind = s.name_kind; struct = struct_copy_view s.structure; attributes = map attribute_copy_view s.attributes.items }
