use Rattle.std.proofs.Common.{◌≡◌, map, drop}
use Rattle.lfs_model.specs.declared.order.NameOrder.{NameOrder}
use Rattle.lfs_mount.proofs.Common.{slot_view, scan_view, scan_after_slots}
use Rattle.lfs_mount.proofs.directory_scan.ScannedDirectory.scan_directory_slots.Given as goal

abbrev pub invariant-loop-slot : goal.invariant-loop-slot
invariant-loop-slot l = (order : NameOrder)
    → scan_after_slots order l.places (scan_view order l.initial.self) (map slot_view l.slots) ≡ scan_after_slots order l.places (scan_view order l.self) (map slot_view (drop l.slot-index l.slots))
