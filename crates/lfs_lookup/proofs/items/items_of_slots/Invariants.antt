use Rattle.std.proofs.Common.{◌≡◌, map, take}
use Rattle.lfs_lookup.proofs.Common.{slot_view, items_view, raw_entries}
use Rattle.lfs_lookup.proofs.items.items_of_slots.Given as goal

abbrev pub invariant-loop-slot : goal.invariant-loop-slot
invariant-loop-slot l = items_view l.items.items ≡ raw_entries (map slot_view (take l.slot-index l.slots))
