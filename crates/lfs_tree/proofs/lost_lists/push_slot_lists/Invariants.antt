use Rattle.std.proofs.Common.{◌≡◌, ◌++◌, map, take}
use Rattle.lfs_tree.proofs.Common.{slot_view, raw_slots_lists}
use Rattle.lfs_tree.proofs.lost_lists.push_slot_lists.Given as goal

abbrev pub invariant-loop-slot : goal.invariant-loop-slot
invariant-loop-slot l = l.lists.items ≡ l.initial.lists.items ++ raw_slots_lists (map slot_view (take l.slot-index l.slots))
