use Rattle.std.proofs.Common.{◌≡◌, ◌-◌, ◌^◌, take, map, min, sum_by}
use Rattle.lfs_pair.proofs.Common.{raw_slot_size, slot_view}
use Rattle.lfs_pair.proofs.size.slots_size.Given as goal

abbrev pub invariant-loop-slot : goal.invariant-loop-slot
invariant-loop-slot l = l.total ≡ min (sum_by raw_slot_size (map slot_view (take l.slot-index l.slots))) (2 ^ 64 - 1)
