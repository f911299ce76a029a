use Rattle.std.proofs.Common.{◌≡◌, ◌+◌, ◌-◌, ◌≤◌, ◌++◌, map, length, replicate, max}
use Rattle.lfs_tag.proofs.Common.{empty_slot, slot_view}
use Rattle.lfs_tag.proofs.content.pad_slots.Given as goal

abbrev pub invariant-loop-alloc : goal.invariant-loop-alloc
invariant-loop-alloc l = record {
  longer : length l.initial.slots.items ≤ length l.slots.items;
  within : length l.slots.items ≤ max (length l.initial.slots.items) (l.id + 1);
  filled : map slot_view l.slots.items ≡ map slot_view l.initial.slots.items ++ replicate (length l.slots.items - length l.initial.slots.items) empty_slot;
}

abbrev pub decreases-loop-alloc : goal.decreases-loop-alloc
decreases-loop-alloc l = l.id + 1 - length l.slots.items
