use Rattle.std.proofs.Common.{◌≡◌, take, map}
use Rattle.lfs_pair.proofs.Common.{entries_of_slots, slot_view, commit_with_entries}
use Rattle.lfs_pair.proofs.entries.push_slots.Given as goal

abbrev pub invariant-loop-slot : goal.invariant-loop-slot
invariant-loop-slot l = record {
  id : l.id ≡ l.slot-index;
  builder : l.builder ≡ commit_with_entries (entries_of_slots 0 (map slot_view (take l.slot-index l.slots))) l.fn.builder;
}
