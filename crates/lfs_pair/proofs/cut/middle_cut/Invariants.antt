use Rattle.std.proofs.Common.{◌≡◌, map, take, sum_by}
use Rattle.lfs_pair.proofs.Common.{raw_slot_size, slot_view}
use Rattle.lfs_pair.proofs.Cutting.{Fronts}
use Rattle.lfs_pair.proofs.cut.middle_cut.Given as goal

abbrev pub invariant-loop-slot : goal.invariant-loop-slot
invariant-loop-slot l = record {
  total : l.total ≡ sum_by raw_slot_size (map slot_view l.slots);
  cut : l.cut ≡ l.slot-index;
  front : l.front ≡ sum_by raw_slot_size (take l.slot-index (map slot_view l.slots));
  fronts : Fronts l.fn.geometry.block_size l.fn.geometry.page (map slot_view l.slots) l.slot-index;
}
