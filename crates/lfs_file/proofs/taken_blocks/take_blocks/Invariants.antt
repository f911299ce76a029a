use Rattle.std.proofs.Common.{◌≡◌, ◌≤◌, ◌+◌, ◌-◌, length}
use Rattle.lfs_file.proofs.Common.{in_flight_count, used_count, TakesFreeBlocks}
use Rattle.lfs_file.proofs.taken_blocks.take_blocks.Given as goal

abbrev pub invariant-take_next : goal.invariant-take_next
invariant-take_next l = record {
  takes : TakesFreeBlocks l.fn.map l.map l.blocks.items;
  few : length l.blocks.items ≤ l.count;
  flying : in_flight_count l.map ≡ in_flight_count l.fn.map + length l.blocks.items;
  used : used_count l.map ≡ used_count l.fn.map;
}

abbrev pub decreases-take_next : goal.decreases-take_next
decreases-take_next l = l.count - length l.blocks.items
