use Rattle.std.proofs.Common.{◌≡◌, drop, false}
use Rattle.lfs_tree.proofs.Common.{ChangesOnlyMap, fault_count, HasSameBlocksInFlight, CanFreeLists}
use Rattle.lfs_tree.proofs.lost_lists.free_lists.Given as goal

abbrev pub invariant-loop-list : goal.invariant-loop-list
invariant-loop-list g l = record {
  can : CanFreeLists l.thread.kept (drop l.list-index l.lists);
  works : l.thread.failed ≡ false;
  flying : HasSameBlocksInFlight l.fn.thread.kept.map l.thread.kept.map;
  only : ChangesOnlyMap l.fn.thread.kept l.thread.kept;
  no_fault : fault_count l.thread.kept.history ≡ fault_count l.fn.thread.kept.history;
}
