use Rattle.std.proofs.Common.{◌≡◌, ◌++◌, length, take}
use Rattle.lfs_mount.proofs.Common.{AreVisitedMarks}
use Rattle.lfs_mount.proofs.reachability.mark_subdirectories_visited.Given as goal

abbrev pub invariant-loop-branch : goal.invariant-loop-branch
invariant-loop-branch l = record {
  found : l.found.items ≡ l.initial.found.items ++ take l.branch-index l.branches;
  marked : AreVisitedMarks l.is_found.items l.found.items;
  len : length l.is_found.items ≡ length l.initial.is_found.items;
}
