use Rattle.std.proofs.Common.{◌≡◌, ◌≤◌, ◌-◌, length}
use Rattle.lfs_mount.proofs.Common.{graph_view, AreVisitedMarks, visited_vertices}
use Rattle.lfs_mount.proofs.Searches.{AreSoundBefore}
use Rattle.lfs_mount.proofs.reachability.reached_directories.Given as goal

abbrev pub invariant-loop-next : goal.invariant-loop-next
invariant-loop-next l = record {
  found : l.found.items ≡ visited_vertices (graph_view l.order l.directories) l.next;
  marked : AreVisitedMarks l.is_found.items l.found.items;
  len : length l.is_found.items ≡ length l.directories;
  sound : AreSoundBefore (graph_view l.order l.directories) l.next;
  passed : l.next ≤ length l.found.items;
}

abbrev pub decreases-loop-next : goal.decreases-loop-next
decreases-loop-next l = length l.directories - l.next
