use Rattle.std.proofs.Common.{◌+◌, length}
use Rattle.lfs_tree.proofs.Common.{unmarked_count, HasRead}
use Rattle.lfs_tree.proofs.Reached.{IsMarking}
use Rattle.lfs_tree.proofs.orphans.mark_reached_directories.Given as goal

abbrev pub invariant-loop-first : goal.invariant-loop-first
invariant-loop-first g l = record {
  read : HasRead l.fn.thread l.thread;
  marking : IsMarking l.fn.thread.kept.pairs l.marks.items l.pending.items;
}

abbrev pub decreases-loop-first : goal.decreases-loop-first
decreases-loop-first g l = unmarked_count l.marks.items + length l.pending.items
