use Rattle.std.proofs.Common.{length}
use Rattle.lfs_tree.proofs.Common.{items_view}
use Rattle.lfs_tree.proofs.Reached.{AreTaken}
use Rattle.lfs_tree.proofs.orphans.mark_directories.Given as goal

abbrev pub invariant-loop-item : goal.invariant-loop-item
invariant-loop-item g l = AreTaken l.thread.kept.pairs (items_view l.fn.items.items) (items_view l.items.items) l.fn.marks.items l.fn.pending.items l.marks.items l.pending.items

abbrev pub decreases-loop-item : goal.decreases-loop-item
decreases-loop-item g l = length l.items.items
