use Rattle.std.proofs.Common.{length}
use Rattle.lfs_lookup.proofs.Common.{all_entries, tree_items_view}
use Rattle.lfs_lookup.proofs.Reading.{HasRead}
use Rattle.lfs_lookup.proofs.Sizes.{load_list_into_memory}
use Rattle.lfs_lookup.proofs.Visits.{IsUnderWay}
use Rattle.lfs_lookup.proofs.walks.walk_tree.Given as goal

abbrev pub invariant-loop-found : goal.invariant-loop-found
invariant-loop-found g l = record {
  read : HasRead l.fn.thread l.thread;
  under_way : IsUnderWay l.fn.thread.kept.disk l.fn.thread.kept.pairs (tree_items_view l.walked.items) (tree_items_view l.pending.items);
}

abbrev pub decreases-loop-found : goal.decreases-loop-found
decreases-loop-found g l = load_list_into_memory (length l.fn.thread.kept.pairs) (all_entries l.fn.thread.kept.pairs) (tree_items_view l.pending.items)
