use Rattle.std.proofs.Common.{◌≡◌, ◌++◌, length, reverse}
use Rattle.lfs_lookup.proofs.Common.{items_view, tree_items_view, with_full_paths}
use Rattle.lfs_lookup.proofs.walks.push_beneath_path.Given as goal

abbrev pub invariant-loop-item : goal.invariant-loop-item
invariant-loop-item l =
    tree_items_view l.pending.items ++ reverse (with_full_paths l.path (items_view l.items.items))
    ≡ tree_items_view l.fn.pending.items ++ reverse (with_full_paths l.path (items_view l.fn.items.items))

abbrev pub decreases-loop-item : goal.decreases-loop-item
decreases-loop-item l = length l.items.items
