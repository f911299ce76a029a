use Rattle.std.proofs.Common.{◌≡◌, ◌++◌, map}
use Rattle.std.specs.Vec.Iter.{into_iter_items}
use Rattle.lfs_lookup.proofs.Common.{listed_item_view, items_view, AreNamedStructsInLimits, name_and_size}
use Rattle.lfs_lookup.proofs.listings.to_list_items.Given as goal

abbrev pub invariant-loop-item : goal.invariant-loop-item
invariant-loop-item l =
    (goal.iterator-loop-item).can_next l.item-iterator ×
    (goal.iterator-loop-item).is_finite l.item-iterator ×
    (map listed_item_view l.listed.items ++ map name_and_size (items_view (into_iter_items l.item-iterator)) ≡ map name_and_size (items_view l.fn.items.items)) ×
    AreNamedStructsInLimits (items_view (into_iter_items l.item-iterator))
