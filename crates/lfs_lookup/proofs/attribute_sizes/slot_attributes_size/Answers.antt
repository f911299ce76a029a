use Rattle.std.proofs.Common.{map, subst, sym}
use Rattle.lfs_lookup.proofs.Common.{AttributesInOrder, attribute_view, slot_view}
use Rattle.lfs_lookup.proofs.ItemsShown.{parts_at}
use Rattle.lfs_lookup.proofs.attribute_sizes.slot_attributes_size.Goals as goal

pub total_attributes_size-requires : goal.total_attributes_size-requires
total_attributes_size-requires c =
    let there = c.in-Some.ensures.lookup in
    subst (λ xs. AttributesInOrder 0 (map attribute_view xs)) (sym c.deref.ensures.value) (parts_at slot_view c.args.slots.now c.from.result c.in-Some.slot.now c.requires there.3.0 there.1).attributes
