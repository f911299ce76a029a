use Rattle.lfs_operations.proofs.Common.{◌≡◌, map, take, attribute_copy_view, attribute_view}
use Rattle.lfs_operations.proofs.slot_copies.copy_attributes.Given as goal

abbrev pub invariant-loop-attribute : goal.invariant-loop-attribute
invariant-loop-attribute l = map attribute_copy_view l.copies.items ≡ map attribute_view (take l.attribute-index l.attributes)
