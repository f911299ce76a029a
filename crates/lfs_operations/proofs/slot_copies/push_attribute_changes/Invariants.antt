use Rattle.lfs_operations.proofs.Common.{◌≡◌, ◌++◌, map, take, changes_view, attribute_copy_view, attribute_changes}
use Rattle.lfs_operations.proofs.slot_copies.push_attribute_changes.Given as goal

abbrev pub invariant-loop-attribute : goal.invariant-loop-attribute
invariant-loop-attribute l = changes_view l.changes.items ≡ changes_view l.fn.changes.items ++ attribute_changes l.id (map attribute_copy_view (take l.attribute-index l.attributes))
