use Rattle.std.proofs.Common.{◌≡◌, ◌+◌, drop, map}
use Rattle.lfs_lookup.proofs.Common.{attributes_size, attribute_view}
use Rattle.lfs_lookup.proofs.attribute_sizes.total_attributes_size.Given as goal

abbrev pub invariant-loop-attribute : goal.invariant-loop-attribute
invariant-loop-attribute l = l.size + attributes_size (map attribute_view (drop l.attribute-index l.attributes)) ≡ attributes_size (map attribute_view l.attributes)
