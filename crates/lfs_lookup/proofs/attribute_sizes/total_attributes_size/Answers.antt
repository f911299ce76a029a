use Rattle.std.proofs.Common.{arith}
use Rattle.lfs_lookup.proofs.AttributesPut.{size_fits}
use Rattle.lfs_lookup.proofs.attribute_sizes.total_attributes_size.Goals as goal

pub overflow_add-size-in-loop-attribute : goal.overflow_add-size-in-loop-attribute
overflow_add-size-in-loop-attribute c = size_fits c.args.attributes.now c.loop-attribute.attribute-index _ c.loop-attribute.size (omega arith) c.requires c.loop-attribute.invariant
