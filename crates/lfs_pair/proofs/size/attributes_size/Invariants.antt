use Rattle.std.proofs.Common.{◌≡◌, ◌-◌, ◌^◌, take, map, min}
use Rattle.lfs_model.specs.format.Slots.{attributes_size}
use Rattle.lfs_pair.proofs.Common.{attribute_view}
use Rattle.lfs_pair.proofs.size.attributes_size.Given as goal

abbrev pub invariant-loop-attribute : goal.invariant-loop-attribute
invariant-loop-attribute l = l.total ≡ min (attributes_size (map attribute_view (take l.attribute-index l.attributes))) (2 ^ 64 - 1)
