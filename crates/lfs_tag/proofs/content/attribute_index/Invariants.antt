use Rattle.std.proofs.Common.{◌≡◌, ◌+◌, map, drop}
use Rattle.lfs_tag.proofs.Common.{attribute_view, index_for_attribute}
use Rattle.lfs_tag.proofs.content.attribute_index.Given as goal

abbrev pub invariant-loop-i : goal.invariant-loop-i
invariant-loop-i l = l.i + index_for_attribute l.kind (map attribute_view (drop l.i l.attributes)) ≡ index_for_attribute l.kind (map attribute_view l.attributes)
