use Rattle.std.proofs.Common.{◌≡◌, take, map}
use Rattle.lfs_pair.proofs.Common.{attribute_entries, attribute_view, commit_with_entries}
use Rattle.lfs_pair.proofs.entries.push_attributes.Given as goal

abbrev pub invariant-loop-attribute : goal.invariant-loop-attribute
invariant-loop-attribute l = l.builder ≡ commit_with_entries (attribute_entries l.id (map attribute_view (take l.attribute-index l.attributes))) l.fn.builder
