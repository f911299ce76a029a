use Rattle.std.proofs.Common.{◌≡◌, drop}
use Rattle.std.specs.List.{list_any}
use Rattle.lfs_volume.specs.Calls.{refers_to_node}
use Rattle.lfs_volume.proofs.handles.is_named.Given as goal

abbrev pub invariant-loop-entry : goal.invariant-loop-entry
invariant-loop-entry l = list_any (refers_to_node l.node) l.handles ≡ list_any (refers_to_node l.node) (drop l.entry-index l.handles)
