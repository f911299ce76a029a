use Rattle.std.proofs.Common.{◌≡◌, ◌+◌, ◌≤◌, drop}
use Rattle.std.specs.List.{position_or_len}
use Rattle.lfs_volume.specs.Calls.{has_path}
use Rattle.lfs_volume.proofs.nodes.find_node_index.Given as goal

abbrev pub invariant-loop-entry : goal.invariant-loop-entry
invariant-loop-entry l = record { few : l.number ≤ l.entry-index; is : position_or_len (has_path l.path) l.nodes ≡ l.number + position_or_len (has_path l.path) (drop l.entry-index l.nodes) }
