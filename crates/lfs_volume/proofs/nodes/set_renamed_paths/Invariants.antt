use Rattle.std.proofs.Common.{◌≡◌, length, map}
use Rattle.std.specs.Option.{option_map}
use Rattle.lfs_volume.specs.Calls.{nodes_with_paths}
use Rattle.lfs_volume.proofs.nodes.set_renamed_paths.Given as goal

abbrev pub invariant-loop-path : goal.invariant-loop-path
invariant-loop-path l = nodes_with_paths (map (option_map (λ p. p.items)) l.paths.items) l.nodes.items ≡ nodes_with_paths (map (option_map (λ p. p.items)) l.fn.paths.items) l.fn.nodes.items

abbrev pub decreases-loop-path : goal.decreases-loop-path
decreases-loop-path l = length l.paths.items
