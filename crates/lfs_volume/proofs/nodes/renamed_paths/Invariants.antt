use Rattle.std.proofs.Common.{◌≡◌, map, take}
use Rattle.std.specs.Option.{option_and_then, option_map}
use Rattle.lfs_volume.specs.Calls.{renamed_path}
use Rattle.lfs_volume.proofs.nodes.renamed_paths.Given as goal

abbrev pub invariant-loop-entry : goal.invariant-loop-entry
invariant-loop-entry l = map (option_map (λ p. p.items)) l.paths.items ≡ map (option_and_then (renamed_path l.from l.to)) (take l.entry-index l.nodes)
