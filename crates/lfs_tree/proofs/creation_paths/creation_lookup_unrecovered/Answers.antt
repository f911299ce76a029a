use Rattle.std.proofs.Common.{refl}
use Rattle.lfs_tree.proofs.Common.{answered, answers}
use Rattle.lfs_tree.proofs.creation_paths.creation_lookup_unrecovered.Goals as goal

pub returns-clause-reading : goal.returns-clause-reading
returns-clause-reading g c = answers _ _ _ _ refl (answered _ _ c.find_node.result c.in_ok-entry.entry c.in_ok-entry.was c.find_node.ensures.reading)
