use Rattle.lfs_tree.proofs.CarryPlaces.{last_of_map}
use Rattle.lfs_tree.proofs.entries_at.last_name_of.Goals as goal

pub returns-in-Some : goal.returns-in-Some
returns-in-Some c = last_of_map (λ name. name.now) c.args.names.now _ _ c.in-Some.ensures.cases.0
