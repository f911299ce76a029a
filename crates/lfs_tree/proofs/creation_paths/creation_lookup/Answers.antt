use Rattle.std.proofs.Common.{sym, ◌∙◌}
use Rattle.lfs_tree.proofs.Recovered.{nothing_set}
use Rattle.lfs_tree.proofs.creation_paths.creation_lookup.Goals as goal

pub creation_lookup_recovered-requires : goal.creation_lookup_recovered-requires
creation_lookup_recovered-requires g c = record { held = c.requires; settled = sym c.state-state.ensures ∙ nothing_set _ (sym c.is_none.ensures ∙ c.if-is_none.true) }
