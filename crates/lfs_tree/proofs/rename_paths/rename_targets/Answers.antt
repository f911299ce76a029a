use Rattle.std.proofs.Common.{sym, ◌∙◌}
use Rattle.lfs_tree.proofs.Recovered.{nothing_set}
use Rattle.lfs_tree.proofs.rename_paths.rename_targets.Goals as goal

pub rename_lookup_recovered-requires : goal.rename_lookup_recovered-requires
rename_lookup_recovered-requires g c = record { held = c.requires; settled = sym c.state-state.ensures ∙ nothing_set _ (sym c.is_none.ensures ∙ c.if-is_none.true) }
