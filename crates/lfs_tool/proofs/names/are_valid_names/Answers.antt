use Rattle.lfs_tool.proofs.Order.{bad_names, in_order}
use Rattle.std.proofs.Common.{◌∙◌, sym}
use Rattle.lfs_tool.proofs.names.are_valid_names.Goals as goal

pub returns-clause-good : goal.returns-clause-good
returns-clause-good c = λ e. in_order _ (sym c.are_ascending_components.ensures ∙ e)

pub returns-clause-bad : goal.returns-clause-bad
returns-clause-bad c = λ e. bad_names _ c.requires (sym c.are_ascending_components.ensures ∙ e)
