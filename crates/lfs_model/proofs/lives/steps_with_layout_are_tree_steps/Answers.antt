use Rattle.lfs_model.proofs.SessionSteps.{tree_step}
use Rattle.lfs_model.proofs.lives.steps_with_layout_are_tree_steps.Goals as goal

pub returns : goal.returns
returns c = tree_step
