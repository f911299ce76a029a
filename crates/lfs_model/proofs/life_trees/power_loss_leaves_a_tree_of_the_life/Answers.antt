use Rattle.lfs_model.proofs.TreesLeft.{life_leaves}
use Rattle.lfs_model.proofs.life_trees.power_loss_leaves_a_tree_of_the_life.Goals as goal

pub returns : goal.returns
returns c = life_leaves
