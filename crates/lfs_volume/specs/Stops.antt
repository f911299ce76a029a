-- The trees that a loss of power within a volume's call may leave.
use Rattle.std.specs.Prelude.{◌≡◌, ◌⊎◌}
use Rattle.lfs_model.specs.declared.order.NameOrder.{NameOrder}
use Rattle.lfs_model.specs.format.Disk.{Disk, disk_with_order}
use Rattle.lfs_model.specs.tree.Tree.{Tree}
use Rattle.lfs_model.specs.crash.RepeatedPowerLoss.{KeepsTree, LeftBetween, MeetsCrashSafetyPremises}
use Rattle.lfs_tree.specs.TreeState.{visible_tree}
use Rattle.lfs_fs.specs.SessionView.{SessionView, system_state}

-- The disk that was left has one of these trees: a mount finds it, and a recovery keeps it.
pub record LeavesEitherTree (left : Disk) (before after : Tree) : Type 0 where
  pub order : NameOrder
  pub tree : Tree
  pub is : (tree ≡ before) ⊎ (tree ≡ after)
  pub safe : KeepsTree tree (disk_with_order order left)

-- If power is lost anywhere between these states, the disk has the tree of the one or of the other.
abbrev pub LossLeavesEitherTree : SessionView → SessionView → Type 0
LossLeavesEitherTree from to = MeetsCrashSafetyPremises (system_state from) (system_state to) → (left : Disk) → LeftBetween (system_state from) (system_state to) left → LeavesEitherTree left (visible_tree from.tree) (visible_tree to.tree)
