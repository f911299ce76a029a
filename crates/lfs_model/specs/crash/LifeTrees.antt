-- The trees that a power loss in a life may leave, and the sessions that meet the premises for it.
use Rattle.std.specs.Prelude.{◌≡◌, ◌⊎◌, List, [], ◌∷◌}
use Rattle.lfs_model.specs.format.Disk.{Disk, disk_with_order}
use Rattle.lfs_model.specs.declared.order.NameOrder.{NameOrder}
use Rattle.lfs_model.specs.tree.Tree.{Tree}
use Rattle.lfs_model.specs.tree.Profile.{IsWritableDisk}
use Rattle.lfs_model.specs.session.Session.{Session, DiskSummary}
use Rattle.lfs_model.specs.session.Run.{SystemState}
use Rattle.lfs_model.specs.session.Headline.{HasDiskTree}
use Rattle.lfs_model.specs.crash.Lives.{Turn}
use Rattle.lfs_model.specs.crash.LifeHeadline.{session_after_turn}
use Rattle.lfs_model.specs.crash.RepeatedPowerLoss.{IsJustMounted, SameBytes, KeepsTree}

-- The session has its disk's tree, and the disk is in the writing profile.
pub record HasWritableDiskTree (at : SystemState) : Type 0 where
  pub agrees : HasDiskTree at
  pub profile : IsWritableDisk at.disk

-- The session has this tree at the beginning of its life, or after one of its turns.
abbrev pub IsTreeOfLife : DiskSummary → Session → List Turn → Tree → Type 0
IsTreeOfLife around s [] tree = tree ≡ s.tree
IsTreeOfLife around s (turn ∷ turns) tree = (tree ≡ s.tree) ⊎ IsTreeOfLife around (session_after_turn around s turn) turns tree

-- A session can mount the disk with its names in the order `order`. It then has the tree `tree`,
-- which has the property `P`, and which a recovery keeps. Every session that mounts the disk has
-- its disk's tree, and the disk is in the writing profile, so the premises of another life hold.
pub record HasMountableTree (P : Tree → Type 0) (left : Disk) : Type 0 where
  pub order : NameOrder
  pub tree : Tree
  pub has : P tree
  pub safe : KeepsTree tree (disk_with_order order left)
  pub may : (begin : SystemState) → SameBytes left begin.disk → IsJustMounted begin.disk begin → HasWritableDiskTree begin

-- After the power loss, a session can mount the disk with a tree of the life.
abbrev pub LeavesTreeOfLife : DiskSummary → Session → List Turn → Disk → Type 0
LeavesTreeOfLife around s turns left = HasMountableTree (IsTreeOfLife around s turns) left
