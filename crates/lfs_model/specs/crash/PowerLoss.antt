-- The disk that a power loss at any time during an operation leaves.
use Rattle.std.specs.Prelude.{◌≡◌, ◌⊎◌, true, List}
use Rattle.lfs_model.specs.format.Blocks.{Blocks}
use Rattle.lfs_model.specs.format.Disk.{Disk}
use Rattle.lfs_model.specs.format.Thread.{Pair}
use Rattle.lfs_model.specs.tree.Tree.{Tree}
use Rattle.lfs_model.specs.tree.View.{IsAccepted}
use Rattle.lfs_model.specs.tree.Profile.{IsWritable}
use Rattle.lfs_model.specs.tree.Shown.{disk_tree}
use Rattle.lfs_model.specs.session.Operations.{Operation}
use Rattle.lfs_model.specs.session.Session.{Session, DiskSummary}
use Rattle.lfs_model.specs.session.Effects.{operation_result}
use Rattle.lfs_model.specs.session.State.{IsDiskSummary, Healthy}
use Rattle.lfs_model.specs.session.Run.{SystemState}
use Rattle.lfs_model.specs.session.History.{CallEvent, AllCallsSince, HoldsAtLosses}
use Rattle.lfs_model.specs.crash.Stops.{LeftByLoss, ErasesCleanly}

-- ---- the disk that is left

-- The disk is accepted and in the writing profile, and has the tree `before` or the tree `after`.
pub record HasEitherTree (disk : Disk) (before after : Tree) : Type 0 where
  pub pairs : List Pair
  pub accepted : IsAccepted disk pairs
  pub writable : IsWritable disk pairs
  pub tree : (disk_tree disk pairs ≡ before) ⊎ (disk_tree disk pairs ≡ after)

-- The disk with other blocks.
abbrev pub with_blocks : Blocks → Disk → Disk
with_blocks blocks disk = record disk { blocks = blocks }

-- If every erase since the history `old` leaves no log, or one with the old revision count, then a
-- power loss at any time since leaves a disk with the tree `before` or `after`.
abbrev pub SurvivesLossSince : Disk → List CallEvent → List CallEvent → Tree → Tree → Type 0
SurvivesLossSince disk old new before after =
    AllCallsSince ErasesCleanly old new → HoldsAtLosses LeftByLoss old new (λ blocks. HasEitherTree (with_blocks blocks disk) before after)

-- If the call failed, it left a disk that a power loss in it might have left.
abbrev pub FailsLikeLoss : CallEvent → Type 0
FailsLikeLoss e = e.failed ≡ true → LeftByLoss e e.after

-- ---- an operation

-- The session is healthy, and its disk is accepted, with the pairs `ps`, and in the writing
-- profile.
pub record IsHealthySession (at : SystemState) (s : Session) (ps : List Pair) (around : DiskSummary) : Type 0 where
  pub healthy : at.state ≡ Healthy s
  pub accepted : IsAccepted at.disk ps
  pub writable : IsWritable at.disk ps
  pub surrounds : IsDiskSummary at.disk ps around

-- A power loss in any call of the operation, if the session was healthy, leaves a disk with the
-- tree from before the operation or the one from after it.
abbrev pub SurvivesStoppedCalls : SystemState → Operation → SystemState → Type 0
SurvivesStoppedCalls from op to =
    (s : Session) (ps : List Pair) (around : DiskSummary) → IsHealthySession from s ps around
    → SurvivesLossSince from.disk from.calls to.calls s.tree (operation_result around s op).1.tree

-- A power loss in the operation leaves the old tree or the new one. So does the operation itself,
-- even if it ends with an error.
pub record SurvivesPowerLoss (from : SystemState) (op : Operation) (to : SystemState) : Type 0 where
  pub stops : SurvivesStoppedCalls from op to
  pub stands : (s : Session) (ps : List Pair) (around : DiskSummary) → IsHealthySession from s ps around
      → AllCallsSince ErasesCleanly from.calls to.calls → AllCallsSince FailsLikeLoss from.calls to.calls
      → HasEitherTree to.disk s.tree (operation_result around s op).1.tree
