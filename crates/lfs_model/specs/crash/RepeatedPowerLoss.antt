-- Any number of power losses, one after another, in the lives of sessions.
use Rattle.std.specs.Prelude.{◌≡◌, ◌⊎◌, false, List, [], ◌∷◌, ◌++◌, Some, All, Any}
use Rattle.lfs_model.specs.format.Blocks.{Blocks}
use Rattle.lfs_model.specs.format.Disk.{Disk, disk_with_order}
use Rattle.lfs_model.specs.declared.order.NameOrder.{NameOrder}
use Rattle.lfs_model.specs.format.Thread.{Pair}
use Rattle.lfs_model.specs.tree.Tree.{Tree}
use Rattle.lfs_model.specs.tree.View.{IsAccepted}
use Rattle.lfs_model.specs.tree.Profile.{IsWritable, IsWritableDisk}
use Rattle.lfs_model.specs.tree.Shown.{disk_tree}
use Rattle.lfs_model.specs.session.History.{CallEvent, AllCallsSince}
use Rattle.lfs_model.specs.crash.Stops.{LeftByLoss, ErasesCleanly}
use Rattle.lfs_model.specs.session.Operations as ops
use Rattle.lfs_model.specs.session.Operations.{Operation, Reply}
use Rattle.lfs_model.specs.session.Session.{Session, DiskSummary}
use Rattle.lfs_model.specs.session.Effects.{operation_result}
use Rattle.lfs_model.specs.session.State.{Healthy, is_remount, mounted_session}
use Rattle.lfs_model.specs.session.Recovery.{IsRecovered}
use Rattle.lfs_model.specs.session.Run.{SystemState, ShowsTree, IsTreeStep}
use Rattle.lfs_model.specs.session.Headline.{HasDiskTree}
use Rattle.lfs_model.specs.crash.Lives.{Turn, IsTurn, IsLife, FailLikeLossBeforeLast}
use Rattle.lfs_model.specs.crash.PowerLoss.{with_blocks, FailsLikeLoss, IsHealthySession}

-- ---- a mount and a recovery

-- A session was just mounted from the disk.
pub record IsJustMounted (disk : Disk) (begin : SystemState) : Type 0 where
  pub on : begin.disk ≡ disk
  pub tree : Tree
  pub shows : ShowsTree disk (Some tree)
  pub healthy : begin.state ≡ Healthy (mounted_session tree)

-- Both disks have the same bytes. Their orders of names may differ, since a mount may find either.
abbrev pub SameBytes : Disk → Disk → Type 0
SameBytes disk other = other ≡ record disk { order = other.order }

-- A recovery succeeded: the disk has the tree `tree`, and nothing is left to recover.
pub record RecoversTree (tree : Tree) (reply : Reply) (disk : Disk) : Type 0 where
  pub done : reply ≡ ops.Done
  pub pairs : List Pair
  pub accepted : IsAccepted disk pairs
  pub writable : IsWritable disk pairs
  pub recovered : IsRecovered pairs
  pub kept : disk_tree disk pairs ≡ tree

-- The disk is accepted and in the writing profile, and has the tree `tree`. A session that mounts
-- it has that tree, and a recovery keeps it.
pub record KeepsTree (tree : Tree) (disk : Disk) : Type 0 where
  pub pairs : List Pair
  pub accepted : IsAccepted disk pairs
  pub writable : IsWritable disk pairs
  pub shows : disk_tree disk pairs ≡ tree
  pub mounts : (other : Disk) (begin : SystemState) → SameBytes disk other → IsJustMounted other begin → begin.state ≡ Healthy (mounted_session tree)
  pub recovers : (other : Disk) (begin to : SystemState) (reply : Reply) → SameBytes disk other → IsJustMounted other begin → IsTreeStep begin ops.Recover reply to
      → RecoversTree tree reply to.disk

-- ---- a power loss

-- A power loss in one of the calls since the history `old` may leave `blocks`.
pub record LeftInCall (old new : List CallEvent) (blocks : Blocks) : Type 0 where
  pub events : List CallEvent
  pub extends : new ≡ events ++ old
  pub stopped : Any (λ e. LeftByLoss e blocks) events

-- Power was lost before the first call between these states, during one of the calls, or after the
-- last one. In the last case, each failed call left a disk that a power loss in it might have left.
abbrev pub LeftBetween : SystemState → SystemState → Disk → Type 0
LeftBetween from to left =
    (left ≡ from.disk)
    ⊎ (((blocks : Blocks) × ((left ≡ with_blocks blocks from.disk) × LeftInCall from.calls to.calls blocks))
    ⊎ ((left ≡ to.disk) × AllCallsSince FailsLikeLoss from.calls to.calls))

-- Power was lost in this operation of a healthy session. The tree is the one from before the
-- operation or the one from after it.
pub record LossInOperation (from : SystemState) (op : Operation) (next : SystemState) (left : Disk) (tree : Tree) : Type 0 where
  pub stop : LeftBetween from next left
  pub session : Session
  pub pairs : List Pair
  pub around : DiskSummary
  pub work : IsHealthySession from session pairs around
  pub either : (tree ≡ session.tree) ⊎ (tree ≡ (operation_result around session op).1.tree)

-- Power was lost in one of the turns of a life, before which the session was healthy.
pub record LossInTurn (from : SystemState) (turns : List Turn) (left : Disk) (tree : Tree) : Type 0 where
  pub done : List Turn
  pub cut : Turn
  pub others : List Turn
  pub are : turns ≡ done ++ cut ∷ others
  pub at : SystemState
  pub lived : IsLife from done at
  pub turn : IsTurn at cut
  pub loss : LossInOperation at cut.op cut.to left tree

-- Power was lost after all turns of a life. The tree is the session's.
pub record LossAfterLife (at : SystemState) (left : Disk) (tree : Tree) : Type 0 where
  pub stays : left ≡ at.disk
  pub session : Session
  pub healthy : at.state ≡ Healthy session
  pub is : tree ≡ session.tree

-- Power was lost in one of the turns or after all of them.
abbrev pub LossInLife : SystemState → List Turn → SystemState → Disk → Tree → Type 0
LossInLife from turns to left tree = LossInTurn from turns left tree ⊎ LossAfterLife to left tree

-- ---- a power loss in a life

-- The disk left by the power loss has the tree from before or from after the turn that was cut
-- short. A mount and a recovery keep that tree. Its order of names is the session's, which only a
-- remount can change.
pub record SurvivesLossInLife (from : SystemState) (turns : List Turn) (to : SystemState) (left : Disk) : Type 0 where
  pub order : NameOrder
  pub stays : All (λ turn. is_remount turn.op ≡ false) turns → order ≡ left.order
  pub tree : Tree
  pub cut : LossInLife from turns to (disk_with_order order left) tree
  pub safe : KeepsTree tree (disk_with_order order left)

-- A session mounts the disk and has a life, for example a recovery. Then power is lost, which
-- leaves the disk `left`.
pub record LeftByLife (disk left : Disk) : Type 0 where
  pub begin : SystemState
  pub same : SameBytes disk begin.disk
  pub mounts : IsJustMounted begin.disk begin
  pub turns : List Turn
  pub to : SystemState
  pub lived : IsLife begin turns to
  pub failed : FailLikeLossBeforeLast begin turns
  pub cleanly : AllCallsSince ErasesCleanly begin.calls to.calls
  pub stop : LeftBetween begin to left

-- Power is lost in a life on the disk, then in one on the disk left by that loss, and so on.
abbrev pub LeftByLosses : Disk → List Disk → Type 0
LeftByLosses disk [] = Unit {0}
LeftByLosses disk (left ∷ others) = LeftByLife disk left × LeftByLosses left others

-- Each of these power losses is survived.
abbrev pub SurvivesLosses : (disk : Disk) (lefts : List Disk) → LeftByLosses disk lefts → Type 0
SurvivesLosses disk [] losses = Unit {0}
SurvivesLosses disk (left ∷ others) losses = SurvivesLossInLife losses.0.begin losses.0.turns losses.0.to left × SurvivesLosses left others losses.1

-- The session has its disk's tree, the disk is in the writing profile, and every erase of the run
-- leaves no log, or one with the old revision count.
pub record MeetsCrashSafetyPremises (from to : SystemState) : Type 0 where
  pub agrees : HasDiskTree from
  pub profile : IsWritableDisk from.disk
  pub cleanly : AllCallsSince ErasesCleanly from.calls to.calls

-- The turns are a life between these states. A power loss at any time in it is survived. So is any
-- number of later power losses, including those during recovery.
pub record CrashSafe (from : SystemState) (turns : List Turn) (to : SystemState) : Type 0 where
  pub lived : IsLife from turns to
  pub once : (left : Disk) → LeftBetween from to left → SurvivesLossInLife from turns to left
  pub again : (left : Disk) (lefts : List Disk) → LeftBetween from to left → (losses : LeftByLosses left lefts) → SurvivesLosses left lefts losses
