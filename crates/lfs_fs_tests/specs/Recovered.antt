-- What a session shows that was mounted and recovered where another one had stopped.
use Rattle.std.specs.Prelude.{◌≡◌, ◌≢◌, ◌⊎◌, List, IfOk, IfErr, Result}
use Rattle.lfs_device.specs.declared.error.Error.{Error}
use Rattle.lfs_device.specs.declared.error.Error.TheVariants.{Corrupt}
use Rattle.lfs_fs.specs.SessionView.{SessionView, system_state}
use Rattle.lfs_model.specs.session.Effects.{operation_result}
use Rattle.lfs_model.specs.session.Operations as ops
use Rattle.lfs_model.specs.session.Operations.{Operation}
use Rattle.lfs_model.specs.crash.PowerLoss.{IsHealthySession}
use Rattle.lfs_model.specs.crash.RepeatedPowerLoss.{RecoversTree}
use Rattle.lfs_model.specs.session.Run.{SystemState}
use Rattle.lfs_model.specs.session.Session.{Session, DiskSummary}
use Rattle.lfs_model.specs.session.State.{Healthy, mounted_session}
use Rattle.lfs_model.specs.format.Thread.{Pair}
use Rattle.lfs_model.specs.tree.Tree.{Tree}

-- A session without open files has one of these trees, and so has its disk, with nothing left to recover.
pub record IsRecoveredWithEither (before after : Tree) (at : SystemState) : Type 0 where
  pub tree : Tree
  pub either : (tree ≡ before) ⊎ (tree ≡ after)
  pub restored : RecoversTree tree ops.Done at.disk
  pub healthy : at.state ≡ Healthy (mounted_session tree)

-- There is such a session. Where there is none, an image was accepted all the same.
pub record RecoversEitherTree (before after : Tree) (result : Result SessionView Error) : Type 0 where
  pub shows : IfOk result (λ h. IsRecoveredWithEither before after (system_state h))
  pub accepted : IfErr result (λ e. e ≢ Corrupt)

-- The operation of a session at work was cut, and the session that follows has the tree from before the operation or from after it.
abbrev pub RecoversFromPowerLoss : SystemState → Operation → Result SessionView Error → Type 0
RecoversFromPowerLoss from op result =
    (s : Session) (ps : List Pair) (around : DiskSummary) → IsHealthySession from s ps around → RecoversEitherTree s.tree (operation_result around s op).1.tree result
