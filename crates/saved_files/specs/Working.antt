-- A life in which a session answers each operation and is never remounted, and the promise for a loss of power in part of a life.
use Rattle.std.specs.Prelude.{◌≡◌, Bool, true, not, ◌&&◌, List, [], ◌∷◌}
use Rattle.lfs_model.specs.format.Disk.{Disk}
use Rattle.lfs_model.specs.tree.Tree.{Tree}
use Rattle.lfs_model.specs.session.State.{is_remount}
use Rattle.lfs_model.specs.session.Run.{SystemState}
use Rattle.lfs_model.specs.crash.Lives.{Turn, IsLife, all_answered}
use Rattle.lfs_model.specs.crash.LifeTrees.{HasMountableTree}
use Rattle.lfs_model.specs.crash.RepeatedPowerLoss.{LeftBetween, MeetsCrashSafetyPremises}

abbrev pub never_remounts : List Turn → Bool
never_remounts [] = true
never_remounts (turn ∷ turns) = not (is_remount turn.op) && never_remounts turns

-- the session lived on, answered each operation, and was never remounted
pub record KeepsWorkingBetween (from to : SystemState) : Type 0 where
  pub turns : List Turn
  pub lived : IsLife from turns to
  pub answered : all_answered turns ≡ true
  pub stayed : never_remounts turns ≡ true

-- if power is lost anywhere between these states, the next start has a tree with P
abbrev pub LossLeavesTreeWith : (Tree → Type 0) → SystemState → SystemState → Type 0
LossLeavesTreeWith P from to = (left : Disk) → MeetsCrashSafetyPremises from to → LeftBetween from to left → HasMountableTree P left
