-- A life of a session: its turns in order, from a mount, a format or any other moment. A turn is
-- one operation, either called or part of a run. So a life may mix calls and runs, and lives can be
-- joined.
use Rattle.std.specs.Prelude.{◌≡◌, ◌≢◌, ◌&&◌, ◌||◌, Bool, true, false, List, [], ◌∷◌, ◌++◌, Option, Some, None, is_some, map}
use Rattle.lfs_model.specs.session.History.{AllCallsSince}
use Rattle.lfs_model.specs.session.Operations.{Operation, Reply}
use Rattle.lfs_model.specs.session.Run.{SystemState, IsTreeStep}
use Rattle.lfs_model.specs.crash.Failure.{OperationFails}
use Rattle.lfs_model.specs.crash.PowerLoss.{FailsLikeLoss, SurvivesPowerLoss}

-- An operation with its reply, or None if an error ended it, and the state after it.
pub record Turn : Type 0 where
  pub op : Operation
  pub reply : Option Reply
  pub to : SystemState

-- The operation got this reply, which may be a refusal. With None, it failed.
abbrev pub EndsWith : Option Reply → SystemState → Operation → SystemState → Type 0
EndsWith None from op to = OperationFails from op to
EndsWith (Some reply) from op to = IsTreeStep from op reply to

-- The operation of the turn ended with its reply or failed, and a power loss in it is survived.
pub record IsTurn (from : SystemState) (turn : Turn) : Type 0 where
  pub ends : EndsWith turn.reply from turn.op turn.to
  pub survives_loss : SurvivesPowerLoss from turn.op turn.to

-- The turns lead from one state to the other.
abbrev pub IsLife : SystemState → List Turn → SystemState → Type 0
IsLife from [] to = from ≡ to
IsLife from (turn ∷ turns) to = IsTurn from turn × IsLife turn.to turns to

-- ---- turns that were answered, and turns that failed

-- The turn of an operation with this reply.
abbrev pub answered : Operation → Reply → SystemState → Turn
answered op reply to = record { op = op; reply = Some reply; to = to }

-- The turn of an operation that an error ended.
abbrev pub failed : Operation → SystemState → Turn
failed op to = record { op = op; reply = None; to = to }

-- Whether every turn has a reply.
abbrev pub all_answered : List Turn → Bool
all_answered [] = true
all_answered (turn ∷ later) = is_some turn.reply && all_answered later

-- Whether no turn follows.
abbrev pub is_last : List Turn → Bool
is_last [] = true
is_last (turn ∷ turns) = false

-- Whether no turn failed, except perhaps the last one.
abbrev pub only_last_may_fail : List Turn → Bool
only_last_may_fail [] = true
only_last_may_fail (turn ∷ turns) = (is_some turn.reply || is_last turns) && only_last_may_fail turns

-- In a failed turn that isn't the last one, each failed call left a disk that a power loss in it
-- might have left.
abbrev pub FailLikeLossBeforeLast : SystemState → List Turn → Type 0
FailLikeLossBeforeLast from [] = Unit {0}
FailLikeLossBeforeLast from (turn ∷ turns) = (turn.reply ≡ None → turns ≢ [] → AllCallsSince FailsLikeLoss from.calls turn.to.calls) × FailLikeLossBeforeLast turn.to turns

-- ---- runs

-- There is a life with these operations and these replies.
pub record IsLifeOfRun (from : SystemState) (operations : List Operation) (replies : List Reply) (to : SystemState) : Type 0 where
  pub turns : List Turn
  pub lived : IsLife from turns to
  pub did : map (λ (turn : Turn). turn.op) turns ≡ operations
  pub replied : map (λ (turn : Turn). turn.reply) turns ≡ map Some replies

-- These are the turns of a run: all of its operations were answered, or the last turn failed, and
-- the other operations weren't attempted.
pub record IsRunInTurns (from : SystemState) (operations : List Operation) (turns : List Turn) (to : SystemState) : Type 0 where
  pub lived : IsLife from turns to
  pub ends : only_last_may_fail turns ≡ true
  pub others : List Operation
  pub did : operations ≡ map (λ (turn : Turn). turn.op) turns ++ others
  pub whole : all_answered turns ≡ true → others ≡ []
