-- Operations that a session performs: their effects, what a power loss in them leaves, and how
-- often they read.
use Rattle.std.specs.Prelude.{◌≡◌, ◌⊎◌, List, [], ◌∷◌, ◌++◌, Option, None}
use Rattle.lfs_model.specs.session.Operations.{Operation, Reply}
use Rattle.lfs_model.specs.session.Run.{SystemState, IsStep}
use Rattle.lfs_model.specs.crash.Failure.{OperationFails}
use Rattle.lfs_model.specs.crash.PowerLoss.{SurvivesPowerLoss}
use Rattle.lfs_model.specs.crash.ReadBounds.{KeepsBlocksBoundsReads, AlwaysReadsPairsOnce, accepted_operation}

-- The operation was accepted or refused, with this reply. The operation before it is `before`, if
-- that was accepted.
pub record IsPerformed (before : Option Operation) (from : SystemState) (op : Operation) (reply : Reply) (to : SystemState) : Type 0 where
  pub turn : IsStep from op reply to
  pub survives_loss : SurvivesPowerLoss from op to
  pub read_bounds : KeepsBlocksBoundsReads before from op turn.calls to

-- The operations were performed in order, with these replies.
abbrev pub ArePerformed : Option Operation → SystemState → List Operation → List Reply → SystemState → Type 0
ArePerformed before from [] [] to = from ≡ to
ArePerformed before from [] (reply ∷ replies) to = ⊥
ArePerformed before from (op ∷ operations) [] to = ⊥
ArePerformed before from (op ∷ operations) (reply ∷ replies) to = (next : SystemState) × (IsPerformed before from op reply next × ArePerformed (accepted_operation op reply) next operations replies to)

-- Some of the operations were performed, and the session failed in the next one. A power loss in
-- that one is survived, too.
pub record FailsDuringRun (from : SystemState) (operations : List Operation) (to : SystemState) : Type 0 where
  pub done : List Operation
  pub next : Operation
  pub others : List Operation
  pub are : operations ≡ done ++ next ∷ others
  pub replies : List Reply
  pub at : SystemState
  pub performed : ArePerformed None from done replies at
  pub fails : OperationFails at next to
  pub survives_loss : SurvivesPowerLoss at next to
  pub few : AlwaysReadsPairsOnce at next to

-- All operations were performed, or the session failed in one of them.
abbrev pub IsRun : SystemState → List Operation → SystemState → Type 0
IsRun from operations to = ((replies : List Reply) × ArePerformed None from operations replies to) ⊎ FailsDuringRun from operations to
