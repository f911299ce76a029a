-- Calls and runs of a session as turns of its life.
use Rattle.std.specs.Prelude.{List, Option, Some, None, Result, Ok, Err}
use Rattle.lfs_device.specs.declared.error.Error.{Error}
use Rattle.lfs_model.specs.session.Operations.{Operation, Reply}
use Rattle.lfs_model.specs.session.Run.{SystemState}
use Rattle.lfs_model.specs.crash.Lives.{Turn, IsRunInTurns}
use Rattle.lfs_model.specs.crash.RepeatedPowerLoss.{CrashSafe}

abbrev pub reply_if_ok : Result Reply Error → Option Reply
reply_if_ok (Ok reply) = Some reply
reply_if_ok (Err e) = None

-- a call as a turn of the session's life
abbrev pub turn_of : Operation → Result Reply Error → SystemState → Turn
turn_of op r to = record { op = op; reply = reply_if_ok r; to = to }

-- The operations were turns of a life, one each, in which losses of power are survived.
pub record IsCrashSafeRun (from : SystemState) (operations : List Operation) (to : SystemState) : Type 0 where
  pub turns : List Turn
  pub run : IsRunInTurns from operations turns to
  pub safe : CrashSafe from turns to
