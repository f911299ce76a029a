-- For an application's own promise: lives, whatever their turns.
use Rattle.std.specs.Prelude.{List}
use Rattle.lfs_model.specs.session.Run.{SystemState}
use Rattle.lfs_model.specs.crash.Lives.{Turn, IsLife}

-- a life led from the first state to the second
abbrev pub IsReachableByCalls : SystemState → SystemState → Type 0
IsReachableByCalls from to = (turns : List Turn) × IsLife from turns to
