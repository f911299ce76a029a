-- The premises about a device's calls in contracts about power losses.
use Rattle.std.specs.Prelude.{List}
use Rattle.lfs_model.specs.session.History.{CallEvent, AllCalls}
use Rattle.lfs_model.specs.crash.Stops.{ErasesCleanly}
use Rattle.lfs_model.specs.crash.PowerLoss.{FailsLikeLoss}

-- Each successful erase left no log, or one with the old revision count. Each failed call left a
-- disk that a power loss in it might have left.
pub record MeetsPowerLossPremises (history : List CallEvent) : Type 0 where
  pub erases : AllCalls ErasesCleanly history
  pub failed : AllCalls FailsLikeLoss history
