-- The promises of calls that only read a thread.
use Rattle.std.specs.Prelude.{◌≡◌, false, Result}
use Rattle.lfs_device.specs.declared.error.Error.{Error}
use Rattle.lfs_thread.specs.Kept.{ThreadView}
use Rattle.lfs_thread.specs.ThreadSteps.{ThreadReportsErrors, OnlyReadsThread}

-- The thread hasn't failed, and is as it was except for its cache and its calls. The result is `Io` exactly if a device call
-- failed.
pub record ReadsOrReports {X : Type 0} (old new : ThreadView) (result : Result X Error) : Type 0 where
  pub only : OnlyReadsThread old.kept new.kept
  pub works : new.failed ≡ false
  pub reported : ThreadReportsErrors old.kept new.kept result
