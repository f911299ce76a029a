-- The device calls and errors of a function that only reads.
use Rattle.std.specs.Prelude.{◌≡◌, ◌⊎◌, Result, IfErr}
use Rattle.lfs_device.specs.DeviceCalls.{ReadsOnly, ReportsFaults}
use Rattle.lfs_device.specs.declared.device.BlockDevice.{Ghosts}
use Rattle.lfs_device.specs.declared.error.Error.{Error}
use Rattle.lfs_device.specs.declared.error.Error.TheVariants.{Corrupt, Io}

-- The device was only read. `Io` comes with a fault of the device, and any other result without one. The only other error is
-- `Corrupt`.
pub record ReadsOrCorrupt {D X : Type 0} (g : Ghosts D) (old new : D) (result : Result X Error) : Type 0 where
  pub device : ReadsOnly g old new
  pub faults : ReportsFaults g old new result
  pub errors : IfErr result (λ e. (e ≡ Io) ⊎ (e ≡ Corrupt))
