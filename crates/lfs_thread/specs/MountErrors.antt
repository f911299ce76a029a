-- The reasons why the image of a device isn't mounted, and what is then true of the device.
use Rattle.std.specs.Prelude.{◌≡◌, ◌<◌, Result, IsErrOf}
use Rattle.lfs_device.specs.declared.device.BlockDevice.{Ghosts}
use Rattle.lfs_device.specs.declared.error.Error.{Error}
use Rattle.lfs_device.specs.declared.error.Error.TheVariants as error
use Rattle.lfs_device.specs.DeviceCalls.{ReadsOnly}
use Rattle.lfs_model.specs.format.Disk.{Disk}
use Rattle.lfs_model.specs.session.History.{fault_count}
use Rattle.lfs_model.specs.layers.Violations.{BreaksThread}
use Rattle.lfs_model.specs.declared.violations.Violation.{Violation}
use Rattle.lfs_thread.specs.declared.mount_error.MountError.{MountError}
use Rattle.lfs_thread.specs.declared.mount_error.MountError.TheVariants as mount

-- the error that the session above returns
abbrev pub error_of_mount : MountError → Error
error_of_mount (mount.Corrupt violation) = error.Corrupt
error_of_mount mount.Io = error.Io
error_of_mount mount.NoMemory = error.NoMemory

-- the reason for an error of a call below
abbrev pub mount_error_for : Error → Violation → MountError
mount_error_for error.Corrupt violation = mount.Corrupt violation
mount_error_for error.Io violation = mount.Io
mount_error_for _ violation = mount.NoMemory

-- The device was only read. `Io` comes with a fault of the device, and any other result without one.
pub record ReadsReportingFaults {D X : Type 0} (g : Ghosts D) (old new : D) (result : Result X MountError) : Type 0 where
  pub device : ReadsOnly g old new
  pub fault : IsErrOf result mount.Io → fault_count (g.history old) < fault_count (g.history new)
  pub no_fault : (IsErrOf result mount.Io → ⊥) → fault_count (g.history new) ≡ fault_count (g.history old)

-- if the error is a broken rule of the thread, the disk breaks it
abbrev pub IsThreadViolation : Disk → MountError → Type 0
IsThreadViolation disk (mount.Corrupt violation) = BreaksThread disk violation
IsThreadViolation disk _ = Unit {0}
