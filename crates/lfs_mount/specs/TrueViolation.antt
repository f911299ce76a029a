-- The truth of a mount's error on its disk.
use Rattle.lfs_model.specs.format.Disk.{Disk}
use Rattle.lfs_model.specs.layers.Violations.{Breaks}
use Rattle.lfs_thread.specs.declared.mount_error.MountError.{MountError}
use Rattle.lfs_thread.specs.declared.mount_error.MountError.TheVariants as mount

-- if the error names a broken rule, the disk breaks it
abbrev pub ReportsActualViolation : Disk → MountError → Type 0
ReportsActualViolation disk (mount.Corrupt violation) = Breaks disk violation
ReportsActualViolation disk _ = Unit {0}
