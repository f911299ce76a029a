-- The meaning of a driver's return values.
use Rattle.std.specs.Prelude.{ℕ, Bool, true, false, ◌==◌, if◌then◌else◌, Result, Ok, Err}
use Rattle.lfs_device.specs.declared.error.Error.{Error}
use Rattle.lfs_device.specs.declared.error.Error.TheVariants.{Io}

-- 0 if the call succeeded, and any other number if the flash failed
abbrev pub status_result : ℕ → Result Unit Error
status_result n = if n == 0 then Ok tt else Err Io

-- 0 for no, 1 for yes, and any other number if the flash failed
abbrev pub blank_result : ℕ → Result Bool Error
blank_result n = if n == 0 then Ok false else (if n == 1 then Ok true else Err Io)
