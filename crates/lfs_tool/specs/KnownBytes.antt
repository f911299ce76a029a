-- What a failed call of a reader or a writer leaves.
use Rattle.std.specs.Prelude.{◌≡◌, ◌≤◌, ℕ, Bool, true, false, List, Option, length, take}
use Rattle.std.specs.Io.KnownBytes.{Appends}
use Rattle.lfs_device.specs.declared.error.Error.{Error}
use Rattle.lfs_device.specs.declared.error.Error.TheVariants.{NoMemory}
use Rattle.lfs_tool.specs.declared.errors.ToolError.{ToolError}
use Rattle.lfs_tool.specs.declared.errors.ToolError.TheVariants.{Fs, Input, Output}

-- known bytes grow by a beginning of these
abbrev pub AppendsPrefix : Option (List ℕ) → Option (List ℕ) → List ℕ → Type 0
AppendsPrefix old new bytes = (n : ℕ) × (n ≤ length bytes) × Appends old new (take n bytes)

-- either the reader failed, or a growth was refused and the reader did not fail
abbrev pub IsReadError : ToolError → Bool → Type 0
IsReadError Input failed = failed ≡ true
IsReadError Output failed = ⊥
IsReadError (Fs e) failed = (e ≡ NoMemory) × (failed ≡ false)
