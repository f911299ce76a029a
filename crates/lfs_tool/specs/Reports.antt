-- What a result means for the reader, the writer, the source or the target that was used.
use Rattle.std.specs.Prelude.{◌≡◌, ◌<◌, ◌⊎◌, ℕ, Bool, true, false, List, Option, Result, Ok, Err, IsErrOf, length}
use Rattle.std.specs.Io.KnownBytes.{Consumes, IsAtEnd}
use Rattle.lfs_tool.specs.declared.errors.ToolError.{ToolError}
use Rattle.lfs_tool.specs.declared.errors.ToolError.TheVariants.{Output}
use Rattle.lfs_tool.specs.declared.stream.Stream.{Stream}
use Rattle.lfs_tool.specs.Streams.{has_failed, has_shown}

-- This error comes exactly if a call failed, of one that hadn't failed before: it has failed then, and else as before.
abbrev pub ReportsNewFault : {X E : Type 0} → E → Bool → Bool → Result X E → Type 0
ReportsNewFault e old new r = (IsErrOf r e → new ≡ true) × (¬ IsErrOf r e → new ≡ old)

-- `Output` comes exactly if the writer failed. After any other error the writer is as it was.
abbrev pub ReportsWriterFaults : {W X : Type 0} → Stream W → Stream W → Result X ToolError → Type 0
ReportsWriterFaults old new (Ok x) = has_failed new ≡ false
ReportsWriterFaults old new (Err Output) = has_failed new ≡ true
ReportsWriterFaults old new (Err e) = new ≡ old

-- unless it failed, it has shown a value
abbrev pub HasShownUnlessFailed : {W : Type 0} → Stream W → Type 0
HasShownUnlessFailed new = has_failed new ≡ false → has_shown new ≡ true

-- known bytes were read to their end, or more of them than an image may have
abbrev pub IsReadToEnd : Option (List ℕ) → Option (List ℕ) → Type 0
IsReadToEnd old new = (bytes : List ℕ) × (Consumes old new bytes × (IsAtEnd new ⊎ (268435456 < length bytes)))
