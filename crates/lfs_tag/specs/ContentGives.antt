-- The result of reading a log's content, or of one step of the reading.
use Rattle.std.specs.Prelude.{◌≡◌, Result, Ok, Err, Option, Some, None}
use Rattle.lfs_tag.specs.declared.content.ContentError.{ContentError}
use Rattle.lfs_tag.specs.declared.content.ContentError.TheVariants as errors
use Rattle.lfs_device.specs.declared.error.Error.{Error}
use Rattle.lfs_device.specs.declared.error.Error.TheVariants.{Corrupt, NoMemory}

-- The error is `Malformed` only if the log is malformed. `NoMemory` may be returned for any log.
abbrev pub IsContentError : {S : Type 0} → ContentError → Option S → Type 0
IsContentError errors.NoMemory o = Unit {0}
IsContentError errors.Malformed o = o ≡ None

-- The result is the computed value, or an error allowed for it.
abbrev pub GivesWithMemory : {X S : Type 0} → (X → S) → Result X ContentError → Option S → Type 0
GivesWithMemory view (Ok x) o = o ≡ Some (view x)
GivesWithMemory view (Err e) o = IsContentError e o

-- The file system's error for an error of reading a content.
abbrev pub content_error : ContentError → Error
content_error errors.Malformed = Corrupt
content_error errors.NoMemory = NoMemory
