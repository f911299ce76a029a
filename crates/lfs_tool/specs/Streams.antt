-- What contracts see of a reader or a writer of std.
use Rattle.std.specs.Prelude.{Bool, is_some}
use Rattle.lfs_tool.specs.declared.stream.Stream.{Stream}

-- the reader or the writer itself
abbrev pub stream_inner : {T : Type 0} → Stream T → T
stream_inner s = s.inner

-- whether the last call failed
abbrev pub has_failed : {T : Type 0} → Stream T → Bool
has_failed s = is_some s.fault

-- whether a value was shown
abbrev pub has_shown : {T : Type 0} → Stream T → Bool
has_shown s = s.has_shown
