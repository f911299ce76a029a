-- How a fault is reported.
use Rattle.std.specs.Prelude.{ℕ, ◌≡◌, true, false, List, Option, None, IfSome}
use Rattle.std.specs.Io.KnownBytes.{Appends}
use Rattle.lfs_tool.specs.ExitStatus.{failure_line, is_help_request, failure_status}
use Rattle.lfs_tool.specs.declared.errors.Fault.{Fault}
use Rattle.lfs_tool.specs.KnownBytes.{AppendsPrefix}
use Rattle.lfs_tool.specs.Reports.{HasShownUnlessFailed}
use Rattle.lfs_tool.specs.Streams.{has_failed, stream_inner}
use Rattle.lfs_tool.specs.declared.stream.Stream.{Stream}

-- The fault is reported, and the run has its exit status. Unless the writer failed, the fault's own line or the parser's text was
-- written. If it failed, at most a beginning of the line was written. Help is no fault.
pub record IsFailureReported {W : Type 0} (contents : W → Option (List ℕ)) (f : Fault) (code : ℕ) (old new : Stream W) : Type 0 where
  pub status : code ≡ failure_status f
  pub line : has_failed new ≡ false → IfSome (failure_line f) (Appends (contents (stream_inner old)) (contents (stream_inner new)))
  pub beginning : IfSome (failure_line f) (AppendsPrefix (contents (stream_inner old)) (contents (stream_inner new)))
  pub text : failure_line f ≡ None → is_help_request f ≡ false → HasShownUnlessFailed new
  pub help : is_help_request f ≡ true → new ≡ old
