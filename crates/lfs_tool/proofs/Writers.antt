-- What a result tells of its writer.
use Rattle.std.proofs.Common.{◌≡◌, false, true, Result, Ok, Err}
use Rattle.std.specs.Prelude.{OnErr, OnOk}
use Rattle.lfs_tool.specs.declared.errors.ToolError.{ToolError}
use Rattle.lfs_tool.specs.declared.errors.ToolError.TheVariants.{Output}
use Rattle.lfs_tool.specs.declared.stream.Stream.{Stream}
use Rattle.lfs_tool.specs.Reports.{ReportsWriterFaults}
use Rattle.lfs_tool.specs.Streams.{has_failed}

-- a text was written to it
pub reports_written : {W X : Type 0} (old new : Stream W) (r : Result X ToolError) → OnOk r (has_failed new ≡ false) → OnErr r ((r ≡ Err Output) × (has_failed new ≡ true)) → ReportsWriterFaults old new r
reports_written old new (Ok x) kept failed = kept
reports_written old new (Err Output) kept failed = failed.1
reports_written old new (Err e) kept failed = let other = failed.0 in cc
