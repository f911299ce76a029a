use Rattle.std.proofs.Common.{ℕ, ap}
use Rattle.lfs_tool_run.proofs.Common.{flags_view}
use Rattle.lfs_fs.specs.declared.flags.OpenFlags.{OpenFlags}
use Rattle.lfs_tool_run.proofs.source_entries.new_file_flags.Goals as goal

pub returns : goal.returns
returns c = let flags : ℕ → OpenFlags = λ n. record { 0 = n } in ap (λ n. flags_view (flags n)) (c.insert.ensures tt)
