use Rattle.std.proofs.Common.{◌≡◌}
use Rattle.lfs_tool.proofs.temporary_files.create_temporary_file.Given as goal

-- the path stays
abbrev pub invariant-loop-number : goal.invariant-loop-number
invariant-loop-number g l = l.paths.path ≡ l.initial.paths.path
