use Rattle.std.proofs.Common.{◌≡◌, map, drop}
use Rattle.clap.specs.Words.{app_of}
use Rattle.lfs_tool.specs.Command.{rule_of_row, with_rules}
use Rattle.lfs_tool.proofs.options.with_options.Given as goal

abbrev pub invariant-loop-row : goal.invariant-loop-row
invariant-loop-row l = with_rules (app_of l.command) (map rule_of_row (drop l.row-index l.table)) ≡ with_rules (app_of l.fn.start) (map rule_of_row l.table)
