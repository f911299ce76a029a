use Rattle.std.proofs.Common.{◌∙◌}
use Rattle.lfs_fs.proofs.EntryChecks.{other_entry}
use Rattle.lfs_fs.proofs.checks.parse_entry_path.Goals as goal

pub returns-else-bytes-eq1 : goal.returns-else-bytes-eq1
returns-else-bytes-eq1 c = c.parse.ensures ∙ other_entry c.args.bytes.now c.if-bytes-eq1.false
