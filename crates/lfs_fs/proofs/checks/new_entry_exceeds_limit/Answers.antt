use Rattle.std.proofs.Common.{[], refl}
use Rattle.lfs_fs.proofs.checks.new_entry_exceeds_limit.Goals as goal

pub returns : goal.returns
returns g c name e = c.exceeds_entry_limit.ensures name [] e refl
