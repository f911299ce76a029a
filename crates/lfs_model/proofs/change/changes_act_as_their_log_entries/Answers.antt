use Rattle.std.proofs.Common.{refl}
use Rattle.lfs_model.proofs.WrittenAnew.{entries_of-reads}
use Rattle.lfs_model.proofs.change.changes_act_as_their_log_entries.Goals as goal

pub returns-clause-none : goal.returns-clause-none
returns-clause-none c = λ content. refl

pub returns-clause-written : goal.returns-clause-written
returns-clause-written c = entries_of-reads
