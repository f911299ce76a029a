use Rattle.lfs_fs.proofs.SessionTurns.{first_performed, next_performed}
use Rattle.lfs_fs.proofs.lives.answered_calls_keep_read_bounds.Goals as goal

pub returns-clause-first : goal.returns-clause-first
returns-clause-first c = first_performed

pub returns-clause-next : goal.returns-clause-next
returns-clause-next c = next_performed
