use Rattle.lfs_thread.proofs.CachedLogs.{on_err}
use Rattle.lfs_thread.proofs.joins.write_behind.Goals as goal

pub returns-in-Empty-clause-error : goal.returns-in-Empty-clause-error
returns-in-Empty-clause-error g c = on_err c.fresh.result (λ e is. is.errors) c.fresh.ensures.error

pub returns-in-Slots-clause-error : goal.returns-in-Slots-clause-error
returns-in-Slots-clause-error g c = on_err c.copy.result (λ e is. is.errors) c.copy.ensures.error

pub returns-in-Next-clause-error : goal.returns-in-Next-clause-error
returns-in-Next-clause-error g c = on_err c.copy-in-Next.result (λ e is. is.errors) c.copy-in-Next.ensures.error
