use Rattle.std.proofs.Common.{sym, subst}
use Rattle.lfs_thread.proofs.Common.{IsCacheCurrent}
use Rattle.lfs_thread.proofs.CachedLogs.{current_at, current_read}
use Rattle.lfs_thread.proofs.list_reads.read_part_cached.Goals as goal

pub read-requires-clause-current : goal.read-requires-clause-current
read-requires-clause-current g c = current_at _ _ _ c.requires.current

pub returns-in_err-read-clause-current : goal.returns-in_err-read-clause-current
returns-in_err-read-clause-current g c = subst (λ blocks. IsCacheCurrent blocks c.read.new.self) (sym c.read.ensures.reading.device.same) (current_read _ _ _ _ c.read.ensures.cached c.requires.current)

pub returns-clause-current : goal.returns-clause-current
returns-clause-current g c = subst (λ blocks. IsCacheCurrent blocks c.read.new.self) (sym c.read.ensures.reading.device.same) (current_read _ _ _ _ c.read.ensures.cached c.requires.current)
