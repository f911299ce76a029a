use Rattle.std.proofs.Common.{refl}
use Rattle.lfs_model.proofs.KeptFile.{other_disk}
use Rattle.lfs_model.proofs.WrittenFile.{synced_completed}
use Rattle.lfs_model.proofs.steps.needless_operation_writes_nothing.Goals as goal

pub returns-clause-asks : goal.returns-clause-asks
returns-clause-asks c = λ calls qs h. other_disk (h.asks refl).0

pub returns-clause-opens : goal.returns-clause-opens
returns-clause-opens c = λ calls qs h. other_disk (h.opens refl refl)

pub returns-clause-itself : goal.returns-clause-itself
returns-clause-itself c = λ qs h. absurd (let k = (h.itself refl).1.0 in cc)

pub returns-clause-nothing_left : goal.returns-clause-nothing_left
returns-clause-nothing_left c = λ qs h. absurd (let k = (h.nothing_left refl synced_completed.recovered).1.0 in cc)

pub returns-clause-silent : goal.returns-clause-silent
returns-clause-silent c = λ qs h. absurd (let k = (h.silent refl).1 in cc)
