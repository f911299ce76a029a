use Rattle.std.proofs.Common.{refl}
use Rattle.lfs_model.proofs.Premises.{premises_begin, since_of_each}
use Rattle.lfs_model.proofs.Truncated.{premises_hold}
use Rattle.lfs_model.proofs.stops.device_premises_hold_for_later_calls.Goals as goal

pub returns-clause-none : goal.returns-clause-none
returns-clause-none c = premises_begin

pub returns-clause-since : goal.returns-clause-since
returns-clause-since c = λ older events all. (since_of_each events refl all.erases, since_of_each events refl all.failed)

pub returns-clause-held : goal.returns-clause-held
returns-clause-held c = premises_hold
