use Rattle.std.proofs.Common.{refl}
use Rattle.lfs_model.proofs.Common.{small_image}
use Rattle.lfs_model.proofs.Fresh.{writable}
use Rattle.lfs_model.proofs.Example.{fresh}
use Rattle.lfs_model.proofs.FreshSession.{pairs, are_accepted, none_accepted}
use Rattle.lfs_model.proofs.runs.fresh_disk_is_recovered.Goals as goal

pub returns-clause-settled : goal.returns-clause-settled
returns-clause-settled c = record { pairs = pairs; accepted = are_accepted; writable = writable small_image fresh; recovered = record { gstate = refl; reached = are_accepted.reached refl } }

pub returns-clause-not_settled : goal.returns-clause-not_settled
returns-clause-not_settled c = λ h. none_accepted h.pairs h.accepted
