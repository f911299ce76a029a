use Rattle.std.proofs.Common.{refl}
use Rattle.lfs_model.proofs.Common.{fresh_state}
use Rattle.lfs_model.proofs.AskedStep.{asked}
use Rattle.lfs_model.proofs.runs.reads_of_look_up_are_bounded.Goals as goal

pub returns-clause-performed : goal.returns-clause-performed
returns-clause-performed c = (fresh_state, (asked, refl))

pub returns-clause-asked : goal.returns-clause-asked
returns-clause-asked c = λ to h. absurd (let e = h.asked refl in cc)
