use Rattle.lfs_model.proofs.BrokenRules.{accepted_breaks_none, pairs_break_none, thread_breaks_none}
use Rattle.lfs_model.proofs.violations.violation_refuses_image.Goals as goal

pub returns-clause-image : goal.returns-clause-image
returns-clause-image c = λ disk v ps h. accepted_breaks_none disk v h ps

pub returns-clause-pairs : goal.returns-clause-pairs
returns-clause-pairs c = λ disk v ps h. pairs_break_none disk ps v h

pub returns-clause-thread : goal.returns-clause-thread
returns-clause-thread c = λ disk v ps h. thread_breaks_none disk v h ps
