use Rattle.lfs_model.proofs.FailedCalls.{left_now, left_by_failure}
use Rattle.lfs_model.proofs.shared.failed_call_leaves_what_power_loss_leaves.Goals as goal

pub returns-clause-newest : goal.returns-clause-newest
returns-clause-newest c = λ disk old new blocks before after survives cleanly failed left. left_now blocks (survives cleanly) failed left

pub returns-clause-failed : goal.returns-clause-failed
returns-clause-failed c = λ disk old new blocks before after survives cleanly fails failed has. left_by_failure blocks (survives cleanly) fails failed has
