use Rattle.lfs_model.proofs.KeptFile.{open_step, itself_step, recover_step}
use Rattle.lfs_model.proofs.steps.needless_operation_leaves_disk_unchanged.Goals as goal

pub returns-clause-opened : goal.returns-clause-opened
returns-clause-opened c = open_step

pub returns-clause-itself : goal.returns-clause-itself
returns-clause-itself c = itself_step

pub returns-clause-recovered : goal.returns-clause-recovered
returns-clause-recovered c = recover_step
