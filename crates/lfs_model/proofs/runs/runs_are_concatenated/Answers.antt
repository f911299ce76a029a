use Rattle.lfs_model.proofs.SessionSteps.{session_steps_joined, session_steps_parted}
use Rattle.lfs_model.proofs.Performing.{performed_turns}
use Rattle.lfs_model.proofs.runs.runs_are_concatenated.Goals as goal

pub returns-clause-joined : goal.returns-clause-joined
returns-clause-joined c = session_steps_joined

pub returns-clause-parted : goal.returns-clause-parted
returns-clause-parted c = session_steps_parted

pub returns-clause-performed : goal.returns-clause-performed
returns-clause-performed c = performed_turns
