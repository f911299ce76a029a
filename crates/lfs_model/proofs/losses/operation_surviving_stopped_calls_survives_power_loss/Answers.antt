use Rattle.lfs_model.proofs.Surviving.{session_step_survives_loss}
use Rattle.lfs_model.proofs.losses.operation_surviving_stopped_calls_survives_power_loss.Goals as goal

pub returns : goal.returns
returns c = λ from to op reply agrees turn survives. session_step_survives_loss from op reply to agrees turn survives
