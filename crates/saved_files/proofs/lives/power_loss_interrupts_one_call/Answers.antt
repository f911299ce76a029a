use Rattle.saved_files.proofs.Parts.{parted}
use Rattle.saved_files.proofs.lives.power_loss_interrupts_one_call.Goals as goal

pub returns : goal.returns
returns c = parted
