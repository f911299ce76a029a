use Rattle.saved_files.proofs.Appends.{appends_survive, log_survives}
use Rattle.saved_files.proofs.log.log_survives_any_losses.Goals as goal

pub returns-clause-once : goal.returns-clause-once
returns-clause-once c = λ from entries to s appends healthy. appends_survive from entries to s appends healthy

pub returns-clause-again : goal.returns-clause-again
returns-clause-again c = log_survives
