use Rattle.lfs_model.proofs.RunTurns.{performed_lived, run_in_turns, none_inside}
use Rattle.lfs_model.proofs.lives.runs_are_lives.Goals as goal

pub returns-clause-performed : goal.returns-clause-performed
returns-clause-performed c = performed_lived

pub returns-clause-run : goal.returns-clause-run
returns-clause-run c = run_in_turns

pub returns-clause-last : goal.returns-clause-last
returns-clause-last c = none_inside
