use Rattle.std.proofs.Common.{inr}
use Rattle.lfs_model.proofs.RunTurns.{run_in_turns}
use Rattle.lfs_fs.proofs.SessionTurns.{call_further, call_turn}
use Rattle.lfs_fs.proofs.Users.{lives}
use Rattle.lfs_fs.proofs.lives.calls_make_session_histories.Goals as goal

pub returns-clause-call : goal.returns-clause-call
returns-clause-call c = call_turn

pub returns-clause-further : goal.returns-clause-further
returns-clause-further c = call_further

pub returns-clause-lives : goal.returns-clause-lives
returns-clause-lives c = λ old op r new call. lives old new op r call

pub returns-clause-failed_run : goal.returns-clause-failed_run
returns-clause-failed_run c = λ e from operations to fails. run_in_turns from operations to (inr fails.ended)
