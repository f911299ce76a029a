use Rattle.lfs_tool_run.proofs.Common.{system_state}
use Rattle.lfs_tool_run.proofs.ImagesMade.{refused}
use Rattle.lfs_tool_run.proofs.creation.session_of_entries.Goals as goal

pub returns-in_err-copy_entries-clause-err : goal.returns-in_err-copy_entries-clause-err
returns-in_err-copy_entries-clause-err g c =
    refused c.from_residual-in_err-copy_entries.result c.in_err-copy_entries.field-0.0 c.args.geometry c.args.order (system_state c.in_ok-session.session) c.args.entries.now c.from_residual-in_err-copy_entries.ensures.1
    c.in_ok-session.ensures.begins c.in_err-copy_entries.ensures.refused

pub returns-clause-ok : goal.returns-clause-ok
returns-clause-ok g c = record { from = system_state c.in_ok-session.session; begins = c.in_ok-session.ensures.begins; carried = c.in_ok-copy_entries.ensures.carried }
