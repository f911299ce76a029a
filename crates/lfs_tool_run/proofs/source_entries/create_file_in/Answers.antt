use Rattle.lfs_tool_run.proofs.Common.{flags_view}
use Rattle.lfs_tool_run.proofs.Runs.{closes, fails_to_open, fails_to_write, opens, passed_on}
use Rattle.lfs_tool_run.proofs.source_entries.create_file_in.Goals as goal

pub returns-in_err-fd : goal.returns-in_err-fd
returns-in_err-fd c =
    passed_on c.from_residual.result _ _ _ _ c.from_residual.ensures.1
    (fails_to_open c.args.session.now c.open.new.self c.args.path.now (flags_view c.new_file_flags.result) _ _ c.new_file_flags.ensures c.in_err-fd.ensures.answers)

pub returns-in_err-write : goal.returns-in_err-write
returns-in_err-write c =
    passed_on c.from_residual-in_err-write.result _ _ _ _ c.from_residual-in_err-write.ensures.1
    (fails_to_write c.args.session.now c.open.new.self c.write.new.self c.args.path.now c.args.bytes.now c.in_ok-fd.fd _
    (opens c.args.session.now c.open.new.self c.args.path.now (flags_view c.new_file_flags.result) c.in_ok-fd.fd c.new_file_flags.ensures c.requires c.in_ok-fd.ensures.answers) c.in_err-write.ensures.answers)

pub returns : goal.returns
returns c =
    closes c.args.session.now c.open.new.self c.write.new.self c.close.new.self c.args.path.now c.args.bytes.now c.in_ok-fd.fd c.in_ok-write.field-0 c.close.result
    (opens c.args.session.now c.open.new.self c.args.path.now (flags_view c.new_file_flags.result) c.in_ok-fd.fd c.new_file_flags.ensures c.requires c.in_ok-fd.ensures.answers) c.in_ok-write.ensures.answers c.close.ensures.answers
