use Rattle.lfs_fs.specs.FlagsView.{flags_view}
use Rattle.lfs_fs.specs.SessionView.{system_state}
use Rattle.saved_files.proofs.Appends.{appends, appended}
use Rattle.saved_files.proofs.log.append_to_log.Goals as goal

pub returns-in_err-write_file-clause-append : goal.returns-in_err-write_file-clause-append
returns-in_err-write_file-clause-append g c = appends (system_state c.args.session.now) (system_state c.write_file.new.session) (flags_view c.appending_flags.result) c.appending_flags.ensures c.args.entry.now c.write_file.ensures.survives c.write_file.ensures.lived

pub returns-clause-append : goal.returns-clause-append
returns-clause-append g c = appends (system_state c.args.session.now) (system_state c.write_file.new.session) (flags_view c.appending_flags.result) c.appending_flags.ensures c.args.entry.now c.in_ok-write_file.ensures.survives c.in_ok-write_file.ensures.lived

pub returns-clause-done : goal.returns-clause-done
returns-clause-done g c =
    appended (system_state c.args.session.now) (system_state c.write_file.new.session) (flags_view c.appending_flags.result) c.appending_flags.ensures c.args.entry.now c.in_ok-write_file.ensures.survives c.in_ok-write_file.ensures.lived
    c.in_ok-write_file.ensures.works c.in_ok-write_file.ensures.written
