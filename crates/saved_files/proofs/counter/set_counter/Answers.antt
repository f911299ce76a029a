use Rattle.std.proofs.Common.{rules, ◌<◌, ◌^◌}
use Rattle.lfs_fs.specs.FlagsView.{flags_view}
use Rattle.lfs_fs.specs.SessionView.{system_state}
use Rattle.saved_files.proofs.Counts.{set_survives, sets}
use Rattle.saved_files.proofs.counter.set_counter.Goals as goal

pub returns-in_err-write_file-clause-survives : goal.returns-in_err-write_file-clause-survives
returns-in_err-write_file-clause-survives g c =
    let small : c.args.number < 2 ^ 32 = search rules in
    set_survives (system_state c.args.session.now) (system_state c.write_file.new.session) c.args.number (flags_view c.saving_flags.result) c.to_le_bytes.result c.saving_flags.ensures c.to_le_bytes.ensures small c.write_file.ensures.survives

pub returns-clause-survives : goal.returns-clause-survives
returns-clause-survives g c =
    let small : c.args.number < 2 ^ 32 = search rules in
    set_survives (system_state c.args.session.now) (system_state c.write_file.new.session) c.args.number (flags_view c.saving_flags.result) c.to_le_bytes.result c.saving_flags.ensures c.to_le_bytes.ensures small c.in_ok-write_file.ensures.survives

pub returns-clause-set : goal.returns-clause-set
returns-clause-set g c =
    let small : c.args.number < 2 ^ 32 = search rules in
    sets (system_state c.args.session.now) (system_state c.write_file.new.session) c.args.number (flags_view c.saving_flags.result) c.to_le_bytes.result c.saving_flags.ensures c.to_le_bytes.ensures small c.in_ok-write_file.ensures.written
