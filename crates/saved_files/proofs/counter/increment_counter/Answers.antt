use Rattle.std.proofs.Common.{rules, ◌+◌, ◌<◌, ◌^◌}
use Rattle.lfs_fs.specs.FlagsView.{flags_view}
use Rattle.lfs_fs.specs.SessionView.{system_state}
use Rattle.saved_files.proofs.Parts.{works_live}
use Rattle.saved_files.proofs.Counts.{count_raises, raise_survives, raised}
use Rattle.saved_files.proofs.counter.increment_counter.Goals as goal

pub returns-in_err-number-clause-survives : goal.returns-in_err-number-clause-survives
returns-in_err-number-clause-survives g c = count_raises (system_state c.args.session.now) (system_state c.read_counter.new.session) c.read_counter.ensures.survives

pub returns-then-number-clause-survives : goal.returns-then-number-clause-survives
returns-then-number-clause-survives g c = count_raises (system_state c.args.session.now) (system_state c.read_counter.new.session) c.in_ok-number.ensures.survives

pub returns-in_err-write_file-clause-survives : goal.returns-in_err-write_file-clause-survives
returns-in_err-write_file-clause-survives g c =
    let small : c.in_ok-number.number + 1 < 2 ^ 32 = search rules in
    raise_survives (system_state c.args.session.now) (system_state c.read_counter.new.session) (system_state c.write_file.new.session) c.in_ok-number.number (flags_view c.saving_flags.result) c.to_le_bytes.result c.saving_flags.ensures c.to_le_bytes.ensures small c.in_ok-number.ensures.is
    c.in_ok-number.ensures.survives c.in_ok-number.ensures.works c.write_file.ensures.survives c.write_file.ensures.lived

pub returns-in_err-write_file-clause-lived : goal.returns-in_err-write_file-clause-lived
returns-in_err-write_file-clause-lived g c = works_live c.in_ok-number.ensures.works c.write_file.ensures.lived

pub returns-clause-survives : goal.returns-clause-survives
returns-clause-survives g c =
    let small : c.in_ok-number.number + 1 < 2 ^ 32 = search rules in
    raise_survives (system_state c.args.session.now) (system_state c.read_counter.new.session) (system_state c.write_file.new.session) c.in_ok-number.number (flags_view c.saving_flags.result) c.to_le_bytes.result c.saving_flags.ensures c.to_le_bytes.ensures small c.in_ok-number.ensures.is
    c.in_ok-number.ensures.survives c.in_ok-number.ensures.works c.in_ok-write_file.ensures.survives c.in_ok-write_file.ensures.lived

pub returns-clause-lived : goal.returns-clause-lived
returns-clause-lived g c = works_live c.in_ok-number.ensures.works c.in_ok-write_file.ensures.lived

pub returns-clause-raised : goal.returns-clause-raised
returns-clause-raised g c =
    let small : c.in_ok-number.number + 1 < 2 ^ 32 = search rules in
    raised (system_state c.args.session.now) (system_state c.read_counter.new.session) (system_state c.write_file.new.session) c.in_ok-number.number (flags_view c.saving_flags.result) c.to_le_bytes.result c.saving_flags.ensures c.to_le_bytes.ensures small c.in_ok-number.ensures.is
    c.in_ok-write_file.ensures.written
