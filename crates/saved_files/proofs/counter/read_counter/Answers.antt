use Rattle.std.proofs.Common.{ap, ◌∙◌}
use Rattle.lfs_fs.specs.SessionView.{system_state}
use Rattle.saved_files.specs.Counter.{number_of}
use Rattle.saved_files.proofs.Counts.{look_counts, counts}
use Rattle.saved_files.proofs.counter.read_counter.Goals as goal

pub returns-in_err-bytes-clause-survives : goal.returns-in_err-bytes-clause-survives
returns-in_err-bytes-clause-survives g c = look_counts (system_state c.args.session.now) (system_state c.read_file.new.session) c.read_file.ensures.survives

pub returns-clause-survives : goal.returns-clause-survives
returns-clause-survives g c = look_counts (system_state c.args.session.now) (system_state c.read_file.new.session) c.in_ok-bytes.ensures.survives

pub returns-clause-is : goal.returns-clause-is
returns-clause-is g c = counts (system_state c.args.session.now) (system_state c.read_file.new.session) c.in_ok-bytes.bytes.items _ (c.number_of.ensures ∙ ap number_of c.deref.ensures.value) c.in_ok-bytes.ensures.read
