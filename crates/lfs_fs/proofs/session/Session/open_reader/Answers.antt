use Rattle.std.proofs.Common.{ap, refl, ◌∙◌}
use Rattle.lfs_model.specs.session.Operations as ops
use Rattle.lfs_fs.proofs.Common.{files_view, flags_view, session_view, fault_count, TreeState}
use Rattle.lfs_fs.proofs.Errors.{given_on}
use Rattle.lfs_fs.proofs.OpenFiles.{few_left}
use Rattle.lfs_fs.proofs.OpenedReaders.{reader_opened, reader_ready}
use Rattle.lfs_fs.proofs.Answered.{reader_fails, sound_by}
use Rattle.lfs_fs.proofs.Called.{ended_as_call, still_call}
use Rattle.lfs_fs.proofs.Ending.{granted_ends}
use Rattle.lfs_fs.proofs.Stopping.{only_read, reads_failing}
use Rattle.lfs_fs.proofs.DeviceLaws.{between_checked, reported_asked}
use Rattle.lfs_fs.proofs.session.Session.open_reader.Goals as goal

pub add_reader-answer-requires-clause-few : goal.add_reader-answer-requires-clause-few
add_reader-answer-requires-clause-few g c = few_left c.self.inside.tree c.self.inside.files c.in_ok-contents.ensures.2.readable.few

-- a check ends it
pub invariant_of-self : goal.invariant_of-self
invariant_of-self g c = between_checked c.self.inside.tree c.self.inside.files (ops.Open c.args.path.now (flags_view c.args.flags)) _ c.check_open_reader.result c.check_open_reader.new.tree c.self.invariant c.check_open_reader.ensures

pub returns-in_err-contents : goal.returns-in_err-contents
returns-in_err-contents g c =
    ended_as_call c.self.inside.tree c.self.inside.files _ (ops.Open c.args.path.now (flags_view c.args.flags)) ops.Opened _ c.check_open_reader.new.tree c.from_residual.result c.self.view_is c.self.invariant.ready refl refl refl refl c.in_err-contents.ensures (given_on _ c.from_residual.result c.from_residual.ensures.1)

-- no memory is granted
pub returns-then-is_err : goal.returns-then-is_err
returns-then-is_err g c =
    let h = c.in_ok-contents.ensures in
    still_call c.self.inside.tree c.self.inside.files _ (ops.Open c.args.path.now (flags_view c.args.flags)) _ _ c.self.view_is c.self.invariant.ready refl refl (ap (λ (t : TreeState). t.disk) c.fail.ensures ∙ ap (λ (t : TreeState). t.disk) c.in_ok-contents.ensures.0.same)
    (granted_ends (session_view c.self.inside.tree c.self.inside.files) _ (ops.Open c.args.path.now (flags_view c.args.flags)) ops.Opened c.add_reader-answer.result _ c.self.view_is h.1 refl (ap (λ (t : TreeState). fault_count t.history) c.fail.ensures ∙ h.0.no_fault) c.add_reader-answer.ensures.error)
    (reader_fails (session_view c.self.inside.tree c.self.inside.files) _ c.args.path.now (flags_view c.args.flags) c.check_open_reader.new.tree c.fail.new.self (files_view c.fail.new.self c.add_reader-answer.new.self) c.add_reader-answer.result c.self.view_is
    h.0 h.1 c.if-is_err.ensures.value c.add_reader-answer.ensures.error c.fail.ensures)
    (only_read (session_view c.self.inside.tree c.self.inside.files) _ (ops.Open c.args.path.now (flags_view c.args.flags)) c.fail.new.self c.self.view_is (sound_by c.self.inside.tree c.self.inside.files c.self.invariant.ready) (reads_failing c.self.inside.tree c.check_open_reader.new.tree c.fail.new.self c.fail.ensures c.in_ok-contents.ensures.0.reads))

-- it is opened
pub invariant_of-self-else-is_err : goal.invariant_of-self-else-is_err
invariant_of-self-else-is_err g c =
    let h = c.in_ok-contents.ensures in
    record {
      ready = reader_ready c.self.inside.tree c.check_open_reader.new.tree c.self.inside.files c.add_reader-answer.new.self _ _ c.add_reader-answer.result c.self.invariant.ready h.0 h.2 c.if-is_err.ensures.value c.add_reader-answer.ensures.added;
      reported = reported_asked c.self.inside.tree c.check_open_reader.new.tree c.self.invariant.reported h.0;
    }

pub returns-else-is_err : goal.returns-else-is_err
returns-else-is_err g c =
    let h = c.in_ok-contents.ensures in
    still_call c.self.inside.tree c.self.inside.files _ (ops.Open c.args.path.now (flags_view c.args.flags)) _ _ c.self.view_is c.self.invariant.ready refl refl (ap (λ (t : TreeState). t.disk) c.in_ok-contents.ensures.0.same)
    (granted_ends (session_view c.self.inside.tree c.self.inside.files) _ (ops.Open c.args.path.now (flags_view c.args.flags)) ops.Opened c.add_reader-answer.result _ c.self.view_is h.1 refl h.0.no_fault c.add_reader-answer.ensures.error)
    (reader_opened c.self.inside.tree c.check_open_reader.new.tree c.self.inside.files c.add_reader-answer.new.self _ c.args.path.now (flags_view c.args.flags) _ c.add_reader-answer.result c.self.view_is c.self.invariant.ready c.requires
    h.0 h.1 h.2.readable.there c.if-is_err.ensures.value c.add_reader-answer.ensures.number c.add_reader-answer.ensures.added)
    (only_read (session_view c.self.inside.tree c.self.inside.files) _ (ops.Open c.args.path.now (flags_view c.args.flags)) c.check_open_reader.new.tree c.self.view_is (sound_by c.self.inside.tree c.self.inside.files c.self.invariant.ready) (c.in_ok-contents.ensures.0.reads))
