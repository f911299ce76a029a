use Rattle.std.proofs.Common.{◌≡◌, ◌<◌, ◌∙◌, [], sym, refl, ap, subst, set, length, Some, None, Ok}
use Rattle.std.specs.Prelude.{IfSome}
use Rattle.lfs_model.specs.session.Operations as ops
use Rattle.lfs_fs.proofs.Common.{node_file_size, IsCreationResult, TreeState, kept_thread, visible_tree, flags_view, open_file_at, writers_among, session_view, view_with_files, system_state, SurvivesStoppedCalls, KeepsUnrelatedIfRecovered, fault_count, DeviceConforms}
use Rattle.lfs_fs.specs.declared.files.OpenFile.TheVariants as file
use Rattle.lfs_fs.proofs.Errors.{given_on}
use Rattle.lfs_fs.proofs.OpenedWriters.{IsOpenedBy, can_begin, can_create, no_writer, opened_new, opened_there, room_made, writer_breaks, writer_opened, writer_ready, writer_lacks_memory}
use Rattle.lfs_fs.proofs.StoppedCalls.{created_left, opened_left, opening_keeps}
use Rattle.lfs_fs.proofs.Sparing.{begun_others, rest_others}
use Rattle.lfs_device.specs.declared.error.Error.TheVariants as error
use Rattle.lfs_fs.proofs.session.Session.open_writer.Goals as goal
use Rattle.lfs_fs.proofs.Answered.{not_failed, sound_by}
use Rattle.lfs_fs.proofs.Called.{changed_call, ended_as_call, failed_others, still_call}
use Rattle.lfs_fs.proofs.Ending.{answer_ends, broken_ends, error_ends}
use Rattle.lfs_fs.proofs.Stopping.{only_read, reads_failing}
use Rattle.lfs_fs.proofs.DeviceLaws.{between_checked}
use Rattle.lfs_fs.proofs.session.Session.open_writer.Goals.{in-Some+in_ok-writer-in-Some, in-None+in_ok-writer-in-None}

-- a check ends it
pub invariant_of-self : goal.invariant_of-self
invariant_of-self g c = between_checked c.self.inside.tree c.self.inside.files (ops.Open c.args.path.now (flags_view c.args.flags)) _ c.check_open_writer.result c.check_open_writer.new.tree c.self.invariant c.check_open_writer.ensures

pub returns-in_err-found : goal.returns-in_err-found
returns-in_err-found g c =
    ended_as_call c.self.inside.tree c.self.inside.files _ (ops.Open c.args.path.now (flags_view c.args.flags)) ops.Opened _ c.check_open_writer.new.tree c.from_residual.result c.self.view_is c.self.invariant.ready refl refl refl refl c.in_err-found.ensures (given_on _ c.from_residual.result c.from_residual.ensures.1)

pub reserve_number-requires : goal.reserve_number-requires
reserve_number-requires g c = no_writer c.self.inside.tree c.self.inside.files c.args.path.now (flags_view c.args.flags) c.requires c.in_ok-found.ensures.1

pub open_existing_file-answer-requires : goal.open_existing_file-answer-requires
open_existing_file-answer-requires g c =
    let h = c.in_ok-found.ensures in
    can_begin c.self.inside.tree c.check_open_writer.new.tree c.self.inside.files c.args.path.now (flags_view c.args.flags) c.in-Ok.owned c.in-Some.size c.self.invariant.ready h.0 h.1 c.requires c.in-Ok.ensures.path (ap (λ p. node_file_size (visible_tree c.self.inside.tree p)) (c.in-Ok.ensures.path ∙ sym h.2.path) ∙ h.2.size ∙ c.in-Some.is)

pub create_and_open-answer-requires-clause-known : goal.create_and_open-answer-requires-clause-known
create_and_open-answer-requires-clause-known g c =
    let h = c.in_ok-found.ensures in
    subst (λ p. IfSome c.in_ok-found.found.target (IsCreationResult (kept_thread c.check_open_writer.new.tree) p)) (h.2.path ∙ sym c.in-Ok.ensures.path) h.2.target

pub create_and_open-answer-requires-clause-looked_up : goal.create_and_open-answer-requires-clause-looked_up
create_and_open-answer-requires-clause-looked_up g c = c.in_ok-found.ensures.2.handed_on

pub create_and_open-answer-requires-clause-can : goal.create_and_open-answer-requires-clause-can
create_and_open-answer-requires-clause-can g c =
    let h = c.in_ok-found.ensures in
    can_create c.self.inside.tree c.check_open_writer.new.tree c.self.inside.files c.args.path.now (flags_view c.args.flags) c.in-Ok.owned c.self.invariant.ready h.0 h.1 c.requires c.in-Ok.ensures.path (ap (λ p. node_file_size (visible_tree c.self.inside.tree p)) (c.in-Ok.ensures.path ∙ sym h.2.path) ∙ h.2.size ∙ c.in-None.is)

pub add_writer-requires-clause-inside : goal.add_writer-requires-clause-inside
add_writer-requires-clause-inside g c =
    let stay : c.match-found.self-inside.files ≡ c.reserve_number.new.self = elim c.match-found.branch [ in-Some+in_ok-writer-in-Some w ↦ ap (λ i. i.files) w.self-inside-is | in-None+in_ok-writer-in-None w ↦ ap (λ i. i.files) w.self-inside-is ] in
    subst (λ xs. c.in-Ok-reserve_number.number < length xs) (sym stay) (room_made c.self.inside.files c.reserve_number.new.self c.in-Ok-reserve_number.number (no_writer c.self.inside.tree c.self.inside.files c.args.path.now (flags_view c.args.flags) c.requires c.in_ok-found.ensures.1) c.in-Ok-reserve_number.ensures.number c.in-Ok-reserve_number.ensures.room).inside

pub add_writer-requires-clause-free : goal.add_writer-requires-clause-free
add_writer-requires-clause-free g c =
    let stay : c.match-found.self-inside.files ≡ c.reserve_number.new.self = elim c.match-found.branch [ in-Some+in_ok-writer-in-Some w ↦ ap (λ i. i.files) w.self-inside-is | in-None+in_ok-writer-in-None w ↦ ap (λ i. i.files) w.self-inside-is ] in
    subst (λ xs. open_file_at xs c.in-Ok-reserve_number.number ≡ None) (sym stay) (room_made c.self.inside.files c.reserve_number.new.self c.in-Ok-reserve_number.number (no_writer c.self.inside.tree c.self.inside.files c.args.path.now (flags_view c.args.flags) c.requires c.in_ok-found.ensures.1) c.in-Ok-reserve_number.ensures.number c.in-Ok-reserve_number.ensures.room).free

pub add_writer-requires-clause-none : goal.add_writer-requires-clause-none
add_writer-requires-clause-none g c =
    let stay : c.match-found.self-inside.files ≡ c.reserve_number.new.self = elim c.match-found.branch [ in-Some+in_ok-writer-in-Some w ↦ ap (λ i. i.files) w.self-inside-is | in-None+in_ok-writer-in-None w ↦ ap (λ i. i.files) w.self-inside-is ] in
    subst (λ xs. writers_among xs ≡ []) (sym stay) (room_made c.self.inside.files c.reserve_number.new.self c.in-Ok-reserve_number.number (no_writer c.self.inside.tree c.self.inside.files c.args.path.now (flags_view c.args.flags) c.requires c.in_ok-found.ensures.1) c.in-Ok-reserve_number.ensures.number c.in-Ok-reserve_number.ensures.room).none

-- no memory is granted
pub returns-in_default : goal.returns-in_default
returns-in_default g c =
    still_call c.self.inside.tree c.self.inside.files _ (ops.Open c.args.path.now (flags_view c.args.flags)) _ _ c.self.view_is c.self.invariant.ready refl refl (ap (λ (t : TreeState). t.disk) c.fail.ensures ∙ ap (λ (t : TreeState). t.disk) c.in_ok-found.ensures.0.same)
    (error_ends (session_view c.self.inside.tree c.self.inside.files) _ (ops.Open c.args.path.now (flags_view c.args.flags)) error.NoMemory _ c.self.view_is c.in_ok-found.ensures.1 refl)
    (writer_lacks_memory c.self.inside.tree c.check_open_writer.new.tree c.fail.new.self c.self.inside.files c.self.inside.files _ c.args.path.now (flags_view c.args.flags) c.self.view_is c.in_ok-found.ensures.0 c.in_ok-found.ensures.1 c.fail.ensures)
    (only_read (session_view c.self.inside.tree c.self.inside.files) _ (ops.Open c.args.path.now (flags_view c.args.flags)) c.fail.new.self c.self.view_is (sound_by c.self.inside.tree c.self.inside.files c.self.invariant.ready) (reads_failing c.self.inside.tree c.check_open_writer.new.tree c.fail.new.self c.fail.ensures c.in_ok-found.ensures.0.reads))

pub returns-in_default-reserve_number : goal.returns-in_default-reserve_number
returns-in_default-reserve_number g c =
    still_call c.self.inside.tree c.self.inside.files _ (ops.Open c.args.path.now (flags_view c.args.flags)) _ _ c.self.view_is c.self.invariant.ready refl refl (ap (λ (t : TreeState). t.disk) c.fail-in_default-reserve_number.ensures ∙ ap (λ (t : TreeState). t.disk) c.in_ok-found.ensures.0.same)
    (error_ends (session_view c.self.inside.tree c.self.inside.files) _ (ops.Open c.args.path.now (flags_view c.args.flags)) error.NoMemory _ c.self.view_is c.in_ok-found.ensures.1 refl)
    (writer_lacks_memory c.self.inside.tree c.check_open_writer.new.tree c.fail-in_default-reserve_number.new.self c.self.inside.files c.reserve_number.new.self _ c.args.path.now (flags_view c.args.flags) c.self.view_is c.in_ok-found.ensures.0 c.in_ok-found.ensures.1 c.fail-in_default-reserve_number.ensures)
    (only_read (session_view c.self.inside.tree c.self.inside.files) _ (ops.Open c.args.path.now (flags_view c.args.flags)) c.fail-in_default-reserve_number.new.self c.self.view_is (sound_by c.self.inside.tree c.self.inside.files c.self.invariant.ready) (reads_failing c.self.inside.tree c.check_open_writer.new.tree c.fail-in_default-reserve_number.new.self c.fail-in_default-reserve_number.ensures c.in_ok-found.ensures.0.reads))

-- the tree's call ends it
pub returns-in_err-writer-in-Some : goal.returns-in_err-writer-in-Some
returns-in_err-writer-in-Some g c =
    let h = c.in_ok-found.ensures in
    changed_call c.self.inside.tree c.self.inside.files _ (ops.Open c.args.path.now (flags_view c.args.flags)) ops.Opened c.from_residual-in_err-writer-in-Some.result _ c.self.view_is c.self.invariant c.lemma_calls_conform.ensures refl refl refl
    (failed_others c.args.self.now (ops.Open c.args.path.now (flags_view c.args.flags)) (view_with_files c.open_existing_file-answer.new.tree []) c.from_residual-in_err-writer-in-Some.result (given_on _ c.from_residual-in_err-writer-in-Some.result c.from_residual-in_err-writer-in-Some.ensures.1))
    (broken_ends (session_view c.self.inside.tree c.self.inside.files) _ (ops.Open c.args.path.now (flags_view c.args.flags)) ops.Opened _ c.from_residual-in_err-writer-in-Some.result _ c.self.view_is c.in_ok-found.ensures.1 refl c.in_err-writer-in-Some.ensures.errors.errors
    (given_on _ c.from_residual-in_err-writer-in-Some.result c.from_residual-in_err-writer-in-Some.ensures.1))
    (writer_breaks c.self.inside.tree c.check_open_writer.new.tree c.open_existing_file-answer.new.tree c.self.inside.files _ _ c.args.path.now (flags_view c.args.flags) _ c.from_residual-in_err-writer-in-Some.result c.self.view_is h.0 h.1 (c.self.invariant.ready (not_failed (session_view c.self.inside.tree c.self.inside.files) (ops.Open c.args.path.now (flags_view c.args.flags)) h.1)).sound c.requires c.in_err-writer-in-Some.ensures.broken c.in_err-writer-in-Some.ensures.errors
    (given_on _ c.from_residual-in_err-writer-in-Some.result c.from_residual-in_err-writer-in-Some.ensures.1))
    (opened_left c.self.inside.tree c.check_open_writer.new.tree c.open_existing_file-answer.new.tree c.self.inside.files _ c.args.path.now (flags_view c.args.flags) c.in-Ok.owned _ c.self.view_is c.self.invariant.ready
    (opening_keeps c.self.inside.tree c.check_open_writer.new.tree c.self.inside.files c.args.path.now (flags_view c.args.flags) c.self.invariant.ready h.0 h.1 c.requires) h.1 c.in-Ok.ensures.path (ap (λ p. node_file_size (visible_tree c.self.inside.tree p)) (c.in-Ok.ensures.path ∙ sym h.2.path) ∙ h.2.size ∙ c.in-Some.is)
    (c.in_err-writer-in-Some.ensures.broken.calls, c.in_err-writer-in-Some.ensures.broken.called) c.open_existing_file-answer.ensures.survives)

pub returns-in_err-writer-in-None : goal.returns-in_err-writer-in-None
returns-in_err-writer-in-None g c =
    let h = c.in_ok-found.ensures in
    changed_call c.self.inside.tree c.self.inside.files _ (ops.Open c.args.path.now (flags_view c.args.flags)) ops.Opened c.from_residual-in_err-writer-in-None.result _ c.self.view_is c.self.invariant c.lemma_calls_conform-in-None.ensures refl refl refl
    (failed_others c.args.self.now (ops.Open c.args.path.now (flags_view c.args.flags)) (view_with_files c.create_and_open-answer.new.tree []) c.from_residual-in_err-writer-in-None.result (given_on _ c.from_residual-in_err-writer-in-None.result c.from_residual-in_err-writer-in-None.ensures.1))
    (broken_ends (session_view c.self.inside.tree c.self.inside.files) _ (ops.Open c.args.path.now (flags_view c.args.flags)) ops.Opened _ c.from_residual-in_err-writer-in-None.result _ c.self.view_is c.in_ok-found.ensures.1 refl c.in_err-writer-in-None.ensures.errors.errors
    (given_on _ c.from_residual-in_err-writer-in-None.result c.from_residual-in_err-writer-in-None.ensures.1))
    (writer_breaks c.self.inside.tree c.check_open_writer.new.tree c.create_and_open-answer.new.tree c.self.inside.files _ _ c.args.path.now (flags_view c.args.flags) _ c.from_residual-in_err-writer-in-None.result c.self.view_is h.0 h.1 (c.self.invariant.ready (not_failed (session_view c.self.inside.tree c.self.inside.files) (ops.Open c.args.path.now (flags_view c.args.flags)) h.1)).sound c.requires c.in_err-writer-in-None.ensures.broken c.in_err-writer-in-None.ensures.errors
    (given_on _ c.from_residual-in_err-writer-in-None.result c.from_residual-in_err-writer-in-None.ensures.1))
    (created_left c.self.inside.tree c.check_open_writer.new.tree c.create_and_open-answer.new.tree c.self.inside.files _ c.args.path.now (flags_view c.args.flags) c.in-Ok.owned c.self.view_is c.self.invariant.ready
    (opening_keeps c.self.inside.tree c.check_open_writer.new.tree c.self.inside.files c.args.path.now (flags_view c.args.flags) c.self.invariant.ready h.0 h.1 c.requires) h.1 c.requires c.in-Ok.ensures.path (ap (λ p. node_file_size (visible_tree c.self.inside.tree p)) (c.in-Ok.ensures.path ∙ sym h.2.path) ∙ h.2.size ∙ c.in-None.is)
    (c.in_err-writer-in-None.ensures.broken.calls, c.in_err-writer-in-None.ensures.broken.called) c.create_and_open-answer.ensures.survives)

pub invariant_of-self-2 : goal.invariant_of-self-2
invariant_of-self-2 g c =
    let stay : c.match-found.self-inside.files ≡ c.reserve_number.new.self = elim c.match-found.branch [ in-Some+in_ok-writer-in-Some w ↦ ap (λ i. i.files) w.self-inside-is | in-None+in_ok-writer-in-None w ↦ ap (λ i. i.files) w.self-inside-is ] in
    let h = c.in_ok-found.ensures in
    let opened : IsOpenedBy c.self.inside.tree c.self.inside.files c.args.path.now (flags_view c.args.flags) c.match-found.self-inside.tree c.match-found.writer = elim c.match-found.branch [
      | in-Some+in_ok-writer-in-Some w ↦ subst (λ i. IsOpenedBy c.self.inside.tree c.self.inside.files c.args.path.now (flags_view c.args.flags) i.tree c.match-found.writer) (sym w.self-inside-is) (subst (λ x. IsOpenedBy c.self.inside.tree c.self.inside.files c.args.path.now (flags_view c.args.flags) w.open_existing_file-answer.new.tree x) (sym w.writer-is)
          (opened_there c.self.inside.tree c.check_open_writer.new.tree w.open_existing_file-answer.new.tree c.self.inside.files c.args.path.now (flags_view c.args.flags) _ c.in-Ok.owned w.in-Some.size c.self.invariant.ready h.0 h.1 c.requires c.in-Ok.ensures.path (ap (λ p. node_file_size (visible_tree c.self.inside.tree p)) (c.in-Ok.ensures.path ∙ sym h.2.path) ∙ h.2.size ∙ w.in-Some.is)
          w.in_ok-writer-in-Some.ensures.recovered w.in_ok-writer-in-Some.ensures.begun))
      | in-None+in_ok-writer-in-None w ↦ subst (λ i. IsOpenedBy c.self.inside.tree c.self.inside.files c.args.path.now (flags_view c.args.flags) i.tree c.match-found.writer) (sym w.self-inside-is) (subst (λ x. IsOpenedBy c.self.inside.tree c.self.inside.files c.args.path.now (flags_view c.args.flags) w.create_and_open-answer.new.tree x) (sym w.writer-is)
          (opened_new c.self.inside.tree c.check_open_writer.new.tree w.create_and_open-answer.new.tree c.self.inside.files c.args.path.now (flags_view c.args.flags) _ c.in-Ok.owned c.self.invariant.ready h.0 h.1 c.requires c.in-Ok.ensures.path (ap (λ p. node_file_size (visible_tree c.self.inside.tree p)) (c.in-Ok.ensures.path ∙ sym h.2.path) ∙ h.2.size ∙ w.in-None.is)
          (w.in_ok-writer-in-None.ensures.made c.args.path.now (flags_view c.args.flags) (sym c.in-Ok.ensures.path) c.requires).0 w.in_ok-writer-in-None.ensures.begun))
    ] in
    let room = (room_made c.self.inside.files c.reserve_number.new.self c.in-Ok-reserve_number.number (no_writer c.self.inside.tree c.self.inside.files c.args.path.now (flags_view c.args.flags) c.requires c.in_ok-found.ensures.1) c.in-Ok-reserve_number.ensures.number c.in-Ok-reserve_number.ensures.room) in
    let reported : DeviceConforms c.match-found.self-inside.tree = elim c.match-found.branch [
      | in-Some+in_ok-writer-in-Some w ↦ subst (λ i. DeviceConforms i.tree) (sym w.self-inside-is) w.lemma_calls_conform.ensures
      | in-None+in_ok-writer-in-None w ↦ subst (λ i. DeviceConforms i.tree) (sym w.self-inside-is) w.lemma_calls_conform-in-None.ensures
    ] in
    record {
      ready = λ works. writer_ready c.self.inside.tree c.match-found.self-inside.tree c.self.inside.files c.add_writer.new.self c.args.path.now (flags_view c.args.flags) c.match-found.writer opened (no_writer c.self.inside.tree c.self.inside.files c.args.path.now (flags_view c.args.flags) c.requires c.in_ok-found.ensures.1) (room.alone c.match-found.writer)
          (c.add_writer.ensures ∙ ap (λ xs. set xs c.in-Ok-reserve_number.number (Some (file.Writing c.match-found.writer))) stay ∙ room.filled c.match-found.writer);
      reported = λ works. reported;
    }

pub returns : goal.returns
returns g c =
    let stay : c.match-found.self-inside.files ≡ c.reserve_number.new.self = elim c.match-found.branch [ in-Some+in_ok-writer-in-Some w ↦ ap (λ i. i.files) w.self-inside-is | in-None+in_ok-writer-in-None w ↦ ap (λ i. i.files) w.self-inside-is ] in
    let h = c.in_ok-found.ensures in
    let opened : IsOpenedBy c.self.inside.tree c.self.inside.files c.args.path.now (flags_view c.args.flags) c.match-found.self-inside.tree c.match-found.writer = elim c.match-found.branch [
      | in-Some+in_ok-writer-in-Some w ↦ subst (λ i. IsOpenedBy c.self.inside.tree c.self.inside.files c.args.path.now (flags_view c.args.flags) i.tree c.match-found.writer) (sym w.self-inside-is) (subst (λ x. IsOpenedBy c.self.inside.tree c.self.inside.files c.args.path.now (flags_view c.args.flags) w.open_existing_file-answer.new.tree x) (sym w.writer-is)
          (opened_there c.self.inside.tree c.check_open_writer.new.tree w.open_existing_file-answer.new.tree c.self.inside.files c.args.path.now (flags_view c.args.flags) _ c.in-Ok.owned w.in-Some.size c.self.invariant.ready h.0 h.1 c.requires c.in-Ok.ensures.path (ap (λ p. node_file_size (visible_tree c.self.inside.tree p)) (c.in-Ok.ensures.path ∙ sym h.2.path) ∙ h.2.size ∙ w.in-Some.is)
          w.in_ok-writer-in-Some.ensures.recovered w.in_ok-writer-in-Some.ensures.begun))
      | in-None+in_ok-writer-in-None w ↦ subst (λ i. IsOpenedBy c.self.inside.tree c.self.inside.files c.args.path.now (flags_view c.args.flags) i.tree c.match-found.writer) (sym w.self-inside-is) (subst (λ x. IsOpenedBy c.self.inside.tree c.self.inside.files c.args.path.now (flags_view c.args.flags) w.create_and_open-answer.new.tree x) (sym w.writer-is)
          (opened_new c.self.inside.tree c.check_open_writer.new.tree w.create_and_open-answer.new.tree c.self.inside.files c.args.path.now (flags_view c.args.flags) _ c.in-Ok.owned c.self.invariant.ready h.0 h.1 c.requires c.in-Ok.ensures.path (ap (λ p. node_file_size (visible_tree c.self.inside.tree p)) (c.in-Ok.ensures.path ∙ sym h.2.path) ∙ h.2.size ∙ w.in-None.is)
          (w.in_ok-writer-in-None.ensures.made c.args.path.now (flags_view c.args.flags) (sym c.in-Ok.ensures.path) c.requires).0 w.in_ok-writer-in-None.ensures.begun))
    ] in
    let room = (room_made c.self.inside.files c.reserve_number.new.self c.in-Ok-reserve_number.number (no_writer c.self.inside.tree c.self.inside.files c.args.path.now (flags_view c.args.flags) c.requires c.in_ok-found.ensures.1) c.in-Ok-reserve_number.ensures.number c.in-Ok-reserve_number.ensures.room) in
    let reported : DeviceConforms c.match-found.self-inside.tree = elim c.match-found.branch [
      | in-Some+in_ok-writer-in-Some w ↦ subst (λ i. DeviceConforms i.tree) (sym w.self-inside-is) w.lemma_calls_conform.ensures
      | in-None+in_ok-writer-in-None w ↦ subst (λ i. DeviceConforms i.tree) (sym w.self-inside-is) w.lemma_calls_conform-in-None.ensures
    ] in
    let calm : fault_count c.match-found.self-inside.tree.history ≡ fault_count c.self.inside.tree.history = elim c.match-found.branch [
      | in-Some+in_ok-writer-in-Some w ↦ ap (λ i. fault_count i.tree.history) w.self-inside-is ∙ w.in_ok-writer-in-Some.ensures.recovered.no_fault ∙ h.0.no_fault
      | in-None+in_ok-writer-in-None w ↦ ap (λ i. fault_count i.tree.history) w.self-inside-is ∙ (w.in_ok-writer-in-None.ensures.made c.args.path.now (flags_view c.args.flags) (sym c.in-Ok.ensures.path) c.requires).0.no_fault ∙ h.0.no_fault
    ] in
    changed_call c.self.inside.tree c.self.inside.files _ (ops.Open c.args.path.now (flags_view c.args.flags)) ops.Opened (Ok c.in-Ok-reserve_number.number) _ c.self.view_is c.self.invariant reported refl refl refl
    (elim c.match-found.branch [
      | in-Some+in_ok-writer-in-Some w ↦ subst (λ i. KeepsUnrelatedIfRecovered (system_state c.args.self.now) (ops.Open c.args.path.now (flags_view c.args.flags)) (system_state (view_with_files i.tree []))) (sym w.self-inside-is)
          (begun_others c.self.inside.tree c.check_open_writer.new.tree w.open_existing_file-answer.new.tree c.self.inside.files _ (ops.Open c.args.path.now (flags_view c.args.flags)) c.self.view_is c.self.invariant.ready h.0 w.in_ok-writer-in-Some.ensures.recovered)
      | in-None+in_ok-writer-in-None w ↦ subst (λ i. KeepsUnrelatedIfRecovered (system_state c.args.self.now) (ops.Open c.args.path.now (flags_view c.args.flags)) (system_state (view_with_files i.tree []))) (sym w.self-inside-is)
          (let made = w.in_ok-writer-in-None.ensures.made c.args.path.now (flags_view c.args.flags) (sym c.in-Ok.ensures.path) c.requires in
          rest_others c.self.inside.tree c.check_open_writer.new.tree w.create_and_open-answer.new.tree c.self.inside.files _ (ops.Open c.args.path.now (flags_view c.args.flags)) c.self.view_is c.self.invariant.ready h.0 made.0.sound made.1)
    ])
    (answer_ends (session_view c.self.inside.tree c.self.inside.files) _ (ops.Open c.args.path.now (flags_view c.args.flags)) (ops.Opened c.in-Ok-reserve_number.number) _ c.self.view_is h.1 calm)
    (writer_opened c.self.inside.tree c.match-found.self-inside.tree c.self.inside.files c.add_writer.new.self _ c.args.path.now (flags_view c.args.flags) c.match-found.writer c.in-Ok-reserve_number.number c.self.view_is opened c.requires (no_writer c.self.inside.tree c.self.inside.files c.args.path.now (flags_view c.args.flags) c.requires c.in_ok-found.ensures.1) c.in-Ok-reserve_number.ensures.number
    (c.add_writer.ensures ∙ ap (λ xs. set xs c.in-Ok-reserve_number.number (Some (file.Writing c.match-found.writer))) stay ∙ room.filled c.match-found.writer))
    (elim c.match-found.branch [
      | in-Some+in_ok-writer-in-Some w ↦ subst (λ i. SurvivesStoppedCalls (system_state c.args.self.now) (ops.Open c.args.path.now (flags_view c.args.flags)) (system_state (view_with_files i.tree []))) (sym w.self-inside-is)
          (opened_left c.self.inside.tree c.check_open_writer.new.tree w.open_existing_file-answer.new.tree c.self.inside.files _ c.args.path.now (flags_view c.args.flags) c.in-Ok.owned _ c.self.view_is c.self.invariant.ready
          (opening_keeps c.self.inside.tree c.check_open_writer.new.tree c.self.inside.files c.args.path.now (flags_view c.args.flags) c.self.invariant.ready h.0 h.1 c.requires) h.1 c.in-Ok.ensures.path (ap (λ p. node_file_size (visible_tree c.self.inside.tree p)) (c.in-Ok.ensures.path ∙ sym h.2.path) ∙ h.2.size ∙ w.in-Some.is)
          (w.in_ok-writer-in-Some.ensures.recovered.calls, w.in_ok-writer-in-Some.ensures.recovered.called) w.open_existing_file-answer.ensures.survives)
      | in-None+in_ok-writer-in-None w ↦ subst (λ i. SurvivesStoppedCalls (system_state c.args.self.now) (ops.Open c.args.path.now (flags_view c.args.flags)) (system_state (view_with_files i.tree []))) (sym w.self-inside-is)
          (let made = (w.in_ok-writer-in-None.ensures.made c.args.path.now (flags_view c.args.flags) (sym c.in-Ok.ensures.path) c.requires).0 in
          created_left c.self.inside.tree c.check_open_writer.new.tree w.create_and_open-answer.new.tree c.self.inside.files _ c.args.path.now (flags_view c.args.flags) c.in-Ok.owned c.self.view_is c.self.invariant.ready
          (opening_keeps c.self.inside.tree c.check_open_writer.new.tree c.self.inside.files c.args.path.now (flags_view c.args.flags) c.self.invariant.ready h.0 h.1 c.requires) h.1 c.requires c.in-Ok.ensures.path (ap (λ p. node_file_size (visible_tree c.self.inside.tree p)) (c.in-Ok.ensures.path ∙ sym h.2.path) ∙ h.2.size ∙ w.in-None.is)
          (made.calls, made.called) w.create_and_open-answer.ensures.survives)
    ])
