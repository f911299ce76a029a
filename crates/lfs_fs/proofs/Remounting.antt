-- Files closed, and a device read anew.
use Rattle.std.proofs.Common.{arith, ◌≡◌, inl, inr, true, false, cond, set, is_none, List, [], ◌++◌, Option, Some, None, is_some, Result, Ok, Err, ℕ, nat_eq, refl, sym, ap, ap₂, subst, ◌∙◌}
use Rattle.std.specs.Prelude.{◌⊎◌, OnOk, OnErr, IfErr}
use Rattle.lfs_device.specs.declared.error.Error.{Error}
use Rattle.lfs_device.specs.declared.error.Error.TheVariants.{Io, NoMemory, Corrupt}
use Rattle.lfs_fs.proofs.Common.{Disk, SameGeometry, disk_with_order, CallEvent, OpenFilesByNumber, Healthy, mounted_session, tree_after_storing, node_with_bytes, tree_with_change, option_map, Tree, IsAccepted, disk_tree, SystemState, IsStep, WriteNothing, is_dirty, is_refusal, error_refusal, TreeState, visible_tree, tree_summary, kept_thread, FailedByReading, HasMountCause, IsMountedTree, IsRemountedTree, IsSoundState, reply_from, RuntimeFiles, draft_or_stored_bytes, open_file_at, is_writer_with_draft, file_view, files_view, SessionView, IsReady, session_view, view_with_files, system_state, refusal_by_checks, SessionFails, StepsOrFails}
use Rattle.lfs_model.specs.session.Operations as ops
use Rattle.std.specs.List.{IsDistinct}
use Rattle.lfs_model.specs.session.Run.{ShowsTree}
use Rattle.lfs_model.proofs.StepsMade.{remounted_step}
use Rattle.lfs_fs.specs.declared.files.OpenFile as kept
use Rattle.lfs_fs.specs.declared.files.OpenFile.TheVariants as file
use Rattle.lfs_fs.specs.declared.files.UnsavedContents.{UnsavedContents}
use Rattle.lfs_fs.proofs.OpenFiles.{file_is, is_saved, ready_closed, saved_is, set_is}
use Rattle.lfs_fs.proofs.Failing.{reads_write_nothing, failed_system, healthy_system}
use Rattle.lfs_fs.proofs.Answered.{is_over, kept_answer, sound_by}
use Rattle.lfs_fs.proofs.Stopping.{works_at}
use Rattle.lfs_fs.proofs.Calls.{has_called, has_erased}
use Rattle.lfs_model.proofs.BlockSets.{in_flight_count-AreInFlight}
use Rattle.lfs_tree.specs.Formats.{ErasesTwoBlocks, IsFreshlyFormatted}

-- ---- a file is closed of which nothing is to be saved

not_some : (u : Option UnsavedContents) → is_none u ≡ true → is_some u ≡ false
not_some None e = refl
not_some (Some u) e = absurd (cc)

pub no_tree_change : (t : TreeState) (f : Option kept.OpenFile) (tree : Tree) → is_saved f ≡ true → tree_after_storing (option_map (file_view t) f) tree ≡ tree
no_tree_change t None tree e = refl
no_tree_change t (Some (file.Reading r)) tree e = refl
no_tree_change t (Some (file.Writing w)) tree e = ap (λ b. cond b (tree_with_change w.path (node_with_bytes (draft_or_stored_bytes t w.path w.unsaved)) tree) tree) (not_some w.unsaved e)

pub not_dirty : (t : TreeState) (f : Option kept.OpenFile) → is_saved f ≡ true → is_dirty (option_map (file_view t) f) ≡ false
not_dirty t None e = refl
not_dirty t (Some (file.Reading r)) e = refl
not_dirty t (Some (file.Writing w)) e = not_some w.unsaved e

-- no call is made
pub closed : (t : TreeState) (fs : RuntimeFiles) (now : SessionView) (fd : ℕ) → session_view t fs ≡ now → (t.failed ≡ false → IsReady t fs) → refusal_by_checks (session_view t fs) (ops.Close fd) ≡ None → is_some (open_file_at fs fd) ≡ true → is_saved (open_file_at fs fd) ≡ true →
    StepsOrFails now (ops.Close fd) (Ok ops.Done) (session_view t (set fs fd None))
closed t fs now fd same ready e there nothing =
    kept_answer (session_view t fs) now (ops.Close fd) (files_view t (set fs fd None)) ops.Done same (sound_by t fs ready) e refl refl
    (ap is_dirty (file_is t fs fd) ∙ not_dirty t (open_file_at fs fd) nothing)
    (ap₂ (λ t f. (ops.Done, record { tree = t; files = f })) (ap (λ f. tree_after_storing f (visible_tree t)) (file_is t fs fd) ∙ no_tree_change t (open_file_at fs fd) (visible_tree t) nothing) (sym (set_is t fs fd None there)))

pub closed_answers : (t : TreeState) (fs gs : RuntimeFiles) (now : SessionView) (fd : ℕ) → session_view t fs ≡ now → (t.failed ≡ false → IsReady t fs) → refusal_by_checks (session_view t fs) (ops.Close fd) ≡ None → is_some (open_file_at fs fd) ≡ true →
    false ≡ is_writer_with_draft (open_file_at fs fd) → gs ≡ set fs fd None → StepsOrFails now (ops.Close fd) (Ok ops.Done) (session_view t gs)
closed_answers t fs gs now fd same ready e there saved is =
    subst (λ z. StepsOrFails now (ops.Close fd) (Ok ops.Done) (session_view t z)) (sym is) (closed t fs now fd same ready e there (saved_is (open_file_at fs fd) (sym saved)))

pub closed_ready : (t : TreeState) (fs gs : RuntimeFiles) (fd : ℕ) → false ≡ is_writer_with_draft (open_file_at fs fd) → (t.failed ≡ false → IsReady t fs) → gs ≡ set fs fd None → t.failed ≡ false → IsReady t gs
closed_ready t fs gs fd saved ready is works = subst (IsReady t) (sym is) (ready_closed t fs fd (saved_is (open_file_at fs fd) (sym saved)) (ready works))

-- ---- a remount

pub no_refusal : {P : Type 0} (e : Error) → (e ≡ Io) ⊎ ((e ≡ NoMemory) ⊎ ((e ≡ Corrupt) × P)) → is_refusal e ≡ false
no_refusal e (inl h) = ap is_refusal h
no_refusal e (inr (inl h)) = ap is_refusal h
no_refusal e (inr (inr h)) = ap is_refusal h.0

remount_fails : (e : Error) (old : SessionView) (new : TreeState) (files : OpenFilesByNumber) → FailedByReading old.tree new → HasMountCause old.tree new e → SessionFails e (system_state old) ops.Remount (system_state (view_with_files new files))
remount_fails e old new files broken error = record {
  fails = record {
    failed = ap (λ (m : SystemState). m.state) (failed_system (view_with_files new files) broken.failed);
    geometry = subst (λ d. SameGeometry old.tree.disk d) (sym broken.disk) (record { block_size = refl; page = refl; order = refl; profile = refl; count = refl });
    calls = broken.reads.events;
    called = broken.reads.extends;
    asks = λ s f a. (broken.disk, writes);
    itself = λ h. absurd (cc);
    unwritten = λ none. (broken.disk, writes);
    remounted = λ h. (broken.disk, writes);
    reads = λ h. broken.reads.each;
    silent = λ f other. absurd (cc);
  };
  errors = widened error.errors;
  fault = error.fault;
  no_fault = error.no_fault;
}
  where
    writes : WriteNothing broken.reads.events
    writes = reads_write_nothing old.tree.disk.blocks broken.reads.events broken.reads.each

    widened : (e ≡ Io) ⊎ ((e ≡ NoMemory) ⊎ ((e ≡ Corrupt) × ShowsTree old.tree.disk None)) → (e ≡ Io) ⊎ ((e ≡ NoMemory) ⊎ ((e ≡ Corrupt) × (true ≡ true) × ShowsTree old.tree.disk None))
    widened (inl h) = inl h
    widened (inr (inl h)) = inr (inl h)
    widened (inr (inr h)) = inr (inr (h.0, refl, h.1))

remount_steps : (old : SessionView) (new : TreeState) → (old.tree.failed ≡ false → IsSoundState old.tree) → IsRemountedTree old.tree new → IsStep (system_state old) ops.Remount ops.Done (system_state (view_with_files new []))
remount_steps old new sound r =
    subst (λ z. IsStep (system_state old) ops.Remount ops.Done z) (sym to)
    (remounted_step old.tree.disk new.disk.order new.pairs (tree_summary old.tree) (system_state old).state m.reads.events old.tree.history
    (λ s at. let over = is_over old.tree old.files (sound (works_at old s at)) in (old.tree.pairs, (over.accepted, over.surrounds)))
    (subst (λ d. IsAccepted d new.pairs) m.disk_is m.sound.accepted) r.longer
    (reads_write_nothing old.tree.disk.blocks m.reads.events m.reads.each) m.reads.each)
  where
    m : IsMountedTree (disk_with_order new.disk.order old.tree.disk) old.tree.history new
    m = r.mounted

    to : system_state (view_with_files new []) ≡ record { disk = disk_with_order new.disk.order old.tree.disk; calls = m.reads.events ++ old.tree.history; state = Healthy (mounted_session (disk_tree old.tree.disk new.pairs)) }
    to = healthy_system (view_with_files new []) m.works
        ∙ ap₂ (λ (d : Disk) (h : List CallEvent). record { disk = d; calls = h; state = Healthy (mounted_session (disk_tree d new.pairs)) }) m.disk_is m.reads.extends

pub remount_answers : (old now : SessionView) (new : TreeState) (files : RuntimeFiles) (r : Result (Unit {0}) Error) → old ≡ now → (old.tree.failed ≡ false → IsSoundState old.tree) → files ≡ [] → OnOk r (IsRemountedTree old.tree new) → OnErr r (FailedByReading old.tree new) →
    IfErr r (HasMountCause old.tree new) → StepsOrFails now ops.Remount (reply_from (λ u. ops.Done) r) (session_view new files)
remount_answers old now new files (Ok u) same sound none ok broken errors =
    subst (λ z. IsStep (system_state z) ops.Remount ops.Done (system_state (session_view new files))) same
    (subst (λ f. IsStep (system_state old) ops.Remount ops.Done (system_state (session_view new f))) (sym none) (remount_steps old new sound ok))
remount_answers old now new files (Err e) same sound none ok broken errors =
    subst (λ z. StepsOrFails z ops.Remount (cond (is_refusal e) (Ok (ops.Refused (error_refusal e))) (Err e)) (session_view new files)) same
    (subst (λ b. StepsOrFails old ops.Remount (cond b (Ok (ops.Refused (error_refusal e))) (Err e)) (session_view new files)) (sym (no_refusal e errors.errors)) (remount_fails e old new (files_view new files) broken errors))

pub mounted_ready : (disk : Disk) (history : List CallEvent) (new : TreeState) → IsMountedTree disk history new → IsReady new []
mounted_ready disk history new m = record { sound = m.sound; called = has_called history new.history m.called; one = omega arith; idle = λ e. m.none_in_flight; written = tt; read = tt; known = tt }

-- a session over a fresh disk, whose two blocks were erased
none_twice : IsDistinct nat_eq []
unfolding IsDistinct
none_twice = tt

pub fresh_ready : (before : List CallEvent) (new : TreeState) (files : RuntimeFiles) → files ≡ [] → IsSoundState new → IsFreshlyFormatted (kept_thread new) → ErasesTwoBlocks before new.history → IsReady new files
fresh_ready before new files none sound formatted calls =
    subst (IsReady new) (sym none) (record {
      sound = sound;
      called = has_erased before new.history (let k = calls.erases in omega (arith, k));
      one = omega arith;
      idle = λ e. in_flight_count-AreInFlight new.map [] none_twice formatted.in_flight;
      written = tt;
      read = tt;
      known = tt;
    })

pub remount_ready : (old new : TreeState) (files : RuntimeFiles) (r : Result (Unit {0}) Error) → files ≡ [] → OnOk r (IsRemountedTree old new) → OnErr r (FailedByReading old new) → new.failed ≡ false → IsReady new files
remount_ready old new files (Ok u) none ok broken works = subst (IsReady new) (sym none) (mounted_ready (disk_with_order new.disk.order old.disk) old.history new ok.mounted)
remount_ready old new files (Err e) none ok broken works = absurd (let l = sym broken.failed ∙ works in cc)
