-- The turns of a sync and of a close.
use Rattle.std.proofs.Common.{arith, ◌≡◌, ◌≤◌, ◌||◌, map, true, false, cond, not, set, List, [], ◌∷◌, length, Option, Some, None, is_some, Result, Ok, Err, ℕ, suc, zero, refl, sym, ap, ap₂, subst, ◌∙◌}
use Rattle.lfs_fs.proofs.Common.{AllByRecursion, list_any, option_flatten, option_map, tree_with_change, same_path, CallEvent, Operation, IsStep, opens_existing_file, writes_or_truncates, is_dirty, needs_no_device, is_read_only, renames_itself, OpenFilesByNumber, Session, DiskSummary, Writing, file_numbered, files_with_file, file_reader, synced_writer, Healthy, is_remount, tree_after_storing, operation_effect, node_with_bytes, Path, spread_step, IsStoreApplied, error_refusal, TreeState, IsFailedTree, HasErrorCause, IsSoundState, tree_summary, visible_tree, CanSaveWriter, IsSavedWriter, RuntimeFiles, draft_or_stored_bytes, open_file_at, file_view, files_view, is_writer_with_draft, readers_among, writer_view, writers_among, StepsOrFails, AreCurrentReaders, HasValidIndexCache, IsCurrentReader, SessionView, IsReady, IsWriterReady, session_view, view_with_files, system_state, refusal_by_checks, viewed_session, reply_from, KeepsWriterFiles}
use Rattle.std.proofs.lemmas.List.{set-set}
use Rattle.lfs_device.specs.declared.error.Error.{Error}
use Rattle.lfs_model.specs.session.Moved.{IsLayoutAfterRelocation}
use Rattle.lfs_model.specs.session.Operations as ops
use Rattle.lfs_model.specs.session.Run.{is_recover}
use Rattle.lfs_model.specs.session.Session as session
use Rattle.lfs_model.specs.session.Effects.{synced_file}
use Rattle.lfs_model.proofs.BlockSets.{slice_get-set_same}
use Rattle.lfs_fs.specs.declared.files.OpenFile.{OpenFile}
use Rattle.lfs_fs.specs.declared.files.OpenFile.TheVariants as file
use Rattle.lfs_fs.specs.declared.files.Writer.{Writer}
use Rattle.lfs_fs.proofs.Answered.{error_answers, is_over, kept_answer, kept_files, not_failed, not_refused, nothing_asked, sound_by}
use Rattle.lfs_fs.proofs.Failing.{broken_fails, healthy_system}
use Rattle.lfs_fs.proofs.OpenFiles.{IsOnly, file_is, inside_is, is_saved, only, saved_is, set_is}
use Rattle.lfs_fs.proofs.Remounting.{no_tree_change, not_dirty}
use Rattle.lfs_fs.proofs.Calls.{still_called}
use Rattle.lfs_fs.proofs.OpenReaders.{read_saved}
use Rattle.lfs_fs.proofs.ReadersKnow.{known_closed, known_stored, known_written}
use Rattle.lfs_fs.proofs.Truncating.{inside_put, other_tree}
use Rattle.lfs_fs.proofs.WriterPaths.{sync_path}

-- ---- the writer that has changes

pub unsaved_writer : (o : Option OpenFile) (w : Writer) → is_writer_with_draft o ≡ true → Some (file.Writing w) ≡ o → is_some w.unsaved ≡ true
unsaved_writer o w e is = ap is_writer_with_draft is ∙ e

pub entry_written : (t : TreeState) (fs : RuntimeFiles) (fd : ℕ) (w : Writer) → Some (file.Writing w) ≡ open_file_at fs fd → IsReady t fs → IsWriterReady t w
entry_written t fs fd w is ready = (subst (AllByRecursion (IsWriterReady t)) (only fs fd w (sym is) ready.one).writers ready.written).0

pub can_save : (t : TreeState) (fs : RuntimeFiles) (fd : ℕ) (w : Writer) → t.failed ≡ false → IsReady t fs → is_writer_with_draft (open_file_at fs fd) ≡ true → Some (file.Writing w) ≡ open_file_at fs fd → CanSaveWriter t w
can_save t fs fd w works ready e is = record {
  works = works;
  written = entry_written t fs fd w is ready;
  changed = unsaved_writer (open_file_at fs fd) w e is;
}

-- it is a writer's
pub unsaved_there : (o : Option OpenFile) → is_writer_with_draft o ≡ true → (w : Writer) × (Some (file.Writing w) ≡ o)
unsaved_there None e = absurd (cc)
unsaved_there (Some (file.Reading r)) e = absurd (cc)
unsaved_there (Some (file.Writing w)) e = (w, refl)

-- ---- the files after it

no_writers_same : (t s : TreeState) (fs : RuntimeFiles) → writers_among fs ≡ [] → files_view t fs ≡ files_view s fs
no_writers_same t s fs none = kept_files t s fs (ap (list_any (λ w. is_some w.unsaved)) none) (subst (KeepsWriterFiles t s) (sym none) tt)

-- another entry was put under the number, which is inside
pub still_there : (fs gs : RuntimeFiles) (fd : ℕ) (x y : OpenFile) → Some x ≡ open_file_at fs fd → gs ≡ set fs fd (Some y) → is_some (open_file_at gs fd) ≡ true
still_there fs gs fd x y is put = ap (λ xs. is_some (open_file_at xs fd)) put ∙ ap (λ o. is_some (option_flatten o)) (slice_get-set_same fs fd (Some y) (inside_is fs fd (sym (ap is_some is))))

-- what was put there is let go
pub closed_behind : (fs gs hs : RuntimeFiles) (fd : ℕ) (x : Option OpenFile) → gs ≡ set fs fd x → hs ≡ set gs fd None → hs ≡ set fs fd None
closed_behind fs gs hs fd x put left = left ∙ ap (λ xs. set xs fd None) put ∙ set-set fs fd x None

-- without the writer
pub left_is : (t s : TreeState) (fs : RuntimeFiles) (fd : ℕ) (w : Writer) → Some (file.Writing w) ≡ open_file_at fs fd → IsOnly fs fd w → files_view s (set fs fd None) ≡ files_with_file (files_view t fs) fd None
left_is t s fs fd w is o = no_writers_same s t (set fs fd None) o.without ∙ set_is t fs fd None (sym (ap is_some is))

-- with another one in its place
pub back_is : (t s : TreeState) (fs : RuntimeFiles) (fd : ℕ) (w v : Writer) → Some (file.Writing w) ≡ open_file_at fs fd → IsOnly fs fd w →
    files_view s (set fs fd (Some (file.Writing v))) ≡ files_with_file (files_view t fs) fd (Some (Writing (writer_view s v)))
back_is t s fs fd w v is o = other_tree t s fs fd w v o ∙ sym (inside_put t fs fd (Writing (writer_view s v)) (sym (ap is_some is)))

-- ---- the turn

stored_step : (t new : TreeState) (fs : RuntimeFiles) (files : OpenFilesByNumber) (op : Operation) (path : Path) (bytes : List ℕ) → IsSoundState t → t.failed ≡ false → refusal_by_checks (session_view t fs) op ≡ None → (stored : IsStoreApplied t path bytes new) →
    is_remount op ≡ false → is_read_only (viewed_session (session_view t fs)) op ≡ false → writes_or_truncates op ≡ false → opens_existing_file (viewed_session (session_view t fs)) op ≡ false → needs_no_device (viewed_session (session_view t fs)) op ≡ false →
    renames_itself op ≡ false → is_recover op ≡ false →
    ((around : DiskSummary) → visible_tree new ≡ (operation_effect around (viewed_session (session_view t fs)) op).1.tree) → IsLayoutAfterRelocation t.disk t.pairs (viewed_session (session_view t fs)) op stored.calls new.disk new.pairs →
    (operation_effect (tree_summary t) (viewed_session (session_view t fs)) op).1.files ≡ files →
    IsStep (system_state (session_view t fs)) op (operation_effect (tree_summary t) (viewed_session (session_view t fs)) op).0 (system_state (view_with_files new files))
stored_step t new fs files op path bytes sound works e stored other asks fill creates silent itself left shows arranged opened =
    let old = session_view t fs in
    let is : record { tree = visible_tree new; files = files } ≡ (operation_effect (tree_summary t) (viewed_session old) op).1 = ap₂ (λ t f. record { tree = t; files = f }) (shows (tree_summary t)) (sym opened) in
    let to = healthy_system (view_with_files new files) stored.works
    ∙ ap₂ (λ (calls : List CallEvent) (s : Session). record { disk = new.disk; calls = calls; state = Healthy s }) stored.called is in
    subst (λ m. IsStep m op (operation_effect (tree_summary t) (viewed_session old) op).0 (system_state (view_with_files new files))) (sym (healthy_system old works))
    (subst (λ m. IsStep (record { disk = t.disk; calls = t.history; state = Healthy (viewed_session old) }) op (operation_effect (tree_summary t) (viewed_session old) op).0 m) (sym to)
    (spread_step t.disk t.pairs (viewed_session old) (tree_summary t) op new.disk new.pairs stored.calls t.history (is_over t (files_view t fs) sound) (not_refused old op e)
    (record {
      geometry = stored.geometry;
      other = other;
      asks = asks;
      fills = fill;
      opens = λ h f. absurd (let k = sym creates ∙ h in cc);
      silent = λ h. absurd (let k = sym silent ∙ h in cc);
      itself = λ h. absurd (let k = sym itself ∙ h in cc);
      nothing_left = λ h f. absurd (let k = sym left ∙ h in cc);
    })
    (record { accepted = stored.sound.accepted; writable = stored.fits; recovered = stored.recovered; tree = shows; arranged = arranged })))

file_at : (t : TreeState) (fs : RuntimeFiles) (fd : ℕ) (w : Writer) → Some (file.Writing w) ≡ open_file_at fs fd → file_numbered (files_view t fs) fd ≡ Some (Writing (writer_view t w))
file_at t fs fd w is = file_is t fs fd ∙ ap (option_map (file_view t)) (sym is)

committed_is : (t new : TreeState) (fs : RuntimeFiles) (fd : ℕ) (w : Writer) → Some (file.Writing w) ≡ open_file_at fs fd → is_some w.unsaved ≡ true → IsStoreApplied t w.path (draft_or_stored_bytes t w.path w.unsaved) new →
    visible_tree new ≡ tree_after_storing (file_numbered (files_view t fs) fd) (visible_tree t)
committed_is t new fs fd w is dirty stored =
    stored.shows
    ∙ sym (ap (λ f. tree_after_storing f (visible_tree t)) (file_at t fs fd w is)
    ∙ ap (λ b. cond b (tree_with_change w.path (node_with_bytes (draft_or_stored_bytes t w.path w.unsaved)) (visible_tree t)) (visible_tree t)) dirty)

pub dirty_at : (t : TreeState) (fs : RuntimeFiles) (fd : ℕ) (w : Writer) → Some (file.Writing w) ≡ open_file_at fs fd → is_some w.unsaved ≡ true → not (is_dirty (file_numbered (files_view t fs) fd)) ≡ false
dirty_at t fs fd w is dirty = ap (λ f. not (is_dirty f)) (file_at t fs fd w is) ∙ ap not dirty

writer_at : (t : TreeState) (fs : RuntimeFiles) (fd : ℕ) (w : Writer) → Some (file.Writing w) ≡ open_file_at fs fd → is_some w.unsaved ≡ true →
    (file_numbered (files_view t fs) fd ≡ Some (Writing (writer_view t w))) × ((is_some w.unsaved ≡ true) × ((w.path ≡ w.path) × (draft_or_stored_bytes t w.path w.unsaved ≡ draft_or_stored_bytes t w.path w.unsaved)))
writer_at t fs fd w is dirty = (file_at t fs fd w is, (dirty, (refl, refl)))

-- ---- a sync

sync_step : (t new : TreeState) (fs : RuntimeFiles) (fd : ℕ) (w v : Writer) → IsReady t fs → refusal_by_checks (session_view t fs) (ops.Sync fd) ≡ None → Some (file.Writing w) ≡ open_file_at fs fd → is_some w.unsaved ≡ true →
    IsStoreApplied t w.path (draft_or_stored_bytes t w.path w.unsaved) new → IsSavedWriter new (synced_writer (writer_view t w)) v →
    IsStep (system_state (session_view t fs)) (ops.Sync fd) ops.Done (system_state (session_view new (set fs fd (Some (file.Writing v)))))
sync_step t new fs fd w v ready e is dirty stored saved =
    stored_step t new fs (files_view new (set fs fd (Some (file.Writing v)))) (ops.Sync fd) w.path (draft_or_stored_bytes t w.path w.unsaved) ready.sound (not_failed (session_view t fs) (ops.Sync fd) e) e stored
    refl refl refl refl (dirty_at t fs fd w is dirty) refl refl (λ around. committed_is t new fs fd w is dirty stored) (stored.synced ready.called (files_view t fs) fd (writer_view t w) (writer_at t fs fd w is dirty))
    (ap (λ f. files_with_file (files_view t fs) fd (synced_file f)) (file_at t fs fd w is)
    ∙ ap (λ x. files_with_file (files_view t fs) fd (Some (Writing x))) (sym saved.seen)
    ∙ sym (back_is t new fs fd w v is (only fs fd w (sym is) ready.one)))

pub sync_answers : (t new : TreeState) (fs gs : RuntimeFiles) (now : SessionView) (fd : ℕ) (w v : Writer) → session_view t fs ≡ now → (t.failed ≡ false → IsReady t fs) → refusal_by_checks (session_view t fs) (ops.Sync fd) ≡ None →
    is_writer_with_draft (open_file_at fs fd) ≡ true → Some (file.Writing w) ≡ open_file_at fs fd → IsStoreApplied t w.path (draft_or_stored_bytes t w.path w.unsaved) new → IsSavedWriter new (synced_writer (writer_view t w)) v →
    gs ≡ set fs fd (Some (file.Writing v)) → StepsOrFails now (ops.Sync fd) (Ok ops.Done) (session_view new gs)
sync_answers t new fs gs now fd w v same ready e unsaved is stored saved put =
    subst (λ z. IsStep (system_state z) (ops.Sync fd) ops.Done (system_state (session_view new gs))) same
    (subst (λ z. IsStep (system_state (session_view t fs)) (ops.Sync fd) ops.Done (system_state (session_view new z))) (sym put)
    (sync_step t new fs fd w v (ready (not_failed (session_view t fs) (ops.Sync fd) e)) e is (unsaved_writer (open_file_at fs fd) w unsaved is) stored saved))

pub sync_ready : (t new : TreeState) (fs gs : RuntimeFiles) (fd : ℕ) (w v : Writer) (bytes : List ℕ) → (t.failed ≡ false → IsReady t fs) → refusal_by_checks (session_view t fs) (ops.Sync fd) ≡ None →
    Some (file.Writing w) ≡ open_file_at fs fd → IsStoreApplied t w.path bytes new → IsSavedWriter new (synced_writer (writer_view t w)) v → gs ≡ set fs fd (Some (file.Writing v)) → IsReady new gs
sync_ready t new fs gs fd w v bytes ready e is stored saved put =
    let was = ready (not_failed (session_view t fs) (ops.Sync fd) e) in
    let o = only fs fd w (sym is) was.one in
    let are : writers_among gs ≡ v ∷ [] = ap (λ xs. writers_among xs) put ∙ o.with_other v in
    let path : v.path ≡ w.path = ap (λ (z : session.FileWriter). z.path) saved.seen ∙ sync_path (writer_view t w) in
    record {
      sound = stored.sound;
      called = still_called t.history new.history stored.calls stored.called (ready (not_failed (session_view t fs) (ops.Sync fd) e)).called;
      one = subst (λ ws. length ws ≤ 1) (sym are) (omega arith);
      idle = λ h. stored.none_in_flight;
      written = subst (AllByRecursion (IsWriterReady new)) (sym are) (saved.written, tt);
      read = subst (AreCurrentReaders new.pairs) (sym put)
          (read_saved t.disk t.pairs new.pairs fs fd (Some (file.Writing v)) w.path (v.path ∷ []) refl (ap (map (λ x. x.path)) o.writers) (ap (map (λ x. x.path)) (o.with_other v)) stored.others
          (λ p off. ap (λ b. b || false) (ap (same_path p) path ∙ off)) was.read);
      known = subst (λ xs. AllByRecursion (HasValidIndexCache new.disk) (readers_among xs)) (sym put) (known_written new.disk fs fd v
          (known_stored t new w.path (readers_among fs) stored.others stored.lists (subst (λ written. AllByRecursion (IsCurrentReader t.pairs written) (readers_among fs)) (ap (map (λ x. x.path)) o.writers) was.read) was.known));
    }

-- put where it is
put_same : (gs : RuntimeFiles) (n : ℕ) → is_some (open_file_at gs n) ≡ true → set gs n (open_file_at gs n) ≡ gs
put_same [] n h = refl
put_same (None ∷ gs) zero h = refl
put_same (Some x ∷ gs) zero h = refl
put_same (g ∷ gs) (suc n) h = ap (λ z. g ∷ z) (put_same gs n h)

-- nothing is to be saved
pub sync_idle : (t : TreeState) (fs : RuntimeFiles) (now : SessionView) (fd : ℕ) → session_view t fs ≡ now → (t.failed ≡ false → IsReady t fs) → refusal_by_checks (session_view t fs) (ops.Sync fd) ≡ None → is_some (open_file_at fs fd) ≡ true →
    is_writer_with_draft (open_file_at fs fd) ≡ false → StepsOrFails now (ops.Sync fd) (Ok ops.Done) now
sync_idle t fs now fd same ready e there saved =
    subst (λ z. StepsOrFails now (ops.Sync fd) (Ok ops.Done) z) same
    (kept_answer (session_view t fs) now (ops.Sync fd) (files_view t fs) ops.Done same (sound_by t fs ready) e refl refl
    (ap is_dirty (file_is t fs fd) ∙ not_dirty t (open_file_at fs fd) nothing)
    (ap₂ (λ t f. (ops.Done, record { tree = t; files = f })) (ap (λ f. tree_after_storing f (visible_tree t)) (file_is t fs fd) ∙ no_tree_change t (open_file_at fs fd) (visible_tree t) nothing) files))
  where
    nothing : is_saved (open_file_at fs fd) ≡ true
    nothing = saved_is (open_file_at fs fd) saved

    clean : (o : Option OpenFile) → is_writer_with_draft o ≡ false → synced_file (option_map (file_view t) o) ≡ option_map (file_view t) o
    clean None h = refl
    clean (Some (file.Reading r)) h = refl
    clean (Some (file.Writing w)) h = ap (λ b. Some (Writing (cond b (record (writer_view t w) { dirty = false; turned = false; last_end = None }) (writer_view t w)))) h

    files : files_with_file (files_view t fs) fd (synced_file (file_numbered (files_view t fs) fd)) ≡ files_view t fs
    files = ap (λ f. files_with_file (files_view t fs) fd (synced_file f)) (file_is t fs fd)
        ∙ ap (files_with_file (files_view t fs) fd) (clean (open_file_at fs fd) saved)
        ∙ sym (set_is t fs fd (open_file_at fs fd) there)
        ∙ ap (files_view t) (put_same fs fd there)

-- ---- a close

close_step : (t new : TreeState) (fs : RuntimeFiles) (fd : ℕ) (w : Writer) → IsReady t fs → refusal_by_checks (session_view t fs) (ops.Close fd) ≡ None → Some (file.Writing w) ≡ open_file_at fs fd → is_some w.unsaved ≡ true →
    IsStoreApplied t w.path (draft_or_stored_bytes t w.path w.unsaved) new → IsStep (system_state (session_view t fs)) (ops.Close fd) ops.Done (system_state (session_view new (set fs fd None)))
close_step t new fs fd w ready e is dirty stored =
    stored_step t new fs (files_view new (set fs fd None)) (ops.Close fd) w.path (draft_or_stored_bytes t w.path w.unsaved) ready.sound (not_failed (session_view t fs) (ops.Close fd) e) e stored
    refl (ap (λ f. is_some (file_reader f)) (file_at t fs fd w is)) refl refl (dirty_at t fs fd w is dirty) refl refl (λ around. committed_is t new fs fd w is dirty stored)
    (stored.closed ready.called (files_view t fs) fd (writer_view t w) (writer_at t fs fd w is dirty))
    (sym (left_is t new fs fd w is (only fs fd w (sym is) ready.one)))

pub close_answers : (t new : TreeState) (fs gs : RuntimeFiles) (now : SessionView) (fd : ℕ) (w : Writer) → session_view t fs ≡ now → (t.failed ≡ false → IsReady t fs) → refusal_by_checks (session_view t fs) (ops.Close fd) ≡ None →
    is_writer_with_draft (open_file_at fs fd) ≡ true → Some (file.Writing w) ≡ open_file_at fs fd → IsStoreApplied t w.path (draft_or_stored_bytes t w.path w.unsaved) new → gs ≡ set fs fd None → StepsOrFails now (ops.Close fd) (Ok ops.Done) (session_view new gs)
close_answers t new fs gs now fd w same ready e unsaved is stored left =
    subst (λ z. IsStep (system_state z) (ops.Close fd) ops.Done (system_state (session_view new gs))) same
    (subst (λ z. IsStep (system_state (session_view t fs)) (ops.Close fd) ops.Done (system_state (session_view new z))) (sym left)
    (close_step t new fs fd w (ready (not_failed (session_view t fs) (ops.Close fd) e)) e is (unsaved_writer (open_file_at fs fd) w unsaved is) stored))

pub close_ready : (t new : TreeState) (fs gs : RuntimeFiles) (fd : ℕ) (w : Writer) (bytes : List ℕ) → (t.failed ≡ false → IsReady t fs) → refusal_by_checks (session_view t fs) (ops.Close fd) ≡ None →
    Some (file.Writing w) ≡ open_file_at fs fd → IsStoreApplied t w.path bytes new → gs ≡ set fs fd None → IsReady new gs
close_ready t new fs gs fd w bytes ready e is stored left =
    let was = ready (not_failed (session_view t fs) (ops.Close fd) e) in
    let o = only fs fd w (sym is) was.one in
    let are : writers_among gs ≡ [] = ap (λ xs. writers_among xs) left ∙ o.without in
    record {
      sound = stored.sound;
      called = still_called t.history new.history stored.calls stored.called (ready (not_failed (session_view t fs) (ops.Close fd) e)).called;
      one = subst (λ ws. length ws ≤ 1) (sym are) (omega arith);
      idle = λ h. stored.none_in_flight;
      written = subst (AllByRecursion (IsWriterReady new)) (sym are) tt;
      read = subst (AreCurrentReaders new.pairs) (sym left)
          (read_saved t.disk t.pairs new.pairs fs fd None w.path [] refl (ap (map (λ x. x.path)) o.writers) (ap (map (λ x. x.path)) o.without) stored.others (λ p off. refl) was.read);
      known = subst (λ xs. AllByRecursion (HasValidIndexCache new.disk) (readers_among xs)) (sym left) (known_closed new.disk fs fd
          (known_stored t new w.path (readers_among fs) stored.others stored.lists (subst (λ written. AllByRecursion (IsCurrentReader t.pairs written) (readers_among fs)) (ap (map (λ x. x.path)) o.writers) was.read) was.known));
    }

-- ---- a call fails

pub saving_fails : {B : Type 0} (t new : TreeState) (fs : RuntimeFiles) (files : OpenFilesByNumber) (now : SessionView) (op : Operation) (reply : B → ops.Reply) (e : Error) (r : Result B Error) → session_view t fs ≡ now → refusal_by_checks (session_view t fs) op ≡ None →
    is_remount op ≡ false → is_read_only (viewed_session (session_view t fs)) op ≡ false → renames_itself op ≡ false → IsSoundState t → t.writable ≡ true → IsFailedTree t new → HasErrorCause t new e → r ≡ Err e → StepsOrFails now op (reply_from reply r) (view_with_files new files)
saving_fails t new fs files now op reply e r same accepted other asks itself sound writable broken error is =
    subst (λ z. StepsOrFails z op (reply_from reply r) (view_with_files new files)) same
    (subst (λ z. StepsOrFails (session_view t fs) op (reply_from reply z) (view_with_files new files)) (sym is)
    (error_answers (session_view t fs) op e (view_with_files new files) (ops.Refused (error_refusal e)) error.errors
    (broken_fails e (session_view t fs) op t new files (not_failed (session_view t fs) op accepted) other asks itself sound writable (nothing_asked t) broken error)))

pub close_asks : (t : TreeState) (fs : RuntimeFiles) (fd : ℕ) (w : Writer) → Some (file.Writing w) ≡ open_file_at fs fd → is_read_only (viewed_session (session_view t fs)) (ops.Close fd) ≡ false
close_asks t fs fd w is = ap (λ f. is_some (file_reader f)) (file_at t fs fd w is)
