-- From an operation's checks, and what the tree does, to its turn.
use Rattle.std.proofs.Common.{◌∷◌, length, Option, inl, inr, ℕ, ◌≡◌, ◌≢◌, Bool, true, false, cond, List, [], ◌++◌, Some, None, Result, Ok, Err, refl, sym, ap, ap₂, subst, ◌∙◌, append_assoc, arith, ◌<◌, nat_le}
use Rattle.lfs_fs.proofs.Common.{nat_tests, same_Some, CachedBlocks, CallEvent, Operation, Reply, Refusal, FlagsOfOpen, Failed, OpenFilesByNumber, Session, DiskSummary, Reading, Writing, free_number_of, files_with_file, opened_writer, path_or_root, operation_refusal, operation_effect, Healthy, is_remount, IsStep, is_read_only, opens_existing_file, writes_or_truncates, needs_no_device, renames_itself, spread_step, FileNode, file_bytes, is_file, is_query, not_remount, is_refusal, error_refusal, reply_from, TreeState, visible_tree, tree_summary, IsSoundState, OnlyReadsTree, IsFailedTree, HasErrorCause, IsOperationApplied, IsInFlight, few_flying, in_flight-freed, RuntimeFiles, draft_or_stored_bytes, files_view, has_unsaved, reader_view, readers_among, writer_view, writers_among, writers_paths, vacates_path, OpenFilesStayReady, UnrelatedOperationKeepsFiles, KeepsWriterFiles, AffectsNoOpenFile, zero_gstate, pairs_gstate, Path, AllByRecursion, list_any, SessionView, IsReady, AreSoundIfUnsaved, IsWriterReady, session_view, view_with_files, viewed_session, system_state, refusal_by_checks, FailsChecks, IsChecksResult, SessionFails, StepsOrFails}
use Rattle.lfs_model.specs.session.Operations as ops
use Rattle.lfs_model.specs.session.Recovery.{recovers_first}
use Rattle.lfs_model.specs.session.Run.{edits_slots}
use Rattle.lfs_model.proofs.StepsMade.{IsOver, idle_step, refused_step, asked_step, failed_step}
use Rattle.lfs_model.proofs.Unmoved.{moved_behind}
use Rattle.std.specs.Prelude.{◌⊎◌, ◌||◌, OnOk, OnErr, IfOk, IfErr, is_err, is_none, is_some, not, if◌then◌else◌}
use Rattle.lfs_model.specs.session.TreeEdits.{tree_creating as add_file}
use Rattle.lfs_device.specs.declared.error.Error.{Error}
use Rattle.lfs_device.specs.declared.error.Error.TheVariants.{Io, NoMemory}
use Rattle.lfs_fs.specs.declared.files.OpenFile.TheVariants as file
use Rattle.lfs_fs.specs.declared.files.Writer.{Writer}
use Rattle.lfs_fs.specs.declared.files.UnsavedContents.{UnsavedContents}
use Rattle.lfs_fs.proofs.Failing.{reads_write_nothing, nothing_written, failed_system, healthy_system, asking_fails, broken_fails, memory_fails}
use Rattle.lfs_fs.proofs.Calls.{still_called}
use Rattle.lfs_fs.proofs.OpenReaders.{none_read, read_carried}
use Rattle.lfs_fs.proofs.ReadersKnow.{known_carried}

-- the tree, further on by some calls
later : TreeState → List CallEvent → CachedBlocks → TreeState
later t events cache = record t { history = events ++ t.history; cache = cache }

asked_later : (old new : TreeState) (asked : OnlyReadsTree old new) → new ≡ later old asked.reads.events new.cache
unfolding later
asked_later old new asked = asked.same ∙ ap (λ history. record old { history = history; cache = new.cache }) asked.reads.extends

pub is_over : (t : TreeState) (files : OpenFilesByNumber) → IsSoundState t → IsOver t.disk t.pairs (record { tree = visible_tree t; files = files }) (tree_summary t)
is_over t files sound = record {
  accepted = sound.accepted;
  surrounds = record { profile = refl; block_size = refl; page = refl; block_count = refl; used = refl; gstate = refl; writable = (sound.fits, sound.is_kept) };
  tree = refl;
}

-- ---- a refusal

pub refused_answer : (old : SessionView) (op : Operation) (refusal : Refusal) (tree : TreeState) → (old.tree.failed ≡ false → IsSoundState old.tree) → is_remount op ≡ false →
    OnlyReadsTree old.tree tree → refusal_by_checks old op ≡ Some refusal → IsStep (system_state old) op (ops.Refused refusal) (system_state (view_with_files tree old.files))
unfolding later
refused_answer old op refusal tree sound other asked e = go old.tree.failed refl
  where
    go : (b : Bool) → old.tree.failed ≡ b → IsStep (system_state old) op (ops.Refused refusal) (system_state (view_with_files tree old.files))
    go true f =
        let is : Failed ≡ refusal = same_Some Failed refusal (sym (ap (λ b. cond b (Some Failed) (operation_refusal (tree_summary old.tree) (viewed_session old) op)) f) ∙ e) in
        subst (λ z. IsStep (system_state old) op (ops.Refused z) (system_state (view_with_files tree old.files))) is
        (subst (λ t. IsStep (system_state old) op (ops.Refused Failed) (system_state (view_with_files t old.files))) (sym (asked.failed f))
        (subst (λ m. IsStep m op (ops.Refused Failed) m) (sym (failed_system old f)) (failed_step old.tree.disk (tree_summary old.tree) op old.tree.history other)))
    go false f =
        let is : operation_refusal (tree_summary old.tree) (viewed_session old) op ≡ Some refusal = sym (ap (λ b. cond b (Some Failed) (operation_refusal (tree_summary old.tree) (viewed_session old) op)) f) ∙ e in
        let new = view_with_files (later old.tree asked.reads.events tree.cache) old.files in
        subst (λ t. IsStep (system_state old) op (ops.Refused refusal) (system_state (view_with_files t old.files))) (sym (asked_later old.tree tree asked))
        (subst (λ m. IsStep m op (ops.Refused refusal) (system_state new)) (sym (healthy_system old f))
        (subst (λ m. IsStep (record { disk = old.tree.disk; calls = old.tree.history; state = Healthy (viewed_session old) }) op (ops.Refused refusal) m) (sym (healthy_system new f))
        (refused_step old.tree.disk old.tree.pairs (viewed_session old) (tree_summary old.tree) op refusal asked.reads.events old.tree.history (is_over old.tree old.files (sound f)) other is (reads_write_nothing old.tree.disk.blocks asked.reads.events asked.reads.each))))

-- ---- an accepted operation

pub not_failed : (h : SessionView) (op : Operation) → refusal_by_checks h op ≡ None → h.tree.failed ≡ false
not_failed h op e = go h.tree.failed refl
  where
    go : (b : Bool) → h.tree.failed ≡ b → h.tree.failed ≡ false
    go false f = f
    go true f = absurd (let k : Some Failed ≡ None = sym (ap (λ b. cond b (Some Failed) (operation_refusal (tree_summary h.tree) (viewed_session h) op)) f) ∙ e in cc)

pub not_refused : (h : SessionView) (op : Operation) → refusal_by_checks h op ≡ None → operation_refusal (tree_summary h.tree) (viewed_session h) op ≡ None
not_refused h op e = sym (ap (λ b. cond b (Some Failed) (operation_refusal (tree_summary h.tree) (viewed_session h) op)) (not_failed h op e)) ∙ e

-- by reads alone, where there is nothing to do
pub idle_answer : (old : SessionView) (op : Operation) (tree : TreeState) (files : OpenFilesByNumber) → (old.tree.failed ≡ false → IsSoundState old.tree) → (asked : OnlyReadsTree old.tree tree) → refusal_by_checks old op ≡ None →
    is_remount op ≡ false → (operation_effect (tree_summary old.tree) (viewed_session old) op).1 ≡ record { tree = visible_tree old.tree; files = files } →
    recovers_first op ≡ false → edits_slots (viewed_session old) op ≡ false → (needs_no_device (viewed_session old) op ≡ true → asked.reads.events ≡ []) →
    IsStep (system_state old) op (operation_effect (tree_summary old.tree) (viewed_session old) op).0 (system_state (view_with_files tree files))
unfolding later
idle_answer old op tree files sound asked e other same none still silent =
    let works = not_failed old op e in
    let events = asked.reads.events in
    let to = healthy_system (view_with_files (later old.tree events tree.cache) files) works
    ∙ ap (λ (s : Session). record { disk = old.tree.disk; calls = events ++ old.tree.history; state = Healthy s }) (sym same) in
    subst (λ t. IsStep (system_state old) op (operation_effect (tree_summary old.tree) (viewed_session old) op).0 (system_state (view_with_files t files))) (sym (asked_later old.tree tree asked))
    (subst (λ m. IsStep m op (operation_effect (tree_summary old.tree) (viewed_session old) op).0 (system_state (view_with_files (later old.tree events tree.cache) files))) (sym (healthy_system old works))
    (subst (λ m. IsStep (record { disk = old.tree.disk; calls = old.tree.history; state = Healthy (viewed_session old) }) op (operation_effect (tree_summary old.tree) (viewed_session old) op).0 m) (sym to)
    (idle_step old.tree.disk old.tree.pairs (viewed_session old) (tree_summary old.tree) op events old.tree.history (is_over old.tree old.files (sound works)) (not_refused old op e) other
    (ap (λ (s : Session). s.tree) same) none still (reads_write_nothing old.tree.disk.blocks events asked.reads.each) silent)))

-- by reads alone
pub asked_answer : (old : SessionView) (op : Operation) (tree : TreeState) (files : OpenFilesByNumber) → (old.tree.failed ≡ false → IsSoundState old.tree) → (asked : OnlyReadsTree old.tree tree) → refusal_by_checks old op ≡ None →
    is_remount op ≡ false → is_read_only (viewed_session old) op ≡ true → (operation_effect (tree_summary old.tree) (viewed_session old) op).1 ≡ record { tree = visible_tree old.tree; files = files } →
    recovers_first op ≡ false → edits_slots (viewed_session old) op ≡ false → (needs_no_device (viewed_session old) op ≡ true → asked.reads.events ≡ []) →
    IsStep (system_state old) op (operation_effect (tree_summary old.tree) (viewed_session old) op).0 (system_state (view_with_files tree files))
unfolding later
asked_answer old op tree files sound asked e other asks same none still silent =
    let works = not_failed old op e in
    let events = asked.reads.events in
    let to = healthy_system (view_with_files (later old.tree events tree.cache) files) works
    ∙ ap (λ (s : Session). record { disk = old.tree.disk; calls = events ++ old.tree.history; state = Healthy s }) (sym same) in
    subst (λ t. IsStep (system_state old) op (operation_effect (tree_summary old.tree) (viewed_session old) op).0 (system_state (view_with_files t files))) (sym (asked_later old.tree tree asked))
    (subst (λ m. IsStep m op (operation_effect (tree_summary old.tree) (viewed_session old) op).0 (system_state (view_with_files (later old.tree events tree.cache) files))) (sym (healthy_system old works))
    (subst (λ m. IsStep (record { disk = old.tree.disk; calls = old.tree.history; state = Healthy (viewed_session old) }) op (operation_effect (tree_summary old.tree) (viewed_session old) op).0 m) (sym to)
    (asked_step old.tree.disk old.tree.pairs (viewed_session old) (tree_summary old.tree) op events old.tree.history (is_over old.tree old.files (sound works)) (not_refused old op e) other asks
    (ap (λ (s : Session). s.tree) same) none still (reads_write_nothing old.tree.disk.blocks events asked.reads.each) silent)))

-- the tree carries it out
pub carried_answer : (old : SessionView) (op : Operation) (mid new : TreeState) (files : OpenFilesByNumber) → (old.tree.failed ≡ false → IsSoundState old.tree) → (old.tree.failed ≡ false → old.tree.history ≢ []) → OnlyReadsTree old.tree mid → refusal_by_checks old op ≡ None →
    IsOperationApplied mid op new → is_remount op ≡ false → is_read_only (viewed_session old) op ≡ false → writes_or_truncates op ≡ false → opens_existing_file (viewed_session old) op ≡ false → needs_no_device (viewed_session old) op ≡ false →
    (operation_effect (tree_summary old.tree) (viewed_session old) op).1.files ≡ files →
    IsStep (system_state old) op (operation_effect (tree_summary old.tree) (viewed_session old) op).0 (system_state (view_with_files new files))
unfolding later
carried_answer old op mid new files sound called asked e carried other asks fill creates silent opened =
    let works = not_failed old op e in
    let events = asked.reads.events in
    let c = subst (λ t. IsOperationApplied t op new) (asked_later old.tree mid asked) carried in
    let is : record { tree = visible_tree new; files = files } ≡ (operation_effect (tree_summary old.tree) (viewed_session old) op).1 = ap₂ (λ t f. record { tree = t; files = f }) (c.shows (tree_summary old.tree) old.files) (sym opened) in
    let to = healthy_system (view_with_files new files) c.works
    ∙ ap₂ (λ (calls : List CallEvent) (s : Session). record { disk = new.disk; calls = calls; state = Healthy s }) (c.called ∙ sym (append_assoc c.calls events old.tree.history)) is in
    let writes = reads_write_nothing old.tree.disk.blocks events asked.reads.each in
    subst (λ m. IsStep m op (operation_effect (tree_summary old.tree) (viewed_session old) op).0 (system_state (view_with_files new files))) (sym (healthy_system old works))
    (subst (λ m. IsStep (record { disk = old.tree.disk; calls = old.tree.history; state = Healthy (viewed_session old) }) op (operation_effect (tree_summary old.tree) (viewed_session old) op).0 m) (sym to)
    (spread_step old.tree.disk old.tree.pairs (viewed_session old) (tree_summary old.tree) op new.disk new.pairs (c.calls ++ events) old.tree.history (is_over old.tree old.files (sound works)) (not_refused old op e)
    (record {
      geometry = c.geometry;
      other = other;
      asks = asks;
      fills = fill;
      opens = λ h f. absurd (let k = sym creates ∙ h in cc);
      silent = λ h. absurd (let k = sym silent ∙ h in cc);
      itself = λ h. ((c.itself h).0, nothing_written c.calls events (c.itself h).1 writes);
      nothing_left = λ h k. ((c.nothing_left h k).0, nothing_written c.calls events (c.nothing_left h k).1 writes);
    })
    (record {
      accepted = c.sound.accepted;
      writable = c.fits;
      recovered = c.recovered;
      tree = λ around. c.shows around old.files;
      arranged = moved_behind old.tree.disk old.tree.pairs (viewed_session old) op c.calls events new.disk new.pairs (c.arranged (still_called old.tree.history (events ++ old.tree.history) events refl (called works)) old.files);
    })))

-- ---- calls

-- checks that ended in an error
pub ended : (old : SessionView) (op : Operation) (e : Error) (tree : TreeState) → (old.tree.failed ≡ false → IsSoundState old.tree) → is_remount op ≡ false → FailsChecks (is_refusal e) old op e tree →
    StepsOrFails old op (cond (is_refusal e) (Ok (ops.Refused (error_refusal e))) (Err e)) (view_with_files tree old.files)
ended old op e tree sound other h = go (is_refusal e) h
  where
    go : (b : Bool) → FailsChecks b old op e tree → StepsOrFails old op (cond b (Ok (ops.Refused (error_refusal e))) (Err e)) (view_with_files tree old.files)
    go true k = refused_answer old op (error_refusal e) tree sound other k.0 k.1
    go false k = asking_fails e old op tree old.files k.1 k.0 k.2

-- the same of a call that gives the error on
pub ended_call : {B : Type 0} (old now : SessionView) (op : Operation) (reply : B → Reply) (e : Error) (tree : TreeState) (r : Result B Error) → old ≡ now → (old.tree.failed ≡ false → IsSoundState old.tree) →
    is_remount op ≡ false → FailsChecks (is_refusal e) old op e tree → r ≡ Err e → StepsOrFails now op (reply_from reply r) (view_with_files tree old.files)
ended_call old now op reply e tree r same sound other h is =
    subst (λ z. StepsOrFails z op (reply_from reply r) (view_with_files tree old.files)) same
    (subst (λ z. StepsOrFails old op (reply_from reply z) (view_with_files tree old.files)) (sym is) (ended old op e tree sound other h))

-- ---- questions

pub question_only_asks : (s : Session) (op : Operation) → is_query op ≡ true → is_read_only s op ≡ true
question_only_asks s (ops.ListAll path) e = refl
question_only_asks s (ops.Stat path) e = refl
question_only_asks s (ops.GetAttr path kind) e = refl
question_only_asks s ops.AskGstate e = refl
question_only_asks s (ops.IsUsed block) e = refl
question_only_asks s ops.UsedCount e = refl
question_only_asks s _ e = absurd (cc)

pub question_keeps : (around : DiskSummary) (s : Session) (op : Operation) → is_query op ≡ true → (operation_effect around s op).1 ≡ s
question_keeps around s (ops.ListAll path) e = refl
question_keeps around s (ops.Stat path) e = refl
question_keeps around s (ops.GetAttr path kind) e = refl
question_keeps around s ops.AskGstate e = refl
question_keeps around s (ops.IsUsed block) e = refl
question_keeps around s ops.UsedCount e = refl
question_keeps around s _ e = absurd (cc)

pub question_recovers_nothing : (op : Operation) → is_query op ≡ true → recovers_first op ≡ false
question_recovers_nothing (ops.ListAll path) e = refl
question_recovers_nothing (ops.Stat path) e = refl
question_recovers_nothing (ops.GetAttr path kind) e = refl
question_recovers_nothing ops.AskGstate e = refl
question_recovers_nothing (ops.IsUsed block) e = refl
question_recovers_nothing ops.UsedCount e = refl
question_recovers_nothing _ e = absurd (cc)

pub question_lays_nothing : (s : Session) (op : Operation) → is_query op ≡ true → edits_slots s op ≡ false
question_lays_nothing s (ops.ListAll path) e = refl
question_lays_nothing s (ops.Stat path) e = refl
question_lays_nothing s (ops.GetAttr path kind) e = refl
question_lays_nothing s ops.AskGstate e = refl
question_lays_nothing s (ops.IsUsed block) e = refl
question_lays_nothing s ops.UsedCount e = refl
question_lays_nothing s _ e = absurd (cc)

-- a question that reads alone answer
pub question_answers : {A : Type 0} (old : SessionView) (op : Operation) (reply : A → Reply) (P : A → Type 0) (checked : Result A Error) (tree : TreeState) → (old.tree.failed ≡ false → IsSoundState old.tree) →
    is_query op ≡ true → needs_no_device (viewed_session old) op ≡ false → ((x : A) → P x → reply x ≡ (operation_effect (tree_summary old.tree) (viewed_session old) op).0) →
    IsChecksResult old op P checked tree → StepsOrFails old op (reply_from reply checked) (view_with_files tree old.files)
question_answers old op reply P (Err e) tree sound asks silent answer h = ended old op e tree sound (not_remount op asks) h
question_answers old op reply P (Ok x) tree sound asks silent answer h =
    subst (λ r. IsStep (system_state old) op r (system_state (view_with_files tree old.files))) (sym (answer x h.2))
    (asked_answer old op tree old.files sound h.0 h.1 (not_remount op asks) (question_only_asks (viewed_session old) op asks) (question_keeps (tree_summary old.tree) (viewed_session old) op asks) (question_recovers_nothing op asks) (question_lays_nothing (viewed_session old) op asks) (λ k. absurd (let l = sym silent ∙ k in cc)))

pub sound_later : (old new : TreeState) → IsSoundState old → OnlyReadsTree old new → IsSoundState new
sound_later old new h asked =
    subst IsSoundState (sym asked.same) (again h)
  where
    again : IsSoundState old → IsSoundState (record old { history = new.history; cache = new.cache })
    again h = record { accepted = h.accepted; fits = h.fits; is_kept = h.is_kept; used = h.used; size = h.size }

unsaved_later : (t : TreeState) (history : List CallEvent) (cache : CachedBlocks) (w : Writer) (u : Option UnsavedContents) → AreSoundIfUnsaved t w u → AreSoundIfUnsaved (record t { history = history; cache = cache }) w u
unsaved_later t history cache w None h = tt
unsaved_later t history cache w (Some u) h = record {
  over = record {
    file = h.over.file;
    stands = record { geometry = h.over.stands.geometry; divided = h.over.stands.divided; stands = h.over.stands.stands };
    owned = h.over.owned;
  };
  kept = h.kept;
  form = h.form;
  room = h.room;
}

written_later : (t : TreeState) (history : List CallEvent) (cache : CachedBlocks) (ws : List Writer) → AllByRecursion (IsWriterReady t) ws → AllByRecursion (IsWriterReady (record t { history = history; cache = cache })) ws
written_later t history cache [] h = h
written_later t history cache (w ∷ ws) h = (record { writable = h.0.writable; settled = h.0.settled; there = h.0.there; size = same w.unsaved (h.0.size); changed = unsaved_later t history cache w w.unsaved h.0.changed }, written_later t history cache ws h.1)
  where
    same : (u : Option UnsavedContents) → length (draft_or_stored_bytes t w.path u) ≡ w.size → length (draft_or_stored_bytes (record t { history = history; cache = cache }) w.path u) ≡ w.size
    same None e = e
    same (Some u) e = e

pub ready_later : (old new : TreeState) (files : RuntimeFiles) → IsReady old files → OnlyReadsTree old new → IsReady new files
ready_later old new files h asked =
    subst (λ t. IsReady t files) (sym asked.same) (again h)
  where
    again : IsReady old files → IsReady (record old { history = new.history; cache = new.cache }) files
    again h = record {
      sound = record { accepted = h.sound.accepted; fits = h.sound.fits; is_kept = h.sound.is_kept; used = h.sound.used; size = h.sound.size };
      one = h.one;
      called = still_called old.history new.history asked.reads.events asked.reads.extends h.called;
      idle = h.idle;
      written = written_later old new.history new.cache (writers_among files) h.written;
      read = h.read;
      known = h.known;
    }

pub asked_ready : (old new : TreeState) (files : RuntimeFiles) → (old.failed ≡ false → IsReady old files) → OnlyReadsTree old new → new.failed ≡ false → IsReady new files
asked_ready old new files ready asked f = ready_later old new files (ready (sym (ap (λ (t : TreeState). t.failed) asked.same) ∙ f)) asked

pub sound_by : (t : TreeState) (files : RuntimeFiles) → (t.failed ≡ false → IsReady t files) → t.failed ≡ false → IsSoundState t
sound_by t files ready f = (ready f).sound

pub called_before : (t : TreeState) (files : RuntimeFiles) → (t.failed ≡ false → IsReady t files) → t.failed ≡ false → t.history ≢ []
called_before t files ready f = (ready f).called

-- the checks leave a tree that is ready, or a broken one
pub checked_ready : {A : Type 0} (t : TreeState) (files : RuntimeFiles) (op : Operation) (P : A → Type 0) (r : Result A Error) (tree : TreeState) → (t.failed ≡ false → IsReady t files) → IsChecksResult (session_view t files) op P r tree →
    tree.failed ≡ false → IsReady tree files
checked_ready t files op P (Ok x) tree ready h f = asked_ready t tree files ready h.0 f
checked_ready t files op P (Err e) tree ready h f = go (is_refusal e) h
  where
    go : (b : Bool) → FailsChecks b (session_view t files) op e tree → IsReady tree files
    go true k = asked_ready t tree files ready k.0 f
    go false k = absurd (let l = sym k.0.failed ∙ f in cc)

-- ---- the open files over a tree that was only asked

-- a session that failed has no files
pub with_files : (old : SessionView) (op : Operation) (r : Result Reply Error) (tree : TreeState) (f g : OpenFilesByNumber) → (tree.failed ≡ false → f ≡ g) → StepsOrFails old op r (view_with_files tree f) → StepsOrFails old op r (view_with_files tree g)
with_files old op r tree f g same h = go tree.failed refl
  where
    moved : (r : Result Reply Error) → system_state (view_with_files tree f) ≡ system_state (view_with_files tree g) → StepsOrFails old op r (view_with_files tree f) → StepsOrFails old op r (view_with_files tree g)
    moved (Ok reply) e k = subst (λ m. IsStep (system_state old) op reply m) e k
    moved (Err x) e k = subst (λ m. SessionFails x (system_state old) op m) e k

    go : (b : Bool) → tree.failed ≡ b → StepsOrFails old op r (view_with_files tree g)
    go false e = subst (λ z. StepsOrFails old op r (view_with_files tree z)) (same e) h
    go true e = moved r (failed_system (view_with_files tree f) e ∙ sym (failed_system (view_with_files tree g) e)) h

pub files_asked : (old : SessionView) (op : Operation) (r : Result Reply Error) (t tree : TreeState) (files : RuntimeFiles) → (tree.failed ≡ false → OnlyReadsTree t tree) → StepsOrFails old op r (view_with_files tree (files_view t files)) → StepsOrFails old op r (session_view tree files)
files_asked old op r t tree files asked h = with_files old op r tree (files_view t files) (files_view tree files) (λ e. sym (ap (λ z. files_view z files) (asked e).same)) h

pub asked_by_checks : {A : Type 0} (t : TreeState) (files : RuntimeFiles) (op : Operation) (P : A → Type 0) (r : Result A Error) (tree : TreeState) → IsChecksResult (session_view t files) op P r tree → tree.failed ≡ false → OnlyReadsTree t tree
asked_by_checks t files op P (Ok x) tree h f = h.0
asked_by_checks t files op P (Err e) tree h f = go (is_refusal e) h
  where
    go : (b : Bool) → FailsChecks b (session_view t files) op e tree → OnlyReadsTree t tree
    go true k = k.0
    go false k = absurd (let l = sym k.0.failed ∙ f in cc)

pub no_refusal_io : (e : Error) → (e ≡ Io) ⊎ (e ≡ NoMemory) → is_refusal e ≡ false
no_refusal_io e (inl h) = ap is_refusal h
no_refusal_io e (inr h) = ap is_refusal h

-- an error that is no refusal
pub error_answers : (old : SessionView) (op : Operation) (e : Error) (new : SessionView) (reply : Reply) → (e ≡ Io) ⊎ (e ≡ NoMemory) → SessionFails e (system_state old) op (system_state new) →
    StepsOrFails old op (cond (is_refusal e) (Ok reply) (Err e)) new
error_answers old op e new reply is fails = subst (λ b. StepsOrFails old op (cond b (Ok reply) (Err e)) new) (sym (no_refusal_io e is)) fails

-- an operation that the tree carries out once no check refuses it
pub done_answers : (K : Type 0) (old now : SessionView) (op : Operation) (mid new : TreeState) (r : Result (Unit {0}) Error) → old ≡ now → (old.tree.failed ≡ false → IsSoundState old.tree) → (old.tree.failed ≡ false → old.tree.history ≢ []) → OnlyReadsTree old.tree mid → refusal_by_checks old op ≡ None →
    is_remount op ≡ false → is_read_only (viewed_session old) op ≡ false → writes_or_truncates op ≡ false → opens_existing_file (viewed_session old) op ≡ false → needs_no_device (viewed_session old) op ≡ false →
    (operation_effect (tree_summary old.tree) (viewed_session old) op).0 ≡ ops.Done → (operation_effect (tree_summary old.tree) (viewed_session old) op).1.files ≡ old.files → renames_itself op ≡ false → old.tree.writable ≡ true →
    OnOk r K → (K → IsOperationApplied mid op new) → OnErr r (IsFailedTree mid new) → IfErr r (HasErrorCause mid new) → StepsOrFails now op (reply_from (λ u. ops.Done) r) (view_with_files new old.files)
done_answers K old now op mid new r is sound called asked e other asks fill creates silent done files itself writable carried from broken errors =
    subst (λ h. StepsOrFails h op (reply_from (λ u. ops.Done) r) (view_with_files new old.files)) is (go r carried broken errors)
  where
    go : (r : Result (Unit {0}) Error) → OnOk r K → OnErr r (IsFailedTree mid new) → IfErr r (HasErrorCause mid new) → StepsOrFails old op (reply_from (λ u. ops.Done) r) (view_with_files new old.files)
    go (Ok u) k broken errors =
        subst (λ r. IsStep (system_state old) op r (system_state (view_with_files new old.files))) done (carried_answer old op mid new old.files sound called asked e (from k) other asks fill creates silent files)
    go (Err error) k broken errors =
        error_answers old op error _ (ops.Refused (error_refusal error)) errors.errors (broken_fails error old op mid new old.files (not_failed old op e) other asks itself (sound (not_failed old op e)) writable asked broken errors)

-- a question's call
pub question_call : {A : Type 0} (old now : SessionView) (op : Operation) (reply : A → Reply) (P : A → Type 0) (checked : Result A Error) (tree : TreeState) → old ≡ now →
    (old.tree.failed ≡ false → IsSoundState old.tree) → is_query op ≡ true → needs_no_device (viewed_session old) op ≡ false → ((x : A) → P x → reply x ≡ (operation_effect (tree_summary old.tree) (viewed_session old) op).0) →
    IsChecksResult old op P checked tree → StepsOrFails now op (reply_from reply checked) (view_with_files tree old.files)
question_call old now op reply P checked tree same sound asks silent answer h =
    subst (λ z. StepsOrFails z op (reply_from reply checked) (view_with_files tree old.files)) same (question_answers old op reply P checked tree sound asks silent answer h)

-- an operation by reads alone that changes the open files
pub files_answers : (old now : SessionView) (op : Operation) (tree : TreeState) (files : OpenFilesByNumber) (reply : Reply) → old ≡ now → (old.tree.failed ≡ false → IsSoundState old.tree) → OnlyReadsTree old.tree tree → refusal_by_checks old op ≡ None →
    is_remount op ≡ false → is_read_only (viewed_session old) op ≡ true → recovers_first op ≡ false → edits_slots (viewed_session old) op ≡ false → needs_no_device (viewed_session old) op ≡ false →
    operation_effect (tree_summary old.tree) (viewed_session old) op ≡ (reply, record { tree = visible_tree old.tree; files = files }) → StepsOrFails now op (Ok reply) (view_with_files tree files)
files_answers old now op tree files reply same sound asked e other asks none still silent is =
    subst (λ z. StepsOrFails z op (Ok reply) (view_with_files tree files)) same
    (subst (λ r. IsStep (system_state old) op r (system_state (view_with_files tree files))) (ap (λ (z : Reply × Session). z.0) is)
    (asked_answer old op tree files sound asked e other asks (ap (λ (z : Reply × Session). z.1) is) none still (λ k. absurd (let l = sym silent ∙ k in cc))))

abbrev pub nothing_asked : (t : TreeState) → OnlyReadsTree t t
nothing_asked t = record { same = refl; failed = λ e. refl; reads = record { events = []; extends = refl; each = tt }; no_fault = refl }

-- a refusal without a call
pub ended_kept : {B : Type 0} (old now : SessionView) (op : Operation) (reply : B → Reply) (e : Error) (r : Result B Error) → old ≡ now → (old.tree.failed ≡ false → IsSoundState old.tree) →
    is_remount op ≡ false → (is_refusal e ≡ true) × (refusal_by_checks old op ≡ Some (error_refusal e)) → r ≡ Err e → StepsOrFails now op (reply_from reply r) now
ended_kept old now op reply e r same sound other h is =
    subst (λ z. StepsOrFails z op (reply_from reply r) z) same
    (subst (λ z. StepsOrFails old op (reply_from reply z) old) (sym is)
    (ended old op e old.tree sound other (subst (λ b. FailsChecks b old op e old.tree) (sym h.0) (nothing_asked old.tree, h.1, λ k. refl))))

-- an operation without a call that changes the open files
pub files_kept : (old now : SessionView) (op : Operation) (files : OpenFilesByNumber) (reply : Reply) → old ≡ now → (old.tree.failed ≡ false → IsSoundState old.tree) → refusal_by_checks old op ≡ None →
    is_remount op ≡ false → is_read_only (viewed_session old) op ≡ true → recovers_first op ≡ false → edits_slots (viewed_session old) op ≡ false → needs_no_device (viewed_session old) op ≡ false →
    operation_effect (tree_summary old.tree) (viewed_session old) op ≡ (reply, record { tree = visible_tree old.tree; files = files }) → StepsOrFails now op (Ok reply) (view_with_files old.tree files)
files_kept old now op files reply same sound e = files_answers old now op old.tree files reply same sound (nothing_asked old.tree) e

-- a file opened for reading
pub reader_answers : (old now : SessionView) (bytes : List ℕ) (flags : FlagsOfOpen) (tree : TreeState) (files : OpenFilesByNumber) (r : Result ℕ Error) → old ≡ now → (old.tree.failed ≡ false → IsSoundState old.tree) → flags.write ≡ false →
    OnlyReadsTree old.tree tree → refusal_by_checks old (ops.Open bytes flags) ≡ None → is_none (visible_tree old.tree (path_or_root bytes)) ≡ false →
    false ≡ is_err r → IfOk r (λ fd. fd ≡ free_number_of old.files) → OnOk r (files ≡ files_with_file old.files (free_number_of old.files) (Some (Reading (record { path = path_or_root bytes; position = 0 })))) →
    StepsOrFails now (ops.Open bytes flags) (reply_from ops.Opened r) (view_with_files tree files)
reader_answers old now bytes flags tree files (Err e) same sound write asked e' there ok number added = absurd (cc)
reader_answers old now bytes flags tree files (Ok fd) same sound write asked e there ok number added =
    files_answers old now (ops.Open bytes flags) tree files (ops.Opened fd) same sound asked e refl (ap not write) write write refl
    (ap₂ (λ n s. (ops.Opened n, s)) (sym number) (ap₂ (λ t f. record { tree = t; files = f }) kept (sym brought)))
  where
    kept : (if is_none (visible_tree old.tree (path_or_root bytes)) then add_file (path_or_root bytes) (FileNode [] []) (visible_tree old.tree) else visible_tree old.tree) ≡ visible_tree old.tree
    kept = ap (λ b. if b then add_file (path_or_root bytes) (FileNode [] []) (visible_tree old.tree) else visible_tree old.tree) there

    brought : files ≡ files_with_file old.files (free_number_of old.files) (Some (if flags.write then Writing (opened_writer (path_or_root bytes) flags (file_bytes (visible_tree old.tree (path_or_root bytes)))) else Reading (record { path = path_or_root bytes; position = 0 })))
    brought = added
        ∙ ap (λ b. files_with_file old.files (free_number_of old.files) (Some (if b then Writing (opened_writer (path_or_root bytes) flags (file_bytes (visible_tree old.tree (path_or_root bytes)))) else Reading (record { path = path_or_root bytes; position = 0 })))) (sym write)

-- no memory is found for it
pub reader_fails : (old now : SessionView) (bytes : List ℕ) (flags : FlagsOfOpen) (tree left : TreeState) (files : OpenFilesByNumber) (r : Result ℕ Error) → old ≡ now → OnlyReadsTree old.tree tree → refusal_by_checks old (ops.Open bytes flags) ≡ None →
    true ≡ is_err r → IfErr r (λ e. e ≡ NoMemory) → left ≡ record tree { failed = true } → StepsOrFails now (ops.Open bytes flags) (reply_from ops.Opened r) (view_with_files left files)
reader_fails old now bytes flags tree left files (Ok fd) same asked e ok error is = absurd (cc)
reader_fails old now bytes flags tree left files (Err x) same asked e ok error is =
    subst (λ z. StepsOrFails z (ops.Open bytes flags) (cond (is_refusal x) (Ok (ops.Refused (error_refusal x))) (Err x)) (view_with_files left files)) same
    (subst (λ z. StepsOrFails old (ops.Open bytes flags) (cond (is_refusal z) (Ok (ops.Refused (error_refusal z))) (Err z)) (view_with_files left files)) (sym error)
    (subst (λ t. SessionFails NoMemory (system_state old) (ops.Open bytes flags) (system_state (view_with_files t files))) (sym is)
    (memory_fails old (ops.Open bytes flags) tree files (not_failed old (ops.Open bytes flags) e) asked)))

pub few_readers : (n : ℕ) → nat_le 16 n ≡ false → n < 16
few_readers n e = grind (arith, nat_tests)

-- an operation that makes no call and leaves the tree
pub kept_answer : (old now : SessionView) (op : Operation) (files : OpenFilesByNumber) (reply : Reply) → old ≡ now → (old.tree.failed ≡ false → IsSoundState old.tree) → refusal_by_checks old op ≡ None →
    is_remount op ≡ false → recovers_first op ≡ false → edits_slots (viewed_session old) op ≡ false →
    operation_effect (tree_summary old.tree) (viewed_session old) op ≡ (reply, record { tree = visible_tree old.tree; files = files }) → StepsOrFails now op (Ok reply) (view_with_files old.tree files)
kept_answer old now op files reply same sound e other none still is =
    let works = not_failed old op e in
    let to = healthy_system (view_with_files old.tree files) works
    ∙ ap (λ (s : Session). record { disk = old.tree.disk; calls = old.tree.history; state = Healthy s }) (sym (ap (λ (z : Reply × Session). z.1) is)) in
    subst (λ z. StepsOrFails z op (Ok reply) (view_with_files old.tree files)) same
    (subst (λ r. IsStep (system_state old) op r (system_state (view_with_files old.tree files))) (ap (λ (z : Reply × Session). z.0) is)
    (subst (λ m. IsStep m op (operation_effect (tree_summary old.tree) (viewed_session old) op).0 (system_state (view_with_files old.tree files))) (sym (healthy_system old works))
    (subst (λ m. IsStep (record { disk = old.tree.disk; calls = old.tree.history; state = Healthy (viewed_session old) }) op (operation_effect (tree_summary old.tree) (viewed_session old) op).0 m) (sym to)
    (idle_step old.tree.disk old.tree.pairs (viewed_session old) (tree_summary old.tree) op [] old.tree.history (is_over old.tree old.files (sound works)) (not_refused old op e) other
    (ap (λ (z : Reply × Session). z.1.tree) is) none still (refl, refl) (λ k. refl)))))

-- ---- files while the tree changes

-- every file is
abbrev pub KeepsFiles : TreeState → TreeState → Type 0
KeepsFiles t s = (p : Path) → is_file (visible_tree t p) ≡ true → (is_file (visible_tree s p) ≡ true) × (file_bytes (visible_tree s p) ≡ file_bytes (visible_tree t p))

unsaved_none : (u : Option UnsavedContents) (b : Bool) → (is_some u || b) ≡ false → (u ≡ None) × (b ≡ false)
unsaved_none None b e = (refl, e)
unsaved_none (Some u) b e = absurd (cc)

pub keeps_writers : (t s : TreeState) (ws : List Writer) → KeepsFiles t s → AllByRecursion (IsWriterReady t) ws → KeepsWriterFiles t s ws
keeps_writers t s [] keeps h = tt
keeps_writers t s (w ∷ ws) keeps h = (keeps w.path h.0.there, keeps_writers t s ws keeps h.1)

pub kept_files : (t s : TreeState) (files : RuntimeFiles) → has_unsaved files ≡ false → KeepsWriterFiles t s (writers_among files) → files_view t files ≡ files_view s files
kept_files t s [] e k = refl
kept_files t s (None ∷ fs) e k = ap (λ z. None ∷ z) (kept_files t s fs e k)
kept_files t s (Some (file.Reading r) ∷ fs) e k = ap (λ z. Some (Reading (reader_view r)) ∷ z) (kept_files t s fs e k)
kept_files t s (Some (file.Writing w) ∷ fs) e k =
    let u = unsaved_none w.unsaved (has_unsaved fs) e in
    ap₂ (λ x z. Some (Writing x) ∷ z) (one w.unsaved u.0) (kept_files t s fs u.1 k.1)
  where
    one : (u : Option UnsavedContents) → w.unsaved ≡ None → writer_view t w ≡ writer_view s w
    one u n = rw n (ap (λ (bytes : List ℕ). record { path = w.path; contents = bytes; position = w.position; append = w.appends; dirty = false; turned = false; last_end = None }) (sym k.0.1))

written_still : (t s : TreeState) (ws : List Writer) → list_any (λ w. is_some w.unsaved) ws ≡ false → s.writable ≡ true → pairs_gstate s.pairs ≡ zero_gstate → KeepsWriterFiles t s ws →
    AllByRecursion (IsWriterReady t) ws → AllByRecursion (IsWriterReady s) ws
written_still t s [] e writable settled k h = tt
written_still t s (w ∷ ws) e writable settled k h =
    let u = unsaved_none w.unsaved (list_any (λ w. is_some w.unsaved) ws) e in
    (record { writable = writable; settled = settled; there = k.0.0; size = same u.0; changed = subst (AreSoundIfUnsaved s w) (sym u.0) tt }, written_still t s ws u.1 writable settled k.1 h.1)
  where
    same : w.unsaved ≡ None → length (draft_or_stored_bytes s w.path w.unsaved) ≡ w.size
    same n = ap (λ z. length (draft_or_stored_bytes s w.path z)) n ∙ ap (λ bs. length bs) k.0.1 ∙ sym (ap (λ z. length (draft_or_stored_bytes t w.path z)) n) ∙ h.0.size

-- an operation leaves a session ready without a changed writer
pub carried_ready : (old new : TreeState) (files : RuntimeFiles) (op : Operation) → ((p : Path) → vacates_path op p ≡ false) → IsReady old files → has_unsaved files ≡ false → KeepsWriterFiles old new (writers_among files) → IsOperationApplied old op new → IsReady new files
carried_ready old new files op off ready e keeps carried = record {
  sound = carried.sound;
  called = still_called old.history new.history carried.calls carried.called ready.called;
  one = ready.one;
  idle = λ h. let k = few_flying [] new.map (λ b h. absurd (never b (carried.flight.none_comes b h))) in omega (arith, k);
  written = written_still old new (writers_among files) e carried.writable carried.recovered.gstate keeps ready.written;
  read = read_carried old new op (writers_paths files) (readers_among files) carried (none_read op off (readers_among files)) ready.read;
  known = known_carried old new op (writers_paths files) (readers_among files) carried (none_read op off (readers_among files)) ready.read ready.known;
}
  where
    never : (b : ℕ) → IsInFlight old.map b → ⊥
    never b h = let k = in_flight-freed old.map b h in let none = ready.idle e in absurd (omega (arith, k, none))

-- what an operation spares, it does later
spares_later : (old new : TreeState) (op : Operation) (files : RuntimeFiles) → OnlyReadsTree old new → AffectsNoOpenFile old op files → AffectsNoOpenFile new op files
spares_later old new op files asked h =
    subst (λ t. AffectsNoOpenFile t op files) (sym asked.same) (again h)
  where
    again : AffectsNoOpenFile old op files → AffectsNoOpenFile (record old { history = new.history; cache = new.cache }) op files
    again h = record { apart = h.apart; unread = h.unread; room = h.room }

-- what an operation leaves once no check refuses it
pub done_left : (K : Type 0) (old mid new : TreeState) (files : RuntimeFiles) (op : Operation) (r : Result (Unit {0}) Error) → UnrelatedOperationKeepsFiles → (old.failed ≡ false → IsReady old files) → OnlyReadsTree old mid → refusal_by_checks (session_view old files) op ≡ None →
    (IsReady old files → AffectsNoOpenFile old op files) → (IsReady mid files → IsOperationApplied mid op new → KeepsWriterFiles mid new (writers_among files)) → OnOk r K → (K → IsOperationApplied mid op new) → OnErr r (IsFailedTree mid new) → new.failed ≡ false → OpenFilesStayReady old new files
done_left K old mid new files op (Ok u) stay ready asked e spares keeps k carried broken works =
    let was = ready (not_failed (session_view old files) op e) in
    let now = ready_later old mid files was asked in
    let left = stay mid new op files now (spares_later old mid op files asked (spares was)) (keeps now (carried k)) (carried k) in
    record { ready = left.ready; same = sym (ap (λ z. files_view z files) asked.same) ∙ left.same }
done_left K old mid new files op (Err x) stay ready asked e spares keeps k carried broken works = absurd (let l = sym broken.failed ∙ works in cc)

-- it is about no writer's file
pub none_concerned : (op : Operation) → ((p : Path) → vacates_path op p ≡ false) → (ws : List Writer) → AllByRecursion (λ w. vacates_path op w.path ≡ false) ws
none_concerned op h [] = tt
none_concerned op h (w ∷ ws) = (h w.path, none_concerned op h ws)
