-- A file that is opened for writing.
use Rattle.std.proofs.Common.{append_assoc, ℕ, zero, suc, ◌≡◌, ◌≢◌, ◌∙◌, ◌+◌, ◌<◌, ◌≤◌, ◌||◌, ◌&&◌, Bool, true, false, not, nat_le, nat_lt, List, [], ◌∷◌, ◌++◌, length, map, set, Option, Some, None, Result, Ok, Err, refl, sym, ap, ap₂, subst, arith}
use Rattle.std.specs.Prelude.{if◌then◌else◌, is_none, is_some}
use Rattle.lfs_fs.proofs.Common.{AllByRecursion, list_any, lt-ltb, ltb-true, nat_tests, tree_creating, file_bytes, is_directory, last_name, same_path, in_flight_count, block_count, CachedBlocks, CallEvent, FlagsOfOpen, parse_path, IsStep, OpenFilesByNumber, Session, Reading, Writing, free_number_of, reserved_for_writers, has_long_name, has_open_file, exceeds_half_pair, lacks_room, overfills_disk, parents_refusal, files_with_file, all_readers, all_writers, opened_writer, Healthy, path_or_root, operation_effect, node_file_size, DirectoryNode, FileNode, Node, Path, recovered_from, spread_step, CanCreateFile, error_refusal, OnlyReadsTree, IsFailedTree, IsOperationApplied, HasErrorCause, IsSoundState, TreeState, tree_summary, visible_tree, CanOpenWriter, IsOpenedWriter, RuntimeFiles, open_file_at, files_view, lowest_free_fd, has_unsaved, files_with_entry, readers_among, writer_if_any, writer_view, writers_among, StepsOrFails, AreCurrentReaders, HasValidIndexCache, SessionView, IsReady, IsWriterReady, session_view, view_with_files, system_state, refusal_by_checks, viewed_session, reply_from, KeepsWriterFiles}
use Rattle.lfs_device.specs.declared.error.Error.{Error}
use Rattle.lfs_device.specs.declared.error.Error.TheVariants.{NoMemory}
use Rattle.lfs_model.specs.session.Operations as ops
use Rattle.lfs_model.specs.session.Session as session
use Rattle.lfs_fs.specs.declared.files.OpenFile.{OpenFile}
use Rattle.lfs_fs.specs.declared.files.OpenFile.TheVariants as file
use Rattle.lfs_fs.specs.declared.files.Writer.{Writer}
use Rattle.lfs_fs.proofs.Answered.{called_before, carried_answer, carried_ready, error_answers, is_over, kept_files, not_failed, not_refused, ready_later, sound_by}
use Rattle.lfs_fs.proofs.Checked.{negated, neither, there, unrefused}
use Rattle.lfs_fs.proofs.Failing.{broken_fails, healthy_system, memory_fails}
use Rattle.lfs_fs.proofs.OpenFiles.{count_put, free_at_most, free_is, only, put_is, writer_count}
use Rattle.lfs_fs.proofs.WriterOpens.{writes_anew}
use Rattle.lfs_fs.proofs.Calls.{still_called}
use Rattle.lfs_model.proofs.Unmoved.{moved_behind}
use Rattle.lfs_fs.proofs.WriterSteps.{there_moved}
use Rattle.lfs_fs.proofs.FilesBeside.{no_reader_at}
use Rattle.lfs_fs.proofs.OpenReaders.{read_opened}
use Rattle.lfs_fs.proofs.ReadersKnow.{known_opened}

-- ---- what no check refuses

pub record IsPassed (h : SessionView) (bytes : List ℕ) (p : Path) (flags : FlagsOfOpen) : Type 0 where
  pub works : h.tree.failed ≡ false
  pub writable : h.tree.writable ≡ true
  pub given : is_some (parse_path bytes) ≡ true
  pub parents : parents_refusal (visible_tree h.tree) [] p ≡ None
  pub name : (is_none (visible_tree h.tree p) && flags.create && has_long_name (tree_summary h.tree) p) ≡ false
  pub creates : (is_none (visible_tree h.tree p) && not flags.create) ≡ false
  pub directory : is_directory (visible_tree h.tree p) ≡ false
  pub few : nat_lt 0 (length (all_writers h.files)) ≡ false
  pub closed : has_open_file (same_path p) h.files ≡ false
  pub fits : (is_none (visible_tree h.tree p) && exceeds_half_pair (tree_summary h.tree) (last_name p) []) ≡ false
  pub room : (is_none (visible_tree h.tree p) && lacks_room (tree_summary h.tree) h.files 2) ≡ false
  pub anew : (flags.truncate && overfills_disk (tree_summary h.tree) (opened_writer p flags (file_bytes (visible_tree h.tree p)))) ≡ false

both_false : (a b : Bool) → (a || b) ≡ false → (a ≡ false) × (b ≡ false)
both_false true b e = absurd (cc)
both_false false b e = (refl, e)

pub open_passed : (h : SessionView) (bytes : List ℕ) (flags : FlagsOfOpen) → flags.write ≡ true → refusal_by_checks h (ops.Open bytes flags) ≡ None → IsPassed h bytes (path_or_root bytes) flags
open_passed h bytes flags write e =
    let a = neither _ _ (not_refused h (ops.Open bytes flags) e) in
    let b = neither _ _ a.1 in
    let c = neither _ _ b.1 in
    let d = neither _ _ c.1 in
    let i = neither _ _ d.1 in
    let j = neither _ _ i.1 in
    let k = neither _ _ j.1 in
    let l = neither _ _ k.1 in
    let m = neither _ _ l.1 in
    let n = neither _ _ m.1 in
    let o = neither _ _ n.1 in
    record {
      works = not_failed h (ops.Open bytes flags) e;
      writable = negated h.tree.writable (sym (ap (λ w. w && not h.tree.writable) write) ∙ unrefused _ _ a.0);
      given = there (parse_path bytes) ∙ ap not (both_false (is_none (parse_path bytes)) _ (unrefused _ _ b.0)).0;
      parents = c.0;
      name = unrefused _ _ d.0;
      creates = unrefused _ _ i.0;
      directory = unrefused _ _ k.0;
      few = (both_false (nat_lt 0 (length (all_writers h.files))) _ (sym (ap (λ w. if w then nat_lt 0 (length (all_writers h.files)) || has_open_file (same_path (path_or_root bytes)) h.files
          else list_any (λ x. same_path (path_or_root bytes) x.path) (all_writers h.files) || nat_le 16 (length (all_readers h.files))) write) ∙ unrefused _ _ l.0)).0;
      closed = (both_false (nat_lt 0 (length (all_writers h.files))) _ (sym (ap (λ w. if w then nat_lt 0 (length (all_writers h.files)) || has_open_file (same_path (path_or_root bytes)) h.files
          else list_any (λ x. same_path (path_or_root bytes) x.path) (all_writers h.files) || nat_le 16 (length (all_readers h.files))) write) ∙ unrefused _ _ l.0)).1;
      fits = unrefused _ _ m.0;
      room = unrefused _ _ n.0;
      anew = unrefused _ _ o.0;
    }

not_less : (n m : ℕ) → nat_lt n m ≡ false → m ≤ n
not_less n m e = grind (arith, nat_tests)

room_left : (n m k f l : ℕ) → f ≡ 0 → nat_lt n (m + k + l) ≡ false → m + f + l ≤ n
room_left n m k f l none e = grind (arith, nat_tests)

room_anew : (h : SessionView) (p : Path) (flags : FlagsOfOpen) (size : ℕ) → node_file_size (visible_tree h.tree p) ≡ Some size →
    (flags.truncate && overfills_disk (tree_summary h.tree) (opened_writer p flags (file_bytes (visible_tree h.tree p)))) ≡ false → flags.truncate ≡ true → 1 ≤ size → length (tree_summary h.tree).used + 2 ≤ block_count h.tree.disk
room_anew h p flags size sizes fits truncates some =
    not_less (block_count h.tree.disk) (length (tree_summary h.tree).used + 2)
    (sym (ap₂ (λ t s. t && nat_lt (block_count h.tree.disk) (length (tree_summary h.tree).used + (if s then 2 else 0))) truncates (lt-ltb 0 size (omega (arith, some))))
    ∙ writes_anew h p flags (Some size) (nat_lt (block_count h.tree.disk) (length (tree_summary h.tree).used + (if nat_lt 0 size then 2 else 0))) sizes refl ∙ fits)

nothing_left : {A : Type 0} (xs : List A) → length xs ≤ 0 → xs ≡ []
nothing_left [] h = refl
nothing_left (x ∷ xs) h = absurd (omega (arith, h))

pub no_writer : (t : TreeState) (fs : RuntimeFiles) (bytes : List ℕ) (flags : FlagsOfOpen) → flags.write ≡ true → refusal_by_checks (session_view t fs) (ops.Open bytes flags) ≡ None → writers_among fs ≡ []
no_writer t fs bytes flags write e =
    nothing_left (writers_among fs) (not_less 0 (length (writers_among fs)) (ap (nat_lt 0) (sym (writer_count t fs)) ∙ (open_passed (session_view t fs) bytes flags write e).few))

none_saved : (fs : RuntimeFiles) → writers_among fs ≡ [] → has_unsaved fs ≡ false
none_saved fs none = ap (list_any (λ w. is_some w.unsaved)) none

pub can_begin : (t mid : TreeState) (fs : RuntimeFiles) (bytes : List ℕ) (flags : FlagsOfOpen) (p : Path) (size : ℕ) → (t.failed ≡ false → IsReady t fs) → OnlyReadsTree t mid → refusal_by_checks (session_view t fs) (ops.Open bytes flags) ≡ None →
    flags.write ≡ true → p ≡ path_or_root bytes → node_file_size (visible_tree t p) ≡ Some size → CanOpenWriter mid p size flags.truncate
can_begin t mid fs bytes flags p size ready asked e write is sizes =
    subst (λ z. CanOpenWriter z p size flags.truncate) (sym asked.same)
    (subst (λ q. CanOpenWriter (record t { history = mid.history; cache = mid.cache }) q size flags.truncate) (sym is) (record {
      works = passed.works;
      writable = passed.writable;
      sound = record { accepted = now.sound.accepted; fits = now.sound.fits; is_kept = now.sound.is_kept; used = now.sound.used; size = now.sound.size };
      idle = now.idle (none_saved fs (no_writer t fs bytes flags write e));
      there = sized;
      room = room_anew (session_view t fs) (path_or_root bytes) flags size sized passed.anew;
    }))
  where
    passed : IsPassed (session_view t fs) bytes (path_or_root bytes) flags
    passed = open_passed (session_view t fs) bytes flags write e

    now : IsReady t fs
    now = ready passed.works

    sized : node_file_size (visible_tree t (path_or_root bytes)) ≡ Some size
    sized = sym (ap (λ q. node_file_size (visible_tree t q)) is) ∙ sizes

no_node : (n : Option Node) → node_file_size n ≡ None → is_directory n ≡ false → n ≡ None
no_node None e d = refl
no_node (Some (FileNode attributes bytes)) e d = absurd (cc)
no_node (Some (DirectoryNode attributes names)) e d = absurd (cc)

pub can_create : (t mid : TreeState) (fs : RuntimeFiles) (bytes : List ℕ) (flags : FlagsOfOpen) (p : Path) → (t.failed ≡ false → IsReady t fs) → OnlyReadsTree t mid → refusal_by_checks (session_view t fs) (ops.Open bytes flags) ≡ None →
    flags.write ≡ true → p ≡ path_or_root bytes → node_file_size (visible_tree t p) ≡ None → CanCreateFile mid p
can_create t mid fs bytes flags p ready asked e write is sizes =
    subst (λ z. CanCreateFile z p) (sym asked.same)
    (subst (λ q. CanCreateFile (record t { history = mid.history; cache = mid.cache }) q) (sym is) (record {
      works = passed.works;
      writable = passed.writable;
      parents = passed.parents;
      name = sym (ap₂ (λ x c. x && c && has_long_name (tree_summary t) (path_or_root bytes)) absent creates) ∙ passed.name;
      nothing = ap is_some none;
      fits = sym (ap (λ x. x && exceeds_half_pair (tree_summary t) (last_name (path_or_root bytes)) []) absent) ∙ passed.fits;
      room = room_left (block_count t.disk) (length (tree_summary t).used) (reserved_for_writers t.disk.profile t.disk.block_size (files_view t fs)) (in_flight_count t.map) 2 ((ready passed.works).idle (none_saved fs (no_writer t fs bytes flags write e)))
          (sym (ap (λ x. x && lacks_room (tree_summary t) (files_view t fs) 2) absent) ∙ passed.room);
    }))
  where
    passed : IsPassed (session_view t fs) bytes (path_or_root bytes) flags
    passed = open_passed (session_view t fs) bytes flags write e

    none : visible_tree t (path_or_root bytes) ≡ None
    none = no_node (visible_tree t (path_or_root bytes)) (sym (ap (λ q. node_file_size (visible_tree t q)) is) ∙ sizes) passed.directory

    absent : is_none (visible_tree t (path_or_root bytes)) ≡ true
    absent = ap is_none none

    creates : flags.create ≡ true
    creates = negated flags.create (sym (ap (λ x. x && not flags.create) absent) ∙ passed.creates)

-- ---- room for one more file

set_length : (fs : RuntimeFiles) (n : ℕ) (x : Option OpenFile) → length (set fs n x) ≡ length fs
set_length [] n x = refl
set_length (f ∷ fs) zero x = refl
set_length (f ∷ fs) (suc n) x = ap suc (set_length fs n x)

behind_length : (fs : RuntimeFiles) (x : Option OpenFile) → length (fs ++ x ∷ []) ≡ 1 + length fs
behind_length [] x = refl
behind_length (f ∷ fs) x = let k = behind_length fs x in omega (arith, k)

set_there : (fs : RuntimeFiles) (n : ℕ) (x : Option OpenFile) → n < length fs → open_file_at (set fs n x) n ≡ x
set_there [] n x lt = absurd (omega (arith, lt))
set_there (f ∷ fs) zero x lt = refl
set_there (f ∷ fs) (suc n) x lt = set_there fs n x (omega (arith, lt))

set_twice : (fs : RuntimeFiles) (n : ℕ) (x y : Option OpenFile) → set (set fs n x) n y ≡ set fs n y
set_twice [] n x y = refl
set_twice (f ∷ fs) zero x y = refl
set_twice (f ∷ fs) (suc n) x y = ap (λ gs. f ∷ gs) (set_twice fs n x y)

one_more : (n : ℕ) → 1 + n ≡ suc n
one_more n = omega arith

one_back : (n m : ℕ) → nat_lt (1 + n) (suc m) ≡ false → nat_lt n m ≡ false
one_back n m e = grind (arith, nat_tests)

set_behind : (fs : RuntimeFiles) (x y : Option OpenFile) → nat_lt (lowest_free_fd fs) (length fs) ≡ false → set (fs ++ x ∷ []) (lowest_free_fd fs) y ≡ fs ++ y ∷ []
set_behind [] x y e = refl
set_behind (None ∷ fs) x y e = absurd (let k = sym (lt-ltb 0 (length (None ∷ fs)) (omega arith)) ∙ e in cc)
set_behind (Some f ∷ fs) x y e =
    ap (λ n. set (Some f ∷ fs ++ x ∷ []) n y) (one_more (lowest_free_fd fs))
    ∙ ap (λ gs. Some f ∷ gs) (set_behind fs x y (one_back (lowest_free_fd fs) (length fs) e))

room_inside : (fs : RuntimeFiles) → lowest_free_fd fs < length (files_with_entry fs (lowest_free_fd fs) None)
room_inside fs = go (nat_lt (lowest_free_fd fs) (length fs)) refl
  where
    go : (b : Bool) → nat_lt (lowest_free_fd fs) (length fs) ≡ b → lowest_free_fd fs < length (files_with_entry fs (lowest_free_fd fs) None)
    go true e = rw e (let k = ltb-true (lowest_free_fd fs) (length fs) e in let l = set_length fs (lowest_free_fd fs) None in omega (arith, k, l))
    go false e = rw e (let k = free_at_most fs in let l = behind_length fs None in omega (arith, k, l))

room_filled : (fs : RuntimeFiles) (y : Option OpenFile) → set (files_with_entry fs (lowest_free_fd fs) None) (lowest_free_fd fs) y ≡ files_with_entry fs (lowest_free_fd fs) y
room_filled fs y = go (nat_lt (lowest_free_fd fs) (length fs)) refl
  where
    go : (b : Bool) → nat_lt (lowest_free_fd fs) (length fs) ≡ b → set (files_with_entry fs (lowest_free_fd fs) None) (lowest_free_fd fs) y ≡ files_with_entry fs (lowest_free_fd fs) y
    go true e = rw e (set_twice fs (lowest_free_fd fs) None y)
    go false e = rw e (set_behind fs None y e)

-- what there is once room is made
pub record HasRoomFor (fs gs : RuntimeFiles) (n : ℕ) : Type 0 where
  pub inside : n < length gs
  pub free : open_file_at gs n ≡ None
  pub none : writers_among gs ≡ []
  pub filled : (w : Writer) → set gs n (Some (file.Writing w)) ≡ files_with_entry fs (lowest_free_fd fs) (Some (file.Writing w))
  pub alone : (w : Writer) → writers_among (files_with_entry fs (lowest_free_fd fs) (Some (file.Writing w))) ≡ w ∷ []

pub room_made : (fs gs : RuntimeFiles) (n : ℕ) → writers_among fs ≡ [] → n ≡ lowest_free_fd fs → gs ≡ files_with_entry fs (lowest_free_fd fs) None → HasRoomFor fs gs n
room_made fs gs n none number is =
    subst (λ m. HasRoomFor fs gs m) (sym number) (subst (λ xs. HasRoomFor fs xs (lowest_free_fd fs)) (sym is) (record {
      inside = room_inside fs;
      free = sym (ap (λ xs. open_file_at xs (lowest_free_fd fs)) (room_filled fs None)) ∙ set_there (files_with_entry fs (lowest_free_fd fs) None) (lowest_free_fd fs) None (room_inside fs);
      none = nothing_left (writers_among (files_with_entry fs (lowest_free_fd fs) None)) (let k = count_put writer_if_any fs (lowest_free_fd fs) None in let l = ap (λ ws. length ws) none in omega (arith, k, l));
      filled = λ w. room_filled fs (Some (file.Writing w));
      alone = λ w. (only (files_with_entry fs (lowest_free_fd fs) (Some (file.Writing w))) (lowest_free_fd fs) w
          (sym (ap (λ xs. open_file_at xs (lowest_free_fd fs)) (room_filled fs (Some (file.Writing w)))) ∙ set_there (files_with_entry fs (lowest_free_fd fs) None) (lowest_free_fd fs) (Some (file.Writing w)) (room_inside fs))
          (let k = count_put writer_if_any fs (lowest_free_fd fs) (Some (file.Writing w)) in let l = ap (λ ws. length ws) none in omega (arith, k, l))).writers;
    }))

-- ---- the session once the writer is open

ready_with : (t : TreeState) (fs gs : RuntimeFiles) (w : Writer) → writers_among fs ≡ [] → writers_among gs ≡ w ∷ [] → IsReady t fs → IsWriterReady t w → AreCurrentReaders t.pairs gs → AllByRecursion (HasValidIndexCache t.disk) (readers_among gs) → IsReady t gs
ready_with t fs gs w none alone h written read known = record {
  sound = h.sound;
  called = h.called;
  one = subst (λ ws. length ws ≤ 1) (sym alone) (omega arith);
  idle = λ e. h.idle (ap (list_any (λ w. is_some w.unsaved)) none);
  written = subst (AllByRecursion (IsWriterReady t)) (sym alone) (written, tt);
  read = read;
  known = known;
}

keeps_none : (t s : TreeState) (fs : RuntimeFiles) → writers_among fs ≡ [] → KeepsWriterFiles t s (writers_among fs)
keeps_none t s fs none = subst (λ ws. KeepsWriterFiles t s ws) (sym none) tt

-- what either way of opening comes to: the session is ready but for the writer, which is as the definitions have it
pub record IsOpenedBy (t : TreeState) (fs : RuntimeFiles) (bytes : List ℕ) (flags : FlagsOfOpen) (new : TreeState) (w : Writer) : Type 0 where
  pub ready : IsReady new fs
  pub unread : AllByRecursion (λ r. same_path (path_or_root bytes) r.path ≡ false) (readers_among fs)
  pub begun : IsOpenedWriter new (opened_writer (path_or_root bytes) flags (file_bytes (visible_tree t (path_or_root bytes)))) w
  pub turn : (files : OpenFilesByNumber) → (operation_effect (tree_summary t) (viewed_session (session_view t fs)) (ops.Open bytes flags)).1.files ≡ files →
      IsStep (system_state (session_view t fs)) (ops.Open bytes flags) (operation_effect (tree_summary t) (viewed_session (session_view t fs)) (ops.Open bytes flags)).0 (system_state (view_with_files new files))

later : TreeState → List CallEvent → CachedBlocks → TreeState
later t events cache = record t { history = events ++ t.history; cache = cache }

asked_later : (old new : TreeState) (asked : OnlyReadsTree old new) → new ≡ later old asked.reads.events new.cache
unfolding later
asked_later old new asked = asked.same ∙ ap (λ history. record old { history = history; cache = new.cache }) asked.reads.extends

-- a file that is there, once the image is recovered
there_turn : (old : SessionView) (bytes : List ℕ) (flags : FlagsOfOpen) (mid new : TreeState) (files : OpenFilesByNumber) (n : Node) → (old.tree.failed ≡ false → IsSoundState old.tree) → (old.tree.failed ≡ false → old.tree.history ≢ []) → OnlyReadsTree old.tree mid →
    refusal_by_checks old (ops.Open bytes flags) ≡ None → flags.write ≡ true → visible_tree old.tree (path_or_root bytes) ≡ Some n → IsOperationApplied mid ops.Recover new →
    (operation_effect (tree_summary old.tree) (viewed_session old) (ops.Open bytes flags)).1.files ≡ files →
    IsStep (system_state old) (ops.Open bytes flags) (operation_effect (tree_summary old.tree) (viewed_session old) (ops.Open bytes flags)).0 (system_state (view_with_files new files))
unfolding later
there_turn old bytes flags mid new files n sound called asked e write node carried opened =
    let op = ops.Open bytes flags in
    let works = not_failed old op e in
    let good = sound works in
    let events = asked.reads.events in
    let c = subst (λ t. IsOperationApplied t ops.Recover new) (asked_later old.tree mid asked) carried in
    let kept : visible_tree old.tree ≡ (if is_none (visible_tree old.tree (path_or_root bytes)) then tree_creating (path_or_root bytes) (FileNode [] []) (visible_tree old.tree) else visible_tree old.tree) =
    sym (ap (λ o. if is_none o then tree_creating (path_or_root bytes) (FileNode [] []) (visible_tree old.tree) else visible_tree old.tree) node) in
    let is : record { tree = visible_tree new; files = files } ≡ (operation_effect (tree_summary old.tree) (viewed_session old) op).1 = ap₂ (λ t f. record { tree = t; files = f }) (c.shows (tree_summary old.tree) old.files ∙ kept) (sym opened) in
    let to = healthy_system (view_with_files new files) c.works
    ∙ ap₂ (λ (calls : List CallEvent) (s : Session). record { disk = new.disk; calls = calls; state = Healthy s }) (c.called ∙ sym (append_assoc c.calls events old.tree.history)) is in
    subst (λ m. IsStep m op (operation_effect (tree_summary old.tree) (viewed_session old) op).0 (system_state (view_with_files new files))) (sym (healthy_system old works))
    (subst (λ m. IsStep (record { disk = old.tree.disk; calls = old.tree.history; state = Healthy (viewed_session old) }) op (operation_effect (tree_summary old.tree) (viewed_session old) op).0 m) (sym to)
    (spread_step old.tree.disk old.tree.pairs (viewed_session old) (tree_summary old.tree) op new.disk new.pairs (c.calls ++ events) old.tree.history (is_over old.tree old.files good) (not_refused old op e)
    (record {
      geometry = c.geometry;
      other = refl;
      asks = ap not write;
      fills = refl;
      opens = λ h f. (c.nothing_left refl (recovered_from old.tree.disk old.tree.pairs good.accepted f)).0;
      silent = λ h. absurd (cc);
      itself = λ h. absurd (cc);
      nothing_left = λ h k. absurd (cc);
    })
    (record {
      accepted = c.sound.accepted;
      writable = c.fits;
      recovered = c.recovered;
      tree = λ around. c.shows around old.files ∙ kept;
      arranged = there_moved old.tree.disk new.disk old.tree.pairs new.pairs (viewed_session old) bytes flags n (c.calls ++ events) node
          (moved_behind old.tree.disk old.tree.pairs (viewed_session old) ops.Recover c.calls events new.disk new.pairs (c.arranged (still_called old.tree.history (events ++ old.tree.history) events refl (called works)) old.files));
    })))

file_node : (n : Option Node) (size : ℕ) → node_file_size n ≡ Some size → (m : Node) × (n ≡ Some m)
file_node None size e = absurd (cc)
file_node (Some m) size e = (m, refl)

pub opened_there : (t mid new : TreeState) (fs : RuntimeFiles) (bytes : List ℕ) (flags : FlagsOfOpen) (w : Writer) (p : Path) (size : ℕ) → (t.failed ≡ false → IsReady t fs) → OnlyReadsTree t mid →
    refusal_by_checks (session_view t fs) (ops.Open bytes flags) ≡ None → flags.write ≡ true → p ≡ path_or_root bytes → node_file_size (visible_tree t p) ≡ Some size →
    IsOperationApplied mid ops.Recover new → IsOpenedWriter new (opened_writer p flags (file_bytes (visible_tree mid p))) w → IsOpenedBy t fs bytes flags new w
opened_there t mid new fs bytes flags w p size ready asked e write is sizes carried begun =
    let passed = open_passed (session_view t fs) bytes flags write e in
    let node = file_node (visible_tree t (path_or_root bytes)) size (sym (ap (λ q. node_file_size (visible_tree t q)) is) ∙ sizes) in
    let none = no_writer t fs bytes flags write e in
    record {
      unread = no_reader_at t fs (same_path (path_or_root bytes)) passed.closed;
      ready = carried_ready mid new fs ops.Recover (λ p. refl) (ready_later t mid fs (ready passed.works) asked) (none_saved fs none) (keeps_none mid new fs none) carried;
      begun = subst (λ (z : TreeState). IsOpenedWriter new (opened_writer (path_or_root bytes) flags (file_bytes (visible_tree z (path_or_root bytes)))) w) asked.same
          (subst (λ q. IsOpenedWriter new (opened_writer q flags (file_bytes (visible_tree mid q))) w) is begun);
      turn = λ files opened. there_turn (session_view t fs) bytes flags mid new files node.0 (sound_by t fs ready) (called_before t fs ready) asked e write node.1 carried opened;
    }

pub opened_new : (t mid new : TreeState) (fs : RuntimeFiles) (bytes : List ℕ) (flags : FlagsOfOpen) (w : Writer) (p : Path) → (t.failed ≡ false → IsReady t fs) → OnlyReadsTree t mid →
    refusal_by_checks (session_view t fs) (ops.Open bytes flags) ≡ None → flags.write ≡ true → p ≡ path_or_root bytes → node_file_size (visible_tree t p) ≡ None →
    IsOperationApplied mid (ops.Open bytes flags) new → IsOpenedWriter new (opened_writer p flags []) w → IsOpenedBy t fs bytes flags new w
opened_new t mid new fs bytes flags w p ready asked e write is sizes carried begun =
    let passed = open_passed (session_view t fs) bytes flags write e in
    let node : visible_tree t (path_or_root bytes) ≡ None = no_node (visible_tree t (path_or_root bytes)) (sym (ap (λ q. node_file_size (visible_tree t q)) is) ∙ sizes) passed.directory in
    let none = no_writer t fs bytes flags write e in
    record {
      unread = no_reader_at t fs (same_path (path_or_root bytes)) passed.closed;
      ready = carried_ready mid new fs (ops.Open bytes flags) (λ p. refl) (ready_later t mid fs (ready passed.works) asked) (none_saved fs none) (keeps_none mid new fs none) carried;
      begun = subst (λ n. IsOpenedWriter new (opened_writer (path_or_root bytes) flags (file_bytes n)) w) (sym node) (subst (λ q. IsOpenedWriter new (opened_writer q flags []) w) is begun);
      turn = λ files opened. carried_answer (session_view t fs) (ops.Open bytes flags) mid new files (sound_by t fs ready) (called_before t fs ready) asked e carried refl (ap not write) refl (ap is_some node) refl opened;
    }

-- ---- answers

pub writer_ready : (t new : TreeState) (fs gs : RuntimeFiles) (bytes : List ℕ) (flags : FlagsOfOpen) (w : Writer) → IsOpenedBy t fs bytes flags new w → writers_among fs ≡ [] → writers_among (files_with_entry fs (lowest_free_fd fs) (Some (file.Writing w))) ≡ w ∷ [] →
    gs ≡ files_with_entry fs (lowest_free_fd fs) (Some (file.Writing w)) → IsReady new gs
writer_ready t new fs gs bytes flags w opened none alone is =
    let path : path_or_root bytes ≡ w.path = sym (ap (λ (x : session.FileWriter). x.path) opened.begun.seen) in
    ready_with new fs gs w none (ap (λ xs. writers_among xs) is ∙ alone) opened.ready opened.begun.written
    (subst (AreCurrentReaders new.pairs) (sym is) (read_opened new.pairs fs (lowest_free_fd fs) w (ap (map (λ x. x.path)) alone) (subst (λ p. AllByRecursion (λ r. same_path p r.path ≡ false) (readers_among fs)) path opened.unread) opened.ready.read))
    (subst (λ xs. AllByRecursion (HasValidIndexCache new.disk) (readers_among xs)) (sym is) (known_opened new.disk fs (lowest_free_fd fs) w opened.ready.known))

pub writer_opened : (t new : TreeState) (fs gs : RuntimeFiles) (now : SessionView) (bytes : List ℕ) (flags : FlagsOfOpen) (w : Writer) (n : ℕ) → session_view t fs ≡ now → IsOpenedBy t fs bytes flags new w → flags.write ≡ true → writers_among fs ≡ [] →
    n ≡ lowest_free_fd fs → gs ≡ files_with_entry fs (lowest_free_fd fs) (Some (file.Writing w)) → StepsOrFails now (ops.Open bytes flags) (Ok (ops.Opened n)) (session_view new gs)
writer_opened t new fs gs now bytes flags w n same opened write none number is =
    subst (λ z. StepsOrFails z (ops.Open bytes flags) (Ok (ops.Opened n)) (session_view new gs)) same
    (subst (λ m. IsStep (system_state (session_view t fs)) (ops.Open bytes flags) (ops.Opened m) (system_state (session_view new gs))) (sym (number ∙ free_is t fs))
    (opened.turn (files_view new gs) (sym brought)))
  where
    brought : files_view new gs ≡ files_with_file (files_view t fs) (free_number_of (files_view t fs)) (Some (if flags.write then Writing (opened_writer (path_or_root bytes) flags (file_bytes (visible_tree t (path_or_root bytes)))) else Reading (record { path = path_or_root bytes; position = 0 })))
    brought = ap (files_view new) is ∙ put_is new fs (lowest_free_fd fs) (Some (file.Writing w))
        ∙ ap₂ (λ files m. files_with_file files m (Some (Writing (writer_view new w)))) (sym (kept_files t new fs (none_saved fs none) (keeps_none t new fs none))) (free_is t fs)
        ∙ ap (λ x. files_with_file (files_view t fs) (free_number_of (files_view t fs)) (Some (Writing x))) opened.begun.seen
        ∙ ap (λ b. files_with_file (files_view t fs) (free_number_of (files_view t fs)) (Some (if b then Writing (opened_writer (path_or_root bytes) flags (file_bytes (visible_tree t (path_or_root bytes)))) else Reading (record { path = path_or_root bytes; position = 0 })))) (sym write)

pub writer_breaks : (t mid new : TreeState) (fs gs : RuntimeFiles) (now : SessionView) (bytes : List ℕ) (flags : FlagsOfOpen) (e : Error) (r : Result ℕ Error) → session_view t fs ≡ now → OnlyReadsTree t mid → refusal_by_checks (session_view t fs) (ops.Open bytes flags) ≡ None →
    IsSoundState t → flags.write ≡ true → IsFailedTree mid new → HasErrorCause mid new e → r ≡ Err e → StepsOrFails now (ops.Open bytes flags) (reply_from ops.Opened r) (session_view new gs)
writer_breaks t mid new fs gs now bytes flags e r same asked passed sound write broken error is =
    subst (λ z. StepsOrFails z (ops.Open bytes flags) (reply_from ops.Opened r) (session_view new gs)) same
    (subst (λ z. StepsOrFails (session_view t fs) (ops.Open bytes flags) (reply_from ops.Opened z) (session_view new gs)) (sym is)
    (error_answers (session_view t fs) (ops.Open bytes flags) e (session_view new gs) (ops.Refused (error_refusal e)) error.errors
    (broken_fails e (session_view t fs) (ops.Open bytes flags) mid new (files_view new gs) (not_failed (session_view t fs) (ops.Open bytes flags) passed) refl (ap not write) refl sound (open_passed (session_view t fs) bytes flags write passed).writable asked broken error)))

-- no memory is found for it
pub writer_lacks_memory : (t mid left : TreeState) (fs gs : RuntimeFiles) (now : SessionView) (bytes : List ℕ) (flags : FlagsOfOpen) → session_view t fs ≡ now → OnlyReadsTree t mid → refusal_by_checks (session_view t fs) (ops.Open bytes flags) ≡ None →
    left ≡ record mid { failed = true } → StepsOrFails now (ops.Open bytes flags) (Err NoMemory) (session_view left gs)
writer_lacks_memory t mid left fs gs now bytes flags same asked passed is =
    subst (λ z. StepsOrFails z (ops.Open bytes flags) (Err NoMemory) (session_view left gs)) same
    (subst (λ z. StepsOrFails (session_view t fs) (ops.Open bytes flags) (Err NoMemory) (session_view z gs)) (sym is)
    (memory_fails (session_view t fs) (ops.Open bytes flags) mid (files_view (record mid { failed = true }) gs) (not_failed (session_view t fs) (ops.Open bytes flags) passed) asked))
