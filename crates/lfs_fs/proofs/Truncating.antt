-- A truncation of an open writer, and its turn.
use Rattle.std.proofs.Common.{ℕ, zero, suc, ◌≡◌, ◌==◌, ◌<◌, ◌&&◌, ◌||◌, ◌++◌, Bool, true, false, not, cond, List, [], ◌∷◌, length, set, nat_lt, Option, Some, None, Ok, is_some, refl, sym, ap, ap₂, subst, ◌∙◌, arith}
use Rattle.std.specs.Prelude.{◌==◌}
use Rattle.lfs_fs.proofs.Common.{AllByRecursion, list_any, option_map, eq-eqb, lt-ltb, ltb-false, map-set, profile_file_max, Operation, needs_session_alone, IsStep, Session, DiskSummary, Writing, file_numbered, first_refusal, overfills_disk, files_with_file, refuse_if, file_writer, truncated_writer, Healthy, operation_effect, Tree, DiskView, recovered_from, filled_step, KeepsImage, TreeState, tree_summary, visible_tree, CanTruncateTo, IsChangedWriter, RuntimeFiles, draft_or_stored_bytes, open_file_at, file_view, files_view, writers_paths, reader_view, readers_among, writer_if_any, writer_view, writers_among, StepsOrFails, SessionView, IsReady, IsWriterReady, session_view, system_state, refusal_by_checks, viewed_session}
use Rattle.lfs_model.specs.session.Operations as ops
use Rattle.lfs_model.specs.session.Run.{has_size}
use Rattle.lfs_model.specs.session.Session as session
use Rattle.lfs_fs.specs.declared.files.OpenFile.{OpenFile}
use Rattle.lfs_fs.specs.declared.files.OpenFile.TheVariants as file
use Rattle.lfs_fs.specs.declared.files.Writer.{Writer}
use Rattle.lfs_fs.proofs.Answered.{is_over, kept_answer, not_failed, not_refused, sound_by}
use Rattle.lfs_fs.proofs.Checked.{neither, unrefused}
use Rattle.lfs_fs.proofs.Failing.{healthy_system}
use Rattle.lfs_fs.proofs.OpenFiles.{IsOnly, inside_is, only, set_is}
use Rattle.lfs_fs.proofs.WriterChecks.{the_writer, written_at}
use Rattle.lfs_fs.proofs.Calls.{still_called}
use Rattle.lfs_fs.proofs.OpenReaders.{read_rewritten}
use Rattle.lfs_fs.proofs.ReadersKnow.{known_beside, known_written}

-- ---- what no check refuses

module _ (t : TreeState) (fs : RuntimeFiles) (fd size : ℕ) (w : Writer) (e : open_file_at fs fd ≡ Some (file.Writing w)) (accepted : refusal_by_checks (session_view t fs) (ops.Truncate fd size) ≡ None) where
  pub is_writer : Some w ≡ writer_if_any (open_file_at fs fd)
  is_writer = sym (ap writer_if_any e)

  works_now : t.failed ≡ false
  works_now = not_failed (session_view t fs) (ops.Truncate fd size) accepted

  seen_there : file_writer (file_numbered (files_view t fs) fd) ≡ Some (writer_view t w)
  seen_there = the_writer t fs fd (Some w) is_writer

  checks_are : refusal_by_checks (session_view t fs) (ops.Truncate fd size)
      ≡ first_refusal (refuse_if (nat_lt (profile_file_max t.disk.profile) size) ops.TooBig ∷ refuse_if (not (size == length (draft_or_stored_bytes t w.path w.unsaved)) && overfills_disk (tree_summary t) (truncated_writer (writer_view t w) size)) ops.NoSpace ∷ [])
  checks_are = rw (works_now, seen_there) refl

  small_enough : nat_lt (profile_file_max t.disk.profile) size ≡ false
  small_enough = unrefused _ ops.TooBig (neither _ _ (sym checks_are ∙ accepted)).0

  has_room : (not (size == length (draft_or_stored_bytes t w.path w.unsaved)) && overfills_disk (tree_summary t) (truncated_writer (writer_view t w) size)) ≡ false
  has_room = unrefused _ ops.NoSpace (neither _ _ (neither _ _ (sym checks_are ∙ accepted)).1).0

  module _ (ready : IsReady t fs) where
    pub alone : IsOnly fs fd w
    alone = only fs fd w e ready.one

    written_now : IsWriterReady t w
    written_now = written_at t fs fd w ready.written is_writer

    pub can_now : (size == w.size) ≡ false → CanTruncateTo t w size
    can_now other = record {
      can = record {
        works = works_now;
        written = written_now;
        idle = λ saved. ready.idle (ap (list_any (λ v. is_some v.unsaved)) alone.writers ∙ ap (λ b. b || false) saved);
      };
      other = λ same. absurd (let k = sym other ∙ eq-eqb size w.size same in cc);
      small = (let l = ltb-false (profile_file_max t.disk.profile) size small_enough in omega (arith, l));
      room = ltb-false _ _ (left (size == length (draft_or_stored_bytes t w.path w.unsaved)) _ (ap (λ n. size == n) written_now.size ∙ other) has_room);
    }
      where
        left : (a b : Bool) → a ≡ false → (not a && b) ≡ false → b ≡ false
        left true b k h = absurd (cc)
        left false b k h = h

-- ---- the same size

pub set_same : (fs : RuntimeFiles) (fd : ℕ) (x : OpenFile) → open_file_at fs fd ≡ Some x → set fs fd (Some x) ≡ fs
set_same [] fd x e = absurd (cc)
set_same (f ∷ fs) zero x e = ap (λ z. z ∷ fs) (sym e)
set_same (f ∷ fs) (suc fd) x e = ap (λ z. f ∷ z) (set_same fs fd x e)

unchanged : (v : session.FileWriter) (size : ℕ) → (size == length v.contents) ≡ true → truncated_writer v size ≡ v
unchanged v size e = rw e refl

pub same_size : (t : TreeState) (fs : RuntimeFiles) (fd size : ℕ) (now : SessionView) (w : Writer) → session_view t fs ≡ now → (t.failed ≡ false → IsReady t fs) → refusal_by_checks (session_view t fs) (ops.Truncate fd size) ≡ None → open_file_at fs fd ≡ Some (file.Writing w) →
    (size == w.size) ≡ true → StepsOrFails now (ops.Truncate fd size) (Ok ops.Done) now
same_size t fs fd size now w same ready accepted e is =
    subst (λ z. StepsOrFails now (ops.Truncate fd size) (Ok ops.Done) z) same
    (kept_answer (session_view t fs) now (ops.Truncate fd size) (files_view t fs) ops.Done same (sound_by t fs ready) accepted refl refl refl
    (ap (λ f. (ops.Done, record { tree = visible_tree t; files = f })) stays))
  where
    long : (size == length (draft_or_stored_bytes t w.path w.unsaved)) ≡ true
    long = ap (λ n. size == n) (written_at t fs fd w (ready (not_failed (session_view t fs) (ops.Truncate fd size) accepted)).written (sym (ap writer_if_any e))).size ∙ is

    stays : files_with_file (files_view t fs) fd (option_map (λ v. Writing (truncated_writer v size)) (file_writer (file_numbered (files_view t fs) fd))) ≡ files_view t fs
    stays =
        ap (λ o. files_with_file (files_view t fs) fd (option_map (λ v. Writing (truncated_writer v size)) o)) (the_writer t fs fd (Some w) (sym (ap writer_if_any e)))
        ∙ ap (λ v. files_with_file (files_view t fs) fd (Some (Writing v))) (unchanged (writer_view t w) size long)
        ∙ sym (set_is t fs fd (Some (file.Writing w)) (ap is_some e)) ∙ ap (files_view t) (set_same fs fd (file.Writing w) e)

-- ---- another size

-- the other files are readers
no_writers : (t s : TreeState) (fs : RuntimeFiles) → writers_among fs ≡ [] → files_view t fs ≡ files_view s fs
no_writers t s [] e = refl
no_writers t s (None ∷ fs) e = ap (λ z. None ∷ z) (no_writers t s fs e)
no_writers t s (Some (file.Reading r) ∷ fs) e = ap (λ z. Some (session.Reading (reader_view r)) ∷ z) (no_writers t s fs e)
no_writers t s (Some (file.Writing w) ∷ fs) e = absurd (cc)

set_twice : {A : Type 0} (xs : List A) (n : ℕ) (x y : A) → set (set xs n x) n y ≡ set xs n y
set_twice [] n x y = refl
set_twice (z ∷ xs) zero x y = refl
set_twice (z ∷ xs) (suc n) x y = ap (λ zs. z ∷ zs) (set_twice xs n x y)

set_in_files : (t : TreeState) (fs : RuntimeFiles) (fd : ℕ) (entry : Option OpenFile) → files_view t (set fs fd entry) ≡ set (files_view t fs) fd (option_map (file_view t) entry)
set_in_files t fs fd entry = map-set (option_map (file_view t)) fs fd entry

-- a writer in place of the only one
pub other_tree : (t s : TreeState) (fs : RuntimeFiles) (fd : ℕ) (w v : Writer) → IsOnly fs fd w → files_view s (set fs fd (Some (file.Writing v))) ≡ set (files_view t fs) fd (Some (Writing (writer_view s v)))
other_tree t s fs fd w v alone =
    set_in_files s fs fd (Some (file.Writing v)) ∙ sym (set_twice (files_view s fs) fd None (Some (Writing (writer_view s v))))
    ∙ ap (λ z. set z fd (Some (Writing (writer_view s v)))) (sym (set_in_files s fs fd None) ∙ no_writers s t (set fs fd None) alone.without ∙ set_in_files t fs fd None)
    ∙ set_twice (files_view t fs) fd None (Some (Writing (writer_view s v)))

pub inside_put : (t : TreeState) (fs : RuntimeFiles) (fd : ℕ) (x : session.OpenFile) → is_some (open_file_at fs fd) ≡ true → files_with_file (files_view t fs) fd (Some x) ≡ set (files_view t fs) fd (Some x)
inside_put t fs fd x e = ap (λ b. cond b (set (files_view t fs) fd (Some x)) (files_view t fs ++ Some x ∷ [])) (seen_inside fs fd e)
  where
    seen_inside : (fs : RuntimeFiles) (fd : ℕ) → is_some (open_file_at fs fd) ≡ true → nat_lt fd (length (files_view t fs)) ≡ true
    seen_inside fs fd e = lt-ltb fd (length (files_view t fs)) (subst (λ n. fd < n) (sym (mapped fs)) (inside_is fs fd e))
      where
        mapped : (fs : RuntimeFiles) → length (files_view t fs) ≡ length fs
        mapped [] = refl
        mapped (f ∷ fs) = ap suc (mapped fs)

-- another size is to be made
pub other_needed : (t : TreeState) (fs : RuntimeFiles) (fd size : ℕ) (w : Writer) → open_file_at fs fd ≡ Some (file.Writing w) → IsWriterReady t w → (size == w.size) ≡ false → needs_session_alone (viewed_session (session_view t fs)) (ops.Truncate fd size) ≡ false
other_needed t fs fd size w e written other = ap (λ o. has_size o size) (the_writer t fs fd (Some w) (sym (ap writer_if_any e))) ∙ ap (λ n. size == n) written.size ∙ other

pub other_size : (t new : TreeState) (fs : RuntimeFiles) (fd size : ℕ) (now : SessionView) (w v : Writer) → session_view t fs ≡ now → (t.failed ≡ false → IsReady t fs) → refusal_by_checks (session_view t fs) (ops.Truncate fd size) ≡ None → open_file_at fs fd ≡ Some (file.Writing w) → (size == w.size) ≡ false →
    IsChangedWriter new (truncated_writer (writer_view t w) size) v → KeepsImage t new → IsStep (system_state now) (ops.Truncate fd size) ops.Done (system_state (session_view new (set fs fd (Some (file.Writing v)))))
other_size t new fs fd size now w v same ready accepted e other made b =
    subst (λ z. IsStep (system_state z) op ops.Done (system_state (session_view new later))) same
    (subst (λ m. IsStep m op ops.Done (system_state (session_view new later))) (sym (healthy_system (session_view t fs) works))
    (subst (λ m. IsStep (record { disk = t.disk; calls = t.history; state = Healthy (viewed_session (session_view t fs)) }) op ops.Done m) (sym to)
    (filled_step t.disk t.pairs (viewed_session (session_view t fs)) (tree_summary t) op new.disk new.pairs b.calls t.history (is_over t (files_view t fs) (ready works).sound) (not_refused (session_view t fs) op accepted) refl (other_needed t fs fd size w e (written_at t fs fd w (ready works).written (sym (ap writer_if_any e))) other) b.geometry
    b.sound.accepted b.pairs (ap₂ (λ (z : Tree) (a : DiskSummary). let k : DiskView = record { tree = z; gstate = a.gstate; used = a.used } in k) b.shows b.around) (recovered_from new.disk new.pairs b.sound.accepted made.written.settled)
    (λ h. b.sound.fits made.written.writable))))
  where
    op : Operation
    op = ops.Truncate fd size

    later : RuntimeFiles
    later = set fs fd (Some (file.Writing v))

    works : t.failed ≡ false
    works = not_failed (session_view t fs) op accepted

    files : files_view new later ≡ files_with_file (files_view t fs) fd (option_map (λ u. Writing (truncated_writer u size)) (file_writer (file_numbered (files_view t fs) fd)))
    files =
        other_tree t new fs fd w v (only fs fd w e (ready works).one) ∙ ap (λ x. set (files_view t fs) fd (Some (Writing x))) made.seen
        ∙ sym (inside_put t fs fd (Writing (truncated_writer (writer_view t w) size)) (ap is_some e))
        ∙ sym (ap (λ o. files_with_file (files_view t fs) fd (option_map (λ u. Writing (truncated_writer u size)) o)) (the_writer t fs fd (Some w) (sym (ap writer_if_any e))))

    to : system_state (session_view new later) ≡ record { disk = new.disk; calls = b.calls ++ t.history; state = Healthy (operation_effect (tree_summary t) (viewed_session (session_view t fs)) op).1 }
    to = healthy_system (session_view new later) b.works ∙ ap₂ (λ calls (s : Session). record { disk = new.disk; calls = calls; state = Healthy s }) b.called (ap₂ (λ z f. record { tree = z; files = f }) b.shows files)

-- what the session keeps
pub ready_with : (t new : TreeState) (fs : RuntimeFiles) (fd : ℕ) (w v : Writer) (is : session.FileWriter) → IsOnly fs fd w → IsChangedWriter new is v → KeepsImage t new → is.path ≡ w.path → IsReady t fs → IsReady new (set fs fd (Some (file.Writing v)))
ready_with t new fs fd w v is alone made b named was = record {
  sound = b.sound;
  called = still_called t.history new.history b.calls b.called was.called;
  one = (let k = ap (λ ws. length ws) (alone.with_other v) in omega (arith, k));
  idle = λ saved. absurd (let k = sym saved ∙ ap (list_any (λ u. is_some u.unsaved)) (alone.with_other v) ∙ ap (λ c. c || false) made.changed in cc);
  written = subst (AllByRecursion (IsWriterReady new)) (sym (alone.with_other v)) (made.written, tt);
  read = read_rewritten t.pairs new.pairs fs fd w v alone.writers (alone.with_other v) (ap (λ (x : session.FileWriter). x.path) made.seen ∙ named) b.pairs was.read;
  known = known_written new.disk fs fd v (known_beside t new (writers_paths fs) (readers_among fs) b.pairs b.lists was.read was.known);
}

pub some_writer : (fs : RuntimeFiles) (fd : ℕ) → is_some (writer_if_any (open_file_at fs fd)) ≡ true → (w : Writer) × (open_file_at fs fd ≡ Some (file.Writing w))
some_writer fs fd h = go (open_file_at fs fd) h
  where
    go : (o : Option OpenFile) → is_some (writer_if_any o) ≡ true → (w : Writer) × (o ≡ Some (file.Writing w))
    go None k = absurd (cc)
    go (Some (file.Reading r)) k = absurd (cc)
    go (Some (file.Writing w)) k = (w, refl)
