-- A write of an open writer, and its turn.
use Rattle.std.proofs.Common.{ℕ, ◌≡◌, ◌==◌, ◌+◌, ◌<◌, ◌^◌, ◌&&◌, ◌||◌, ◌++◌, Bool, true, false, List, [], ◌∷◌, length, set, nat_lt, Some, None, Ok, is_some, refl, sym, ap, ap₂, subst, ◌∙◌, arith}
use Rattle.std.specs.Prelude.{◌==◌}
use Rattle.lfs_fs.proofs.Common.{list_any, option_map, eqb-true, ltb-false, profile_file_max, Operation, needs_session_alone, IsStep, needs_no_device, Session, DiskSummary, Writing, file_numbered, first_refusal, overfills_disk, files_with_file, refuse_if, file_writer, writer_after_write, write_position, Healthy, operation_effect, Tree, DiskView, recovered_from, filled_step, KeepsImage, TreeState, tree_summary, visible_tree, CanWriteBytes, IsChangedWriter, RuntimeFiles, open_file_at, files_view, writer_if_any, writer_view, StepsOrFails, SessionView, IsReady, session_view, system_state, refusal_by_checks, viewed_session}
use Rattle.lfs_model.specs.session.Operations as ops
use Rattle.lfs_fs.specs.declared.files.OpenFile.TheVariants as file
use Rattle.lfs_fs.specs.declared.files.Writer.{Writer}
use Rattle.lfs_fs.proofs.Answered.{is_over, kept_answer, not_failed, not_refused, sound_by}
use Rattle.lfs_fs.proofs.Checked.{neither, unrefused}
use Rattle.lfs_fs.proofs.Failing.{healthy_system}
use Rattle.lfs_fs.proofs.OpenFiles.{IsOnly, only, set_is}
use Rattle.lfs_fs.proofs.Truncating.{inside_put, other_tree, set_same}
use Rattle.lfs_fs.proofs.WriterChecks.{some_bytes, the_writer, written_at}

-- ---- what no check refuses

module _ (t : TreeState) (fs : RuntimeFiles) (fd : ℕ) (bytes : List ℕ) (w : Writer) (e : open_file_at fs fd ≡ Some (file.Writing w)) (accepted : refusal_by_checks (session_view t fs) (ops.Write fd bytes) ≡ None) where
  works_now : t.failed ≡ false
  works_now = not_failed (session_view t fs) (ops.Write fd bytes) accepted

  is_writer : Some w ≡ writer_if_any (open_file_at fs fd)
  is_writer = sym (ap writer_if_any e)

  seen_there : file_writer (file_numbered (files_view t fs) fd) ≡ Some (writer_view t w)
  seen_there = the_writer t fs fd (Some w) is_writer

  checks_are : refusal_by_checks (session_view t fs) (ops.Write fd bytes)
      ≡ first_refusal (refuse_if (nat_lt 0 (length bytes) && nat_lt (profile_file_max t.disk.profile) (write_position (writer_view t w) + length bytes)) ops.TooBig ∷ refuse_if (nat_lt 0 (length bytes) && overfills_disk (tree_summary t) (writer_after_write (writer_view t w) bytes)) ops.NoSpace ∷ [])
  checks_are = rw (works_now, seen_there) refl

  left : (a b : Bool) → a ≡ true → (a && b) ≡ false → b ≡ false
  left true b k h = h
  left false b k h = absurd (cc)

  small_enough : nat_lt 0 (length bytes) ≡ true → nat_lt (profile_file_max t.disk.profile) (write_position (writer_view t w) + length bytes) ≡ false
  small_enough some = left (nat_lt 0 (length bytes)) _ some (unrefused _ ops.TooBig (neither _ _ (sym checks_are ∙ accepted)).0)

  has_room : nat_lt 0 (length bytes) ≡ true → overfills_disk (tree_summary t) (writer_after_write (writer_view t w) bytes) ≡ false
  has_room some = left (nat_lt 0 (length bytes)) _ some (unrefused _ ops.NoSpace (neither _ _ (neither _ _ (sym checks_are ∙ accepted)).1).0)

  pub few_bytes : (length bytes == 0) ≡ false → length bytes < 2 ^ 32
  few_bytes some =
      let l = ltb-false (profile_file_max t.disk.profile) (write_position (writer_view t w) + length bytes) (small_enough (some_bytes (length bytes) some).0) in
      omega (arith, l)

  module _ (invariant : t.failed ≡ false → IsReady t fs) where
    ready : IsReady t fs
    ready = invariant works_now

    pub alone : IsOnly fs fd w
    alone = only fs fd w e ready.one

    pub can_now : (length bytes == 0) ≡ false → CanWriteBytes t w bytes
    can_now some = record {
      can = record {
        works = works_now;
        written = written_at t fs fd w ready.written is_writer;
        idle = λ saved. ready.idle (ap (list_any (λ v. is_some v.unsaved)) alone.writers ∙ ap (λ b. b || false) saved);
      };
      some = (some_bytes (length bytes) some).1;
      small = (let l = ltb-false (profile_file_max t.disk.profile) (write_position (writer_view t w) + length bytes) (small_enough (some_bytes (length bytes) some).0) in omega (arith, l));
      room = ltb-false _ _ (has_room (some_bytes (length bytes) some).0);
    }

-- ---- no bytes

no_items : (bytes : List ℕ) → (length bytes == 0) ≡ true → bytes ≡ []
no_items [] e = refl
no_items (b ∷ bytes) e = absurd (let k = eqb-true (length (b ∷ bytes)) 0 e in omega (arith, k))

empty_put : (t : TreeState) (fs : RuntimeFiles) (fd : ℕ) (now : SessionView) (w : Writer) → session_view t fs ≡ now → (t.failed ≡ false → IsReady t fs) → refusal_by_checks (session_view t fs) (ops.Write fd []) ≡ None → open_file_at fs fd ≡ Some (file.Writing w) → StepsOrFails now (ops.Write fd []) (Ok (ops.Count 0)) now
empty_put t fs fd now w same invariant accepted e =
    subst (λ z. StepsOrFails now (ops.Write fd []) (Ok (ops.Count 0)) z) same
    (kept_answer (session_view t fs) now (ops.Write fd []) (files_view t fs) (ops.Count 0) same (sound_by t fs invariant) accepted refl refl refl
    (ap (λ f. (ops.Count 0, record { tree = visible_tree t; files = f })) stays))
  where
    stays : files_with_file (files_view t fs) fd (option_map (λ v. Writing (writer_after_write v [])) (file_writer (file_numbered (files_view t fs) fd))) ≡ files_view t fs
    stays =
        ap (λ o. files_with_file (files_view t fs) fd (option_map (λ v. Writing (writer_after_write v [])) o)) (the_writer t fs fd (Some w) (sym (ap writer_if_any e)))
        ∙ sym (set_is t fs fd (Some (file.Writing w)) (ap is_some e)) ∙ ap (files_view t) (set_same fs fd (file.Writing w) e)

pub nothing_put : (t : TreeState) (fs : RuntimeFiles) (fd : ℕ) (bytes : List ℕ) (now : SessionView) (w : Writer) → session_view t fs ≡ now → (t.failed ≡ false → IsReady t fs) → refusal_by_checks (session_view t fs) (ops.Write fd bytes) ≡ None → open_file_at fs fd ≡ Some (file.Writing w) →
    (length bytes == 0) ≡ true → StepsOrFails now (ops.Write fd bytes) (Ok (ops.Count 0)) now
nothing_put t fs fd bytes now w same invariant accepted e none =
    let nothing = no_items bytes none in
    subst (λ xs. StepsOrFails now (ops.Write fd xs) (Ok (ops.Count 0)) now) (sym nothing)
    (empty_put t fs fd now w same invariant (subst (λ xs. refusal_by_checks (session_view t fs) (ops.Write fd xs) ≡ None) nothing accepted) e)

-- ---- some bytes

some_needed : (s : Session) (fd : ℕ) (bytes : List ℕ) → (length bytes == 0) ≡ false → needs_no_device s (ops.Write fd bytes) ≡ false
some_needed s fd [] e = absurd (cc)
some_needed s fd (b ∷ bytes) e = refl

pub some_taken : (t : TreeState) (fs : RuntimeFiles) (fd : ℕ) (bytes : List ℕ) → (length bytes == 0) ≡ false → needs_session_alone (viewed_session (session_view t fs)) (ops.Write fd bytes) ≡ false
some_taken t fs fd bytes some = some_needed (viewed_session (session_view t fs)) fd bytes some

pub some_put : (t new : TreeState) (fs : RuntimeFiles) (fd : ℕ) (bytes : List ℕ) (now : SessionView) (w v : Writer) → session_view t fs ≡ now → (t.failed ≡ false → IsReady t fs) → refusal_by_checks (session_view t fs) (ops.Write fd bytes) ≡ None → open_file_at fs fd ≡ Some (file.Writing w) → (length bytes == 0) ≡ false →
    IsChangedWriter new (writer_after_write (writer_view t w) bytes) v → KeepsImage t new → IsStep (system_state now) (ops.Write fd bytes) (ops.Count (length bytes)) (system_state (session_view new (set fs fd (Some (file.Writing v)))))
some_put t new fs fd bytes now w v same invariant accepted e some made b =
    subst (λ z. IsStep (system_state z) op (ops.Count (length bytes)) (system_state (session_view new later))) same
    (subst (λ m. IsStep m op (ops.Count (length bytes)) (system_state (session_view new later))) (sym (healthy_system (session_view t fs) works))
    (subst (λ m. IsStep (record { disk = t.disk; calls = t.history; state = Healthy (viewed_session (session_view t fs)) }) op (ops.Count (length bytes)) m) (sym to)
    (filled_step t.disk t.pairs (viewed_session (session_view t fs)) (tree_summary t) op new.disk new.pairs b.calls t.history (is_over t (files_view t fs) (invariant works).sound) (not_refused (session_view t fs) op accepted) refl (some_needed (viewed_session (session_view t fs)) fd bytes some) b.geometry
    b.sound.accepted b.pairs (ap₂ (λ (z : Tree) (a : DiskSummary). let k : DiskView = record { tree = z; gstate = a.gstate; used = a.used } in k) b.shows b.around) (recovered_from new.disk new.pairs b.sound.accepted made.written.settled)
    (λ h. b.sound.fits made.written.writable))))
  where
    op : Operation
    op = ops.Write fd bytes

    later : RuntimeFiles
    later = set fs fd (Some (file.Writing v))

    works : t.failed ≡ false
    works = not_failed (session_view t fs) op accepted

    files : files_view new later ≡ files_with_file (files_view t fs) fd (option_map (λ u. Writing (writer_after_write u bytes)) (file_writer (file_numbered (files_view t fs) fd)))
    files =
        other_tree t new fs fd w v (only fs fd w e (invariant works).one) ∙ ap (λ x. set (files_view t fs) fd (Some (Writing x))) made.seen
        ∙ sym (inside_put t fs fd (Writing (writer_after_write (writer_view t w) bytes)) (ap is_some e))
        ∙ sym (ap (λ o. files_with_file (files_view t fs) fd (option_map (λ u. Writing (writer_after_write u bytes)) o)) (the_writer t fs fd (Some w) (sym (ap writer_if_any e))))

    to : system_state (session_view new later) ≡ record { disk = new.disk; calls = b.calls ++ t.history; state = Healthy (operation_effect (tree_summary t) (viewed_session (session_view t fs)) op).1 }
    to = healthy_system (session_view new later) b.works ∙ ap₂ (λ calls (s : Session). record { disk = new.disk; calls = calls; state = Healthy s }) b.called (ap₂ (λ z f. record { tree = z; files = f }) b.shows files)
