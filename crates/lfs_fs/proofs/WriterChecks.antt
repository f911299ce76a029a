-- The checks of a writer's calls.
use Rattle.std.proofs.Common.{ℕ, zero, suc, if◌then◌else◌, ◌≡◌, ◌+◌, ◌≤◌, Bool, true, false, not, max, min, List, [], ◌∷◌, Option, Some, None, length, take, nat_lt, ◌&&◌, ◌||◌, is_some, refl, sym, ap, ap₂, subst, ◌∙◌, arith}
use Rattle.std.specs.Prelude.{◌==◌}
use Rattle.lfs_fs.proofs.Common.{eq-eqb, eqb-true, ne_eqb, lt-ltb, same_Some, AllByRecursion, option_map, block_count, profile_file_max, truncated_writer, writer_after_write, written_contents, zero_padded, turns_writer, write_position, file_numbered, first_refusal, overfills_disk, refuse_if, file_writer, TreeState, tree_summary, RuntimeFiles, draft_or_stored_bytes, last_change_end, open_file_at, files_view, draft_block_reserve, is_draft_nonsequential, writer_if_any, writer_view, writers_among, IsWriterReady, session_view, refusal_by_checks}
use Rattle.lfs_model.specs.session.Operations as ops
use Rattle.lfs_model.specs.session.Session as session
use Rattle.lfs_fs.specs.declared.files.OpenFile.{OpenFile}
use Rattle.lfs_fs.specs.declared.files.OpenFile.TheVariants as file
use Rattle.lfs_fs.specs.declared.files.Writer.{Writer}
use Rattle.lfs_fs.proofs.OpenFiles.{file_is, writer_is}
use Rattle.lfs_fs.proofs.Writing.{after_truncate_is, after_write_is, length-cut, length-written, place_is}

-- ---- the writer of a number

pub the_writer : (t : TreeState) (fs : RuntimeFiles) (fd : ℕ) (o : Option Writer) → o ≡ writer_if_any (open_file_at fs fd) → file_writer (file_numbered (files_view t fs) fd) ≡ option_map (writer_view t) o
the_writer t fs fd o e = ap file_writer (file_is t fs fd) ∙ writer_is t (open_file_at fs fd) ∙ ap (option_map (writer_view t)) (sym e)

pub writer_there : (fs : RuntimeFiles) (fd : ℕ) (w : Writer) → Some w ≡ writer_if_any (open_file_at fs fd) → is_some (writer_if_any (open_file_at fs fd)) ≡ true
writer_there fs fd w e = ap is_some (sym e)

pub entry_is : (fs : RuntimeFiles) (fd : ℕ) (w : Writer) → Some w ≡ writer_if_any (open_file_at fs fd) → open_file_at fs fd ≡ Some (file.Writing w)
entry_is fs fd w e = go (open_file_at fs fd) e
  where
    go : (o : Option OpenFile) → Some w ≡ writer_if_any o → o ≡ Some (file.Writing w)
    go None k = absurd (cc)
    go (Some (file.Reading r)) k = absurd (cc)
    go (Some (file.Writing v)) k = ap (option_map file.Writing) (sym k)

pub written_at : (t : TreeState) (fs : RuntimeFiles) (fd : ℕ) (w : Writer) → AllByRecursion (IsWriterReady t) (writers_among fs) → Some w ≡ writer_if_any (open_file_at fs fd) → IsWriterReady t w
written_at t [] fd w h e = absurd (cc)
written_at t (None ∷ fs) zero w h e = absurd (cc)
written_at t (Some (file.Reading r) ∷ fs) zero w h e = absurd (cc)
written_at t (Some (file.Writing v) ∷ fs) zero w h e = subst (IsWriterReady t) (same_Some v w (sym e)) h.0
written_at t (None ∷ fs) (suc fd) w h e = written_at t fs fd w h e
written_at t (Some (file.Reading r) ∷ fs) (suc fd) w h e = written_at t fs fd w h e
written_at t (Some (file.Writing v) ∷ fs) (suc fd) w h e = written_at t fs fd w h.1 e

-- ---- a write

write_refused : (t : TreeState) (fs : RuntimeFiles) (fd : ℕ) (bytes : List ℕ) (w : session.FileWriter) (x y : Bool) → false ≡ t.failed → file_writer (file_numbered (files_view t fs) fd) ≡ Some w →
    (nat_lt 0 (length bytes) && nat_lt (profile_file_max t.disk.profile) (write_position w + length bytes)) ≡ x → (nat_lt 0 (length bytes) && overfills_disk (tree_summary t) (writer_after_write w bytes)) ≡ y →
    refusal_by_checks (session_view t fs) (ops.Write fd bytes) ≡ first_refusal (refuse_if x ops.TooBig ∷ refuse_if y ops.NoSpace ∷ [])
write_refused t fs fd bytes w x y works is big full = rw (sym works, is, big, full) refl

pub write_no_writer : (t : TreeState) (fs : RuntimeFiles) (fd : ℕ) (bytes : List ℕ) → false ≡ t.failed → None ≡ writer_if_any (open_file_at fs fd) → refusal_by_checks (session_view t fs) (ops.Write fd bytes) ≡ Some ops.BadFile
write_no_writer t fs fd bytes works none = rw (sym works, the_writer t fs fd None none) refl

pub write_nothing : (t : TreeState) (fs : RuntimeFiles) (fd : ℕ) (bytes : List ℕ) (w : Writer) → false ≡ t.failed → Some w ≡ writer_if_any (open_file_at fs fd) → nat_lt 0 (length bytes) ≡ false → refusal_by_checks (session_view t fs) (ops.Write fd bytes) ≡ None
write_nothing t fs fd bytes w works is none =
    write_refused t fs fd bytes (writer_view t w) false false works (the_writer t fs fd (Some w) is)
    (ap (λ b. b && nat_lt (profile_file_max t.disk.profile) (write_position (writer_view t w) + length bytes)) none) (ap (λ b. b && overfills_disk (tree_summary t) (writer_after_write (writer_view t w) bytes)) none)

pub write_too_big : (t : TreeState) (fs : RuntimeFiles) (fd : ℕ) (bytes : List ℕ) (w : Writer) (place : ℕ) → false ≡ t.failed → IsWriterReady t w → Some w ≡ writer_if_any (open_file_at fs fd) → nat_lt 0 (length bytes) ≡ true →
    place ≡ (if w.appends then w.size else w.position) → nat_lt (profile_file_max t.disk.profile) (place + length bytes) ≡ true → refusal_by_checks (session_view t fs) (ops.Write fd bytes) ≡ Some ops.TooBig
write_too_big t fs fd bytes w place works written is some at big =
    write_refused t fs fd bytes (writer_view t w) true _ works (the_writer t fs fd (Some w) is)
    (ap₂ (λ a b. a && b) some (ap (λ p. nat_lt (profile_file_max t.disk.profile) (p + length bytes)) (sym (place_is t w place written at)) ∙ big)) refl

-- what the writer would hold
overfills_is : (t : TreeState) (w v : session.FileWriter) (turned : Bool) (size : ℕ) → v.dirty ≡ true → v.turned ≡ turned → length v.contents ≡ size →
    overfills_disk (tree_summary t) v ≡ nat_lt (block_count t.disk) (length (tree_summary t).used + draft_block_reserve t.disk.profile t.disk.block_size turned size)
overfills_is t w v turned size dirty turns_writer long = rw (dirty, turns_writer, long) refl

pub write_fits : (t : TreeState) (fs : RuntimeFiles) (fd : ℕ) (bytes : List ℕ) (w : Writer) (place begin size : ℕ) (turned full : Bool) → false ≡ t.failed → IsWriterReady t w → Some w ≡ writer_if_any (open_file_at fs fd) → nat_lt 0 (length bytes) ≡ true → 1 ≤ length bytes →
    place ≡ (if w.appends then w.size else w.position) → nat_lt (profile_file_max t.disk.profile) (place + length bytes) ≡ false → begin ≡ min place w.size → turned ≡ (is_draft_nonsequential w.unsaved || turns_writer (last_change_end w.unsaved) begin) → size ≡ max w.size (place + length bytes) →
    full ≡ nat_lt (block_count t.disk) (length (tree_summary t).used + draft_block_reserve t.disk.profile t.disk.block_size turned size) → refusal_by_checks (session_view t fs) (ops.Write fd bytes) ≡ refuse_if full ops.NoSpace
write_fits t fs fd bytes w place begin size turned full works written is some one at small begin_is turned_is size_is full_is =
    write_refused t fs fd bytes (writer_view t w) false full works (the_writer t fs fd (Some w) is)
    (ap₂ (λ a b. a && b) some (ap (λ p. nat_lt (profile_file_max t.disk.profile) (p + length bytes)) (sym p_is) ∙ small))
    (ap₂ (λ a b. a && b) some (overfills_is t (writer_view t w) (writer_after_write (writer_view t w) bytes) turned size (ap (λ (v : session.FileWriter). v.dirty) after) (ap (λ (v : session.FileWriter). v.turned) after ∙ turn) (ap (λ (v : session.FileWriter). length v.contents) after ∙ long) ∙ sym full_is))
    ∙ left full
  where
    p_is : place ≡ write_position (writer_view t w)
    p_is = place_is t w place written at

    after : writer_after_write (writer_view t w) bytes ≡ record (writer_view t w) {
      contents = written_contents (draft_or_stored_bytes t w.path w.unsaved) (write_position (writer_view t w)) bytes;
      position = write_position (writer_view t w) + length bytes;
      dirty = true;
      turned = is_draft_nonsequential w.unsaved || turns_writer (last_change_end w.unsaved) (min (write_position (writer_view t w)) (length (draft_or_stored_bytes t w.path w.unsaved)));
      last_end = Some (write_position (writer_view t w) + length bytes);
    }
    after = after_write_is (writer_view t w) bytes one

    turn : (is_draft_nonsequential w.unsaved || turns_writer (last_change_end w.unsaved) (min (write_position (writer_view t w)) (length (draft_or_stored_bytes t w.path w.unsaved)))) ≡ turned
    turn = ap₂ (λ p n. is_draft_nonsequential w.unsaved || turns_writer (last_change_end w.unsaved) (min p n)) (sym p_is) written.size ∙ ap (λ b. is_draft_nonsequential w.unsaved || turns_writer (last_change_end w.unsaved) b) (sym begin_is) ∙ sym turned_is

    long : length (written_contents (draft_or_stored_bytes t w.path w.unsaved) (write_position (writer_view t w)) bytes) ≡ size
    long = length-written (draft_or_stored_bytes t w.path w.unsaved) (write_position (writer_view t w)) bytes ∙ ap₂ (λ m p. max m (p + length bytes)) written.size (sym p_is) ∙ sym size_is

    left : (b : Bool) → first_refusal (refuse_if false ops.TooBig ∷ refuse_if b ops.NoSpace ∷ []) ≡ refuse_if b ops.NoSpace
    left true = refl
    left false = refl

-- ---- a truncation

truncate_refused : (t : TreeState) (fs : RuntimeFiles) (fd size : ℕ) (w : session.FileWriter) (x y : Bool) → false ≡ t.failed → file_writer (file_numbered (files_view t fs) fd) ≡ Some w →
    nat_lt (profile_file_max t.disk.profile) size ≡ x → (not (size == length w.contents) && overfills_disk (tree_summary t) (truncated_writer w size)) ≡ y →
    refusal_by_checks (session_view t fs) (ops.Truncate fd size) ≡ first_refusal (refuse_if x ops.TooBig ∷ refuse_if y ops.NoSpace ∷ [])
truncate_refused t fs fd size w x y works is big full = rw (sym works, is, big, full) refl

pub truncate_no_writer : (t : TreeState) (fs : RuntimeFiles) (fd size : ℕ) → false ≡ t.failed → None ≡ writer_if_any (open_file_at fs fd) → refusal_by_checks (session_view t fs) (ops.Truncate fd size) ≡ Some ops.BadFile
truncate_no_writer t fs fd size works none = rw (sym works, the_writer t fs fd None none) refl

pub truncate_too_big : (t : TreeState) (fs : RuntimeFiles) (fd size : ℕ) (w : Writer) → false ≡ t.failed → Some w ≡ writer_if_any (open_file_at fs fd) → nat_lt (profile_file_max t.disk.profile) size ≡ true → refusal_by_checks (session_view t fs) (ops.Truncate fd size) ≡ Some ops.TooBig
truncate_too_big t fs fd size w works is big = truncate_refused t fs fd size (writer_view t w) true _ works (the_writer t fs fd (Some w) is) big refl

pub truncate_same : (t : TreeState) (fs : RuntimeFiles) (fd size : ℕ) (w : Writer) → false ≡ t.failed → IsWriterReady t w → Some w ≡ writer_if_any (open_file_at fs fd) → nat_lt (profile_file_max t.disk.profile) size ≡ false → size ≡ w.size → refusal_by_checks (session_view t fs) (ops.Truncate fd size) ≡ None
truncate_same t fs fd size w works written is small same =
    truncate_refused t fs fd size (writer_view t w) false false works (the_writer t fs fd (Some w) is) small
    (ap (λ b. not b && overfills_disk (tree_summary t) (truncated_writer (writer_view t w) size)) (eq-eqb size (length (draft_or_stored_bytes t w.path w.unsaved)) (same ∙ sym written.size)))

pub truncate_fits : (t : TreeState) (fs : RuntimeFiles) (fd size : ℕ) (w : Writer) (turned full : Bool) → false ≡ t.failed → IsWriterReady t w → Some w ≡ writer_if_any (open_file_at fs fd) → nat_lt (profile_file_max t.disk.profile) size ≡ false → (size ≡ w.size → ⊥) →
    turned ≡ (is_draft_nonsequential w.unsaved || is_some (last_change_end w.unsaved)) → full ≡ nat_lt (block_count t.disk) (length (tree_summary t).used + draft_block_reserve t.disk.profile t.disk.block_size turned size) →
    refusal_by_checks (session_view t fs) (ops.Truncate fd size) ≡ refuse_if full ops.NoSpace
truncate_fits t fs fd size w turned full works written is small other turned_is full_is =
    truncate_refused t fs fd size (writer_view t w) false full works (the_writer t fs fd (Some w) is) small
    (ap₂ (λ a b. not a && b) differs (overfills_is t (writer_view t w) (truncated_writer (writer_view t w) size) turned size (ap (λ (v : session.FileWriter). v.dirty) after) (ap (λ (v : session.FileWriter). v.turned) after ∙ sym turned_is)
    (ap (λ (v : session.FileWriter). length v.contents) after ∙ length-cut (draft_or_stored_bytes t w.path w.unsaved) size) ∙ sym full_is))
    ∙ left full
  where
    differs : (size == length (draft_or_stored_bytes t w.path w.unsaved)) ≡ false
    differs = ne_eqb size (length (draft_or_stored_bytes t w.path w.unsaved)) (λ e. other (e ∙ written.size))

    after : truncated_writer (writer_view t w) size ≡ record (writer_view t w) {
      contents = take size (zero_padded size (draft_or_stored_bytes t w.path w.unsaved));
      dirty = true;
      turned = is_draft_nonsequential w.unsaved || is_some (last_change_end w.unsaved);
      last_end = if nat_lt (length (draft_or_stored_bytes t w.path w.unsaved)) size then Some size else last_change_end w.unsaved;
    }
    after = after_truncate_is (writer_view t w) size differs

    left : (b : Bool) → first_refusal (refuse_if false ops.TooBig ∷ refuse_if b ops.NoSpace ∷ []) ≡ refuse_if b ops.NoSpace
    left true = refl
    left false = refl

-- ---- comparisons

positive : (n : ℕ) → (n == 0) ≡ false → 1 ≤ n
positive zero e = absurd (cc)
positive (suc n) e = omega arith

pub some_bytes : (n : ℕ) → (n == 0) ≡ false → (nat_lt 0 n ≡ true) × (1 ≤ n)
some_bytes n e = let k = positive n e in (lt-ltb 0 n (omega (arith, k)), k)

pub no_bytes : (n : ℕ) → (n == 0) ≡ true → nat_lt 0 n ≡ false
no_bytes n e = ap (nat_lt 0) (eqb-true n 0 e)
