-- Writers whose contents are changed.
use Rattle.std.proofs.Common.{ℕ, ◌*◌, ◌≡◌, ◌+◌, ◌-◌, ◌<◌, ◌≤◌, inl, inr, Bool, true, false, cond, max, min, List, [], ◌∷◌, ◌++◌, length, take, drop, replicate, Option, Some, None, Result, Ok, Err, is_some, refl, sym, ap, ap₂, subst, ◌∙◌, arith, length-append, length-drop, append_assoc}
use Rattle.lfs_device.specs.declared.error.Error.{Error}
use Rattle.std.specs.Prelude.{OnErr, ◌||◌, ◌==◌, nat_le, nat_lt, if◌then◌else◌}
use Rattle.lfs_fs.proofs.Common.{eqb-true, ne_eqb, length-take, file_bytes, tree_with_change, is_file, node_with_bytes, path_itself, option_map, SameGeometry, block_count, inline_limit, synced_writer, truncated_writer, writer_after_write, written_contents, turns_writer, write_position, zero_padded, reserved_for_writer, zero_gstate, pairs_gstate, Node, FileNode, DirectoryNode, Path, Tree, IsStoreApplied, AreTreeContents, InlineWithinLimit, KeepsImage, writer_contents_bytes, TreeState, OnlyReadsTree, IsFailedTree, tree_summary, visible_tree, contents_form, FormFitsWriter, ContentsForm, IsWriterForm, CanChangeWriter, CanSaveWriter, IsSavedWriter, CanTruncateTo, CanWriteBytes, IsDraftOrFileForm, IsChangedWriter, draft_or_stored_bytes, last_change_end, writer_block_reserve, draft_block_reserve, is_draft_nonsequential, writer_view, AreSoundUnsavedContents, AreSoundIfUnsaved, IsWriterReady}
use Rattle.std.proofs.lemmas.Bool.{leb-false}
use Rattle.std.proofs.lemmas.List.{length-replicate}
use Rattle.lfs_model.specs.declared.limits.Profile.{Profile}
use Rattle.lfs_model.specs.session.Session as session
use Rattle.lfs_model.specs.session.Session.{file_block_count}
use Rattle.lfs_tree.specs.OpenContents.{CanStoreContents, CanTruncateIn, CanWriteIn, kept_thread}
use Rattle.lfs_file.specs.Contents.{FormFitsLimit, finish_room, NeedsTruncateRoom, truncation_room, write_room}
use Rattle.lfs_file.specs.Form as shape_of
use Rattle.lfs_file.specs.Form.{form_size, form_written_within, shortened_form, truncated_form, written_form}
use Rattle.lfs_file.specs.declared.contents.WriterContents.{WriterContents}
use Rattle.lfs_fs.specs.WriterChanges.{CanReserveWriterBlocks}
use Rattle.lfs_fs.specs.declared.files.UnsavedContents.{UnsavedContents}
use Rattle.lfs_fs.specs.declared.files.Writer.{Writer}
use Rattle.lfs_fs.proofs.OpenFiles.{held_one}

-- ---- sizes

length-zeros_to : (n : ℕ) (bytes : List ℕ) → length (zero_padded n bytes) ≡ max n (length bytes)
length-zeros_to n bytes = omega (arith, length-append bytes (replicate (n - length bytes) 0), length-replicate {A = ℕ} (n - length bytes) 0)

pub length-written : (old : List ℕ) (at : ℕ) (bytes : List ℕ) → length (written_contents old at bytes) ≡ max (length old) (at + length bytes)
length-written old at bytes =
    let front : length (take at (zero_padded at old)) ≡ at = omega (arith, length-take at (zero_padded at old), length-zeros_to at old) in
    omega (arith, front, length-append (take at (zero_padded at old) ++ bytes) (drop (at + length bytes) old), length-append (take at (zero_padded at old)) bytes, length-drop (at + length bytes) old)

pub length-cut : (old : List ℕ) (size : ℕ) → length (take size (zero_padded size old)) ≡ size
length-cut old size = omega (arith, length-take size (zero_padded size old), length-zeros_to size old)

-- ---- what a call makes of a writer

pub after_write_is : (w : session.FileWriter) (bytes : List ℕ) → 1 ≤ length bytes → writer_after_write w bytes ≡ record w {
  contents = written_contents w.contents (write_position w) bytes;
  position = write_position w + length bytes;
  dirty = true;
  turned = w.turned || turns_writer w.last_end (min (write_position w) (length w.contents));
  last_end = Some (write_position w + length bytes);
}
after_write_is w [] some = absurd (omega (arith, some))
after_write_is w (b ∷ bytes) some = refl

pub after_truncate_is : (w : session.FileWriter) (size : ℕ) → (size == length w.contents) ≡ false → truncated_writer w size ≡ record w {
  contents = take size (zero_padded size w.contents);
  dirty = true;
  turned = w.turned || is_some w.last_end;
  last_end = if nat_lt (length w.contents) size then Some size else w.last_end;
}
after_truncate_is w size e = rw e refl

pub place_is : (t : TreeState) (w : Writer) (place : ℕ) → IsWriterReady t w → place ≡ (if w.appends then w.size else w.position) → place ≡ write_position (writer_view t w)
place_is t w place opened e = e ∙ ap (λ n. if w.appends then n else w.position) (sym opened.size)

-- ---- forms

abbrev is_finished : ContentsForm → Bool
is_finished (shape_of.InMemory size) = false
is_finished (shape_of.Finished size flying) = true
is_finished (shape_of.InHand stop base flying) = false

settle_of : (limit : ℕ) (f : ContentsForm) (v : session.FileWriter) → is_finished f ≡ false → FormFitsWriter limit f v → InlineWithinLimit limit f
settle_of limit (shape_of.InMemory size) v e h = h
settle_of limit (shape_of.Finished size flying) v e h = absurd (cc)
settle_of limit (shape_of.InHand stop base flying) v e h = h.large

unfinished_grown : (begin stop : ℕ) (f : ContentsForm) → is_finished (form_written_within begin stop f) ≡ false
unfinished_grown begin stop (shape_of.InMemory size) = refl
unfinished_grown begin stop (shape_of.Finished size flying) = refl
unfinished_grown begin stop (shape_of.InHand end base flying) = go (end == begin)
  where
    go : (b : Bool) → is_finished (cond b (shape_of.InHand stop base flying) (shape_of.InHand stop (max end base) true)) ≡ false
    go true = refl
    go false = refl

pub settle_written : (limit place count : ℕ) (f : ContentsForm) (v : session.FileWriter) → FormFitsWriter limit (written_form limit place count f) v → InlineWithinLimit limit (written_form limit place count f)
settle_written limit place count f v h = settle_of limit (written_form limit place count f) v (go (nat_le (max (form_size f) (place + count)) limit)) h
  where
    go : (b : Bool) → is_finished (cond b (shape_of.InMemory (max (form_size f) (place + count))) (form_written_within (min place (form_size f)) (place + count) f)) ≡ false
    go true = refl
    go false = unfinished_grown (min place (form_size f)) (place + count) f

pub settle_truncated : (limit size : ℕ) (f : ContentsForm) (v : session.FileWriter) → (size ≡ form_size f → ⊥) → FormFitsWriter limit (truncated_form limit size f) v → InlineWithinLimit limit (truncated_form limit size f)
settle_truncated limit size f v other h = first (size == form_size f) refl
  where
    short : (f : ContentsForm) → (nat_le size limit) ≡ false → FormFitsWriter limit (shortened_form size f) v → InlineWithinLimit limit (shortened_form size f)
    short (shape_of.InMemory old) e h = h
    short (shape_of.Finished old flying) e h = leb-false size limit e
    short (shape_of.InHand stop base flying) e h = leb-false size limit e

    third : (b : Bool) → nat_le size limit ≡ false → FormFitsWriter limit (cond b (form_written_within (form_size f) size f) (shortened_form size f)) v → InlineWithinLimit limit (cond b (form_written_within (form_size f) size f) (shortened_form size f))
    third true e h = settle_of limit (form_written_within (form_size f) size f) v (unfinished_grown (form_size f) size f) h
    third false e h = short f e h

    second : (b : Bool) → nat_le size limit ≡ b → FormFitsWriter limit (cond b (shape_of.InMemory size) (cond (nat_lt (form_size f) size) (form_written_within (form_size f) size f) (shortened_form size f))) v →
        InlineWithinLimit limit (cond b (shape_of.InMemory size) (cond (nat_lt (form_size f) size) (form_written_within (form_size f) size f) (shortened_form size f)))
    second true e h = h
    second false e h = third (nat_lt (form_size f) size) e h

    first : (b : Bool) → (size == form_size f) ≡ b → InlineWithinLimit limit (truncated_form limit size f)
    first true e = absurd (other (eqb-true size (form_size f) e))
    first false e = rw e (second (nat_le size limit) refl (rwd h))
      where
        rwd : FormFitsWriter limit (truncated_form limit size f) v → FormFitsWriter limit (cond (nat_le size limit) (shape_of.InMemory size) (cond (nat_lt (form_size f) size) (form_written_within (form_size f) size f) (shortened_form size f))) v
        rwd k = subst (λ b. FormFitsWriter limit (cond b f (cond (nat_le size limit) (shape_of.InMemory size) (cond (nat_lt (form_size f) size) (form_written_within (form_size f) size f) (shortened_form size f)))) v) e k

-- ---- the contents before

pub changed_in : (t : TreeState) (w : Writer) (u : UnsavedContents) → AreSoundIfUnsaved t w w.unsaved → w.unsaved ≡ Some u → AreSoundUnsavedContents t w u
changed_in t w u h e = subst (AreSoundIfUnsaved t w) e h

pub kept_by_form : (t : TreeState) (w : Writer) (shape : ContentsForm) → IsWriterReady t w → IsDraftOrFileForm t.disk.profile t.disk.block_size w.unsaved (length (draft_or_stored_bytes t w.path w.unsaved)) shape → IsWriterForm t.disk.profile t.disk.block_size shape (writer_view t w)
kept_by_form t w shape opened h = go w.unsaved refl h
  where
    go : (u : Option UnsavedContents) → w.unsaved ≡ u → IsDraftOrFileForm t.disk.profile t.disk.block_size u (length (draft_or_stored_bytes t w.path w.unsaved)) shape → IsWriterForm t.disk.profile t.disk.block_size shape (writer_view t w)
    go None e (inl k) = subst (λ f. IsWriterForm t.disk.profile t.disk.block_size f (writer_view t w)) (sym k.0) (record { size = refl; fits = k.1 })
    go None e (inr k) = subst (λ f. IsWriterForm t.disk.profile t.disk.block_size f (writer_view t w)) (sym k) (record {
      size = refl;
      fits = record { dirty = λ z. absurd (cc); large = λ z. absurd (cc); turned = λ z. absurd (cc) };
    })
    go (Some u) e k = subst (λ f. IsWriterForm t.disk.profile t.disk.block_size f (writer_view t w)) (sym k) (changed_in t w u opened.changed e).kept

-- ---- the writer after

pub beside_later : (old mid new : TreeState) → OnlyReadsTree old mid → KeepsImage mid new → KeepsImage old new
beside_later old mid new asked b =
    again (subst (λ t. KeepsImage t new) asked.same b)
  where
    again : KeepsImage (record old { history = mid.history; cache = mid.cache }) new → KeepsImage old new
    again k = record {
      works = k.works;
      sound = k.sound;
      writable = k.writable;
      pairs = k.pairs;
      shows = k.shows;
      around = k.around;
      stay = k.stay;
      lists = k.lists;
      geometry = k.geometry;
      calls = k.calls ++ asked.reads.events;
      called = k.called ∙ ap (λ z. k.calls ++ z) asked.reads.extends ∙ sym (append_assoc k.calls asked.reads.events old.history);
      no_fault = k.no_fault ∙ asked.no_fault;
    }

pub broken_later : (old mid new : TreeState) → OnlyReadsTree old mid → IsFailedTree mid new → IsFailedTree old new
broken_later old mid new asked b = record {
  failed = b.failed;
  geometry = subst (λ (t : TreeState). SameGeometry t.disk new.disk) asked.same b.geometry;
  calls = b.calls ++ asked.reads.events;
  called = b.called ∙ ap (λ z. b.calls ++ z) asked.reads.extends ∙ sym (append_assoc b.calls asked.reads.events old.history);
}

pub broken_after : {A : Type 0} (old mid new : TreeState) (r : Result A Error) → OnlyReadsTree old mid → IsFailedTree mid new → OnErr r (IsFailedTree old new)
broken_after old mid new (Ok x) asked b = tt
broken_after old mid new (Err e) asked b = broken_later old mid new asked b

pub as_writer : (old new : TreeState) (path : Path) (position size : ℕ) (appends turned : Bool) (end : Option ℕ) (c : WriterContents) (v : session.FileWriter) → KeepsImage old new → old.writable ≡ true →
    pairs_gstate old.pairs ≡ zero_gstate → is_file (visible_tree old path) ≡ true → length (writer_contents_bytes (kept_thread new) c) ≡ size → AreTreeContents new path c → IsWriterForm old.disk.profile old.disk.block_size (contents_form c) v →
    InlineWithinLimit (inline_limit old.disk.profile old.disk.block_size) (contents_form c) → CanReserveWriterBlocks old v →
    writer_view new (record { path = path; position = position; size = size; appends = appends; unsaved = Some (record { contents = c; has_turned = turned; last_end = end }) }) ≡ v →
    IsChangedWriter new v (record { path = path; position = position; size = size; appends = appends; unsaved = Some (record { contents = c; has_turned = turned; last_end = end }) })
as_writer old new path position size appends turned end c v b writable settled there long over kept settle room seen = record {
  seen = seen;
  written = record {
    writable = b.writable ∙ writable;
    settled = ap pairs_gstate b.pairs ∙ settled;
    there = ap (λ (t : Tree). is_file (t path)) b.shows ∙ there;
    size = long;
    changed = record {
      over = over;
      kept = subst (λ z. IsWriterForm new.disk.profile new.disk.block_size (contents_form c) z) (sym seen) (subst (λ a. IsWriterForm a.profile a.block_size (contents_form c) v) (sym b.around) kept);
      form = subst (λ a. InlineWithinLimit (inline_limit a.profile a.block_size) (contents_form c)) (sym b.around) settle;
      room = subst (λ a. length a.used + draft_block_reserve a.profile a.block_size turned size ≤ a.block_count) (sym b.around)
          (subst (λ n. length (tree_summary old).used + n ≤ block_count old.disk) (ap (reserved_for_writer old.disk.profile old.disk.block_size) (sym seen) ∙ sym (held_one old.disk.profile old.disk.block_size new w long)) room);
    };
  };
  changed = refl;
}
  where
    w : Writer
    w = record { path = path; position = position; size = size; appends = appends; unsaved = Some (record { contents = c; has_turned = turned; last_end = end }) }

-- the one that wrote bytes
pub wrote : (old new : TreeState) (w : Writer) (bytes : List ℕ) (place end size : ℕ) (turned : Bool) (c : WriterContents) → KeepsImage old new → IsWriterReady old w → 1 ≤ length bytes → CanReserveWriterBlocks old (writer_after_write (writer_view old w) bytes) →
    place ≡ write_position (writer_view old w) → end ≡ place + length bytes → size ≡ max w.size end → turned ≡ (is_draft_nonsequential w.unsaved || turns_writer (last_change_end w.unsaved) (min place w.size)) →
    AreTreeContents new w.path c → writer_contents_bytes (kept_thread new) c ≡ written_contents (draft_or_stored_bytes old w.path w.unsaved) place bytes → IsWriterForm old.disk.profile old.disk.block_size (contents_form c) (writer_after_write (writer_view old w) bytes) →
    InlineWithinLimit (inline_limit old.disk.profile old.disk.block_size) (contents_form c) →
    IsChangedWriter new (writer_after_write (writer_view old w) bytes) (record { path = w.path; position = end; size = size; appends = w.appends; unsaved = Some (record { contents = c; has_turned = turned; last_end = Some end }) })
wrote old new w bytes place end size turned c b opened some room at stop long turns_is over are kept settle =
    as_writer old new w.path end size w.appends turned (Some end) c (writer_after_write (writer_view old w) bytes) b opened.writable opened.settled opened.there
    (ap (λ xs. length xs) are ∙ length-written (draft_or_stored_bytes old w.path w.unsaved) place bytes ∙ ap₂ (λ m n. max m n) opened.size (sym stop) ∙ sym long)
    over kept settle room seen
  where
    make : List ℕ → ℕ → Bool → session.FileWriter
    make xs e t = record { path = w.path; contents = xs; position = e; append = w.appends; dirty = true; turned = t; last_end = Some e }

    place' : ℕ
    place' = write_position (writer_view old w)

    seen : make (writer_contents_bytes (kept_thread new) c) end turned ≡ writer_after_write (writer_view old w) bytes
    seen =
        ap (λ xs. make xs end turned) (are ∙ ap (λ p. written_contents (draft_or_stored_bytes old w.path w.unsaved) p bytes) at)
        ∙ ap (λ e. make (written_contents (draft_or_stored_bytes old w.path w.unsaved) place' bytes) e turned) (stop ∙ ap (λ p. p + length bytes) at)
        ∙ ap (λ z. make (written_contents (draft_or_stored_bytes old w.path w.unsaved) place' bytes) (place' + length bytes) z)
        (turns_is ∙ ap₂ (λ p n. is_draft_nonsequential w.unsaved || turns_writer (last_change_end w.unsaved) (min p n)) at (sym opened.size))
        ∙ sym (after_write_is (writer_view old w) bytes some)

-- the one whose contents have another size
pub cut : (old new : TreeState) (w : Writer) (size : ℕ) (turned : Bool) (end : Option ℕ) (c : WriterContents) → KeepsImage old new → IsWriterReady old w → (size == length (draft_or_stored_bytes old w.path w.unsaved)) ≡ false →
    CanReserveWriterBlocks old (truncated_writer (writer_view old w) size) → turned ≡ (is_draft_nonsequential w.unsaved || is_some (last_change_end w.unsaved)) → end ≡ (if nat_lt w.size size then Some size else last_change_end w.unsaved) →
    AreTreeContents new w.path c → writer_contents_bytes (kept_thread new) c ≡ take size (zero_padded size (draft_or_stored_bytes old w.path w.unsaved)) → IsWriterForm old.disk.profile old.disk.block_size (contents_form c) (truncated_writer (writer_view old w) size) →
    InlineWithinLimit (inline_limit old.disk.profile old.disk.block_size) (contents_form c) →
    IsChangedWriter new (truncated_writer (writer_view old w) size) (record { path = w.path; position = w.position; size = size; appends = w.appends; unsaved = Some (record { contents = c; has_turned = turned; last_end = end }) })
cut old new w size turned end c b opened other room turns_is end_is over are kept settle =
    as_writer old new w.path w.position size w.appends turned end c (truncated_writer (writer_view old w) size) b opened.writable opened.settled opened.there
    (ap (λ xs. length xs) are ∙ length-cut (draft_or_stored_bytes old w.path w.unsaved) size)
    over kept settle room seen
  where
    make : List ℕ → Bool → Option ℕ → session.FileWriter
    make xs t e = record { path = w.path; contents = xs; position = w.position; append = w.appends; dirty = true; turned = t; last_end = e }

    seen : make (writer_contents_bytes (kept_thread new) c) turned end ≡ truncated_writer (writer_view old w) size
    seen =
        ap (λ xs. make xs turned end) are
        ∙ ap (λ t. make (take size (zero_padded size (draft_or_stored_bytes old w.path w.unsaved))) t end) turns_is
        ∙ ap (λ e. make (take size (zero_padded size (draft_or_stored_bytes old w.path w.unsaved))) (is_draft_nonsequential w.unsaved || is_some (last_change_end w.unsaved)) e)
        (end_is ∙ ap (λ n. if nat_lt n size then Some size else last_change_end w.unsaved) (sym opened.size))
        ∙ sym (after_truncate_is (writer_view old w) size other)

-- ---- room, and what the laws of forms give

abbrev pub LargeLaw : Type 0
LargeLaw = (profile : Profile) (block_size : ℕ) (shape : ContentsForm) (w : session.FileWriter) → IsWriterForm profile block_size shape w → FormFitsLimit (inline_limit profile block_size) shape

abbrev pub WriteLaw : Type 0
WriteLaw = (profile : Profile) (block_size : ℕ) (shape : ContentsForm) (w : session.FileWriter) (byte : ℕ) (bytes : List ℕ) (used all : ℕ) → IsWriterForm profile block_size shape w → used + reserved_for_writer profile block_size (writer_after_write w (byte ∷ bytes)) ≤ all →
    inline_limit profile block_size < max (form_size shape) (write_position w + length (byte ∷ bytes)) → used + write_room block_size (write_position w) (length (byte ∷ bytes)) shape ≤ all

abbrev pub WrittenLaw : Type 0
WrittenLaw = (profile : Profile) (block_size : ℕ) (shape : ContentsForm) (w : session.FileWriter) (byte : ℕ) (bytes : List ℕ) → IsWriterForm profile block_size shape w →
    IsWriterForm profile block_size (written_form (inline_limit profile block_size) (write_position w) (length (byte ∷ bytes)) shape) (writer_after_write w (byte ∷ bytes))

abbrev pub TruncateLaw : Type 0
TruncateLaw = (profile : Profile) (block_size : ℕ) (shape : ContentsForm) (w : session.FileWriter) (size used all : ℕ) → IsWriterForm profile block_size shape w → used + reserved_for_writer profile block_size w ≤ all → used + reserved_for_writer profile block_size (truncated_writer w size) ≤ all →
    NeedsTruncateRoom (inline_limit profile block_size) size shape → used + truncation_room block_size size shape ≤ all

abbrev pub TruncatedLaw : Type 0
TruncatedLaw = (profile : Profile) (block_size : ℕ) (shape : ContentsForm) (w : session.FileWriter) (size : ℕ) → IsWriterForm profile block_size shape w → IsWriterForm profile block_size (truncated_form (inline_limit profile block_size) size shape) (truncated_writer w size)

room_to_write : WriteLaw → (profile : Profile) (block_size : ℕ) (shape : ContentsForm) (w : session.FileWriter) (bytes : List ℕ) (used all : ℕ) → 1 ≤ length bytes → IsWriterForm profile block_size shape w → used + reserved_for_writer profile block_size (writer_after_write w bytes) ≤ all →
    inline_limit profile block_size < max (form_size shape) (write_position w + length bytes) → used + write_room block_size (write_position w) (length bytes) shape ≤ all
room_to_write law profile block_size shape w [] used all some kept room large = absurd (omega (arith, some))
room_to_write law profile block_size shape w (b ∷ bytes) used all some kept room large = law profile block_size shape w b bytes used all kept room large

kept_written : WrittenLaw → (profile : Profile) (block_size : ℕ) (shape : ContentsForm) (w : session.FileWriter) (bytes : List ℕ) → 1 ≤ length bytes → IsWriterForm profile block_size shape w →
    IsWriterForm profile block_size (written_form (inline_limit profile block_size) (write_position w) (length bytes) shape) (writer_after_write w bytes)
kept_written law profile block_size shape w [] some kept = absurd (omega (arith, some))
kept_written law profile block_size shape w (b ∷ bytes) some kept = law profile block_size shape w b bytes kept

pub can_write : (old mid : TreeState) (w : Writer) (bytes : List ℕ) (place : ℕ) (c : WriterContents) (path : Path) → CanWriteBytes old w bytes → OnlyReadsTree old mid → place ≡ (if w.appends then w.size else w.position) → AreTreeContents mid path c → path ≡ w.path →
    IsDraftOrFileForm old.disk.profile old.disk.block_size w.unsaved (length (draft_or_stored_bytes old path w.unsaved)) (contents_form c) → LargeLaw → WriteLaw → CanWriteIn mid c place (length bytes)
can_write old mid w bytes place c path can asked at over same shape large write =
    subst (λ t. CanWriteIn t c place (length bytes)) (sym asked.same)
    (subst (λ p. CanWriteIn (record old { history = mid.history; cache = mid.cache }) c p (length bytes)) (sym is) (record {
      works = can.can.works;
      stands = (subst (λ t. AreTreeContents t path c) asked.same over).stands;
      large = large old.disk.profile old.disk.block_size (contents_form c) (writer_view old w) kept;
      some = can.some;
      small = can.small;
      room = room_to_write write old.disk.profile old.disk.block_size (contents_form c) (writer_view old w) bytes (length (tree_summary old).used) (block_count old.disk) can.some kept can.room;
    }))
  where
    is : place ≡ write_position (writer_view old w)
    is = place_is old w place can.can.written at

    kept : IsWriterForm old.disk.profile old.disk.block_size (contents_form c) (writer_view old w)
    kept = kept_by_form old w (contents_form c) can.can.written (subst (λ p. IsDraftOrFileForm old.disk.profile old.disk.block_size w.unsaved (length (draft_or_stored_bytes old p w.unsaved)) (contents_form c)) same shape)

pub has_written : (old mid new : TreeState) (w : Writer) (bytes : List ℕ) (place begin size : ℕ) (turned : Bool) (c d : WriterContents) (path : Path) → CanWriteBytes old w bytes → OnlyReadsTree old mid →
    place ≡ (if w.appends then w.size else w.position) → AreTreeContents mid path c → path ≡ w.path → IsDraftOrFileForm old.disk.profile old.disk.block_size w.unsaved (length (draft_or_stored_bytes old path w.unsaved)) (contents_form c) →
    writer_contents_bytes (kept_thread mid) c ≡ draft_or_stored_bytes old path w.unsaved → WrittenLaw → KeepsImage mid new → ((p : Path) → AreTreeContents mid p c → AreTreeContents new p d) →
    writer_contents_bytes (kept_thread new) d ≡ written_contents (writer_contents_bytes (kept_thread mid) c) place bytes → contents_form d ≡ written_form (inline_limit mid.disk.profile mid.disk.block_size) place (length bytes) (contents_form c) →
    begin ≡ min place w.size → turned ≡ (is_draft_nonsequential w.unsaved || turns_writer (last_change_end w.unsaved) begin) → size ≡ max w.size (place + length bytes) →
    IsChangedWriter new (writer_after_write (writer_view old w) bytes) (record { path = w.path; position = place + length bytes; size = size; appends = w.appends; unsaved = Some (record { contents = d; has_turned = turned; last_end = Some (place + length bytes) }) })
has_written old mid new w bytes place begin size turned c d path can asked at over same shape had law beside overs wrote_is form_is begin_is turned_is size_is =
    wrote old new w bytes place (place + length bytes) size turned d (beside_later old mid new asked beside) can.can.written can.some can.room is refl size_is
    (turned_is ∙ ap (λ b. is_draft_nonsequential w.unsaved || turns_writer (last_change_end w.unsaved) b) begin_is)
    (subst (λ p. AreTreeContents new p d) same (overs path over))
    (wrote_is ∙ ap (λ xs. written_contents xs place bytes) (had ∙ ap (λ p. draft_or_stored_bytes old p w.unsaved) same))
    kept (subst (InlineWithinLimit (inline_limit old.disk.profile old.disk.block_size)) (sym form_at)
    (settle_written (inline_limit old.disk.profile old.disk.block_size) (write_position (writer_view old w)) (length bytes) (contents_form c) (writer_after_write (writer_view old w) bytes) written_kept.fits))
  where
    is : place ≡ write_position (writer_view old w)
    is = place_is old w place can.can.written at

    before_kept : IsWriterForm old.disk.profile old.disk.block_size (contents_form c) (writer_view old w)
    before_kept = kept_by_form old w (contents_form c) can.can.written (subst (λ p. IsDraftOrFileForm old.disk.profile old.disk.block_size w.unsaved (length (draft_or_stored_bytes old p w.unsaved)) (contents_form c)) same shape)

    written_kept : IsWriterForm old.disk.profile old.disk.block_size (written_form (inline_limit old.disk.profile old.disk.block_size) (write_position (writer_view old w)) (length bytes) (contents_form c)) (writer_after_write (writer_view old w) bytes)
    written_kept = kept_written law old.disk.profile old.disk.block_size (contents_form c) (writer_view old w) bytes can.some before_kept

    form_at : contents_form d ≡ written_form (inline_limit old.disk.profile old.disk.block_size) (write_position (writer_view old w)) (length bytes) (contents_form c)
    form_at = form_is ∙ ap₂ (λ n p. written_form n p (length bytes) (contents_form c)) (ap (λ (t : TreeState). inline_limit t.disk.profile t.disk.block_size) asked.same) is

    kept : IsWriterForm old.disk.profile old.disk.block_size (contents_form d) (writer_after_write (writer_view old w) bytes)
    kept = subst (λ f. IsWriterForm old.disk.profile old.disk.block_size f (writer_after_write (writer_view old w) bytes)) (sym form_at) written_kept

-- what the writer holds, there is room for
held_room : (t : TreeState) (w : Writer) → CanChangeWriter t w → length (tree_summary t).used ≤ block_count t.disk → length (tree_summary t).used + reserved_for_writer t.disk.profile t.disk.block_size (writer_view t w) ≤ block_count t.disk
held_room t w can few = subst (λ n. length (tree_summary t).used + n ≤ block_count t.disk) (held_one t.disk.profile t.disk.block_size t w can.written.size) (go w.unsaved refl)
  where
    go : (u : Option UnsavedContents) → w.unsaved ≡ u → length (tree_summary t).used + writer_block_reserve t.disk.profile t.disk.block_size w ≤ block_count t.disk
    go None e = rw e (omega (arith, few))
    go (Some u) e = rw e (changed_in t w u can.written.changed e).room

pub can_truncate : (old mid : TreeState) (w : Writer) (size : ℕ) (c : WriterContents) (path : Path) → CanTruncateTo old w size → OnlyReadsTree old mid → AreTreeContents mid path c → path ≡ w.path →
    IsDraftOrFileForm old.disk.profile old.disk.block_size w.unsaved (length (draft_or_stored_bytes old path w.unsaved)) (contents_form c) → LargeLaw → TruncateLaw → CanTruncateIn mid c size
can_truncate old mid w size c path can asked over same shape large truncate =
    subst (λ t. CanTruncateIn t c size) (sym asked.same) (record {
      works = can.can.works;
      stands = (subst (λ t. AreTreeContents t path c) asked.same over).stands;
      large = large old.disk.profile old.disk.block_size (contents_form c) (writer_view old w) kept;
      small = can.small;
      room = truncate old.disk.profile old.disk.block_size (contents_form c) (writer_view old w) size (length (tree_summary old).used) (block_count old.disk) kept
          (held_room old w can.can (let r = can.room in omega (arith, r))) can.room;
    })
  where
    kept : IsWriterForm old.disk.profile old.disk.block_size (contents_form c) (writer_view old w)
    kept = kept_by_form old w (contents_form c) can.can.written (subst (λ p. IsDraftOrFileForm old.disk.profile old.disk.block_size w.unsaved (length (draft_or_stored_bytes old p w.unsaved)) (contents_form c)) same shape)

pub has_truncated : (old mid new : TreeState) (w : Writer) (size : ℕ) (turned : Bool) (end : Option ℕ) (c d : WriterContents) (path : Path) → CanTruncateTo old w size → OnlyReadsTree old mid →
    AreTreeContents mid path c → path ≡ w.path → IsDraftOrFileForm old.disk.profile old.disk.block_size w.unsaved (length (draft_or_stored_bytes old path w.unsaved)) (contents_form c) →
    writer_contents_bytes (kept_thread mid) c ≡ draft_or_stored_bytes old path w.unsaved → TruncatedLaw → KeepsImage mid new → ((p : Path) → AreTreeContents mid p c → AreTreeContents new p d) →
    writer_contents_bytes (kept_thread new) d ≡ take size (zero_padded size (writer_contents_bytes (kept_thread mid) c)) → contents_form d ≡ truncated_form (inline_limit mid.disk.profile mid.disk.block_size) size (contents_form c) →
    turned ≡ (is_draft_nonsequential w.unsaved || is_some (last_change_end w.unsaved)) → end ≡ (if nat_lt w.size size then Some size else last_change_end w.unsaved) →
    IsChangedWriter new (truncated_writer (writer_view old w) size) (record { path = w.path; position = w.position; size = size; appends = w.appends; unsaved = Some (record { contents = d; has_turned = turned; last_end = end }) })
has_truncated old mid new w size turned end c d path can asked over same shape had law beside overs cut_is form_is turned_is end_is =
    cut old new w size turned end d (beside_later old mid new asked beside) can.can.written
    (ne_eqb size (length (draft_or_stored_bytes old w.path w.unsaved)) (λ e. can.other (e ∙ can.can.written.size))) can.room turned_is end_is
    (subst (λ p. AreTreeContents new p d) same (overs path over))
    (cut_is ∙ ap (λ xs. take size (zero_padded size xs)) (had ∙ ap (λ p. draft_or_stored_bytes old p w.unsaved) same))
    (subst (λ f. IsWriterForm old.disk.profile old.disk.block_size f (truncated_writer (writer_view old w) size)) (sym form_at) truncated_kept)
    (subst (InlineWithinLimit (inline_limit old.disk.profile old.disk.block_size)) (sym form_at)
    (settle_truncated (inline_limit old.disk.profile old.disk.block_size) size (contents_form c) (truncated_writer (writer_view old w) size) (λ e. can.other (e ∙ before_kept.size ∙ can.can.written.size)) truncated_kept.fits))
  where
    before_kept : IsWriterForm old.disk.profile old.disk.block_size (contents_form c) (writer_view old w)
    before_kept = kept_by_form old w (contents_form c) can.can.written (subst (λ p. IsDraftOrFileForm old.disk.profile old.disk.block_size w.unsaved (length (draft_or_stored_bytes old p w.unsaved)) (contents_form c)) same shape)

    truncated_kept : IsWriterForm old.disk.profile old.disk.block_size (truncated_form (inline_limit old.disk.profile old.disk.block_size) size (contents_form c)) (truncated_writer (writer_view old w) size)
    truncated_kept = law old.disk.profile old.disk.block_size (contents_form c) (writer_view old w) size before_kept

    form_at : contents_form d ≡ truncated_form (inline_limit old.disk.profile old.disk.block_size) size (contents_form c)
    form_at = form_is ∙ ap (λ n. truncated_form n size (contents_form c)) (ap (λ (t : TreeState). inline_limit t.disk.profile t.disk.block_size) asked.same)

-- ---- saving

abbrev pub EndLaw : Type 0
EndLaw = (profile : Profile) (block_size : ℕ) (shape : ContentsForm) (w : session.FileWriter) (used all : ℕ) → IsWriterForm profile block_size shape w → used + reserved_for_writer profile block_size w ≤ all → used + finish_room block_size shape ≤ all

room_to_store : (used all blocks : ℕ) (turned : Bool) → used + (2 + cond turned 2 1 * blocks) ≤ all → used + blocks + 2 ≤ all
room_to_store used all blocks true h = omega (arith, h)
room_to_store used all blocks false h = omega (arith, h)

pub can_store : (t : TreeState) (w : Writer) (u : UnsavedContents) (path : Path) → CanSaveWriter t w → w.unsaved ≡ Some u → path ≡ w.path → EndLaw → CanStoreContents t path u.contents
can_store t w u path can is same law =
    subst (λ p. CanStoreContents t p u.contents) (sym same) (record {
      works = can.works;
      writable = can.written.writable;
      settled = can.written.settled;
      over = changed.over;
      form = changed.form;
      end = law t.disk.profile t.disk.block_size (contents_form u.contents) (writer_view t w) (length (tree_summary t).used) (block_count t.disk) changed.kept
          (subst (λ n. length (tree_summary t).used + n ≤ block_count t.disk) (held_one t.disk.profile t.disk.block_size t w can.written.size) held);
      room = subst (λ n. length (tree_summary t).used + file_block_count t.disk.profile t.disk.block_size n + 2 ≤ block_count t.disk) (sym long)
          (room_to_store (length (tree_summary t).used) (block_count t.disk) (file_block_count t.disk.profile t.disk.block_size w.size) u.has_turned changed.room);
    })
  where
    changed : AreSoundUnsavedContents t w u
    changed = changed_in t w u can.written.changed is

    long : length (writer_contents_bytes (kept_thread t) u.contents) ≡ w.size
    long = sym (ap (λ z. length (draft_or_stored_bytes t w.path z)) is) ∙ can.written.size

    held : length (tree_summary t).used + writer_block_reserve t.disk.profile t.disk.block_size w ≤ block_count t.disk
    held = rw is changed.room

stored_node : (n : Option Node) (bytes : List ℕ) → is_file n ≡ true → (is_file (option_map (node_with_bytes bytes) n) ≡ true) × (file_bytes (option_map (node_with_bytes bytes) n) ≡ bytes)
stored_node None bytes e = absurd (cc)
stored_node (Some (FileNode attributes old)) bytes e = (refl, refl)
stored_node (Some (DirectoryNode attributes names)) bytes e = absurd (cc)

pub has_saved : (t new : TreeState) (w : Writer) (u : UnsavedContents) (path : Path) → CanSaveWriter t w → w.unsaved ≡ Some u → path ≡ w.path → IsStoreApplied t path (writer_contents_bytes (kept_thread t) u.contents) new →
    IsSavedWriter new (synced_writer (writer_view t w)) (record { path = w.path; position = w.position; size = w.size; appends = w.appends; unsaved = None })
has_saved t new w u path can is same stored = record {
  seen = ap (λ xs. saved xs) node.1 ∙ sym (rw is refl);
  written = record {
    writable = stored.writable;
    settled = stored.recovered.gstate;
    there = node.0;
    size = ap (λ xs. length xs) node.1 ∙ sym (ap (λ z. length (draft_or_stored_bytes t w.path z)) is) ∙ can.written.size;
    changed = tt;
  };
  saved = refl;
}
  where
    saved : List ℕ → session.FileWriter
    saved xs = record { path = w.path; contents = xs; position = w.position; append = w.appends; dirty = false; turned = false; last_end = None }

    at : visible_tree new w.path ≡ option_map (node_with_bytes (writer_contents_bytes (kept_thread t) u.contents)) (visible_tree t w.path)
    at = ap (λ (z : Tree). z w.path) (stored.shows ∙ ap (λ p. tree_with_change p (node_with_bytes (writer_contents_bytes (kept_thread t) u.contents)) (visible_tree t)) same)
        ∙ ap (λ b. cond b (option_map (node_with_bytes (writer_contents_bytes (kept_thread t) u.contents)) (visible_tree t w.path)) (visible_tree t w.path)) (path_itself w.path)

    node : (is_file (visible_tree new w.path) ≡ true) × (file_bytes (visible_tree new w.path) ≡ writer_contents_bytes (kept_thread t) u.contents)
    node = rw at (stored_node (visible_tree t w.path) (writer_contents_bytes (kept_thread t) u.contents) can.written.there)
