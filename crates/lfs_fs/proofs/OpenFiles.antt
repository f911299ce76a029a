-- Open files, in the code and in the definitions.
use Rattle.std.proofs.Common.{ℕ, zero, suc, fold, unwrap_or, ◌≡◌, ◌+◌, ◌<◌, ◌≤◌, ◌||◌, Bool, true, false, cond, not, List, [], ◌∷◌, ◌++◌, length, map, set, Option, Some, None, is_some, is_none, nat_le, nat_lt, refl, sym, ap, ap₂, subst, ◌∙◌, arith}
use Rattle.std.specs.Prelude.{slice_get, sum_by}
use Rattle.lfs_fs.proofs.Common.{AllByRecursion, list_any, option_flatten, option_map, lt-ltb, ltb-true, same_Some, inline_limit, contents_form, FormFitsWriter, ContentsForm, IsWriterForm, nat_tests, map-set, map-append, same_path, Path, has_open_file, Reading, file_numbered, free_number_of, reserved_for_writers, reserved_for_writer, files_with_file, file_reader, all_readers, all_writers, path_or_root, repositioned_file, parse_path, block_count, lacks_room, TreeState, OnlyReadsTree, tree_summary, RuntimeFiles, prepend_if_some, filter_map_files, draft_or_stored_bytes, open_file_at, file_view, files_view, lowest_free_fd, has_unsaved, is_open_where, is_writer_with_draft, writers_block_reserve, writer_block_reserve, draft_block_reserve, file_with_index_cache, file_with_position, files_with_entry, as_reader, reader_view, readers_among, is_draft_nonsequential, writer_if_any, writer_view, writers_among, writers_paths, HasValidIndexCache, IsCurrentReader, IsReady, AreSoundIfUnsaved, IsWriterReady}
use Rattle.lfs_model.specs.declared.limits.Profile.{Profile}
use Rattle.lfs_file.specs.Form as form
use Rattle.std.proofs.lemmas.Option.{slice_get-map}
use Rattle.lfs_model.specs.session.Session as session
use Rattle.lfs_file.specs.declared.known.IndexCache.{IndexCache}
use Rattle.lfs_fs.specs.declared.files.OpenFile.{OpenFile}
use Rattle.lfs_fs.specs.declared.files.OpenFile.TheVariants as file
use Rattle.lfs_fs.specs.declared.files.Reader.{Reader}
use Rattle.lfs_fs.specs.declared.files.Writer.{Writer}
use Rattle.lfs_fs.specs.declared.files.UnsavedContents.{UnsavedContents}
use Rattle.lfs_fs.proofs.OpenReaders.{any_path, read_closed, read_moved, read_put}
use Rattle.lfs_fs.proofs.ReadersKnow.{known_closed, known_moved, known_put}

-- ---- one file

pub file_is : (t : TreeState) (fs : RuntimeFiles) (fd : ℕ) → file_numbered (files_view t fs) fd ≡ option_map (file_view t) (open_file_at fs fd)
file_is t fs fd = ap option_flatten (slice_get-map (option_map (file_view t)) fs fd) ∙ flat (slice_get fs fd)
  where
    flat : (o : Option (Option OpenFile)) → option_flatten (option_map (option_map (file_view t)) o) ≡ option_map (file_view t) (option_flatten o)
    flat None = refl
    flat (Some x) = refl

pub is_there : (t : TreeState) (o : Option OpenFile) → is_some (option_map (file_view t) o) ≡ is_some o
is_there t None = refl
is_there t (Some x) = refl

pub reader_is : (t : TreeState) (o : Option OpenFile) → file_reader (option_map (file_view t) o) ≡ option_map reader_view (as_reader o)
reader_is t None = refl
reader_is t (Some (file.Reading r)) = refl
reader_is t (Some (file.Writing w)) = refl

pub writer_is : (t : TreeState) (o : Option OpenFile) → session.file_writer (option_map (file_view t) o) ≡ option_map (writer_view t) (writer_if_any o)
writer_is t None = refl
writer_is t (Some (file.Reading r)) = refl
writer_is t (Some (file.Writing w)) = refl

-- ---- all of them

pub same_files : (t s : TreeState) (fs : RuntimeFiles) → OnlyReadsTree t s → files_view t fs ≡ files_view s fs
same_files t s fs asked = sym (ap (λ z. files_view z fs) asked.same)

pub writers_are : (t : TreeState) (fs : RuntimeFiles) → all_writers (files_view t fs) ≡ map (writer_view t) (writers_among fs)
writers_are t [] = refl
writers_are t (None ∷ fs) = writers_are t fs
writers_are t (Some (file.Reading r) ∷ fs) = writers_are t fs
writers_are t (Some (file.Writing w) ∷ fs) = ap (λ ws. writer_view t w ∷ ws) (writers_are t fs)

pub readers_are : (t : TreeState) (fs : RuntimeFiles) → all_readers (files_view t fs) ≡ map reader_view (readers_among fs)
readers_are t [] = refl
readers_are t (None ∷ fs) = readers_are t fs
readers_are t (Some (file.Reading r) ∷ fs) = ap (λ rs. reader_view r ∷ rs) (readers_are t fs)
readers_are t (Some (file.Writing w) ∷ fs) = readers_are t fs

mapped_length : {A B : Type 0} (f : A → B) (xs : List A) → length (map f xs) ≡ length xs
mapped_length f [] = refl
mapped_length f (x ∷ xs) = ap suc (mapped_length f xs)

mapped_any : (t : TreeState) (p : Path) (ws : List Writer) → list_any (λ w. same_path p w.path) (map (writer_view t) ws) ≡ list_any (λ w. same_path p w.path) ws
mapped_any t p [] = refl
mapped_any t p (w ∷ ws) = ap (λ b. same_path p w.path || b) (mapped_any t p ws)

pub writer_count : (t : TreeState) (fs : RuntimeFiles) → length (all_writers (files_view t fs)) ≡ length (writers_among fs)
writer_count t fs = ap (λ ws. length ws) (writers_are t fs) ∙ mapped_length (writer_view t) (writers_among fs)

pub reader_count : (t : TreeState) (fs : RuntimeFiles) → length (all_readers (files_view t fs)) ≡ length (readers_among fs)
reader_count t fs = ap (λ rs. length rs) (readers_are t fs) ∙ mapped_length reader_view (readers_among fs)

pub busy : (t : TreeState) (fs : RuntimeFiles) (p : Path) →
    (list_any (λ w. same_path p w.path) (writers_among fs) || nat_le 16 (length (readers_among fs))) ≡ (list_any (λ w. same_path p w.path) (all_writers (files_view t fs)) || nat_le 16 (length (all_readers (files_view t fs))))
busy t fs p = ap₂ (λ b n. b || nat_le 16 n) (sym (ap (list_any (λ w. same_path p w.path)) (writers_are t fs) ∙ mapped_any t p (writers_among fs))) (sym (reader_count t fs))

-- ---- space

pub held_one : (profile : Profile) (block_size : ℕ) (t : TreeState) (w : Writer) → length (draft_or_stored_bytes t w.path w.unsaved) ≡ w.size → writer_block_reserve profile block_size w ≡ reserved_for_writer profile block_size (writer_view t w)
held_one profile block_size t w e = sizes w.unsaved w.size ∙ ap (λ n. cond (not (is_some w.unsaved)) 0 (draft_block_reserve profile block_size (is_draft_nonsequential w.unsaved) n)) (sym e)
  where
    sizes : (u : Option UnsavedContents) (n : ℕ) → cond (is_none u) 0 (draft_block_reserve profile block_size (is_draft_nonsequential u) n) ≡ cond (not (is_some u)) 0 (draft_block_reserve profile block_size (is_draft_nonsequential u) n)
    sizes None n = refl
    sizes (Some u) n = refl

held_each : (profile : Profile) (block_size a : ℕ) (t : TreeState) (ws : List Writer) → AllByRecursion (IsWriterReady t) ws →
    fold (λ a x. a + writer_block_reserve profile block_size x) a ws ≡ fold (λ a x. a + reserved_for_writer profile block_size x) a (map (writer_view t) ws)
held_each profile block_size a t [] h = refl
held_each profile block_size a t (w ∷ ws) h =
    held_each profile block_size (a + writer_block_reserve profile block_size w) t ws h.1
    ∙ ap (λ n. fold (λ a x. a + reserved_for_writer profile block_size x) (a + n) (map (writer_view t) ws)) (held_one profile block_size t w h.0.size)

pub held_is : (profile : Profile) (block_size : ℕ) (t : TreeState) (fs : RuntimeFiles) → IsReady t fs → writers_block_reserve profile block_size fs ≡ reserved_for_writers profile block_size (files_view t fs)
held_is profile block_size t fs ready = held_each profile block_size 0 t (writers_among fs) ready.written ∙ sym (ap (sum_by (reserved_for_writer profile block_size)) (writers_are t fs))

-- ---- numbers

pub free_is : (t : TreeState) (fs : RuntimeFiles) → lowest_free_fd fs ≡ free_number_of (files_view t fs)
free_is t [] = refl
free_is t (None ∷ fs) = refl
free_is t (Some x ∷ fs) = ap (λ n. 1 + n) (free_is t fs)

pub free_at_most : (fs : RuntimeFiles) → lowest_free_fd fs ≤ length fs
free_at_most [] = omega arith
free_at_most (None ∷ fs) = omega arith
free_at_most (Some x ∷ fs) = let k = free_at_most fs in omega (arith, k)

free_is_few : (fs : RuntimeFiles) → lowest_free_fd fs ≤ length (readers_among fs) + length (writers_among fs)
free_is_few [] = omega arith
free_is_few (None ∷ fs) = omega arith
free_is_few (Some (file.Reading r) ∷ fs) = let k = free_is_few fs in omega (arith, k)
free_is_few (Some (file.Writing w) ∷ fs) = let k = free_is_few fs in omega (arith, k)

pub few_open : (fs : RuntimeFiles) → length (readers_among fs) < 16 → length (writers_among fs) ≤ 1 → lowest_free_fd fs < 17
few_open fs few one = let k = free_is_few fs in omega (arith, k, few, one)

pub few_with_none : (fs : RuntimeFiles) → length (readers_among fs) ≤ 16 → writers_among fs ≡ [] → lowest_free_fd fs < 17
few_with_none fs few none = let k = free_is_few fs in let l = ap (λ ws. length ws) none in omega (arith, k, few, l)

-- ---- changes

pub put_is : (t : TreeState) (fs : RuntimeFiles) (fd : ℕ) (entry : Option OpenFile) → files_view t (files_with_entry fs fd entry) ≡ files_with_file (files_view t fs) fd (option_map (file_view t) entry)
put_is t fs fd entry = go (nat_lt fd (length fs)) refl
  where
    go : (b : Bool) → nat_lt fd (length fs) ≡ b → files_view t (files_with_entry fs fd entry) ≡ files_with_file (files_view t fs) fd (option_map (file_view t) entry)
    go true e = rw (mapped_length (option_map (file_view t)) fs, e) (map-set (option_map (file_view t)) fs fd entry)
    go false e = rw (mapped_length (option_map (file_view t)) fs, e) (map-append (option_map (file_view t)) fs (entry ∷ []))

one_further : (n m : ℕ) → nat_lt n m ≡ true → nat_lt (suc n) (suc m) ≡ true
one_further n m e = grind (arith, nat_tests)

pub inside : (fs : RuntimeFiles) (fd : ℕ) → is_some (open_file_at fs fd) ≡ true → nat_lt fd (length fs) ≡ true
inside [] fd e = absurd (cc)
inside (f ∷ fs) zero e = lt-ltb 0 (length (f ∷ fs)) (omega arith)
inside (f ∷ fs) (suc fd) e = one_further fd (length fs) (inside fs fd e)

pub set_is : (t : TreeState) (fs : RuntimeFiles) (fd : ℕ) (entry : Option OpenFile) → is_some (open_file_at fs fd) ≡ true → files_view t (set fs fd entry) ≡ files_with_file (files_view t fs) fd (option_map (file_view t) entry)
set_is t fs fd entry e = sym (ap (λ b. files_view t (cond b (set fs fd entry) (fs ++ entry ∷ []))) (inside fs fd e)) ∙ put_is t fs fd entry

pub moved_is : (t : TreeState) (fs : RuntimeFiles) (fd position : ℕ) → is_some (open_file_at fs fd) ≡ true →
    files_view t (set fs fd (option_map (file_with_position position) (open_file_at fs fd))) ≡ files_with_file (files_view t fs) fd (option_map (repositioned_file position) (file_numbered (files_view t fs) fd))
moved_is t fs fd position e =
    set_is t fs fd (option_map (file_with_position position) (open_file_at fs fd)) e
    ∙ ap (files_with_file (files_view t fs) fd) (moved (open_file_at fs fd) ∙ sym (ap (option_map (repositioned_file position)) (file_is t fs fd)))
  where
    moved : (o : Option OpenFile) → option_map (file_view t) (option_map (file_with_position position) o) ≡ option_map (repositioned_file position) (option_map (file_view t) o)
    moved None = refl
    moved (Some (file.Reading r)) = refl
    moved (Some (file.Writing w)) = refl

one_more : (n : ℕ) → 1 + n ≡ suc n
one_more n = omega arith

-- ---- a free number

pub free_there : (fs : RuntimeFiles) → open_file_at fs (lowest_free_fd fs) ≡ None
free_there [] = refl
free_there (None ∷ fs) = refl
free_there (Some x ∷ fs) = ap (open_file_at (Some x ∷ fs)) (one_more (lowest_free_fd fs)) ∙ free_there fs

free_stays : (fs : RuntimeFiles) (n : ℕ) → open_file_at fs n ≡ None → set fs n None ≡ fs
free_stays [] n e = refl
free_stays (None ∷ fs) zero e = refl
free_stays (Some x ∷ fs) zero e = absurd (cc)
free_stays (x ∷ fs) (suc n) e = ap (λ z. x ∷ z) (free_stays fs n e)

pub none_put : (fs : RuntimeFiles) (n : ℕ) → n < length fs → open_file_at fs n ≡ None → fs ≡ files_with_entry fs n None
none_put fs n lt e = rw (lt-ltb n (length fs) lt) (sym (free_stays fs n e))

-- ---- the writers after a change

pub writers_put : (fs : RuntimeFiles) (r : Reader) → writers_among (files_with_entry fs (lowest_free_fd fs) (Some (file.Reading r))) ≡ writers_among fs
writers_put fs r = go (nat_lt (lowest_free_fd fs) (length fs)) refl
  where
    set_free : (fs : RuntimeFiles) → writers_among (set fs (lowest_free_fd fs) (Some (file.Reading r))) ≡ writers_among fs
    set_free [] = refl
    set_free (None ∷ fs) = refl
    set_free (Some (file.Reading q) ∷ fs) = ap (λ n. writers_among (set (Some (file.Reading q) ∷ fs) n (Some (file.Reading r)))) (one_more (lowest_free_fd fs)) ∙ set_free fs
    set_free (Some (file.Writing w) ∷ fs) = ap (λ n. writers_among (set (Some (file.Writing w) ∷ fs) n (Some (file.Reading r)))) (one_more (lowest_free_fd fs)) ∙ ap (λ ws. w ∷ ws) (set_free fs)

    behind : (fs : RuntimeFiles) → writers_among (fs ++ Some (file.Reading r) ∷ []) ≡ writers_among fs
    behind [] = refl
    behind (None ∷ fs) = behind fs
    behind (Some (file.Reading q) ∷ fs) = behind fs
    behind (Some (file.Writing w) ∷ fs) = ap (λ ws. w ∷ ws) (behind fs)

    go : (b : Bool) → nat_lt (lowest_free_fd fs) (length fs) ≡ b → writers_among (files_with_entry fs (lowest_free_fd fs) (Some (file.Reading r))) ≡ writers_among fs
    go true e = rw e (set_free fs)
    go false e = rw e (behind fs)

kept_moved : (profile : Profile) (block_size place : ℕ) (shape : ContentsForm) (w : session.FileWriter) → IsWriterForm profile block_size shape w → IsWriterForm profile block_size shape (record w { position = place })
kept_moved profile block_size place shape w h = record { size = h.size; fits = fits shape h.fits }
  where
    fits : (f : ContentsForm) → FormFitsWriter (inline_limit profile block_size) f w → FormFitsWriter (inline_limit profile block_size) f (record w { position = place })
    fits (form.InMemory size) h = h
    fits (form.Finished size flying) h = record { dirty = h.dirty; large = h.large; turned = h.turned }
    fits (form.InHand stop base flying) h = record { dirty = h.dirty; large = h.large; turned = h.turned; at_end = h.at_end }

unsaved_moved_in : (t : TreeState) (w : Writer) (place : ℕ) (u : Option UnsavedContents) → AreSoundIfUnsaved t w u → AreSoundIfUnsaved t (record w { position = place }) u
unsaved_moved_in t w place None h = tt
unsaved_moved_in t w place (Some u) h = record { over = h.over; kept = kept_moved t.disk.profile t.disk.block_size place (contents_form u.contents) (writer_view t w) h.kept; form = h.form; room = h.room }

written_moved : (t : TreeState) (fs : RuntimeFiles) (fd position : ℕ) → AllByRecursion (IsWriterReady t) (writers_among fs) → AllByRecursion (IsWriterReady t) (writers_among (set fs fd (option_map (file_with_position position) (open_file_at fs fd))))
written_moved t [] fd position h = h
written_moved t (None ∷ fs) zero position h = h
written_moved t (Some (file.Reading r) ∷ fs) zero position h = h
written_moved t (Some (file.Writing w) ∷ fs) zero position h = (record { writable = h.0.writable; settled = h.0.settled; there = h.0.there; size = h.0.size; changed = unsaved_moved_in t w position w.unsaved h.0.changed }, h.1)
written_moved t (None ∷ fs) (suc fd) position h = written_moved t fs fd position h
written_moved t (Some (file.Reading r) ∷ fs) (suc fd) position h = written_moved t fs fd position h
written_moved t (Some (file.Writing w) ∷ fs) (suc fd) position h = (h.0, written_moved t fs fd position h.1)

pub unsaved_moved : (fs : RuntimeFiles) (fd position : ℕ) → has_unsaved (set fs fd (option_map (file_with_position position) (open_file_at fs fd))) ≡ has_unsaved fs
unsaved_moved [] fd position = refl
unsaved_moved (None ∷ fs) zero position = refl
unsaved_moved (Some (file.Reading r) ∷ fs) zero position = refl
unsaved_moved (Some (file.Writing w) ∷ fs) zero position = refl
unsaved_moved (None ∷ fs) (suc fd) position = unsaved_moved fs fd position
unsaved_moved (Some (file.Reading r) ∷ fs) (suc fd) position = unsaved_moved fs fd position
unsaved_moved (Some (file.Writing w) ∷ fs) (suc fd) position = ap (λ b. is_some w.unsaved || b) (unsaved_moved fs fd position)

written_closed : (t : TreeState) (fs : RuntimeFiles) (fd : ℕ) → AllByRecursion (IsWriterReady t) (writers_among fs) → AllByRecursion (IsWriterReady t) (writers_among (set fs fd None))
written_closed t [] fd h = h
written_closed t (None ∷ fs) zero h = h
written_closed t (Some (file.Reading r) ∷ fs) zero h = h
written_closed t (Some (file.Writing w) ∷ fs) zero h = h.1
written_closed t (None ∷ fs) (suc fd) h = written_closed t fs fd h
written_closed t (Some (file.Reading r) ∷ fs) (suc fd) h = written_closed t fs fd h
written_closed t (Some (file.Writing w) ∷ fs) (suc fd) h = (h.0, written_closed t fs fd h.1)

-- its changes are in the tree, if it has any
abbrev pub is_saved : Option OpenFile → Bool
is_saved None = true
is_saved (Some (file.Reading r)) = true
is_saved (Some (file.Writing w)) = is_none w.unsaved

neither : (a b : Bool) → (a || b) ≡ false → (a ≡ false) × (b ≡ false)
neither true b e = absurd (cc)
neither false b e = (refl, e)

pub saved_is : (o : Option OpenFile) → is_writer_with_draft o ≡ false → is_saved o ≡ true
saved_is None e = refl
saved_is (Some (file.Reading r)) e = refl
saved_is (Some (file.Writing w)) e = none w.unsaved e
  where
    none : (u : Option UnsavedContents) → is_some u ≡ false → is_none u ≡ true
    none None e = refl
    none (Some u) e = absurd (cc)

saved_first : (u : Option UnsavedContents) (b : Bool) → is_none u ≡ true → (is_some u || b) ≡ b
saved_first None b e = refl
saved_first (Some u) b e = absurd (cc)

pub unsaved_closed : (fs : RuntimeFiles) (fd : ℕ) → is_saved (open_file_at fs fd) ≡ true → has_unsaved (set fs fd None) ≡ has_unsaved fs
unsaved_closed [] fd e = refl
unsaved_closed (None ∷ fs) zero e = refl
unsaved_closed (Some (file.Reading r) ∷ fs) zero e = refl
unsaved_closed (Some (file.Writing w) ∷ fs) zero e = sym (saved_first w.unsaved (has_unsaved fs) e)
unsaved_closed (None ∷ fs) (suc fd) e = unsaved_closed fs fd e
unsaved_closed (Some (file.Reading r) ∷ fs) (suc fd) e = unsaved_closed fs fd e
unsaved_closed (Some (file.Writing w) ∷ fs) (suc fd) e = ap (λ b. is_some w.unsaved || b) (unsaved_closed fs fd e)

-- ---- the number of readers and of writers

abbrev pub one_of : {A : Type 0} → Option A → ℕ
one_of None = 0
one_of (Some x) = 1

before_length : {A : Type 0} (o : Option A) (xs : List A) → length (prepend_if_some o xs) ≡ one_of o + length xs
before_length None xs = omega arith
before_length (Some x) xs = omega arith

pub count_set : {A : Type 0} (kind : Option OpenFile → Option A) (fs : RuntimeFiles) (fd : ℕ) (entry : Option OpenFile) → fd < length fs →
    length (filter_map_files kind (set fs fd entry)) + one_of (kind (open_file_at fs fd)) ≡ length (filter_map_files kind fs) + one_of (kind entry)
count_set kind [] fd entry lt = absurd (omega (arith, lt))
count_set kind (f ∷ fs) zero entry lt = omega (arith, before_length (kind entry) (filter_map_files kind fs), before_length (kind f) (filter_map_files kind fs))
count_set kind (f ∷ fs) (suc fd) entry lt =
    let k = count_set kind fs fd entry (omega (arith, lt)) in
    omega (arith, k, before_length (kind f) (filter_map_files kind (set fs fd entry)), before_length (kind f) (filter_map_files kind fs))

count_behind : {A : Type 0} (kind : Option OpenFile → Option A) (fs : RuntimeFiles) (entry : Option OpenFile) → length (filter_map_files kind (fs ++ entry ∷ [])) ≡ length (filter_map_files kind fs) + one_of (kind entry)
count_behind kind [] entry = omega (arith, before_length (kind entry) [])
count_behind kind (f ∷ fs) entry =
    let k = count_behind kind fs entry in
    omega (arith, k, before_length (kind f) (filter_map_files kind (fs ++ entry ∷ [])), before_length (kind f) (filter_map_files kind fs))

pub count_put : {A : Type 0} (kind : Option OpenFile → Option A) (fs : RuntimeFiles) (fd : ℕ) (entry : Option OpenFile) → length (filter_map_files kind (files_with_entry fs fd entry)) ≤ length (filter_map_files kind fs) + one_of (kind entry)
count_put kind fs fd entry = go (nat_lt fd (length fs)) refl
  where
    go : (b : Bool) → nat_lt fd (length fs) ≡ b → length (filter_map_files kind (files_with_entry fs fd entry)) ≤ length (filter_map_files kind fs) + one_of (kind entry)
    go true e =
        let k = count_set kind fs fd entry (ltb-true fd (length fs) e) in
        rw e (omega (arith, k))
    go false e =
        let k = count_behind kind fs entry in
        rw e (omega (arith, k))

-- files that stay few
pub few_put : {A : Type 0} (kind : Option OpenFile → Option A) (fs gs : RuntimeFiles) (fd limit : ℕ) (entry : Option OpenFile) → gs ≡ files_with_entry fs fd entry → length (filter_map_files kind fs) + one_of (kind entry) ≤ limit → length (filter_map_files kind gs) ≤ limit
few_put kind fs gs fd limit entry is few =
    let k = count_put kind fs fd entry in
    subst (λ xs. length (filter_map_files kind xs) ≤ limit) (sym is) (omega (arith, k, few))

pub few_set : {A : Type 0} (kind : Option OpenFile → Option A) (fs gs : RuntimeFiles) (fd limit : ℕ) (entry : Option OpenFile) → gs ≡ set fs fd entry → fd < length fs → length (filter_map_files kind fs) ≤ limit →
    one_of (kind entry) ≤ one_of (kind (open_file_at fs fd)) → length (filter_map_files kind gs) ≤ limit
few_set kind fs gs fd limit entry is lt few less =
    let k = count_set kind fs fd entry lt in
    subst (λ xs. length (filter_map_files kind xs) ≤ limit) (sym is) (omega (arith, k, few, less))

pub less_changed : {A : Type 0} (kind : Option OpenFile → Option A) (change : OpenFile → OpenFile) (o : Option OpenFile) → ((f : OpenFile) → one_of (kind (Some (change f))) ≡ one_of (kind (Some f))) → one_of (kind (option_map change o)) ≤ one_of (kind o)
less_changed kind change None same = omega arith
less_changed kind change (Some f) same = let k = same f in omega (arith, k)

pub reader_moved : (position : ℕ) (f : OpenFile) → one_of (as_reader (Some (file_with_position position f))) ≡ one_of (as_reader (Some f))
reader_moved position (file.Reading r) = refl
reader_moved position (file.Writing w) = refl

pub writer_moved : (position : ℕ) (f : OpenFile) → one_of (writer_if_any (Some (file_with_position position f))) ≡ one_of (writer_if_any (Some f))
writer_moved position (file.Reading r) = refl
writer_moved position (file.Writing w) = refl

pub reader_noted : (known : IndexCache) (f : OpenFile) → one_of (as_reader (Some (file_with_index_cache known f))) ≡ one_of (as_reader (Some f))
reader_noted known (file.Reading r) = refl
reader_noted known (file.Writing w) = refl

pub writer_noted : (known : IndexCache) (f : OpenFile) → one_of (writer_if_any (Some (file_with_index_cache known f))) ≡ one_of (writer_if_any (Some f))
writer_noted known (file.Reading r) = refl
writer_noted known (file.Writing w) = refl

pub inside_is : (fs : RuntimeFiles) (fd : ℕ) → is_some (open_file_at fs fd) ≡ true → fd < length fs
inside_is fs fd e = ltb-true fd (length fs) (inside fs fd e)

-- ---- a session with one writer

-- the writer of that number is the only one
pub record IsOnly (fs : RuntimeFiles) (fd : ℕ) (w : Writer) : Type 0 where
  pub writers : writers_among fs ≡ w ∷ []
  pub without : writers_among (set fs fd None) ≡ []
  pub with_other : (v : Writer) → writers_among (set fs fd (Some (file.Writing v))) ≡ v ∷ []

none_left : {A : Type 0} (xs : List A) → length xs ≤ 0 → xs ≡ []
none_left [] h = refl
none_left (x ∷ xs) h = absurd (omega (arith, h))

no_such : (fs : RuntimeFiles) (fd : ℕ) (w : Writer) → writers_among fs ≡ [] → open_file_at fs fd ≡ Some (file.Writing w) → ⊥
no_such [] fd w none e = absurd (cc)
no_such (None ∷ fs) zero w none e = absurd (cc)
no_such (Some (file.Reading r) ∷ fs) zero w none e = absurd (let k = ap writer_if_any e in cc)
no_such (Some (file.Writing v) ∷ fs) zero w none e = absurd (cc)
no_such (None ∷ fs) (suc fd) w none e = no_such fs fd w none e
no_such (Some (file.Reading r) ∷ fs) (suc fd) w none e = no_such fs fd w none e
no_such (Some (file.Writing v) ∷ fs) (suc fd) w none e = absurd (cc)

pub only : (fs : RuntimeFiles) (fd : ℕ) (w : Writer) → open_file_at fs fd ≡ Some (file.Writing w) → length (writers_among fs) ≤ 1 → IsOnly fs fd w
only [] fd w e few = absurd (cc)
only (None ∷ fs) zero w e few = absurd (cc)
only (Some (file.Reading r) ∷ fs) zero w e few = absurd (let k = ap writer_if_any e in cc)
only (Some (file.Writing v) ∷ fs) zero w e few =
    let none : writers_among fs ≡ [] = none_left (writers_among fs) (omega (arith, few)) in
    record {
      writers = ap₂ (λ x xs. x ∷ xs) (same_Some v w (ap writer_if_any e)) none;
      without = none;
      with_other = λ u. ap (λ xs. u ∷ xs) none;
    }
only (None ∷ fs) (suc fd) w e few = let k = only fs fd w e few in record { writers = k.writers; without = k.without; with_other = k.with_other }
only (Some (file.Reading r) ∷ fs) (suc fd) w e few = let k = only fs fd w e few in record { writers = k.writers; without = k.without; with_other = k.with_other }
only (Some (file.Writing v) ∷ fs) (suc fd) w e few = absurd (no_such fs fd w (none_left (writers_among fs) (omega (arith, few))) e)

-- ---- a session that stays ready

one_moved : (fs : RuntimeFiles) (fd position : ℕ) → length (writers_among fs) ≤ 1 → length (writers_among (set fs fd (option_map (file_with_position position) (open_file_at fs fd)))) ≤ 1
one_moved [] fd position h = h
one_moved (None ∷ fs) zero position h = h
one_moved (Some (file.Reading r) ∷ fs) zero position h = h
one_moved (Some (file.Writing w) ∷ fs) zero position h = h
one_moved (None ∷ fs) (suc fd) position h = one_moved fs fd position h
one_moved (Some (file.Reading r) ∷ fs) (suc fd) position h = one_moved fs fd position h
one_moved (Some (file.Writing w) ∷ fs) (suc fd) position h =
    subst (λ xs. length (w ∷ xs) ≤ 1) (sym (unmoved fs fd (none_left (writers_among fs) (omega (arith, h))))) (omega arith)
  where
    unmoved : (fs : RuntimeFiles) (fd : ℕ) → writers_among fs ≡ [] → writers_among (set fs fd (option_map (file_with_position position) (open_file_at fs fd))) ≡ []
    unmoved [] fd e = refl
    unmoved (None ∷ fs) zero e = e
    unmoved (Some (file.Reading r) ∷ fs) zero e = e
    unmoved (Some (file.Writing w) ∷ fs) zero e = absurd (cc)
    unmoved (None ∷ fs) (suc fd) e = unmoved fs fd e
    unmoved (Some (file.Reading r) ∷ fs) (suc fd) e = unmoved fs fd e
    unmoved (Some (file.Writing w) ∷ fs) (suc fd) e = absurd (cc)

one_closed : (fs : RuntimeFiles) (fd : ℕ) → length (writers_among fs) ≤ 1 → length (writers_among (set fs fd None)) ≤ 1
one_closed fs fd h = let k = fewer fs fd in omega (arith, k, h)
  where
    fewer : (fs : RuntimeFiles) (fd : ℕ) → length (writers_among (set fs fd None)) ≤ length (writers_among fs)
    fewer [] fd = omega arith
    fewer (None ∷ fs) zero = omega arith
    fewer (Some (file.Reading r) ∷ fs) zero = omega arith
    fewer (Some (file.Writing w) ∷ fs) zero = omega arith
    fewer (None ∷ fs) (suc fd) = fewer fs fd
    fewer (Some (file.Reading r) ∷ fs) (suc fd) = fewer fs fd
    fewer (Some (file.Writing w) ∷ fs) (suc fd) = let k = fewer fs fd in omega (arith, k)

pub ready_moved : (t : TreeState) (fs : RuntimeFiles) (fd position : ℕ) → IsReady t fs → IsReady t (set fs fd (option_map (file_with_position position) (open_file_at fs fd)))
ready_moved t fs fd position h = record {
  sound = h.sound;
  called = h.called;
  one = one_moved fs fd position h.one;
  idle = λ e. h.idle (sym (unsaved_moved fs fd position) ∙ e);
  written = written_moved t fs fd position h.written;
  read = read_moved t.pairs fs fd position h.read;
  known = known_moved t.disk fs fd position h.known;
}

pub ready_closed : (t : TreeState) (fs : RuntimeFiles) (fd : ℕ) → is_saved (open_file_at fs fd) ≡ true → IsReady t fs → IsReady t (set fs fd None)
ready_closed t fs fd e h = record {
  sound = h.sound;
  called = h.called;
  one = one_closed fs fd h.one;
  idle = λ k. h.idle (sym (unsaved_closed fs fd e) ∙ k);
  written = written_closed t fs fd h.written;
  read = read_closed t.pairs fs fd h.read;
  known = known_closed t.disk fs fd h.known;
}

pub ready_put : (t : TreeState) (fs : RuntimeFiles) (r : Reader) → IsCurrentReader t.pairs (writers_paths fs) r → HasValidIndexCache t.disk r → IsReady t fs → IsReady t (files_with_entry fs (lowest_free_fd fs) (Some (file.Reading r)))
ready_put t fs r k known h = record {
  sound = h.sound;
  called = h.called;
  one = subst (λ ws. length ws ≤ 1) (sym (writers_put fs r)) h.one;
  idle = λ e. h.idle (sym (ap (list_any (λ w. is_some w.unsaved)) (writers_put fs r)) ∙ e);
  written = subst (AllByRecursion (IsWriterReady t)) (sym (writers_put fs r)) h.written;
  read = read_put t.pairs fs (lowest_free_fd fs) r (ap (map (λ w. w.path)) (writers_put fs r)) k h.read;
  known = known_put t.disk fs (lowest_free_fd fs) r known h.known;
}

pub few_left : (t : TreeState) (fs : RuntimeFiles) → nat_le 16 (length (all_readers (files_view t fs))) ≡ false → length (readers_among fs) < 16
few_left t fs e = few_readers (length (readers_among fs)) (ap (nat_le 16) (sym (reader_count t fs)) ∙ e)
  where
    few_readers : (n : ℕ) → nat_le 16 n ≡ false → n < 16
    few_readers n e = grind (arith, nat_tests)

-- no writer is at a path that may be opened for reading
pub apart_is : (t : TreeState) (fs : RuntimeFiles) (p : Path) → list_any (λ w. same_path p w.path) (all_writers (files_view t fs)) ≡ false → list_any (same_path p) (writers_paths fs) ≡ false
apart_is t fs p e = sym (any_path p (writers_among fs)) ∙ sym (ap (list_any (λ w. same_path p w.path)) (writers_are t fs) ∙ mapped_any t p (writers_among fs)) ∙ e

pub busy_at : (t : TreeState) (fs : RuntimeFiles) (bytes : List ℕ) (p : Path) (b : Bool) → Some p ≡ parse_path bytes →
    b ≡ (list_any (λ w. same_path (path_or_root bytes) w.path) (writers_among fs) || nat_le 16 (length (readers_among fs))) →
    b ≡ (list_any (λ w. same_path p w.path) (all_writers (files_view t fs)) || nat_le 16 (length (all_readers (files_view t fs))))
busy_at t fs bytes p b is e =
    e ∙ busy t fs (path_or_root bytes)
    ∙ ap (λ q. list_any (λ w. same_path q w.path) (all_writers (files_view t fs)) || nat_le 16 (length (all_readers (files_view t fs)))) (ap (λ z. unwrap_or z []) (sym is))

pub lacks_is : (t : TreeState) (fs : RuntimeFiles) (need : ℕ) → IsReady t fs → nat_lt (block_count t.disk) (length (tree_summary t).used + writers_block_reserve t.disk.profile t.disk.block_size fs + need) ≡ lacks_room (tree_summary t) (files_view t fs) need
lacks_is t fs need ready = ap (λ h. nat_lt (block_count t.disk) (length (tree_summary t).used + h + need)) (held_is t.disk.profile t.disk.block_size t fs ready)

pub some_reader : (t : TreeState) (fs : RuntimeFiles) (fd : ℕ) (r : Reader) → Some r ≡ as_reader (open_file_at fs fd) → Some (reader_view r) ≡ file_reader (file_numbered (files_view t fs) fd)
some_reader t fs fd r e = ap (option_map reader_view) e ∙ sym (ap file_reader (file_is t fs fd) ∙ reader_is t (open_file_at fs fd))

pub none_reader : (t : TreeState) (fs : RuntimeFiles) (fd : ℕ) → None ≡ as_reader (open_file_at fs fd) → None ≡ file_reader (file_numbered (files_view t fs) fd)
none_reader t fs fd e = ap (option_map reader_view) e ∙ sym (ap file_reader (file_is t fs fd) ∙ reader_is t (open_file_at fs fd))

pub reader_there : (o : Option OpenFile) (r : Reader) → Some r ≡ as_reader o → is_some o ≡ true
reader_there None r e = absurd (cc)
reader_there (Some x) r e = refl

chosen : (b : Bool) (o : session.OpenFile) → b ≡ is_some (cond b (Some o) None)
chosen true o = refl
chosen false o = refl

pub open_at_is : (t : TreeState) (p : Path → Bool) (fs : RuntimeFiles) → list_any (is_open_where p) fs ≡ has_open_file p (files_view t fs)
open_at_is t p [] = refl
open_at_is t p (None ∷ fs) = open_at_is t p fs
open_at_is t p (Some (file.Reading r) ∷ fs) = ap₂ (λ a b. a || b) (chosen (p r.path) (session.Reading (reader_view r))) (open_at_is t p fs)
open_at_is t p (Some (file.Writing w) ∷ fs) = ap₂ (λ a b. a || b) (chosen (p w.path) (session.Writing (writer_view t w))) (open_at_is t p fs)
