-- Open files stay as they are while the tree changes elsewhere.
use Rattle.std.proofs.Common.{ℕ, ◌≡◌, ◌+◌, ◌-◌, ◌≤◌, ◌⊎◌, ◌∙◌, inl, inr, Bool, true, false, List, [], ◌∷◌, length, Option, Some, None, is_none, is_some, refl, sym, ap, ap₂, subst, arith}
use Rattle.std.specs.Prelude.{◌||◌, if◌then◌else◌, sum_by}
use Rattle.lfs_fs.proofs.Common.{AllByRecursion, list_any, file_bytes, is_file, IsInFlight, in_flight_count, block_count, inline_limit, Operation, Reading, Writing, reserved_for_writers, reserved_for_writer, Path, few_flying, in_flight-freed, AreTreeContents, InlineWithinLimit, writer_contents_bytes, IsOperationApplied, IsSoundState, TreeState, tree_summary, visible_tree, contents_form, ContentsForm, IsWriterForm, RuntimeFiles, draft_or_stored_bytes, last_change_end, files_view, has_unsaved, writers_block_reserve, writer_block_reserve, draft_block_reserve, reader_view, readers_among, is_draft_nonsequential, writer_view, writers_among, writers_paths, AreSoundUnsavedContents, IsReady, AreSoundIfUnsaved, IsWriterReady, vacates_path, OpenFilesStayReady, KeepsWriterFiles, AffectsNoOpenFile}
use Rattle.lfs_model.specs.declared.limits.Profile.{Profile}
use Rattle.lfs_model.specs.session.Session as session
use Rattle.lfs_tree.specs.OpenContents.{kept_thread}
use Rattle.lfs_file.specs.Form.{form_in_flight}
use Rattle.lfs_file.specs.declared.contents.WriterContents.{WriterContents}
use Rattle.lfs_tree.specs.KeptFiles.{max_allocated_blocks}
use Rattle.lfs_fs.specs.declared.files.OpenFile.TheVariants as file
use Rattle.lfs_fs.specs.declared.files.UnsavedContents.{UnsavedContents}
use Rattle.lfs_fs.specs.declared.files.Writer.{Writer}
use Rattle.lfs_fs.proofs.OpenFiles.{held_is, held_one}
use Rattle.lfs_fs.proofs.Calls.{still_called}
use Rattle.lfs_fs.proofs.OpenReaders.{read_carried}
use Rattle.lfs_fs.proofs.ReadersKnow.{known_carried}

-- ---- room

room_still : (new was taken reserved_for_writers all before : ℕ) → new ≤ was + taken → taken ≡ 0 → was + reserved_for_writers ≤ before → all ≡ before → new + reserved_for_writers ≤ all
room_still new was taken reserved_for_writers all before few none room same = omega arith

room_enough : (new was taken reserved_for_writers all before : ℕ) → new ≤ was + taken → was + reserved_for_writers + taken ≤ before → all ≡ before → new + reserved_for_writers ≤ all
room_enough new was taken reserved_for_writers all before few room same = omega arith

the_first : (a b c n : ℕ) → a + (0 + b) + c ≤ n → a + b + c ≤ n
the_first a b c n h = omega arith

-- ---- a writer

module _ (over : (old new : TreeState) (op : Operation) (path : Path) (c : WriterContents) → AreTreeContents old path c → IsSoundState old → IsOperationApplied old op new → vacates_path op path ≡ false → AreTreeContents new path c)
    (bytes : (old new : TreeState) (op : Operation) (path : Path) (c : WriterContents) → AreTreeContents old path c → IsSoundState old → IsOperationApplied old op new → vacates_path op path ≡ false → writer_contents_bytes (kept_thread new) c ≡ writer_contents_bytes (kept_thread old) c)
    (few : (old new : TreeState) (op : Operation) → IsSoundState old → old.writable ≡ true → IsOperationApplied old op new → length (tree_summary new).used ≤ length (tree_summary old).used + max_allocated_blocks op)
    (old new : TreeState) (op : Operation) (sound : IsSoundState old) (carried : IsOperationApplied old op new) where
  same_bytes : (w : Writer) (u : Option UnsavedContents) → AreSoundIfUnsaved old w u → vacates_path op w.path ≡ false → file_bytes (visible_tree new w.path) ≡ file_bytes (visible_tree old w.path) → draft_or_stored_bytes new w.path u ≡ draft_or_stored_bytes old w.path u
  same_bytes w None h off stays = stays
  same_bytes w (Some u) h off stays = bytes old new op w.path u.contents h.over sound carried off

  same_writer : (w : Writer) → IsWriterReady old w → vacates_path op w.path ≡ false → file_bytes (visible_tree new w.path) ≡ file_bytes (visible_tree old w.path) → writer_view new w ≡ writer_view old w
  same_writer w h off stays = ap make (same_bytes w w.unsaved h.changed off stays)
    where
      make : List ℕ → session.FileWriter
      make xs = record { path = w.path; contents = xs; position = w.position; append = w.appends; dirty = is_some w.unsaved; turned = is_draft_nonsequential w.unsaved; last_end = last_change_end w.unsaved }

  abbrev HasRoom : Writer → Type 0
  HasRoom w = (max_allocated_blocks op ≡ 0) ⊎ (length (tree_summary old).used + writer_block_reserve old.disk.profile old.disk.block_size w + max_allocated_blocks op ≤ block_count old.disk)

  still_fits : (w : Writer) (u : UnsavedContents) → old.writable ≡ true → w.unsaved ≡ Some u → AreSoundUnsavedContents old w u → HasRoom w → length (tree_summary new).used + draft_block_reserve new.disk.profile new.disk.block_size u.has_turned w.size ≤ block_count new.disk
  still_fits w u writable is c room =
      subst (λ n. length (tree_summary new).used + draft_block_reserve new.disk.profile n u.has_turned w.size ≤ block_count new.disk) (sym carried.geometry.block_size)
      (subst (λ k. length (tree_summary new).used + draft_block_reserve k old.disk.block_size u.has_turned w.size ≤ block_count new.disk) (sym carried.geometry.profile) (go room))
    where
      go : HasRoom w → length (tree_summary new).used + draft_block_reserve old.disk.profile old.disk.block_size u.has_turned w.size ≤ block_count new.disk
      go (inl none) = room_still _ (length (tree_summary old).used) (max_allocated_blocks op) _ _ (block_count old.disk) (few old new op sound writable carried) none c.room carried.geometry.count
      go (inr r) = room_enough _ (length (tree_summary old).used) (max_allocated_blocks op) _ _ (block_count old.disk) (few old new op sound writable carried)
          (subst (λ n. length (tree_summary old).used + n + max_allocated_blocks op ≤ block_count old.disk) (ap (λ o. if is_none o then 0 else draft_block_reserve old.disk.profile old.disk.block_size (is_draft_nonsequential o) w.size) is) r) carried.geometry.count

  still_changed : (w : Writer) (u : UnsavedContents) → IsWriterReady old w → w.unsaved ≡ Some u → vacates_path op w.path ≡ false → file_bytes (visible_tree new w.path) ≡ file_bytes (visible_tree old w.path) → AreSoundUnsavedContents old w u → HasRoom w → AreSoundUnsavedContents new w u
  still_changed w u h is off stays c room = record {
    over = over old new op w.path u.contents c.over sound carried off;
    kept = subst (λ n. IsWriterForm new.disk.profile n (contents_form u.contents) (writer_view new w)) (sym carried.geometry.block_size)
        (subst (λ k. IsWriterForm k old.disk.block_size (contents_form u.contents) (writer_view new w)) (sym carried.geometry.profile) (subst (IsWriterForm old.disk.profile old.disk.block_size (contents_form u.contents)) (sym (same_writer w h off stays)) c.kept));
    form = subst (λ n. InlineWithinLimit n (contents_form u.contents)) (ap₂ inline_limit (sym carried.geometry.profile) (sym carried.geometry.block_size)) c.form;
    room = still_fits w u h.writable is c room;
  }

  still_written : (w : Writer) → IsWriterReady old w → vacates_path op w.path ≡ false → (is_file (visible_tree new w.path) ≡ true) × (file_bytes (visible_tree new w.path) ≡ file_bytes (visible_tree old w.path)) → HasRoom w → IsWriterReady new w
  still_written w h off keeps room = record {
    writable = carried.writable;
    settled = carried.recovered.gstate;
    there = keeps.0;
    size = ap (λ xs. length xs) (same_bytes w w.unsaved h.changed off keeps.1) ∙ h.size;
    changed = go w.unsaved refl h.changed;
  }
    where
      go : (u : Option UnsavedContents) → w.unsaved ≡ u → AreSoundIfUnsaved old w u → AreSoundIfUnsaved new w u
      go None is c = tt
      go (Some u) is c = still_changed w u h is off keeps.1 c room

  -- ---- all files

  still_all : (ws : List Writer) → length ws ≤ 1 → AllByRecursion (IsWriterReady old) ws → AllByRecursion (λ w. vacates_path op w.path ≡ false) ws → KeepsWriterFiles old new ws →
      (max_allocated_blocks op ≡ 0) ⊎ (length (tree_summary old).used + sum_by (writer_block_reserve old.disk.profile old.disk.block_size) ws + max_allocated_blocks op ≤ block_count old.disk) → AllByRecursion (IsWriterReady new) ws
  still_all [] one h off keeps room = tt
  still_all (w ∷ []) one h off keeps room = (still_written w h.0 off.0 keeps.0 (go room), tt)
    where
      go : (max_allocated_blocks op ≡ 0) ⊎ (length (tree_summary old).used + sum_by (writer_block_reserve old.disk.profile old.disk.block_size) (w ∷ []) + max_allocated_blocks op ≤ block_count old.disk) → HasRoom w
      go (inl none) = inl none
      go (inr r) = inr (the_first _ _ _ _ r)
  still_all (w ∷ v ∷ ws) one h off keeps room = absurd (omega (arith, one))

  same_files : (fs : RuntimeFiles) → AllByRecursion (IsWriterReady old) (writers_among fs) → AllByRecursion (λ w. vacates_path op w.path ≡ false) (writers_among fs) → KeepsWriterFiles old new (writers_among fs) → files_view old fs ≡ files_view new fs
  same_files [] h off keeps = refl
  same_files (None ∷ fs) h off keeps = ap (λ z. None ∷ z) (same_files fs h off keeps)
  same_files (Some (file.Reading r) ∷ fs) h off keeps = ap (λ z. Some (Reading (reader_view r)) ∷ z) (same_files fs h off keeps)
  same_files (Some (file.Writing w) ∷ fs) h off keeps = ap₂ (λ x z. Some (Writing x) ∷ z) (sym (same_writer w h.0 off.0 keeps.0.1)) (same_files fs h.1 off.1 keeps.1)

  pub are_left : (files : RuntimeFiles) → IsReady old files → AffectsNoOpenFile old op files → KeepsWriterFiles old new (writers_among files) → OpenFilesStayReady old new files
  are_left files ready spares keeps = record {
    ready = record {
      sound = carried.sound;
      called = still_called old.history new.history carried.calls carried.called ready.called;
      one = ready.one;
      idle = λ h. let k = few_flying [] new.map (λ b f. absurd (never h b (carried.flight.none_comes b f))) in omega (arith, k);
      written = still_all (writers_among files) ready.one ready.written spares.apart keeps (by_size spares.room);
      read = read_carried old new op (writers_paths files) (readers_among files) carried spares.unread ready.read;
      known = known_carried old new op (writers_paths files) (readers_among files) carried spares.unread ready.read ready.known;
    };
    same = same_files files ready.written spares.apart keeps;
  }
    where
      never : has_unsaved files ≡ false → (b : ℕ) → IsInFlight old.map b → ⊥
      never saved b h = let k = in_flight-freed old.map b h in let none = ready.idle saved in absurd (omega (arith, k, none))

      by_size : (max_allocated_blocks op ≡ 0) ⊎ (length (tree_summary old).used + reserved_for_writers old.disk.profile old.disk.block_size (files_view old files) + max_allocated_blocks op ≤ block_count old.disk) →
          (max_allocated_blocks op ≡ 0) ⊎ (length (tree_summary old).used + writers_block_reserve old.disk.profile old.disk.block_size files + max_allocated_blocks op ≤ block_count old.disk)
      by_size (inl none) = inl none
      by_size (inr r) = inr (subst (λ n. length (tree_summary old).used + n + max_allocated_blocks op ≤ block_count old.disk) (sym (held_is old.disk.profile old.disk.block_size old files ready)) r)

-- ---- blocks in flight

fewer : (flying form reserved_for_writers by all : ℕ) → flying ≤ form → form ≤ reserved_for_writers - 2 → by ≡ reserved_for_writers → all ≡ 0 + by → flying ≤ all
fewer flying form reserved_for_writers by all a b c d = omega arith

module _ (flying : (t : TreeState) (path : Path) (c : WriterContents) → AreTreeContents t path c → in_flight_count t.map ≤ form_in_flight t.disk.block_size (contents_form c))
    (covers : (profile : Profile) (block_size : ℕ) (form : ContentsForm) (w : session.FileWriter) → IsWriterForm profile block_size form w → form_in_flight block_size form ≤ reserved_for_writer profile block_size w - 2) (t : TreeState) where
  of_writer : (w : Writer) (u : Option UnsavedContents) → w.unsaved ≡ u → IsWriterReady t w → AreSoundIfUnsaved t w u → (is_some u || false) ≡ true → in_flight_count t.map ≤ sum_by (writer_block_reserve t.disk.profile t.disk.block_size) (w ∷ [])
  of_writer w None is h c e = absurd (cc)
  of_writer w (Some u) is h c e =
      fewer _ _ _ _ _ (flying t w.path u.contents c.over) (covers t.disk.profile t.disk.block_size (contents_form u.contents) (writer_view t w) c.kept) (held_one t.disk.profile t.disk.block_size t w h.size) refl

  of_writers : (ws : List Writer) → length ws ≤ 1 → AllByRecursion (IsWriterReady t) ws → list_any (λ w. is_some w.unsaved) ws ≡ true → in_flight_count t.map ≤ sum_by (writer_block_reserve t.disk.profile t.disk.block_size) ws
  of_writers [] one h e = absurd (cc)
  of_writers (w ∷ []) one h e = of_writer w w.unsaved refl h.0 h.0.changed e
  of_writers (w ∷ v ∷ ws) one h e = absurd (omega (arith, one))

  pub few_in_flight : (files : RuntimeFiles) → IsReady t files → in_flight_count t.map ≤ reserved_for_writers t.disk.profile t.disk.block_size (files_view t files)
  few_in_flight files ready = subst (λ n. in_flight_count t.map ≤ n) (held_is t.disk.profile t.disk.block_size t files ready) (go (has_unsaved files) refl)
    where
      go : (b : Bool) → has_unsaved files ≡ b → in_flight_count t.map ≤ writers_block_reserve t.disk.profile t.disk.block_size files
      go true e = of_writers (writers_among files) ready.one ready.written e
      go false e = let k = ready.idle e in omega (arith, k)
