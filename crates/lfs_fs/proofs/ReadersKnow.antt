-- The blocks that open readers have found.
use Rattle.std.proofs.Common.{ℕ, zero, suc, ◌≡◌, ◌≤◌, ◌∙◌, true, false, List, [], ◌∷◌, length, map, replicate, set, slice_index, Option, Some, None, is_some, refl, sym, ap, subst, arith}
use Rattle.lfs_fs.proofs.Common.{AllByRecursion, list_any, option_map, same_Some, AreKnownBlocks, no_known_blocks, Disk, vacates_path, struct_at, Operation, struct_blocks, slot_of_path, Slot, Struct, Path, is_file, same_path, contents_struct, KeepsOtherFiles, IsOperationApplied, TreeState, OnlyReadsTree, kept_thread, visible_tree, RuntimeFiles, open_file_at, file_with_index_cache, file_with_position, file_view, files_view, files_with_entry, as_reader, writers_paths, readers_among, writers_among, HasValidIndexCache, IsCurrentReader, IsReady, IsWriterReady}
use Rattle.std.proofs.lemmas.List.{get_or-replicate}
use Rattle.lfs_file.specs.declared.known.IndexCache.{IndexCache}
use Rattle.lfs_lookup.specs.declared.file_contents.FileContents.{FileContents}
use Rattle.lfs_tree.specs.KeptFiles.{list_blocks_at, slot_blocks}
use Rattle.lfs_fs.specs.declared.files.OpenFile.TheVariants as file
use Rattle.lfs_fs.specs.declared.files.Reader.{Reader}
use Rattle.lfs_fs.specs.declared.files.Writer.{Writer}
use Rattle.lfs_fs.proofs.OpenReaders.{alone_apart, all_moved, all_put, all_set, contents_are_file, other_way}

-- a reader that was just opened
pub none_known : (all : List ℕ) → AreKnownBlocks all no_known_blocks
none_known all row lt small within =
    let none : slice_index (replicate 32 4294967295) row ≡ 4294967295 = get_or-replicate 32 row 4294967295 0 lt in
    absurd (omega (arith, none, small))

-- ---- the same tree

module _ (disk : Disk) (fs : RuntimeFiles) (fd : ℕ) where
  pub known_moved : (position : ℕ) → AllByRecursion (HasValidIndexCache disk) (readers_among fs) → AllByRecursion (HasValidIndexCache disk) (readers_among (set fs fd (option_map (file_with_position position) (open_file_at fs fd))))
  known_moved position h = all_moved (HasValidIndexCache disk) (λ r position k. k) fs fd position h

  pub known_closed : AllByRecursion (HasValidIndexCache disk) (readers_among fs) → AllByRecursion (HasValidIndexCache disk) (readers_among (set fs fd None))
  known_closed h = all_set (HasValidIndexCache disk) fs fd None tt h

  pub known_written : (w : Writer) → AllByRecursion (HasValidIndexCache disk) (readers_among fs) → AllByRecursion (HasValidIndexCache disk) (readers_among (set fs fd (Some (file.Writing w))))
  known_written w h = all_set (HasValidIndexCache disk) fs fd (Some (file.Writing w)) tt h

  pub known_put : (r : Reader) → HasValidIndexCache disk r → AllByRecursion (HasValidIndexCache disk) (readers_among fs) → AllByRecursion (HasValidIndexCache disk) (readers_among (files_with_entry fs fd (Some (file.Reading r))))
  known_put r k h = all_put (HasValidIndexCache disk) fs fd (Some (file.Reading r)) (k, tt) h

  pub known_opened : (w : Writer) → AllByRecursion (HasValidIndexCache disk) (readers_among fs) → AllByRecursion (HasValidIndexCache disk) (readers_among (files_with_entry fs fd (Some (file.Writing w))))
  known_opened w h = all_put (HasValidIndexCache disk) fs fd (Some (file.Writing w)) tt h

-- ---- a tree that changed

blocks_at_path : (t : TreeState) (path : Path) (s : Struct) → struct_at t.pairs path ≡ Some s → list_blocks_at (kept_thread t) path ≡ struct_blocks t.disk s
blocks_at_path t path s e = go (slot_of_path t.pairs path) e
  where
    go : (o : Option Slot) → option_map (λ (u : Slot). u.struct) o ≡ Some s → slot_blocks t.disk o ≡ struct_blocks t.disk s
    go None e = absurd (cc)
    go (Some u) e = ap (struct_blocks t.disk) (same_Some u.struct s e)

-- a reader whose file has its list in the same blocks
module _ (old new : TreeState) where
  still_known : (r : Reader) → struct_at old.pairs r.path ≡ Some (contents_struct r.contents) → struct_at new.pairs r.path ≡ struct_at old.pairs r.path
      → list_blocks_at (kept_thread new) r.path ≡ list_blocks_at (kept_thread old) r.path → HasValidIndexCache old.disk r → HasValidIndexCache new.disk r
  still_known r was same list h =
      subst (λ all. AreKnownBlocks all r.known) (sym (blocks_at_path old r.path (contents_struct r.contents) was) ∙ sym list ∙ blocks_at_path new r.path (contents_struct r.contents) (same ∙ was)) h

  -- in an operation that is about none of them
  pub known_carried : (op : Operation) (written : List Path) (rs : List Reader) → IsOperationApplied old op new → AllByRecursion (λ r. vacates_path op r.path ≡ false) rs
      → AllByRecursion (IsCurrentReader old.pairs written) rs → AllByRecursion (HasValidIndexCache old.disk) rs → AllByRecursion (HasValidIndexCache new.disk) rs
  known_carried op written [] carried off read h = tt
  known_carried op written (r ∷ rs) carried off read h =
      let k = carried.keeps r.path (contents_are_file old.disk old.pairs r.path r.contents read.0.contents) off.0 in
      (still_known r read.0.contents.struct k.struct k.list h.0, known_carried op written rs carried off.1 read.1 h.1)

  -- if no used block was written
  pub known_beside : (written : List Path) (rs : List Reader) → new.pairs ≡ old.pairs → ((path : Path) → list_blocks_at (kept_thread new) path ≡ list_blocks_at (kept_thread old) path)
      → AllByRecursion (IsCurrentReader old.pairs written) rs → AllByRecursion (HasValidIndexCache old.disk) rs → AllByRecursion (HasValidIndexCache new.disk) rs
  known_beside written [] same lists read h = tt
  known_beside written (r ∷ rs) same lists read h =
      (still_known r read.0.contents.struct (ap (λ ps. struct_at ps r.path) same) (lists r.path) h.0, known_beside written rs same lists read.1 h.1)

  -- after a writer's contents are committed
  pub known_stored : (path : Path) (rs : List Reader) → KeepsOtherFiles (visible_tree old) old.pairs path new.pairs
      → ((q : Path) → is_file (visible_tree old q) ≡ true → same_path path q ≡ false → list_blocks_at (kept_thread new) q ≡ list_blocks_at (kept_thread old) q)
      → AllByRecursion (IsCurrentReader old.pairs (path ∷ [])) rs → AllByRecursion (HasValidIndexCache old.disk) rs → AllByRecursion (HasValidIndexCache new.disk) rs
  known_stored path [] others lists read h = tt
  known_stored path (r ∷ rs) others lists read h =
      let file = contents_are_file old.disk old.pairs r.path r.contents read.0.contents in
      let apart = other_way r.path path (alone_apart r.path path read.0.apart) in
      (still_known r read.0.contents.struct (others r.path file apart) (lists r.path file apart) h.0, known_stored path rs others lists read.1 h.1)

-- ---- a reader that knows more

-- the reader knows blocks of its list on the tree that was read
pub known_later : (old new : TreeState) (r : Reader) (known : IndexCache) → OnlyReadsTree old new → AreKnownBlocks (struct_blocks old.disk (contents_struct r.contents)) known → AreKnownBlocks (struct_blocks new.disk (contents_struct r.contents)) known
known_later old new r known asked h = subst (λ (t : TreeState). AreKnownBlocks (struct_blocks t.disk (contents_struct r.contents)) known) (sym asked.same) h

module _ (known : IndexCache) where
  pub writers_noted : (fs : RuntimeFiles) (fd : ℕ) → writers_among (set fs fd (option_map (file_with_index_cache known) (open_file_at fs fd))) ≡ writers_among fs
  writers_noted [] fd = refl
  writers_noted (None ∷ fs) zero = refl
  writers_noted (Some (file.Reading r) ∷ fs) zero = refl
  writers_noted (Some (file.Writing w) ∷ fs) zero = refl
  writers_noted (None ∷ fs) (suc fd) = writers_noted fs fd
  writers_noted (Some (file.Reading r) ∷ fs) (suc fd) = writers_noted fs fd
  writers_noted (Some (file.Writing w) ∷ fs) (suc fd) = ap (λ ws. w ∷ ws) (writers_noted fs fd)

  pub view_noted : (t : TreeState) (fs : RuntimeFiles) (fd : ℕ) → files_view t (set fs fd (option_map (file_with_index_cache known) (open_file_at fs fd))) ≡ files_view t fs
  view_noted t [] fd = refl
  view_noted t (None ∷ fs) zero = refl
  view_noted t (Some (file.Reading r) ∷ fs) zero = refl
  view_noted t (Some (file.Writing w) ∷ fs) zero = refl
  view_noted t (f ∷ fs) (suc fd) = ap (λ z. option_map (file_view t) f ∷ z) (view_noted t fs fd)

  all_noted : (P : Reader → Type 0) (fs : RuntimeFiles) (fd : ℕ) → ((r : Reader) → Some r ≡ as_reader (open_file_at fs fd) → P r → P (record r { known = known })) → AllByRecursion P (readers_among fs)
      → AllByRecursion P (readers_among (set fs fd (option_map (file_with_index_cache known) (open_file_at fs fd))))
  all_noted P [] fd k h = h
  all_noted P (None ∷ fs) zero k h = h
  all_noted P (Some (file.Reading r) ∷ fs) zero k h = (k r refl h.0, h.1)
  all_noted P (Some (file.Writing w) ∷ fs) zero k h = h
  all_noted P (None ∷ fs) (suc fd) k h = all_noted P fs fd k h
  all_noted P (Some (file.Reading r) ∷ fs) (suc fd) k h = (h.0, all_noted P fs fd k h.1)
  all_noted P (Some (file.Writing w) ∷ fs) (suc fd) k h = all_noted P fs fd k h

  pub there_noted : (fs : RuntimeFiles) (fd : ℕ) → is_some (open_file_at fs fd) ≡ true → is_some (open_file_at (set fs fd (option_map (file_with_index_cache known) (open_file_at fs fd))) fd) ≡ true
  there_noted [] fd e = e
  there_noted (None ∷ fs) zero e = e
  there_noted (Some (file.Reading r) ∷ fs) zero e = refl
  there_noted (Some (file.Writing w) ∷ fs) zero e = refl
  there_noted (f ∷ fs) (suc fd) e = there_noted fs fd e

  pub ready_noted : (t : TreeState) (fs gs : RuntimeFiles) (fd : ℕ) (r : Reader) → Some r ≡ as_reader (open_file_at fs fd) → AreKnownBlocks (struct_blocks t.disk (contents_struct r.contents)) known
      → gs ≡ set fs fd (option_map (file_with_index_cache known) (open_file_at fs fd)) → (t.failed ≡ false → IsReady t fs) → t.failed ≡ false → IsReady t gs
  ready_noted t fs gs fd r there now is ready works =
      let h = ready works in
      subst (IsReady t) (sym is) (record {
        sound = h.sound;
        called = h.called;
        one = subst (λ ws. length ws ≤ 1) (sym (writers_noted fs fd)) h.one;
        idle = λ e. h.idle (sym (ap (list_any (λ w. is_some w.unsaved)) (writers_noted fs fd)) ∙ e);
        written = subst (AllByRecursion (IsWriterReady t)) (sym (writers_noted fs fd)) h.written;
        read = subst (λ written. AllByRecursion (IsCurrentReader t.pairs written) (readers_among (set fs fd (option_map (file_with_index_cache known) (open_file_at fs fd))))) (sym (ap (map (λ w. w.path)) (writers_noted fs fd)))
            (all_noted (IsCurrentReader t.pairs (writers_paths fs)) fs fd (λ q is k. record { contents = k.contents; apart = k.apart }) h.read);
        known = all_noted (HasValidIndexCache t.disk) fs fd (λ q is k. subst (λ (c : FileContents). AreKnownBlocks (struct_blocks t.disk (contents_struct c)) known) (ap (λ (z : Reader). z.contents) (same_Some r q (there ∙ sym is))) now) h.known;
      })
