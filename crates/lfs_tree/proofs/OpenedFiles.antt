-- Contents that are opened of a file.
use Rattle.std.proofs.Common.{ℕ, ◌≡◌, ◌≤◌, ◌∙◌, inl, inr, true, false, List, [], ◌∷◌, length, take, drop, Option, Some, Result, Ok, Err, refl, sym, ap, subst, arith}
use Rattle.std.proofs.Math.Seq.{take-length}
use Rattle.std.specs.Prelude.{All, Contains, IfOk}
use Rattle.lfs_tree.proofs.Common.{flat_map, All-from_recursion, same_Some, file_bytes, is_file, Blocks, AreUsed, BlockStates, IsFree, IsInFlight, IsUsedBlock, in_flight_count, Free, Used, inline_limit, CallEvent, IsSkipList, list_bytes, slot_of_path, Slot, Struct, Inline, Ctz, pairs_blocks, Path, InlineBytesFit, IsAccepted, IsWellFormedList, all_unmoved_slots, struct_blocks, disk_tree, used_blocks, few_flying, Contains-occurrence_count, Each, count_append, each_from_counted, each_pieces, contents_list_blocks, HasGeometry, KeptThread, IsOpenedForm, AreThreadContents, slot_blocks, writer_contents_bytes, list_blocks_at, CanOpenFileSlot, AreOpenedContents, opened_form, SizedLists, HaveBytesInForm, NoneInFlight, contents_form, ContentsForm, IsFinishedList, ThreadView, OnlyReadsThread, IsResultOfPath, only_read}
use Rattle.lfs_device.specs.declared.error.Error.{Error}
use Rattle.lfs_device.specs.declared.geometry.Geometry.{Geometry}
use Rattle.lfs_model.proofs.BlockCounts.{in_flight-freed}
use Rattle.lfs_lookup.specs.FileBytes.{struct_file_bytes}
use Rattle.lfs_lookup.specs.declared.entry.FileStorage.{FileStorage}
use Rattle.lfs_lookup.specs.declared.entry.FileStorage.TheVariants as entry
use Rattle.lfs_lookup.specs.declared.search.SlotPosition.{SlotPosition}
use Rattle.lfs_tree.proofs.BesideWritten.{bytes_of_held}
use Rattle.lfs_lookup.proofs.BytesAtSlots.{IsFileOf, file_since, file_of_path}
use Rattle.lfs_tree.proofs.Carried.{with_history, read_is}
use Rattle.lfs_tree.proofs.SlotsHave.{slot_has}
use Rattle.lfs_file.specs.Form as form
use Rattle.lfs_file.specs.declared.contents.WriterContents.{WriterContents}
use Rattle.lfs_file.specs.declared.contents.WriterContents.TheVariants.{InMemory, Finished, InHand}
use Rattle.lfs_file.specs.declared.stored_list.StoredList.{StoredList}
use Rattle.lfs_lookup.specs.declared.paths.PathLookup.{PathLookup}
use Rattle.lfs_lookup.specs.declared.paths.PathLookup.TheVariants as found
use Rattle.lfs_lookup.specs.declared.paths.VisiblePathLookup.TheVariants as shown
use Rattle.lfs_tree.specs.RenameLookup.{lookup_without_parent}
use Rattle.lfs_tree.specs.Stores.{is_file_found}
use Rattle.lfs_tree.specs.Working.{CanOpenFile}
use Rattle.lfs_tree.proofs.PutContents.{file_found}
use Rattle.lfs_tree.proofs.RenamePaths.{shows_found}

-- ---- if no block is in flight

pub none_flying : (sets : BlockStates) → in_flight_count sets ≡ 0 → (b : ℕ) → ¬ (IsInFlight sets b)
none_flying sets none b flies = absurd (let e = in_flight-freed sets b flies in omega arith)

pub no_flight : (sets : BlockStates) → ((b : ℕ) → ¬ (IsInFlight sets b)) → in_flight_count sets ≡ 0
no_flight sets none = let e = few_flying [] sets (λ b flies. absurd (none b flies)) in omega arith

pub idle_is : (t : KeptThread) → in_flight_count t.map ≡ 0 → length t.map ≡ length t.disk.blocks → NoneInFlight t.map t.disk.blocks
idle_is t none size = record { count = size; none = none_flying t.map none }

-- ---- in memory

owns_nothing : (t : KeptThread) (c : WriterContents) (size : ℕ) (own : List ℕ) → contents_form c ≡ form.InMemory size → (b : ℕ) → Contains (contents_list_blocks t c) b → Contains own b
owns_nothing t (InMemory list) size own e b has = absurd (omega (arith, has.1))
owns_nothing t (Finished stored) size own e b has = absurd (cc)
owns_nothing t (InHand hand) size own e b has = absurd (cc)

pub opened_in_memory : (t : KeptThread) (geometry : Geometry) (xs bytes : List ℕ) (s : Struct) (size : ℕ) (r : Result WriterContents Error) → HasGeometry geometry t.disk → NoneInFlight t.map t.disk.blocks → xs ≡ bytes → s ≡ Inline bytes → length bytes ≡ size
    → IfOk r (λ c. (map : BlockStates) (disk : Blocks) → NoneInFlight map disk → HaveBytesInForm map disk geometry c xs (form.InMemory (length xs))) → IfOk r (AreOpenedContents t s (form.InMemory size))
opened_in_memory t geometry xs bytes s size (Err x) divided idle same e l h = tt
opened_in_memory t geometry xs bytes s size (Ok c) divided idle same e l h =
    let has = h t.map t.disk.blocks idle in
    let shape : contents_form c ≡ form.InMemory size = has.form ∙ ap (λ n. form.InMemory n) (ap length same ∙ l) in
    record {
      holds = record { geometry = geometry; divided = divided; has = record { stands = has.stands; has = has.has ∙ same ∙ sym (ap (struct_file_bytes t.disk) e); form = shape } };
      owned = record { each = λ b has used. owns_nothing t c size (struct_blocks t.disk s) shape b has };
    }

no_drop : (xs : List ℕ) → drop 0 xs ≡ xs
no_drop [] = refl
no_drop (x ∷ xs) = refl

pub all_taken : (xs bytes : List ℕ) (len : ℕ) → length bytes ≡ len → xs ≡ take len (drop 0 bytes) → xs ≡ bytes
all_taken xs bytes len l e = e ∙ ap (take len) (no_drop bytes) ∙ ap (λ n. take n bytes) (sym l) ∙ take-length bytes

-- ---- a list

pub opened_list : (t : KeptThread) (geometry : Geometry) (head size : ℕ) (slot : SlotPosition) (held : Slot) → HasGeometry geometry t.disk → CanOpenFileSlot t slot (entry.List head size) held
    → AreOpenedContents t held.struct (form.Finished size false) (Finished (record { head = head; size = size; in_flight = false }))
opened_list t geometry head size slot held divided can =
    let is : held.struct ≡ Ctz head size = can.file.shows in
    let list : IsSkipList t.disk.blocks t.disk.block_size head size = subst (IsWellFormedList t.disk) is can.file.list in
    let s : StoredList = record { head = head; size = size; in_flight = false } in
    let stands : IsFinishedList t.map t.disk.blocks t.disk.block_size (record { head = head; size = size; in_flight = false }) = record {
      base = inr list;
      count = can.idle.count;
      marked = subst (λ (z : Struct). All (λ b. ¬ (IsFree t.map b)) (struct_blocks t.disk z)) is can.marked;
      flying = λ b flies. absurd (can.idle.none b flies);
    } in
    record {
      holds = record {
        geometry = geometry;
        divided = divided;
        has = record {
          stands = subst (λ (n : ℕ). IsFinishedList t.map t.disk.blocks n (record { head = head; size = size; in_flight = false })) (sym divided.block_size) stands;
          has = ap (λ (n : ℕ). list_bytes t.disk.blocks n head size) divided.block_size ∙ sym (ap (struct_file_bytes t.disk) is);
          form = refl;
        };
      };
      owned = record { each = λ b has used. subst (λ (z : Struct). Contains (struct_blocks t.disk z) b) (sym is) has };
    }

-- ---- the file at a path

pub not_free : (sets : BlockStates) (b : ℕ) → IsUsedBlock sets b → ¬ (IsFree sets b)
not_free sets b used free = absurd (let k : Used ≡ Free = same_Some Used Free (sym used ∙ free) in cc)

-- no block of its list is free
pub marked_there : (t : KeptThread) (path : Path) (held : Slot) → IsAccepted t.disk t.pairs → AreUsed t.map (used_blocks t.disk t.pairs) → slot_of_path t.pairs path ≡ Some held
    → All (λ b. IsUsedBlock t.map b) (struct_blocks t.disk held.struct)
marked_there t path held ok used at =
    All-from_recursion (λ b. IsUsedBlock t.map b) (struct_blocks t.disk held.struct)
    (slot_has (λ (s : Slot). Each (λ b. IsUsedBlock t.map b) (struct_blocks t.disk s.struct)) t.disk t.pairs ok
    (each_pieces (λ b. IsUsedBlock t.map b) (λ (s : Slot). struct_blocks t.disk s.struct) (all_unmoved_slots t.pairs)
    (each_from_counted (λ b. IsUsedBlock t.map b) (flat_map (λ (s : Slot). struct_blocks t.disk s.struct) (all_unmoved_slots t.pairs))
    (λ b some. (used b).1 (Contains-occurrence_count (used_blocks t.disk t.pairs) b
    (let e = count_append b (pairs_blocks t.pairs) (flat_map (λ (s : Slot). struct_blocks t.disk s.struct) (all_unmoved_slots t.pairs)) in omega arith)))))
    tt path held at)

-- contents as they are opened
form_opened : (t : KeptThread) (path : Path) (slot : SlotPosition) (contents : FileStorage) (f : IsFileOf t path slot contents) → InlineBytesFit (inline_limit t.disk.profile t.disk.block_size) f.held.struct → SizedLists t.disk → (shape : ContentsForm) → shape ≡ opened_form contents
    → IsOpenedForm t.disk.profile t.disk.block_size (length (file_bytes (disk_tree t.disk t.pairs path))) shape
form_opened t path slot (entry.Inline len) f few sized shape e =
    let k = f.file.shows in
    let l : len ≡ length (file_bytes (disk_tree t.disk t.pairs path)) = sym k.1.1.0 ∙ sym (ap (λ z. length (struct_file_bytes t.disk z)) k.1.0) ∙ ap length f.bytes in
    let m : length k.0 ≤ inline_limit t.disk.profile t.disk.block_size = subst (InlineBytesFit (inline_limit t.disk.profile t.disk.block_size)) k.1.0 few in
    let n = k.1.1.0 in
    inl (e ∙ ap (λ n. form.InMemory n) l, omega arith)
form_opened t path slot (entry.List head size) f few sized shape e =
    let k = f.file.shows in
    let l : size ≡ length (file_bytes (disk_tree t.disk t.pairs path)) = sym (sized head size (subst (IsWellFormedList t.disk) k f.file.list)) ∙ sym (ap (λ z. length (struct_file_bytes t.disk z)) k) ∙ ap length f.bytes in
    inr (e ∙ ap (λ n. form.Finished n false) l)

form_of_opened : (t : KeptThread) (s : Struct) (shape : ContentsForm) (r : Result WriterContents Error) (P : ContentsForm → Type 0) → ((f : ContentsForm) → f ≡ shape → P f) → IfOk r (AreOpenedContents t s shape) → IfOk r (λ c. P (contents_form c))
form_of_opened t s shape (Err x) P of o = tt
form_of_opened t s shape (Ok c) P of o = of (contents_form c) o.holds.has.form

-- if no file is found, the path has none
pub not_led : (t : KeptThread) (path : Path) (f : PathLookup) → is_file (disk_tree t.disk t.pairs path) ≡ true → IsResultOfPath t path f → ((parent : ℕ) (slot : SlotPosition) (contents : FileStorage) → f ≡ found.File parent slot contents → ⊥) → ⊥
not_led t path f file leads none = go f (file_found t path f file leads) none
  where
    go : (f : PathLookup) → is_file_found f ≡ true → ((parent : ℕ) (slot : SlotPosition) (contents : FileStorage) → f ≡ found.File parent slot contents → ⊥) → ⊥
    go (found.File parent slot contents) e none = none parent slot contents refl
    go _ e none = absurd (cc)

-- the file that is found
module _ (t : ThreadView) (root : ℕ) (path : Path) (can : CanOpenFile t root path) (f : PathLookup) (leads : IsResultOfPath t.kept path f) (parent : ℕ) (slot : SlotPosition) (contents : FileStorage) (is : f ≡ found.File parent slot contents) where
  led : IsFileOf t.kept path slot contents
  led =
      let ok = can.rests.held.sound.accepted in
      file_of_path t.kept path (shown.File slot contents) slot contents ok (shows_found t.kept path f (shown.File slot contents) ok can.rests.settled leads (sym (ap lookup_without_parent is))) refl

  can_be_opened : (h : List CallEvent) → CanOpenFileSlot (with_history t.kept h) slot contents led.held
  can_be_opened h =
      let sound = can.rests.held.sound in
      let idle = idle_is t.kept can.idle sound.size in
      record {
        file = file_since t.kept (with_history t.kept h) slot contents led.held refl refl led.file;
        idle = record { count = idle.count; none = idle.none };
        marked = λ k d l. not_free t.kept.map _ (marked_there t.kept path led.held sound.accepted sound.used led.at k d l);
      }

  -- ---- after calls that only read

  module _ (mid : KeptThread) (read : OnlyReadsThread t.kept mid) where
    can_open : CanOpenFileSlot mid slot contents led.held
    can_open = subst (λ (k : KeptThread). CanOpenFileSlot k slot contents led.held) (sym (read_is t.kept mid read)) (can_be_opened mid.history)

    pub can_open_led : (held : Slot) × CanOpenFileSlot mid slot contents held
    can_open_led = (led.held, can_open)

    module _ (new : KeptThread) (later : OnlyReadsThread mid new) (r : Result WriterContents Error) (opened : (held : Slot) → CanOpenFileSlot mid slot contents held → IfOk r (AreOpenedContents new held.struct (opened_form contents))) where
      behind : new ≡ with_history t.kept new.history
      behind = read_is t.kept new (only_read t.kept mid new read later)

      opened_led : IfOk r (AreOpenedContents (with_history t.kept new.history) led.held.struct (opened_form contents))
      opened_led = subst (λ (k : KeptThread). IfOk r (AreOpenedContents k led.held.struct (opened_form contents))) behind (opened led.held can_open)

      pub over_led : IfOk r (AreThreadContents new path)
      over_led = subst (λ (k : KeptThread). IfOk r (AreThreadContents k path)) (sym behind) (go r opened_led)
        where
          go : (r : Result WriterContents Error) → IfOk r (AreOpenedContents (with_history t.kept new.history) led.held.struct (opened_form contents)) → IfOk r (AreThreadContents (with_history t.kept new.history) path)
          go (Err x) o = tt
          go (Ok c) o = record {
            file = can.file;
            stands = record { geometry = o.holds.geometry; divided = o.holds.divided; stands = o.holds.has.stands };
            owned = record { each = λ b has used. subst (λ (z : Option Slot). Contains (slot_blocks t.kept.disk z) b) (sym led.at) (o.owned.each b has used) };
          }

      pub bytes_led : IfOk r (λ c. writer_contents_bytes new c ≡ file_bytes (disk_tree t.kept.disk t.kept.pairs path))
      bytes_led = subst (λ (k : KeptThread). IfOk r (λ c. writer_contents_bytes k c ≡ file_bytes (disk_tree t.kept.disk t.kept.pairs path))) (sym behind) (go r opened_led)
        where
          go : (r : Result WriterContents Error) → IfOk r (AreOpenedContents (with_history t.kept new.history) led.held.struct (opened_form contents)) → IfOk r (λ c. writer_contents_bytes (with_history t.kept new.history) c ≡ file_bytes (disk_tree t.kept.disk t.kept.pairs path))
          go (Err x) o = tt
          go (Ok c) o = bytes_of_held (with_history t.kept new.history) c (struct_file_bytes t.kept.disk led.held.struct) (opened_form contents) o.holds ∙ led.bytes

      pub form_led : SizedLists t.kept.disk → IfOk r (λ c. IsOpenedForm t.kept.disk.profile t.kept.disk.block_size (length (file_bytes (disk_tree t.kept.disk t.kept.pairs path))) (contents_form c))
      form_led sized =
          form_of_opened (with_history t.kept new.history) led.held.struct (opened_form contents) r (IsOpenedForm t.kept.disk.profile t.kept.disk.block_size (length (file_bytes (disk_tree t.kept.disk t.kept.pairs path))))
          (λ shape e. form_opened t.kept path slot contents led (led.inline (can.rests.held.sound.fits refl)) sized shape e) opened_led

-- contents of no bytes are over each file
pub over_empty : (t : KeptThread) (path : Path) (r : Result WriterContents Error) → is_file (disk_tree t.disk t.pairs path) ≡ true → IfOk r (AreOpenedContents t (Inline []) (form.InMemory 0)) → IfOk r (AreThreadContents t path)
over_empty t path (Err x) file o = tt
over_empty t path (Ok c) file o = record {
  file = file;
  stands = record { geometry = o.holds.geometry; divided = o.holds.divided; stands = o.holds.has.stands };
  owned = record { each = λ b has used. owns_nothing t c 0 (list_blocks_at t path) o.holds.has.form b has };
}
