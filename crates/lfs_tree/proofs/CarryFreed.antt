-- A removed file, whose blocks are freed in the map.
use Rattle.std.proofs.Common.{ℕ, ◌≡◌, ◌≢◌, ◌⊎◌, inl, inr, ◌<◌, ◌≤◌, ◌+◌, ◌-◌, ◌∙◌, Bool, true, false, List, [], ◌∷◌, ◌++◌, length, slice_get, Some, Result, Ok, Err, refl, sym, ap, subst, arith, append-nil, cond}
use Rattle.std.specs.Prelude.{Contains, OnOk, ◌↔◌}
use Rattle.lfs_tree.proofs.Common.{cases_lt, All-from_recursion, recursion_from_All, same_Some, CanReplaceUsedList, ChangesOnlyMap, IsUsedListReplaced, stored_list_blocks, AreUsed, BlockStates, IsInFlight, IsUsedBlock, Free, InFlight, Used, Disk, SameGeometry, disk_block, CallEvent, Slot, Struct, Pair, pairs_blocks, pairs_gstate, address_blocks, IsWellFormedList, all_unmoved_slots, struct_blocks, used_blocks, Contains-occurrence_count, occurrence_count-Contains, no_move_from, Each, occurrence_count, count_append, each_from_counted, each_pieces, each_right, once_from_distinct, SameFileBlocks, file_blocks_same, is_list_same, HoldsAtLosses-read_count, HoldsAtLosses-trans, file_blocks, unmoved_in, HasSameBlocksInFlight, CanEditIn, editable_slot, IsRecoveredWritableImage, IsWritableBeforeMapUpdate, drops_pair_after_removal, removal_written_address, KeptThread, ChangesThreadBlocks, thread_pair, WritesThreadAndFree, IsStorageOfStruct, list_in_storage, IsListOrEmpty, SettlesList, empty_list}
use Rattle.lfs_model.specs.format.Blocks.{SameExceptBlocks}
use Rattle.lfs_model.proofs.Histories.{LossLeavesAtWorst-read, OthersStayUnprogrammed-read_count, OthersStayUnprogrammed-trans}
use Rattle.lfs_thread.specs.ThreadSteps.{SameGeometryAs}
use Rattle.lfs_tree.specs.Removals.{CanFreeList}
use Rattle.lfs_lookup.specs.declared.entry.FileStorage.{FileStorage}
use Rattle.lfs_lookup.specs.declared.entry.FileStorage.TheVariants as shown
use Rattle.lfs_tree.proofs.Carried.{behind_below, pair_blocks}
use Rattle.lfs_tree.proofs.KeptFiles.{among_files}

-- a number that isn't in a list
pub none_there : (b : ℕ) (xs : List ℕ) → occurrence_count b xs ≤ 0 → Each (λ x. x ≢ b) xs
none_there b xs never = each_from_counted (λ x. x ≢ b) xs (λ x some e. let k = ap (λ z. occurrence_count z xs) e in absurd (omega arith))

-- ---- the blocks of a slot's file

pub each_here : (P : Slot → Type 0) (t : KeptThread) (index id : ℕ) (can : CanEditIn t index id) → Each P (all_unmoved_slots t.pairs) → P (editable_slot can)
each_here P t index id can h =
    let place = can.stands.place in
    let stands = can.stands.stands in
    let on = subst (Each P) (unmoved_in (pairs_gstate t.pairs) (no_move_from t.pairs can.ready.settled) t.pairs) h in
    let pieces = subst (Each (λ (p : Pair). Each P p.content.slots)) place.parts (each_pieces P (λ (p : Pair). p.content.slots) t.pairs on) in
    let here = (each_right (λ (p : Pair). Each P p.content.slots) place.left (can.stands.pair ∷ can.stands.rest)
    (each_right (λ (p : Pair). Each P p.content.slots) place.front (place.left ++ can.stands.pair ∷ can.stands.rest) pieces)).0 in
    (each_right P stands.left (stands.slot ∷ stands.right) (subst (Each P) stands.held here)).0

module _ (t : KeptThread) (index id : ℕ) (can : CanEditIn t index id) where
  abbrev struct : Struct
  struct = (editable_slot can).struct

  -- no block of a pair is one of them
  pub apart_from_pairs : (b : ℕ) → 1 ≤ occurrence_count b (struct_blocks t.disk (editable_slot can).struct) → occurrence_count b (pairs_blocks t.pairs) ≡ 0
  apart_from_pairs b some =
      let l = each_here (λ (s : Slot). occurrence_count b (struct_blocks t.disk s.struct) ≤ occurrence_count b (file_blocks t.disk (all_unmoved_slots t.pairs))) t index id can (among_files b t.disk (all_unmoved_slots t.pairs)) in
      let e = count_append b (pairs_blocks t.pairs) (file_blocks t.disk (all_unmoved_slots t.pairs)) in
      let o = once_from_distinct (used_blocks t.disk t.pairs) can.ready.accepted.owned_once b in
      omega arith

  list_there : IsWellFormedList t.disk (editable_slot can).struct
  list_there = each_here (λ (s : Slot). IsWellFormedList t.disk s.struct) t index id can (recursion_from_All (λ (s : Slot). IsWellFormedList t.disk s.struct) (all_unmoved_slots t.pairs) can.ready.accepted.lists)

-- ---- which blocks are written

counted_of : (bs : List ℕ) (at other : ℕ × ℕ) (b : Bool) → (1 ≤ occurrence_count at.0 bs) × (1 ≤ occurrence_count at.1 bs) → (1 ≤ occurrence_count other.0 bs) × (1 ≤ occurrence_count other.1 bs) → (1 ≤ occurrence_count (cond b at other).0 bs) × (1 ≤ occurrence_count (cond b at other).1 bs)
counted_of bs at other true h k = h
counted_of bs at other false h k = k

in_pairs : (t : KeptThread) (index first : ℕ) → index < length t.pairs → (1 ≤ occurrence_count (removal_written_address t index first).0 (pairs_blocks t.pairs)) × (1 ≤ occurrence_count (removal_written_address t index first).1 (pairs_blocks t.pairs))
in_pairs t index first below =
    let a = pair_blocks t.pairs (index - 1) (omega arith) in
    let b = pair_blocks t.pairs index below in
    counted_of (pairs_blocks t.pairs) (thread_pair t (index - 1)).at (thread_pair t index).at (drops_pair_after_removal t index first)
    (occurrence_count-Contains (pairs_blocks t.pairs) (thread_pair t (index - 1)).at.0 a.0, occurrence_count-Contains (pairs_blocks t.pairs) (thread_pair t (index - 1)).at.1 a.1)
    (occurrence_count-Contains (pairs_blocks t.pairs) (thread_pair t index).at.0 b.0, occurrence_count-Contains (pairs_blocks t.pairs) (thread_pair t index).at.1 b.1)

-- those of a pair, and of one in front of it
pub written_pairs : (t : KeptThread) (index first : ℕ) → index < length t.pairs → Contains (pairs_blocks t.pairs) (removal_written_address t index first).0 × Contains (pairs_blocks t.pairs) (removal_written_address t index first).1
written_pairs t index first below =
    let k = in_pairs t index first below in
    (Contains-occurrence_count (pairs_blocks t.pairs) (removal_written_address t index first).0 k.0, Contains-occurrence_count (pairs_blocks t.pairs) (removal_written_address t index first).1 k.1)

-- calls that only read, after those that write
pub writes_then : (a b c : KeptThread) (bs : List ℕ) → ChangesThreadBlocks bs a b → ChangesOnlyMap b c → ChangesThreadBlocks bs a c
writes_then a b c bs w r = record {
  others = subst (λ (d : Disk). SameExceptBlocks bs a.disk.blocks d.blocks) (sym r.disk) w.others;
  elsewhere = OthersStayUnprogrammed-trans w.elsewhere (OthersStayUnprogrammed-read_count bs r.reads);
  shape = subst (SameGeometryAs a.disk) (sym r.disk) w.shape;
  at_worst = HoldsAtLosses-trans w.at_worst (HoldsAtLosses-read_count LossLeavesAtWorst-read r.reads w.others);
}

pub not_both : (sets : BlockStates) (b : ℕ) → IsUsedBlock sets b → IsInFlight sets b → ⊥
not_both sets b is flies = let k : Used ≡ InFlight = same_Some Used InFlight (sym is ∙ flies) in absurd (cc)

pub not_free : (sets : BlockStates) (b : ℕ) → slice_get sets b ≡ Some Free → IsInFlight sets b → ⊥
not_free sets b is flies = let k : Free ≡ InFlight = same_Some Free InFlight (sym is ∙ flies) in absurd (cc)

pub file_writes : (old new : KeptThread) (index id first : ℕ) (can : CanEditIn old index id) → ChangesThreadBlocks (address_blocks (removal_written_address old index first)) old new → WritesThreadAndFree old new
file_writes old new index id first can w = record {
  blocks = address_blocks (removal_written_address old index first);
  each = (let k = written_pairs old index first (behind_below old.pairs can.first index can.stands.pair can.stands.rest can.stands.place) in (inl k.0, (inl k.1, tt)));
  writes = w;
}

pub shape_geometry : (old new : KeptThread) → SameGeometryAs old.disk new.disk → SameGeometry old.disk new.disk
shape_geometry old new s = record { block_size = s.block_size; page = s.page; order = s.order; profile = s.profile; count = s.count }

-- the written blocks aren't the file's
pub files_stay : (old mid : KeptThread) (index id first : ℕ) (can : CanEditIn old index id) → ChangesThreadBlocks (address_blocks (removal_written_address old index first)) old mid → SameFileBlocks old.disk mid.disk (editable_slot can).struct
files_stay old mid index id first can w = each_from_counted (λ b. disk_block mid.disk b ≡ disk_block old.disk b) (struct_blocks old.disk (editable_slot can).struct) (λ b some. w.others.others b
    (All-from_recursion (λ c. c ≢ b) (address_blocks (removal_written_address old index first)) (other b some (removal_written_address old index first).0 in_pair.0, (other b some (removal_written_address old index first).1 in_pair.1, tt))))
  where
    in_pair : (1 ≤ occurrence_count (removal_written_address old index first).0 (pairs_blocks old.pairs)) × (1 ≤ occurrence_count (removal_written_address old index first).1 (pairs_blocks old.pairs))
    in_pair = in_pairs old index first (behind_below old.pairs can.first index can.stands.pair can.stands.rest can.stands.place)

    other : (b : ℕ) → 1 ≤ occurrence_count b (struct_blocks old.disk (editable_slot can).struct) → (c : ℕ) → 1 ≤ occurrence_count c (pairs_blocks old.pairs) → c ≢ b
    other b some c has e = let k = ap (λ z. occurrence_count z (pairs_blocks old.pairs)) e in let n = apart_from_pairs old index id can b some in absurd (omega arith)

-- The image no longer has the file of a slot, whose blocks are as they were.
module _ (old mid : KeptThread) (index id : ℕ) (can : CanEditIn old index id) (contents : FileStorage) (shows : IsStorageOfStruct contents (editable_slot can).struct) (geometry : SameGeometry old.disk mid.disk)
    (same : SameFileBlocks old.disk mid.disk (editable_slot can).struct) (ready : IsWritableBeforeMapUpdate mid (struct_blocks old.disk (editable_slot can).struct) [])
    (once : (b : ℕ) → occurrence_count b (used_blocks mid.disk mid.pairs) + occurrence_count b (struct_blocks old.disk (editable_slot can).struct) ≤ 1) where
  list_is : stored_list_blocks mid (list_in_storage contents) ≡ struct_blocks old.disk (editable_slot can).struct
  list_is = go contents shows
    where
      go : (c : FileStorage) → IsStorageOfStruct c (editable_slot can).struct → stored_list_blocks mid (list_in_storage c) ≡ struct_blocks old.disk (editable_slot can).struct
      go (shown.Inline len) h = ap (struct_blocks old.disk) (sym h.1.0)
      go (shown.List head size) h = ap (struct_blocks mid.disk) (sym h) ∙ file_blocks_same old.disk mid.disk (editable_slot can).struct geometry same

  base_there : IsListOrEmpty mid.disk.blocks mid.disk.block_size (list_in_storage contents).head (list_in_storage contents).size
  base_there = go contents shows
    where
      go : (c : FileStorage) → IsStorageOfStruct c (editable_slot can).struct → IsListOrEmpty mid.disk.blocks mid.disk.block_size (list_in_storage c).head (list_in_storage c).size
      go (shown.Inline len) h = inl refl
      go (shown.List head size) h = inr (subst (IsWellFormedList mid.disk) h (is_list_same old.disk mid.disk (editable_slot can).struct geometry same (list_there old index id can)))

  pub can_free : CanFreeList mid contents
  can_free = record { gone = struct_blocks old.disk (editable_slot can).struct; ready = ready; once = once; list = base_there; are = list_is }

-- ---- the list is freed

-- the same thread, after other calls, with another map
abbrev pub with_map : KeptThread → List CallEvent → BlockStates → KeptThread
with_map t history map = record t { history = history; map = map }

pub beside_is : (a b : KeptThread) → ChangesOnlyMap a b → b ≡ with_map a b.history b.map
beside_is a b r =
    ap (λ (d : Disk). let k : KeptThread = record { disk = d; history = b.history; pairs = b.pairs; map = b.map } in k) r.disk
    ∙ ap (λ (ps : List Pair). let k : KeptThread = record { disk = a.disk; history = b.history; pairs = ps; map = b.map } in k) r.pairs

module _ (t : KeptThread) (contents : FileStorage) (can : CanFreeList t contents) where
  pub can_settle : CanReplaceUsedList t (list_in_storage contents) empty_list
  can_settle = record {
    was = can.list;
    list = inl refl;
    size = can.ready.size;
    apart = λ b has lists.
        let a = occurrence_count-Contains (pairs_blocks t.pairs) b has in
        let l = occurrence_count-Contains can.gone b (subst (λ z. Contains z b) (append-nil (stored_list_blocks t (list_in_storage contents)) ∙ can.are) lists) in
        let e = count_append b (pairs_blocks t.pairs) (file_blocks t.disk (all_unmoved_slots t.pairs)) in
        let o = can.once b in
        absurd (omega arith);
    shared = record { used = λ b has none. let k = occurrence_count-Contains [] b none in absurd (omega arith) };
  }

  -- without a list nothing is to be done
  pub none_freed : stored_list_blocks t (list_in_storage contents) ≡ [] → IsRecoveredWritableImage t
  none_freed none = record {
    accepted = can.ready.accepted;
    writable = can.ready.writable;
    settled = can.ready.settled;
    used = λ b. (
      (λ h. Contains-occurrence_count (used_blocks t.disk t.pairs) b (let k = occurrence_count-Contains can.ready.used.owned b ((can.ready.used.are b).0 h) in let e = can.ready.used.same b in let n = ap (occurrence_count b) (sym can.are ∙ none) in omega arith)),
      (λ h. (can.ready.used.are b).1 (Contains-occurrence_count can.ready.used.owned b (let k = occurrence_count-Contains (used_blocks t.disk t.pairs) b h in let e = can.ready.used.same b in omega arith))),
    );
    size = can.ready.size;
    large = can.ready.large;
  }

  module _ (history : List CallEvent) (map : BlockStates) (settled : IsUsedListReplaced t (list_in_storage contents) empty_list (with_map t history map))
      (law : (sets later : BlockStates) (owned used before now gone come : List ℕ) → AreUsed sets owned → ((b : ℕ) → occurrence_count b owned ≤ 1) → ((b : ℕ) → occurrence_count b owned + occurrence_count b come ≡ occurrence_count b used + occurrence_count b gone)
      → ((b : ℕ) → occurrence_count b now + occurrence_count b gone ≡ occurrence_count b come + occurrence_count b before) → ((b : ℕ) → Contains now b → Contains used b) → SettlesList sets later before now → AreUsed later used) where
    used_now : AreUsed map (used_blocks t.disk t.pairs)
    used_now = law t.map map can.ready.used.owned (used_blocks t.disk t.pairs) (stored_list_blocks t (list_in_storage contents)) (stored_list_blocks t empty_list) can.gone []
        can.ready.used.are (λ b. let e = can.ready.used.same b in let o = can.once b in omega arith) can.ready.used.same
        (λ b. let e = ap (occurrence_count b) can.are in omega arith) (λ b h. let k = occurrence_count-Contains [] b h in absurd (omega arith)) settled

    ready_here : IsRecoveredWritableImage (with_map t history map)
    ready_here = record {
      accepted = can.ready.accepted;
      writable = can.ready.writable;
      settled = can.ready.settled;
      used = used_now;
      size = settled.count ∙ can.ready.size;
      large = can.ready.large;
    }

    -- a block of the list was used, and is free
    flying_here : HasSameBlocksInFlight t.map map
    flying_here b = go (cases_lt 0 (occurrence_count b can.gone))
      where
        go : (0 < occurrence_count b can.gone) ⊎ (occurrence_count b can.gone ≤ 0) → IsInFlight map b ↔ IsInFlight t.map b
        go (inl some) =
            let e = can.ready.used.same b in
            let was = (can.ready.used.are b).1 (Contains-occurrence_count can.ready.used.owned b (omega arith)) in
            let free = settled.freed b (subst (λ z. Contains z b) (sym can.are) (Contains-occurrence_count can.gone b some)) (All-from_recursion (λ x. x ≢ b) [] tt) in
            ((λ flies. absurd (not_free map b free flies)), (λ flies. absurd (not_both t.map b was flies)))
        go (inr never) =
            let same = settled.others b (All-from_recursion (λ x. x ≢ b) (stored_list_blocks t (list_in_storage contents)) (subst (Each (λ x. x ≢ b)) (sym can.are) (none_there b can.gone never))) (All-from_recursion (λ x. x ≢ b) [] tt) in
            ((λ flies. sym same ∙ flies), (λ flies. same ∙ flies))

  module _ (new : KeptThread) (only : ChangesOnlyMap t new) (settled : IsUsedListReplaced t (list_in_storage contents) empty_list new)
      (law : (sets later : BlockStates) (owned used before now gone come : List ℕ) → AreUsed sets owned → ((b : ℕ) → occurrence_count b owned ≤ 1) → ((b : ℕ) → occurrence_count b owned + occurrence_count b come ≡ occurrence_count b used + occurrence_count b gone)
      → ((b : ℕ) → occurrence_count b now + occurrence_count b gone ≡ occurrence_count b come + occurrence_count b before) → ((b : ℕ) → Contains now b → Contains used b) → SettlesList sets later before now → AreUsed later used) where
    pub freed_ready : IsRecoveredWritableImage new
    freed_ready = subst IsRecoveredWritableImage (sym (beside_is t new only)) (ready_here new.history new.map settled law)

    pub freed_flying : HasSameBlocksInFlight t.map new.map
    freed_flying = flying_here new.history new.map settled law

-- ---- results

pub ok_then : {X Y : Type 0} (r : Result X Y) (P Q : Type 0) → (P → Q) → OnOk r P → OnOk r Q
ok_then (Ok x) P Q f h = f h
ok_then (Err e) P Q f h = tt

pub ok_both : {X Y : Type 0} (r : Result X Y) (P Q R : Type 0) → (P → Q → R) → OnOk r P → OnOk r Q → OnOk r R
ok_both (Ok x) P Q R f h k = f h k
ok_both (Err e) P Q R f h k = tt
