-- The lists of slots that go with their pairs: which they are, and how their blocks are freed.
use Rattle.std.proofs.Common.{ℕ, zero, suc, ◌≡◌, ◌≢◌, ◌⊎◌, inl, inr, ◌<◌, ◌≤◌, ◌+◌, ◌∙◌, List, [], ◌∷◌, ◌++◌, length, Option, Some, None, refl, sym, ap, ap₂, subst, arith, add-one, append-nil, drop, drop-cons, take}
use Rattle.std.proofs.Math.Seq.{take-suc}
use Rattle.std.proofs.lemmas.List.Concat.{flat_map-append}
use Rattle.lfs_tree.proofs.Common.{AllByRecursion, option_and_then, option_map, cases_lt, All-from_recursion, recursion_from_All, same_Some, CanReplaceUsedList, ChangesOnlyMap, IsUsedListReplaced, stored_list_blocks, AreUsed, BlockStates, IsInFlight, decoded_struct, Disk, SameGeometry, CallEvent, OnlyReadsSince-trans, Slot, Struct, Inline, Ctz, Branch, Pair, pairs_blocks, pairs_gstate, IsAccepted, IsWellFormedList, all_unmoved_slots, struct_blocks, used_blocks, Contains-occurrence_count, occurrence_count-Contains, Each, occurrence_count, count_append, each_append, slots_files, SameFileBlocks, is_list_same, HasNoMove, file_blocks, unmoved_in, HasSameBlocksInFlight, IsRecoveredWritableImage, IsWritableBeforeMapUpdate, HasCompletedRecovery, slots_of_pairs_at, KeptThread, empty_anchor, CanFreeLists, slots_lists, raw_slots_lists, IsListOrEmpty, SettlesList, empty_list}
use Rattle.std.specs.Prelude.{Contains, ◌↔◌, slice_index_or}
use Rattle.lfs_model.specs.format.Content.{RawSlot, decoded_slot, decoded_slots, kind_of_type}
use Rattle.lfs_model.proofs.Completed.{complete_parts}
use Rattle.lfs_model.proofs.Counts.{each_both}
use Rattle.lfs_model.proofs.Changes.{SameFiles}
use Rattle.lfs_operations.specs.Recovering.{list_blocks_of_pairs}
use Rattle.lfs_operations.proofs.RecoverLists.{each_at}
use Rattle.lfs_tree.specs.LostLists.{blocks_of_lists, struct_lists, raw_struct_lists}
use Rattle.lfs_tree.proofs.CarryFreed.{beside_is, none_there, not_both, not_free, with_map}
use Rattle.lfs_file.specs.declared.stored_list.StoredList.{StoredList}

-- ---- which lists

typed_first : (s : RawSlot) (t : Slot) → decoded_slot s ≡ Some t → raw_struct_lists s.struct ≡ struct_lists t.struct
typed_first s t e = go s.name s.struct refl refl
  where
    given : ℕ × List ℕ → ℕ × List ℕ → Slot
    given name struct = record { kind = kind_of_type name.0; name = name.1; struct = decoded_struct struct.0 struct.1; attributes = s.attributes }

    made : Option (ℕ × List ℕ) → Option (ℕ × List ℕ) → Option Slot
    made name struct = option_and_then (λ n. option_map (λ k. given n k) struct) name

    go : (name struct : Option (ℕ × List ℕ)) → s.name ≡ name → s.struct ≡ struct → raw_struct_lists s.struct ≡ struct_lists t.struct
    go None struct n k = absurd (let z = sym (ap₂ made n k) ∙ e in cc)
    go (Some name) None n k = absurd (let z = sym (ap₂ made n k) ∙ e in cc)
    go (Some name) (Some struct) n k = ap raw_struct_lists k ∙ ap (λ (u : Slot). struct_lists u.struct) (same_Some (given name struct) t (sym (ap₂ made n k) ∙ e))

pub typed_complete : (raw : List RawSlot) (all : List Slot) → decoded_slots raw ≡ Some all → raw_slots_lists raw ≡ slots_lists all
typed_complete [] all h = ap slots_lists (same_Some [] all h)
typed_complete (x ∷ xs) all h =
    let p = complete_parts x xs all h in
    ap₂ (λ a b. a ++ b) (typed_first x p.first p.is_first) (typed_complete xs p.others p.are_others) ∙ ap slots_lists (sym p.all_are)

-- of the pairs of one number more
pub named_more : (ps : List Pair) (numbers : List ℕ) (i : ℕ) → i < length numbers
    → slots_lists (slots_of_pairs_at ps (take i numbers)) ++ slots_lists (slice_index_or ps (slice_index_or numbers i 0) empty_anchor).content.slots ≡ slots_lists (slots_of_pairs_at ps (take (i + 1) numbers))
named_more ps numbers i low =
    let n = slice_index_or numbers i 0 in
    ap (λ z. slots_lists (slots_of_pairs_at ps (take i numbers)) ++ slots_lists z) (sym (append-nil (slice_index_or ps n empty_anchor).content.slots))
    ∙ sym (flat_map-append (λ (s : Slot). struct_lists s.struct) (slots_of_pairs_at ps (take i numbers)) (slots_of_pairs_at ps (n ∷ [])))
    ∙ ap slots_lists (sym (flat_map-append (λ k. (slice_index_or ps k empty_anchor).content.slots) (take i numbers) (n ∷ [])))
    ∙ ap (λ z. slots_lists (slots_of_pairs_at ps z)) (sym (rw add-one (take-suc numbers i 0 low)))

-- ---- their blocks

pub blocks_named : (t : KeptThread) (slots : List Slot) → blocks_of_lists t (slots_lists slots) ≡ file_blocks t.disk slots
blocks_named t [] = refl
blocks_named t (s ∷ slots) = go s.struct (blocks_named t slots)
  where
    go : (x : Struct) → blocks_of_lists t (slots_lists slots) ≡ file_blocks t.disk slots → blocks_of_lists t (struct_lists x ++ slots_lists slots) ≡ struct_blocks t.disk x ++ file_blocks t.disk slots
    go (Inline bytes) rest = rest
    go (Branch to) rest = rest
    go (Ctz head size) rest = ap (λ z. struct_blocks t.disk (Ctz head size) ++ z) rest

pub stand_named : (t : KeptThread) (slots : List Slot) → Each (λ (s : Slot). IsWellFormedList t.disk s.struct) slots → AllByRecursion (λ (list : StoredList). IsListOrEmpty t.disk.blocks t.disk.block_size list.head list.size) (slots_lists slots)
stand_named t [] h = tt
stand_named t (s ∷ slots) h = each_append (λ (list : StoredList). IsListOrEmpty t.disk.blocks t.disk.block_size list.head list.size) (struct_lists s.struct) (slots_lists slots) (go s.struct h.0) (stand_named t slots h.1)
  where
    go : (x : Struct) → IsWellFormedList t.disk x → AllByRecursion (λ (list : StoredList). IsListOrEmpty t.disk.blocks t.disk.block_size list.head list.size) (struct_lists x)
    go (Inline bytes) k = tt
    go (Branch to) k = tt
    go (Ctz head size) k = (inr k, tt)

-- ---- what the dropped pairs named

module _ (old : KeptThread) (numbers : List ℕ) (new : KeptThread) (ok : IsAccepted old.disk old.pairs) (none : HasNoMove (pairs_gstate old.pairs)) (geometry : SameGeometry old.disk new.disk) (r : HasCompletedRecovery old numbers new) where
  abbrev slots : List Slot
  slots = slots_of_pairs_at old.pairs numbers

  same : SameFiles old.disk new.disk (slots_of_pairs_at old.pairs numbers)
  same = recursion_from_All (λ (s : Slot). SameFileBlocks old.disk new.disk s.struct) slots r.stand

  blocks_are : blocks_of_lists new (slots_lists (slots_of_pairs_at old.pairs numbers)) ≡ list_blocks_of_pairs old numbers
  blocks_are = blocks_named new slots ∙ slots_files old.disk new.disk slots geometry same

  stood : Each (λ (s : Slot). IsWellFormedList old.disk s.struct) (slots_of_pairs_at old.pairs numbers)
  stood = each_at (λ (s : Slot). IsWellFormedList old.disk s.struct) old.pairs numbers
      (subst (Each (λ (s : Slot). IsWellFormedList old.disk s.struct)) (unmoved_in (pairs_gstate old.pairs) none old.pairs) (recursion_from_All (λ (s : Slot). IsWellFormedList old.disk s.struct) (all_unmoved_slots old.pairs) ok.lists))

  stand : Each (λ (s : Slot). IsWellFormedList new.disk s.struct) (slots_of_pairs_at old.pairs numbers)
  stand = each_both (λ (s : Slot). SameFileBlocks old.disk new.disk s.struct) (λ (s : Slot). IsWellFormedList old.disk s.struct) (λ (s : Slot). IsWellFormedList new.disk s.struct)
      (λ s h k. is_list_same old.disk new.disk s.struct geometry h k) slots same stood

  can_free : CanFreeLists new (slots_lists (slots_of_pairs_at old.pairs numbers))
  can_free = record {
    ready = subst (λ z. IsWritableBeforeMapUpdate new z []) (sym blocks_are) r.ready;
    once = λ b. let e = ap (occurrence_count b) blocks_are in let o = r.once b in omega arith;
    stand = stand_named new slots stand;
  }

  pub can_free_lists : (lists : List StoredList) → lists ≡ slots_lists (slots_of_pairs_at old.pairs numbers) → CanFreeLists new lists
  can_free_lists lists are = subst (CanFreeLists new) (sym are) can_free

-- ---- which are left

pub besides_then : (a b c : KeptThread) → ChangesOnlyMap a b → ChangesOnlyMap b c → ChangesOnlyMap a c
besides_then a b c r s = record {
  disk = s.disk ∙ r.disk;
  reads = OnlyReadsSince-trans r.reads s.reads (ap (λ (d : Disk). d.blocks) r.disk);
  pairs = s.pairs ∙ r.pairs;
}

pub first_left : (lists : List StoredList) (i : ℕ) (d : StoredList) → i < length lists → drop i lists ≡ slice_index_or lists i d ∷ drop (i + 1) lists
first_left lists i d low = rw add-one (drop-cons lists i d low)

pub none_left : (lists : List StoredList) (i : ℕ) → length lists ≤ i → drop i lists ≡ []
none_left [] zero l = refl
none_left [] (suc i) l = refl
none_left (x ∷ lists) zero l = absurd (omega arith)
none_left (x ∷ lists) (suc i) l = none_left lists i (omega arith)

pub all_freed : (t : KeptThread) (lists : List StoredList) → lists ≡ [] → CanFreeLists t lists → IsRecoveredWritableImage t
all_freed t lists none can = go (subst (CanFreeLists t) none can)
  where
    go : CanFreeLists t [] → IsRecoveredWritableImage t
    go h = record {
      accepted = h.ready.accepted;
      writable = h.ready.writable;
      settled = h.ready.settled;
      used = λ b. (
        (λ k. Contains-occurrence_count (used_blocks t.disk t.pairs) b (let n = occurrence_count-Contains h.ready.used.owned b ((h.ready.used.are b).0 k) in let e = h.ready.used.same b in omega arith)),
        (λ k. (h.ready.used.are b).1 (Contains-occurrence_count h.ready.used.owned b (let n = occurrence_count-Contains (used_blocks t.disk t.pairs) b k in let e = h.ready.used.same b in omega arith))),
      );
      size = h.ready.size;
      large = h.ready.large;
    }

-- ---- the first list is freed

abbrev pub IsExact : Type 0
IsExact = (sets later : BlockStates) (owned used before now gone come : List ℕ) → AreUsed sets owned → ((b : ℕ) → occurrence_count b owned ≤ 1) → ((b : ℕ) → occurrence_count b owned + occurrence_count b come ≡ occurrence_count b used + occurrence_count b gone)
    → ((b : ℕ) → occurrence_count b now + occurrence_count b gone ≡ occurrence_count b come + occurrence_count b before) → ((b : ℕ) → Contains now b → Contains used b) → SettlesList sets later before now → AreUsed later used

module _ (t : KeptThread) (list : StoredList) (rest : List StoredList) (can : CanFreeLists t (list ∷ rest)) where
  both : (b : ℕ) → occurrence_count b (blocks_of_lists t (list ∷ rest)) ≡ occurrence_count b (stored_list_blocks t list) + occurrence_count b (blocks_of_lists t rest)
  both b = count_append b (stored_list_blocks t list) (blocks_of_lists t rest)

  pub can_settle_first : CanReplaceUsedList t list empty_list
  can_settle_first = record {
    was = can.stand.0;
    list = inl refl;
    size = can.ready.size;
    apart = λ b has lists.
        let a = occurrence_count-Contains (pairs_blocks t.pairs) b has in
        let l = occurrence_count-Contains (stored_list_blocks t list) b (subst (λ z. Contains z b) (append-nil (stored_list_blocks t list)) lists) in
        let e = count_append b (pairs_blocks t.pairs) (file_blocks t.disk (all_unmoved_slots t.pairs)) in
        let k = both b in
        let o = can.once b in
        absurd (omega arith);
    shared = record { used = λ b has none. let k = occurrence_count-Contains [] b none in absurd (omega arith) };
  }

  module _ (history : List CallEvent) (map : BlockStates) (settled : IsUsedListReplaced t list empty_list (with_map t history map)) (law : IsExact) where
    used_now : AreUsed map (used_blocks t.disk t.pairs ++ blocks_of_lists t rest)
    used_now = law t.map map can.ready.used.owned (used_blocks t.disk t.pairs ++ blocks_of_lists t rest) (stored_list_blocks t list) (stored_list_blocks t empty_list) (stored_list_blocks t list) []
        can.ready.used.are (λ b. let e = can.ready.used.same b in let o = can.once b in omega arith)
        (λ b. let e = can.ready.used.same b in let k = both b in let c = count_append b (used_blocks t.disk t.pairs) (blocks_of_lists t rest) in omega arith)
        (λ b. omega arith) (λ b h. let k = occurrence_count-Contains [] b h in absurd (omega arith)) settled

    rest_here : CanFreeLists (with_map t history map) rest
    rest_here = record {
      ready = record {
        accepted = can.ready.accepted;
        writable = can.ready.writable;
        settled = can.ready.settled;
        used = record {
          owned = used_blocks t.disk t.pairs ++ blocks_of_lists t rest;
          are = used_now;
          same = λ b. let c = count_append b (used_blocks t.disk t.pairs) (blocks_of_lists t rest) in omega arith;
        };
        size = settled.count ∙ can.ready.size;
        large = can.ready.large;
      };
      once = λ b. let k = both b in let o = can.once b in omega arith;
      stand = can.stand.1;
    }

    -- a block of the list was used, and is free
    flying_here : HasSameBlocksInFlight t.map map
    flying_here b = go (cases_lt 0 (occurrence_count b (stored_list_blocks t list)))
      where
        go : (0 < occurrence_count b (stored_list_blocks t list)) ⊎ (occurrence_count b (stored_list_blocks t list) ≤ 0) → IsInFlight map b ↔ IsInFlight t.map b
        go (inl some) =
            let e = can.ready.used.same b in
            let k = both b in
            let was = (can.ready.used.are b).1 (Contains-occurrence_count can.ready.used.owned b (omega arith)) in
            let free = settled.freed b (Contains-occurrence_count (stored_list_blocks t list) b some) (All-from_recursion (λ x. x ≢ b) [] tt) in
            ((λ flies. absurd (not_free map b free flies)), (λ flies. absurd (not_both t.map b was flies)))
        go (inr never) =
            let same = settled.others b (All-from_recursion (λ x. x ≢ b) (stored_list_blocks t list) (none_there b (stored_list_blocks t list) never)) (All-from_recursion (λ x. x ≢ b) [] tt) in
            ((λ flies. sym same ∙ flies), (λ flies. same ∙ flies))

  module _ (new : KeptThread) (only : ChangesOnlyMap t new) (settled : IsUsedListReplaced t list empty_list new) (law : IsExact) where
    here : IsUsedListReplaced t list empty_list (with_map t new.history new.map)
    here = settled

    pub rest_left : CanFreeLists new rest
    rest_left = subst (λ z. CanFreeLists z rest) (sym (beside_is t new only)) (rest_here new.history new.map here law)

    pub first_flying : HasSameBlocksInFlight t.map new.map
    first_flying = flying_here new.history new.map here law
