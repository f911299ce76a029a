-- If a pair breaks a rule, the thread's pairs break it.
use Rattle.std.proofs.Common.{ℕ, zero, suc, ◌≡◌, ◌⊎◌, inl, inr, ◌+◌, ◌<◌, ◌≤◌, ◌==◌, ◌&&◌, Bool, true, false, cond, not, List, [], ◌∷◌, ◌++◌, length, take, drop, filter, Option, Some, None, refl, sym, ap, subst, ◌∙◌, arith, append-nil, slice_get, nat_eq, eqb-true, flat_map, option_and_then, option_map}
use Rattle.lfs_mount.proofs.Common.{cons_option, and_parts, take-append-drop, take_more, flat_map-append, filter_map-append, recursion_from_All, get_or_from_slice_get, option_and_then_some, same_Some, slice_get_within, BlockStates, RawContent, RawSlot, content_after, empty_raw_content, decoded_content, raw_content, decoded_slot, decoded_slots, Disk, disk_block, block_count, block_entries, AreWellFormed, IsWellFormedSlot, all_unmoved_slots, struct_blocks, used_blocks, skip_list_block_count, blocks_to_head, Name, Branch, Ctz, Gstate, Inline, Slot, Struct, is_superblock, address_of_array, same_pair, Pair, pairs_blocks, unmoved_entries, pairs_gstate, moved_id, count_before_root, slots_not_moved, begins_with_superblock, HasValidMove, IsWellFormedList, IsEntry, PairsBreak, Contains-occurrence_count, complete_parts, Each, count_append, each_counted, occurrence_count, logged, AreByteBlocks, PairBreaksRule, HasInvalidOrSharedList, IsInvalidOrSharedList, HasInvalidMovedSlot, raw_block_slots, IsDescribedThread, ArePairDescriptions, IsPairDescription, raw_slot_entry, struct_reference, named_reference, HasExactlyUsedBlocks, list_heads_and_sizes, list_blocks_backwards, list_head_and_size, Vertex, ScansPair, entry_slot_id, slots_without_moved, slots_without_superblock, raw_entry_slots}
use Rattle.std.specs.List.{IsDistinct}
use Rattle.lfs_model.specs.layers.Violations.{IsBlockUsedTwice, IsSlotAt, IsUnmovedAt}
use Rattle.lfs_model.specs.declared.violations.Violation.{Violation}
use Rattle.lfs_model.specs.declared.violations.Violation.TheVariants as violation
use Rattle.lfs_model.proofs.Completed.{complete_take}
use Rattle.lfs_mount.specs.Broken.{HasInvalidEntrySlot, HasInvalidBlockSlots, ListHasUsedBlock, IsSlotList, IsSuperblockOrNone, LacksSuperblock, list_blocks_before}
use Rattle.lfs_mount.specs.declared.pass.DirectoryPairHeader.{DirectoryPairHeader}
use Rattle.lfs_mount.proofs.Accepts.{occurrence_count-flat_map, occurrence_count-reverse}
use Rattle.lfs_mount.proofs.FirstSlots.{made_of, slot_named}
use Rattle.lfs_mount.proofs.Found.{get_right}
use Rattle.lfs_mount.proofs.Kept.{IsNumberOf, kept_number, number_behind}
use Rattle.lfs_mount.proofs.Owned.{meets_behind, meets_in, meets_twice, owned_more, two_places}
use Rattle.lfs_mount.proofs.ReadCounts.{marks_length}
use Rattle.lfs_mount.proofs.Refuses.{move_named}
use Rattle.lfs_mount.proofs.Rules.{IsMovedEntry, IsTaken, behind, held_slots, kept_parts, lists_of, some_parts, starts_without, taken_rules, unmoved-without, without, without_moved, without_superblock}
use Rattle.lfs_mount.proofs.Scans.{entry_none, entry_some}

-- ---- a slot of a log, and the complete slot

pub record IsCompleteAt (slots : List Slot) (id : ℕ) (s : RawSlot) : Type 0 where
  pub slot : Slot
  pub there : slice_get slots id ≡ Some slot
  pub complete : decoded_slot s ≡ Some slot

complete_at : (raws : List RawSlot) (slots : List Slot) (id : ℕ) (s : RawSlot) → decoded_slots raws ≡ Some slots → slice_get raws id ≡ Some s → IsCompleteAt slots id s
complete_at [] slots id s c e = absurd (cc)
complete_at (r ∷ raws) slots zero s c e =
    let p = complete_parts r raws slots c in
    record { slot = p.first; there = ap (λ ss. slice_get ss 0) p.all_are; complete = ap decoded_slot (sym (same_Some r s e)) ∙ p.is_first }
complete_at (r ∷ raws) slots (suc id) s c e =
    let p = complete_parts r raws slots c in
    let k = complete_at raws p.others id s p.are_others e in
    record { slot = k.slot; there = ap (λ ss. slice_get ss (suc id)) p.all_are ∙ k.there; complete = k.complete }

none_at : (raws : List RawSlot) (slots : List Slot) (id : ℕ) → decoded_slots raws ≡ Some slots → slice_get raws id ≡ None → slice_get slots id ≡ None
none_at [] slots id c e = ap (λ ss. slice_get ss id) (sym (same_Some [] slots c))
none_at (r ∷ raws) slots zero c e = absurd (cc)
none_at (r ∷ raws) slots (suc id) c e = let p = complete_parts r raws slots c in ap (λ ss. slice_get ss (suc id)) p.all_are ∙ none_at raws p.others id p.are_others e

well_formed_at : (raws : List RawSlot) (id : ℕ) (s : RawSlot) → AreWellFormed raws → slice_get raws id ≡ Some s → IsWellFormedSlot s
well_formed_at [] id s h e = absurd (cc)
well_formed_at (r ∷ raws) zero s h e = subst IsWellFormedSlot (same_Some r s e) h.0
well_formed_at (r ∷ raws) (suc id) s h e = well_formed_at raws id s h.1 e

-- ---- the lists of slots

struct_of_list : (t : Slot) (l : ℕ × ℕ) → list_head_and_size (named_reference t) ≡ Some l → t.struct ≡ Ctz l.0 l.1
struct_of_list t l e = go t.struct e
  where
    go : (u : Struct) → list_head_and_size (t.name, struct_reference u) ≡ Some l → u ≡ Ctz l.0 l.1
    go (Inline bytes) f = absurd (cc)
    go (Ctz head size) f = ap (λ (x : ℕ × ℕ). Ctz x.0 x.1) (same_Some (head, size) l f)
    go (Branch to) f = absurd (cc)

list_of_slot : (s : RawSlot) (t : Slot) (l : ℕ × ℕ) → decoded_slot s ≡ Some t → option_and_then list_head_and_size (raw_slot_entry s) ≡ Some l → t.struct ≡ Ctz l.0 l.1
list_of_slot s t l c e =
    let x = some_parts list_head_and_size l (raw_slot_entry s) e in
    let h = entry_some s x.0 x.1.0 in
    struct_of_list t l (ap (λ (u : Slot). list_head_and_size (named_reference u)) (same_Some t h.slot (sym c ∙ h.is)) ∙ ap list_head_and_size h.same ∙ x.1.1)

abbrev pub blocks_in : Disk → List Slot → List ℕ
blocks_in disk slots = flat_map (λ s. struct_blocks disk s.struct) slots

abbrev listed : Disk → List (ℕ × ℕ) → List ℕ
listed disk ls = flat_map (list_blocks_backwards disk) ls

count_list : (b : ℕ) (disk : Disk) (t : Slot) (l : ℕ × ℕ) → t.struct ≡ Ctz l.0 l.1 → occurrence_count b (list_blocks_backwards disk l) ≡ occurrence_count b (struct_blocks disk t.struct)
count_list b disk t l e =
    occurrence_count-reverse b (blocks_to_head disk.blocks (skip_list_block_count disk.block_size l.1) l.0)
    ∙ ap (λ u. occurrence_count b (struct_blocks disk u)) (sym e)

-- the blocks of the lists of slots are among those of the complete slots
listed_few : (b : ℕ) (disk : Disk) (raws : List RawSlot) (slots : List Slot) → decoded_slots raws ≡ Some slots → occurrence_count b (listed disk (list_heads_and_sizes raws)) ≤ occurrence_count b (blocks_in disk slots)
listed_few b disk [] slots c = omega arith
listed_few b disk (s ∷ raws) slots c =
    let p = complete_parts s raws slots c in
    subst (λ ss. occurrence_count b (listed disk (list_heads_and_sizes (s ∷ raws))) ≤ occurrence_count b (blocks_in disk ss)) (sym p.all_are)
    (go p.first p.others p.is_first (option_and_then list_head_and_size (raw_slot_entry s)) refl (listed_few b disk raws p.others p.are_others))
  where
    go : (t : Slot) (ts : List Slot) → decoded_slot s ≡ Some t → (o : Option (ℕ × ℕ)) → option_and_then list_head_and_size (raw_slot_entry s) ≡ o
        → occurrence_count b (listed disk (list_heads_and_sizes raws)) ≤ occurrence_count b (blocks_in disk ts)
        → occurrence_count b (listed disk (cons_option o (list_heads_and_sizes raws))) ≤ occurrence_count b (blocks_in disk (t ∷ ts))
    go t ts is None e next = let both = count_append b (struct_blocks disk t.struct) (blocks_in disk ts) in omega arith
    go t ts is (Some l) e next =
        let both = count_append b (struct_blocks disk t.struct) (blocks_in disk ts) in
        let here = count_append b (list_blocks_backwards disk l) (listed disk (list_heads_and_sizes raws)) in
        let same = count_list b disk t l (list_of_slot s t l is e) in
        omega arith

-- fewer slots have fewer blocks

count_both : (b : ℕ) (disk : Disk) (xs ys : List Slot) → occurrence_count b (blocks_in disk (xs ++ ys)) ≡ occurrence_count b (blocks_in disk xs) + occurrence_count b (blocks_in disk ys)
count_both b disk xs ys = ap (occurrence_count b) (flat_map-append (λ (s : Slot). struct_blocks disk s.struct) xs ys) ∙ count_append b (blocks_in disk xs) (blocks_in disk ys)

count_take : (b : ℕ) (disk : Disk) (n : ℕ) (slots : List Slot) → occurrence_count b (blocks_in disk (take n slots)) ≤ occurrence_count b (blocks_in disk slots)
count_take b disk n slots =
    let both = count_both b disk (take n slots) (drop n slots) in
    let same = ap (λ ss. occurrence_count b (blocks_in disk ss)) (take-append-drop n slots) in
    omega arith

count_behind : (b : ℕ) (disk : Disk) (first : Bool) (slots : List Slot) → occurrence_count b (blocks_in disk (behind first slots)) ≤ occurrence_count b (blocks_in disk slots)
count_behind b disk false slots = omega arith
count_behind b disk true [] = omega arith
count_behind b disk true (s ∷ slots) = let both = count_append b (struct_blocks disk s.struct) (blocks_in disk slots) in omega arith

count_filter : (b : ℕ) (disk : Disk) (test : Slot → Bool) (slots : List Slot) → occurrence_count b (blocks_in disk (filter test slots)) ≤ occurrence_count b (blocks_in disk slots)
count_filter b disk test [] = omega arith
count_filter b disk test (s ∷ slots) = go (test s) (count_filter b disk test slots)
  where
    go : (t : Bool) → occurrence_count b (blocks_in disk (filter test slots)) ≤ occurrence_count b (blocks_in disk slots)
        → occurrence_count b (blocks_in disk (cond t (s ∷ filter test slots) (filter test slots))) ≤ occurrence_count b (blocks_in disk (s ∷ slots))
    go true next =
        let both = count_append b (struct_blocks disk s.struct) (blocks_in disk slots) in
        let one = count_append b (struct_blocks disk s.struct) (blocks_in disk (filter test slots)) in
        omega arith
    go false next = let both = count_append b (struct_blocks disk s.struct) (blocks_in disk slots) in omega arith

-- ---- the blocks that were marked before a pair

abbrev count_slots : Disk → Gstate → ℕ → List Pair → ℕ
count_slots disk g b qs = occurrence_count b (blocks_in disk (flat_map (slots_not_moved g) qs))

count_pairs : (disk : Disk) (g : Gstate) (b : ℕ) (xs ys : List Pair) → count_slots disk g b (xs ++ ys) ≡ count_slots disk g b xs + count_slots disk g b ys
count_pairs disk g b xs ys = ap (λ ss. occurrence_count b (blocks_in disk ss)) (flat_map-append (slots_not_moved g) xs ys) ∙ count_both b disk (flat_map (slots_not_moved g) xs) (flat_map (slots_not_moved g) ys)

count_one : (disk : Disk) (g : Gstate) (b : ℕ) (q : Pair) → count_slots disk g b (q ∷ []) ≡ occurrence_count b (blocks_in disk (slots_not_moved g q))
count_one disk g b q = count_both b disk (slots_not_moved g q) [] ∙ (let none : occurrence_count b [] ≡ 0 = refl in omega arith)

-- the blocks of all pairs, and those of the lists of some of the directories' first pairs
pub record AreMarked (disk : Disk) (chain dirs : List Pair) (count : ℕ) (sets : BlockStates) : Type 0 where
  pub marks : List ℕ
  pub owns : HasExactlyUsedBlocks sets marks
  pub len : length sets ≡ block_count disk
  pub few : (b : ℕ) → occurrence_count b marks ≤ occurrence_count b (pairs_blocks (chain ++ dirs)) + count_slots disk (pairs_gstate (chain ++ dirs)) b (take count dirs)

pub none_marked : (disk : Disk) (chain dirs : List Pair) (sets : BlockStates) → HasExactlyUsedBlocks sets (pairs_blocks (chain ++ dirs)) → length sets ≡ block_count disk → AreMarked disk chain dirs 0 sets
none_marked disk chain dirs sets owns len = record { marks = pairs_blocks (chain ++ dirs); owns = owns; len = len; few = λ b. omega arith }

count_next : (disk : Disk) (g : Gstate) (b : ℕ) (qs : List Pair) (k : ℕ) (q : Pair) → slice_get qs k ≡ Some q
    → count_slots disk g b (take (k + 1) qs) ≡ count_slots disk g b (take k qs) + occurrence_count b (blocks_in disk (slots_not_moved g q))
count_next disk g b qs k q e =
    ap (count_slots disk g b) (take_more qs k q (slice_get_within qs k q e) ∙ ap (λ (r : Pair). take k qs ++ r ∷ []) (get_or_from_slice_get qs k q q e))
    ∙ count_pairs disk g b (take k qs) (q ∷ []) ∙ ap (λ n. count_slots disk g b (take k qs) + n) (count_one disk g b q)

pub more_marked : (disk : Disk) (firsts : List (ℕ × ℕ)) (chain dirs : List Pair) (k : ℕ) (first : Bool) (p : Pair) (known new : Name × Vertex) (sets marked : BlockStates) → slice_get dirs k ≡ Some p → AreMarked disk chain dirs k sets
    → IsTaken disk firsts (pairs_gstate (chain ++ dirs)) first p known sets new marked → AreMarked disk chain dirs (k + 1) marked
more_marked disk firsts chain dirs k first p known new sets marked there a t =
    let g = pairs_gstate (chain ++ dirs) in
    let more : List ℕ = listed disk (lists_of (unmoved_entries g p)) in
    record {
      marks = a.marks ++ more;
      owns = owned_more sets a.marks more marked a.owns t.lists.marked;
      len = marks_length more sets marked t.lists.marked ∙ a.len;
      few = λ b.
          let before = a.few b in
          let both = count_append b a.marks more in
          let same = occurrence_count-flat_map b disk (unmoved_entries g p) in
          let fewer = count_filter b disk (λ s. not (is_superblock s)) (slots_not_moved g p) in
          let next = count_next disk g b dirs k p there in
          omega arith;
    }

-- ---- a pair of the thread

pub record IsPassedPair (disk : Disk) (chain dirs : List Pair) (k : ℕ) (first : Bool) (p : Pair) (m : DirectoryPairHeader) : Type 0 where
  pub there : slice_get dirs k ≡ Some p
  pub later : first ≡ false → 0 < k
  pub describes : IsPairDescription disk (pairs_gstate (chain ++ dirs)) first p m
  pub chain_is : count_before_root (chain ++ dirs) ≡ length chain
  pub distinct : IsDistinct nat_eq (pairs_blocks (chain ++ dirs))

each_at : {X : Type 0} (P : X → Type 0) (xs : List X) (i : ℕ) (x : X) → Each P xs → slice_get xs i ≡ Some x → P x
each_at P [] i x h e = absurd (cc)
each_at P (y ∷ xs) zero x h e = subst P (same_Some y x e) h.0
each_at P (y ∷ xs) (suc i) x h e = each_at P xs i x h.1 e

lists_next : (raws : List RawSlot) (i : ℕ) (s : RawSlot) (l : ℕ × ℕ) → slice_get raws i ≡ Some s → option_and_then list_head_and_size (raw_slot_entry s) ≡ Some l
    → list_heads_and_sizes (take (i + 1) raws) ≡ list_heads_and_sizes (take i raws) ++ l ∷ []
lists_next raws i s l e f =
    ap list_heads_and_sizes (take_more raws i s (slice_get_within raws i s e) ∙ ap (λ (t : RawSlot). take i raws ++ t ∷ []) (get_or_from_slice_get raws i s s e))
    ∙ filter_map-append (λ (t : RawSlot). option_and_then list_head_and_size (raw_slot_entry t)) (take i raws) (s ∷ [])
    ∙ ap (λ (o : Option (ℕ × ℕ)). list_heads_and_sizes (take i raws) ++ cons_option o []) f

module _ (disk : Disk) (chain dirs : List Pair) (k : ℕ) (first : Bool) (p : Pair) (m : DirectoryPairHeader) (h : IsPassedPair disk chain dirs k first p m) (bytes : AreByteBlocks disk.blocks) where
  abbrev ps : List Pair
  ps = chain ++ dirs

  abbrev g : Gstate
  g = pairs_gstate ps

  abbrev block : List ℕ
  block = disk_block disk m.active

  place : slice_get ps (length chain + k) ≡ Some p
  place = get_right chain dirs k p h.there

  slot_there : (id : ℕ) (t : Slot) → slice_get p.content.slots id ≡ Some t → IsSlotAt ps (address_of_array m.at) id t
  slot_there id t e = record { index = length chain + k; pair = p; there = place; at_is = sym h.describes.at; slot = e }

  record AreSlotsOfPair (raws : List RawSlot) : Type 0 where
    complete : decoded_slots raws ≡ Some p.content.slots
    well_formed : AreWellFormed raws

  held_of : raw_content disk p.at ≡ content_after empty_raw_content (block_entries block)
  held_of = ap (option_and_then (λ b. content_after empty_raw_content (block_entries b))) h.describes.active

  some_slots : raw_block_slots block ≡ None → ⊥
  some_slots e = go (content_after empty_raw_content (block_entries block)) refl e
    where
      go : (o : Option RawContent) → content_after empty_raw_content (block_entries block) ≡ o → option_map (λ (c : RawContent). c.slots) o ≡ None → ⊥
      go None f n = absurd (let clash : None ≡ Some p.content = sym (ap (option_and_then decoded_content) (held_of ∙ f)) ∙ h.describes.content in cc)
      go (Some held) f n = absurd (cc)

  slots_of : (raws : List RawSlot) → raw_block_slots block ≡ Some raws → AreSlotsOfPair raws
  slots_of raws e = go (content_after empty_raw_content (block_entries block)) refl e
    where
      go : (o : Option RawContent) → content_after empty_raw_content (block_entries block) ≡ o → option_map (λ (c : RawContent). c.slots) o ≡ Some raws → AreSlotsOfPair raws
      go None f n = absurd (cc)
      go (Some held) f n = subst AreSlotsOfPair (same_Some held.slots raws n) (record { complete = held_slots disk g first p m held h.describes f; well_formed = (logged block held (bytes m.active) f).slots })

  starts : (t : Slot) → slice_get p.content.slots 0 ≡ Some t → first ≡ true → is_superblock t ≡ true
  starts t e is = go p.content.slots e (h.describes.starts is)
    where
      go : (slots : List Slot) → slice_get slots 0 ≡ Some t → begins_with_superblock slots ≡ true → is_superblock t ≡ true
      go [] e s = absurd (cc)
      go (x ∷ slots) e s = ap is_superblock (sym (same_Some x t e)) ∙ s

  entry_breaks : (raws : List RawSlot) (id : ℕ) (s : RawSlot) → AreSlotsOfPair raws → slice_get raws id ≡ Some s → raw_slot_entry s ≡ None → (first ≡ true → 0 < id) → PairsBreak disk ps (violation.Entry m.at id)
  unfolding slot_there
  entry_breaks raws id s are e none low =
      let c = complete_at raws p.content.slots id s are.complete e in
      record {
        slot = c.slot;
        is = slot_there id c.slot c.there;
        behind = go first refl;
        refused = entry_none s c.slot (well_formed_at raws id s are.well_formed e) none c.complete;
      }
    where
      go : (b : Bool) → first ≡ b → (count_before_root ps < length chain + k) ⊎ (0 < id)
      go true is = inr (low is)
      go false is = let later = h.later is in let before = h.chain_is in inl (omega arith)

  -- ---- the slot that a set move names

  is_set : (id : ℕ) → m.moved ≡ Some id → (g.kind ≡ 0x4ff) × (same_pair g.pair p.at ≡ true) × (g.id ≡ id)
  is_set id e = go (g.kind == 0x4ff && same_pair g.pair p.at) refl (sym h.describes.moved ∙ e)
    where
      go : (b : Bool) → (g.kind == 0x4ff && same_pair g.pair p.at) ≡ b → cond b (Some g.id) None ≡ Some id → (g.kind ≡ 0x4ff) × (same_pair g.pair p.at ≡ true) × (g.id ≡ id)
      go true f n = let w = and_parts (g.kind == 0x4ff) (same_pair g.pair p.at) f in (eqb-true g.kind 0x4ff w.0, w.1, same_Some g.id id n)
      go false f n = absurd (cc)

  move_breaks : (raws : List RawSlot) (id : ℕ) → AreSlotsOfPair raws → m.moved ≡ Some id → IsSuperblockOrNone (slice_get raws id) → HasValidMove ps g → ⊥
  move_breaks raws id are e none valid =
      let set = is_set id e in
      let named = each_at (λ (q : Pair). g.kind ≡ 0x4ff → same_pair g.pair q.at ≡ true → IsEntry (slice_get q.content.slots g.id)) ps (length chain + k) p (move_named g ps h.distinct valid) place set.0 set.1 in
      go (slice_get raws id) refl none (subst (λ n. IsEntry (slice_get p.content.slots n)) set.2 named)
    where
      go : (o : Option RawSlot) → slice_get raws id ≡ o → IsSuperblockOrNone o → IsEntry (slice_get p.content.slots id) → ⊥
      go None f n some = subst IsEntry (none_at raws p.content.slots id are.complete f) some
      go (Some s) f n some =
          let c = complete_at raws p.content.slots id s are.complete f in
          let other : is_superblock c.slot ≡ false = subst IsEntry c.there some in
          absurd (let clash : true ≡ false = sym n ∙ sym (slot_named s c.slot (made_of s c.slot c.complete)) ∙ other in cc)

  moved_breaks : (v : Violation) (raws : List RawSlot) → AreSlotsOfPair raws → HasInvalidMovedSlot m raws v → PairsBreak disk ps v
  moved_breaks v raws are (id, (moved, inl (is, none))) = subst (PairsBreak disk ps) (sym is) (move_breaks raws id are moved none)
  moved_breaks v raws are (id, (moved, inr (is, s, (there, other, none)))) = subst (PairsBreak disk ps) (sym is) (entry_breaks raws id s are there none (low id there))
    where
      low : (n : ℕ) → slice_get raws n ≡ Some s → first ≡ true → 0 < n
      low zero e f =
          let c = complete_at raws p.content.slots 0 s are.complete e in
          absurd (let clash : true ≡ false = sym (starts c.slot c.there f) ∙ slot_named s c.slot (made_of s c.slot c.complete) ∙ other in cc)
      low (suc n) e f = omega arith

  lacks_none : (raws : List RawSlot) → AreSlotsOfPair raws → LacksSuperblock m raws → ⊥
  lacks_none raws are (mid, (e, none)) =
      let w = without_moved (moved_id g p) raws mid p.content.slots are.complete (ap (λ o. slots_without_moved o raws) (sym h.describes.moved) ∙ e) in
      go first mid refl w.are w.entry (ap (λ b. slots_without_superblock b mid) (sym h.describes.first) ∙ none)
    where
      go : (b : Bool) (mid : List RawSlot) → first ≡ b → decoded_slots mid ≡ Some (without (moved_id g p) p.content.slots) → IsMovedEntry (moved_id g p) p.content.slots
          → slots_without_superblock b mid ≡ None → ⊥
      go false mid f c entry n = absurd (cc)
      go true [] f c entry n =
          absurd (let clash : false ≡ true = ap begins_with_superblock (same_Some [] (without (moved_id g p) p.content.slots) c) ∙ starts_without (moved_id g p) p.content.slots entry (h.describes.starts f) in cc)
      go true (x ∷ mid) f c entry n = absurd (cc)

  -- ---- slots that are kept

  first_low : (index : ℕ) → first ≡ true → 0 < entry_slot_id m index
  first_low index f = number_behind m index (h.describes.first ∙ f)

  kept_entry_breaks : (v : Violation) (raws kept : List RawSlot) → AreSlotsOfPair raws → raw_entry_slots m raws ≡ Some kept → HasInvalidEntrySlot m kept v → PairsBreak disk ps v
  kept_entry_breaks v raws kept are e (index, (is, (s, (there, none)))) =
      subst (PairsBreak disk ps) (sym is) (entry_breaks raws (entry_slot_id m index) s are (kept_number m raws kept index s e there).there none (first_low index))

  kept_complete : (raws kept : List RawSlot) → AreSlotsOfPair raws → raw_entry_slots m raws ≡ Some kept → decoded_slots kept ≡ Some (behind first (slots_not_moved g p))
  kept_complete raws kept are e =
      let parts = kept_parts m raws kept e in
      let w = without_moved (moved_id g p) raws parts.0 p.content.slots are.complete (ap (λ o. slots_without_moved o raws) (sym h.describes.moved) ∙ parts.1.0) in
      without_superblock first parts.0 kept (without (moved_id g p) p.content.slots) w.are (ap (λ b. slots_without_superblock b parts.0) (sym h.describes.first) ∙ parts.1.1)
      ∙ ap (λ ss. Some (behind first ss)) (sym (unmoved-without g p))

  -- the lists up to a slot
  abbrev up_to : List RawSlot → ℕ → ℕ × ℕ → List ℕ
  up_to kept index l = list_blocks_before disk kept index ++ list_blocks_backwards disk l

  few_up_to : (b : ℕ) (raws kept : List RawSlot) (index : ℕ) (l : ℕ × ℕ) → AreSlotsOfPair raws → raw_entry_slots m raws ≡ Some kept → IsSlotList kept index l
      → occurrence_count b (up_to kept index l) ≤ occurrence_count b (blocks_in disk (slots_not_moved g p))
  few_up_to b raws kept index l are e is =
      let all : List Slot = behind first (slots_not_moved g p) in
      let joined : listed disk (list_heads_and_sizes (take (index + 1) kept)) ≡ up_to kept index l =
      ap (listed disk) (lists_next kept index is.slot l is.there is.list) ∙ flat_map-append (list_blocks_backwards disk) (list_heads_and_sizes (take index kept)) (l ∷ [])
      ∙ ap (λ bs. list_blocks_before disk kept index ++ bs) (append-nil (list_blocks_backwards disk l)) in
      let same = ap (occurrence_count b) joined in
      let complete = complete_take (index + 1) kept all (kept_complete raws kept are e) in
      let one = listed_few b disk (take (index + 1) kept) (take (index + 1) all) complete in
      let two = count_take b disk (index + 1) all in
      let three = count_behind b disk first (slots_not_moved g p) in
      omega arith

  -- the blocks before, and those up to the slot, are used
  few_used : (b : ℕ) (sets : BlockStates) (a : AreMarked disk chain dirs k sets) → occurrence_count b a.marks + occurrence_count b (blocks_in disk (slots_not_moved g p)) ≤ occurrence_count b (used_blocks disk ps)
  few_used b sets a =
      let marks = a.few b in
      let next = count_next disk g b dirs k p h.there in
      let rest = ap (count_slots disk g b) (take-append-drop (k + 1) dirs) in
      let apart = count_pairs disk g b (take (k + 1) dirs) (drop (k + 1) dirs) in
      let both = count_pairs disk g b chain dirs in
      let all = count_append b (pairs_blocks ps) (blocks_in disk (all_unmoved_slots ps)) in
      omega arith

  in_list : (sets : BlockStates) (l : ℕ × ℕ) (t : Slot) (b : ℕ) → t.struct ≡ Ctz l.0 l.1 → ListHasUsedBlock disk sets l b → 1 ≤ occurrence_count b (struct_blocks disk t.struct)
  in_list sets l t b e taken = let some = meets_in sets (list_blocks_backwards disk l) b taken.1 in let same = count_list b disk t l e in omega arith

  in_disk : (sets : BlockStates) (l : ℕ × ℕ) (b : ℕ) → ListHasUsedBlock disk sets l b → b < block_count disk
  in_disk sets l b taken =
      let P : ℕ → Type 0 = λ x. x < block_count disk in
      let back : List ℕ = blocks_to_head disk.blocks (skip_list_block_count disk.block_size l.1) l.0 in
      let some = meets_in sets (list_blocks_backwards disk l) b taken.1 in
      let same = occurrence_count-reverse b back in
      each_counted P back (recursion_from_All P back (λ i d lt. let r = taken.0.blocks.in_range i d lt in omega arith)) b (omega arith)

  kept_list_breaks : (v : Violation) (raws kept : List RawSlot) (sets : BlockStates) → AreMarked disk chain dirs k sets → AreSlotsOfPair raws → raw_entry_slots m raws ≡ Some kept → HasInvalidOrSharedList disk m sets kept v → PairsBreak disk ps v
  unfolding slot_there
  kept_list_breaks v raws kept sets a are e broken = go broken.breaks
    where
      number : ℕ
      number = entry_slot_id m broken.index

      n : IsNumberOf raws m.moved number broken.is.slot
      n = kept_number m raws kept broken.index broken.is.slot e broken.is.there

      c : IsCompleteAt p.content.slots number broken.is.slot
      c = complete_at raws p.content.slots number broken.is.slot are.complete n.there

      struct : c.slot.struct ≡ Ctz broken.l.0 broken.l.1
      struct = list_of_slot broken.is.slot c.slot broken.l c.complete broken.is.list

      unmoved : IsUnmovedAt ps (address_of_array m.at) number c.slot
      unmoved = record { is = slot_there number c.slot c.there; stays = λ f. n.stays (h.describes.moved ∙ f) }

      twice : (b : ℕ) → ListHasUsedBlock disk broken.mid broken.l b → IsBlockUsedTwice disk ps (address_of_array m.at) number b
      twice b taken =
          let len = a.len in
          let low = in_disk broken.mid broken.l b taken in
          let meets = meets_behind (list_blocks_before disk kept broken.index) (list_blocks_backwards disk broken.l) sets broken.mid b broken.before taken.1 in
          let two = meets_twice sets a.marks (up_to kept broken.index broken.l) b a.owns (omega arith) meets in
          let few = few_up_to b raws kept broken.index broken.l are e broken.is in
          let used = few_used b sets a in
          let places = two_places b (used_blocks disk ps) (omega arith) in
          record {
            slot = c.slot;
            is = unmoved;
            has = Contains-occurrence_count (struct_blocks disk c.slot.struct) b (in_list broken.mid broken.l c.slot b struct taken);
            i = places.0;
            j = places.1;
            apart = places.2.0;
            one = places.2.1;
            other = places.2.2;
          }

      go : IsInvalidOrSharedList disk broken.mid broken.l m.at number v → PairsBreak disk ps v
      go (inl (is, bad)) = subst (PairsBreak disk ps) (sym is) (c.slot, (unmoved, λ well. bad (subst (IsWellFormedList disk) struct well)))
      go (inr (b, (is, taken))) = subst (PairsBreak disk ps) (sym is) (twice b taken)

  -- ---- whatever is broken

  slots_break : (v : Violation) → HasInvalidBlockSlots m block v → PairsBreak disk ps v
  slots_break v (inl none) = absurd (some_slots none)
  slots_break v (inr (raws, (is, inl moved))) = moved_breaks v raws (slots_of raws is) moved
  slots_break v (inr (raws, (is, inr lacks))) = absurd (lacks_none raws (slots_of raws is) lacks)

  pub pair_breaks : (v : Violation) (sets : BlockStates) → AreMarked disk chain dirs k sets → PairBreaksRule disk m sets v → PairsBreak disk ps v
  pair_breaks v sets a (inl broken) = slots_break v broken
  pair_breaks v sets a (inr (kept, (is, broken))) =
      option_and_then_some (raw_entry_slots m) (raw_block_slots block) kept is (λ raws held e. go raws (slots_of raws held) e broken)
    where
      go : (raws : List RawSlot) → AreSlotsOfPair raws → raw_entry_slots m raws ≡ Some kept → HasInvalidEntrySlot m kept v ⊎ HasInvalidOrSharedList disk m sets kept v → PairsBreak disk ps v
      go raws are e (inl entry) = kept_entry_breaks v raws kept are e entry
      go raws are e (inr list) = kept_list_breaks v raws kept sets a are e list

-- ---- by the member's index

record IsDescribedAt (disk : Disk) (g : Gstate) (first : Bool) (ps : List Pair) (k : ℕ) (m : DirectoryPairHeader) : Type 0 where
  is_first : Bool
  p : Pair
  there : slice_get ps k ≡ Some p
  describes : IsPairDescription disk g is_first p m
  later : is_first ≡ false → first ≡ true → 0 < k

described_at : (disk : Disk) (g : Gstate) (first : Bool) (ps : List Pair) (ms : List DirectoryPairHeader) (k : ℕ) (m : DirectoryPairHeader) → ArePairDescriptions disk g first ps ms → slice_get ms k ≡ Some m → IsDescribedAt disk g first ps k m
described_at disk g first [] [] k m h e = absurd (cc)
described_at disk g first [] (x ∷ ms) k m h e = absurd h
described_at disk g first (p ∷ ps) [] k m h e = absurd h
described_at disk g first (p ∷ ps) (x ∷ ms) zero m h e =
    record { is_first = first; p = p; there = refl; describes = subst (IsPairDescription disk g first p) (same_Some x m e) h.0; later = λ no yes. absurd (let clash : true ≡ false = sym yes ∙ no in cc) }
described_at disk g first (p ∷ ps) (x ∷ ms) (suc k) m h e =
    let d = described_at disk g false ps ms k m h.1 e in
    record { is_first = d.is_first; p = d.p; there = d.there; describes = d.describes; later = λ no yes. omega arith }

module _ (disk : Disk) (sets : BlockStates) (firsts : List (ℕ × ℕ)) (ms : List DirectoryPairHeader) (sync : Bool) (chain : List Pair) (p : Pair) (rest : List Pair) (t : IsDescribedThread disk sets firsts ms sync chain p rest) where
  pub marked_first : AreMarked disk chain (p ∷ rest) 0 sets
  marked_first = none_marked disk chain (p ∷ rest) sets t.owns t.sets_len

  module _ (k : ℕ) (m : DirectoryPairHeader) (is : slice_get ms k ≡ Some m) (mid : BlockStates) (a : AreMarked disk chain (p ∷ rest) k mid) where
    d : IsDescribedAt disk (pairs_gstate (chain ++ p ∷ rest)) true (p ∷ rest) k m
    d = described_at disk (pairs_gstate (chain ++ p ∷ rest)) true (p ∷ rest) ms k m t.described is

    pub marked_next : (known new : Name × Vertex) (marked : BlockStates) → ScansPair disk firsts m known mid new marked → AreMarked disk chain (p ∷ rest) (k + 1) marked
    marked_next known new marked adds =
        more_marked disk firsts chain (p ∷ rest) k d.is_first d.p known new mid marked d.there a (taken_rules disk firsts (pairs_gstate (chain ++ p ∷ rest)) d.is_first d.p m known mid new marked d.describes adds)

    pub thread_breaks : (v : Violation) → AreByteBlocks disk.blocks → PairBreaksRule disk m mid v → PairsBreak disk (chain ++ p ∷ rest) v
    thread_breaks v bytes broken =
        pair_breaks disk chain (p ∷ rest) k d.is_first d.p m (record { there = d.there; later = λ no. d.later no refl; describes = d.describes; chain_is = t.chain_is; distinct = t.thread.distinct }) bytes v mid a broken
