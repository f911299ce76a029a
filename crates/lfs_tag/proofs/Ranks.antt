-- The comparisons after a log's entries are those of its slots, and the first slot searched for is the result.
use Rattle.std.proofs.Common.{◌≡◌, ℕ, zero, suc, ◌+◌, ◌-◌, ◌<◌, ◌≤◌, ◌^◌, Bool, true, false, ◌&&◌, not, cond, eqb, ltb, leb, List, [], ◌∷◌, ◌++◌, length, map, drop, replicate, set, get_or, drop-cons, Option, Some, None, refl, sym, ap, subst, ◌∙◌, arith, inl, inr}
use Rattle.lfs_tag.proofs.Common.{option_and_then, option_map_or, cases_lt, nat_tests, option_and_then_some, same_Some, map-append, map-set, length-map, get_or_past, tag_type, tag_id, tag_class, LogEntry, block_entries, Name, is_equal, RawSlot, RawContent, empty_slot, slot_of_id, slot_changed_at, padded_slots, entry_type_bytes, attributes_after, content_after_entry, content_after, empty_raw_content, create_tag_type, comparison_with_slot, comparisons_after, first_wanted_slot, IsNameLookup, lookup_of_comparisons}
use Rattle.std.specs.declared.cmp.Ordering.{Ordering}
use Rattle.std.specs.declared.cmp.Ordering.TheVariants.{Less, Equal, Greater}
use Rattle.lfs_model.proofs.Orders.{same_by}
use Rattle.lfs_model.specs.declared.order.NameOrder.{NameOrder}
use Rattle.lfs_model.specs.format.Log.{chain_of}
use Rattle.lfs_model.specs.format.Names.{name_cmp, same_name, is_less}
use Rattle.lfs_model.specs.format.EntryTypes.{superblock_name_type}
use Rattle.lfs_model.specs.layers.Lookup.{entry_name, passes_name_test, comes_after, IsNameId, IsInsertionId}
use Rattle.lfs_tag.specs.declared.lookup.NameComparison.{NameComparison}
use Rattle.lfs_tag.specs.declared.lookup.NameComparison.TheVariants as slot
use Rattle.lfs_tag.specs.Find.{ordering_comparison, comparison_with_entry, padded_comparisons, comparisons_after_entry, is_wanted, is_skipped, is_wanted_slot}
use Rattle.lfs_tag.specs.declared.lookup.Lookup.TheVariants.{Found, Place}
use Rattle.lfs_tag.proofs.Effects.{Effect, rests, names, creates, deletes, structures, attributes, effect}
use Rattle.lfs_tag.proofs.Places.{map-insert, map-remove}
use Rattle.lfs_tag.proofs.Runs.{all_run, run_count, back}

-- ---- one entry

empty_ranks : (order : NameOrder) (name : Name) (n : ℕ) → map (comparison_with_slot order name) (replicate n empty_slot) ≡ replicate n slot.NoneOrLess
empty_ranks order name zero = refl
empty_ranks order name (suc n) = ap (λ rs. slot.NoneOrLess ∷ rs) (empty_ranks order name n)

up_to_ranks : (order : NameOrder) (name : Name) (slots : List RawSlot) (i : ℕ) → map (comparison_with_slot order name) (padded_slots slots i) ≡ padded_comparisons (map (comparison_with_slot order name) slots) i
up_to_ranks order name slots i =
    map-append (comparison_with_slot order name) slots (replicate (i + 1 - length slots) empty_slot)
    ∙ ap (λ rs. map (comparison_with_slot order name) slots ++ rs) (empty_ranks order name (i + 1 - length slots) ∙ ap (λ n. replicate (i + 1 - n) slot.NoneOrLess) (sym (length-map slots (comparison_with_slot order name))))

-- a change that leaves a slot's name leaves its rank
same_ranks : (order : NameOrder) (name : Name) (f : RawSlot → RawSlot) → ((r : RawSlot) → (f r).name ≡ r.name) → (slots : List RawSlot) (i : ℕ) → map (comparison_with_slot order name) (slot_changed_at f slots i) ≡ map (comparison_with_slot order name) slots
same_ranks order name f same [] i = refl
same_ranks order name f same (s ∷ slots) zero = ap (λ r. r ∷ map (comparison_with_slot order name) slots) (ap (λ n. option_map_or (λ other. ordering_comparison (name_cmp order name other)) (option_and_then (λ (p : ℕ × List ℕ). cond (eqb p.0 superblock_name_type) None (Some p.1)) n) slot.NoneOrLess) (same s))
same_ranks order name f same (s ∷ slots) (suc i) = ap (λ rs. comparison_with_slot order name s ∷ rs) (same_ranks order name f same slots i)

named_rank : (order : NameOrder) (name : Name) (e : LogEntry) (r : RawSlot) → comparison_with_slot order name (record r { name = entry_type_bytes e }) ≡ comparison_with_entry order name e
named_rank order name e r = by_test (eqb (tag_type e.tag) superblock_name_type)
  where
    by_test : (b : Bool) → option_map_or (λ other. ordering_comparison (name_cmp order name other)) (cond b None (Some e.bytes)) slot.NoneOrLess ≡ cond b slot.NoneOrLess (ordering_comparison (name_cmp order name e.bytes))
    by_test true = refl
    by_test false = refl

rank_step : (order : NameOrder) (name : Name) (s t : List RawSlot) (e : LogEntry) → Effect s t e → comparisons_after_entry order name (map (comparison_with_slot order name) s) e ≡ map (comparison_with_slot order name) t
rank_step order name s t e (rests high same) =
    let a : eqb (tag_class e.tag) 0 ≡ false = grind (arith, nat_tests) in
    let b : eqb (tag_class e.tag) 4 ≡ false = grind (arith, nat_tests) in
    rw (a, b) (ap (map (comparison_with_slot order name)) (sym same))
rank_step order name s t e (names class keeps is) =
    let a : eqb (tag_class e.tag) 0 ≡ true = grind (arith, nat_tests) in
    let i = tag_id e.tag in
    let all = padded_slots s i in
    let r = slot_of_id all i in
    rw (a, is) (ap (λ rs. set rs i (comparison_with_entry order name e)) (sym (up_to_ranks order name s i)) ∙ ap (set (map (comparison_with_slot order name) all) i) (sym (named_rank order name e r)) ∙ sym (map-set (comparison_with_slot order name) all i (record r { name = entry_type_bytes e })))
rank_step order name s t e (creates class create le is) =
    let a : eqb (tag_class e.tag) 0 ≡ false = grind (arith, nat_tests) in
    let b : eqb (tag_class e.tag) 4 ≡ true = grind (arith, nat_tests) in
    let c : eqb (tag_type e.tag) create_tag_type ≡ true = grind (arith, nat_tests) in
    let len = length-map s (comparison_with_slot order name) in
    let d : leb (tag_id e.tag) (length (map (comparison_with_slot order name) s)) ≡ true = rw len (grind (arith, nat_tests)) in
    rw (a, b, c, d, is) (sym (map-insert (comparison_with_slot order name) s (tag_id e.tag) empty_slot))
rank_step order name s t e (deletes class delete lt is) =
    let a : eqb (tag_class e.tag) 0 ≡ false = grind (arith, nat_tests) in
    let b : eqb (tag_class e.tag) 4 ≡ true = grind (arith, nat_tests) in
    let c : eqb (tag_type e.tag) create_tag_type ≡ false = grind (arith, nat_tests) in
    let len = length-map s (comparison_with_slot order name) in
    let d : ltb (tag_id e.tag) (length (map (comparison_with_slot order name) s)) ≡ true = rw len (grind (arith, nat_tests)) in
    rw (a, b, c, d, is) (sym (map-remove (comparison_with_slot order name) s (tag_id e.tag)))
rank_step order name s t e (structures class keeps lt is) =
    let a : eqb (tag_class e.tag) 0 ≡ false = grind (arith, nat_tests) in
    let b : eqb (tag_class e.tag) 4 ≡ false = grind (arith, nat_tests) in
    rw (a, b, is) (sym (same_ranks order name (λ r. record r { struct = entry_type_bytes e }) (λ r. refl) s (tag_id e.tag)))
rank_step order name s t e (attributes class lt is) =
    let a : eqb (tag_class e.tag) 0 ≡ false = grind (arith, nat_tests) in
    let b : eqb (tag_class e.tag) 4 ≡ false = grind (arith, nat_tests) in
    rw (a, b, is) (sym (same_ranks order name (λ r. record r { attributes = attributes_after e r.attributes }) (λ r. refl) s (tag_id e.tag)))

-- ---- all entries

ranks_after_content : (order : NameOrder) (name : Name) (es : List LogEntry) (s t : RawContent) → content_after s es ≡ Some t → comparisons_after order name (map (comparison_with_slot order name) s.slots) es ≡ map (comparison_with_slot order name) t.slots
ranks_after_content order name [] s t h = ap (λ (x : RawContent). map (comparison_with_slot order name) x.slots) (same_Some _ _ h)
ranks_after_content order name (e ∷ es) s t h =
    option_and_then_some (λ u. content_after u es) (content_after_entry s e) t h (λ u is rest.
    ap (λ rs. comparisons_after order name rs es) (rank_step order name s.slots u.slots e (effect s u e is)) ∙ ranks_after_content order name es u t rest)

pub ranked : (order : NameOrder) (name : Name) (es : List LogEntry) (t : RawContent) → content_after empty_raw_content es ≡ Some t → comparisons_after order name [] es ≡ map (comparison_with_slot order name) t.slots
ranked order name es t h = ranks_after_content order name es empty_raw_content t h

-- a block of that size has few entries
pub few_entries : (block : List ℕ) → length block ≤ 2 ^ 16 → length (block_entries block) < 2 ^ 14
few_entries block small =
    let es = block_entries block in
    let end = (chain_of block).end in
    let run = all_run block in
    let room = run_count block 4 0xffffffff es end (chain_of block).last run in
    elim (cases_lt 4 end) [
      | inl lt ↦ omega (arith, (back block 4 0xffffffff es end (chain_of block).last run lt).within)
      | inr le ↦ omega arith
    ]

-- ---- the first wanted one

record FirstFrom (same : Bool) (skip : Option ℕ) (at : ℕ) (ranks : List NameComparison) (id : ℕ) : Type 0 where
  above : at ≤ id
  within : id ≤ at + length ranks
  here : (k : ℕ) → id ≡ at + k → k < length ranks → is_wanted_slot same skip (at + k) (get_or ranks k slot.NoneOrLess) ≡ true
  before : (k : ℕ) → at + k < id → is_wanted_slot same skip (at + k) (get_or ranks k slot.NoneOrLess) ≡ false

first_at : (same : Bool) (skip : Option ℕ) (at : ℕ) (ranks : List NameComparison) → FirstFrom same skip at ranks (first_wanted_slot same skip at ranks)
first_at same skip at [] = record {
  above = omega arith;
  within = omega arith;
  here = λ k is lt. absurd (omega arith);
  before = λ k lt. absurd (omega arith);
}
first_at same skip at (r ∷ ranks) = by_test (is_wanted_slot same skip at r) refl (first_at same skip (at + 1) ranks)
  where
    by_test : (b : Bool) → is_wanted_slot same skip at r ≡ b → FirstFrom same skip (at + 1) ranks (first_wanted_slot same skip (at + 1) ranks) → FirstFrom same skip at (r ∷ ranks) (cond b at (first_wanted_slot same skip (at + 1) ranks))
    by_test true is rest = record {
      above = omega arith;
      within = omega arith;
      here = λ k h lt. let z : k ≡ 0 = omega arith in rw z (subst (λ n. is_wanted_slot same skip n r ≡ true) (omega arith) is);
      before = λ k lt. absurd (omega arith);
    }
    by_test false is rest = record {
      above = omega (arith, rest.above);
      within = omega (arith, rest.within);
      here = there;
      before = earlier;
    }
      where
        shifted : (k : ℕ) (b : Bool) → is_wanted_slot same skip (at + 1 + k) (get_or ranks k slot.NoneOrLess) ≡ b → is_wanted_slot same skip (at + suc k) (get_or ranks k slot.NoneOrLess) ≡ b
        shifted k b h = subst (λ n. is_wanted_slot same skip n (get_or ranks k slot.NoneOrLess) ≡ b) (omega arith) h

        there : (k : ℕ) → first_wanted_slot same skip (at + 1) ranks ≡ at + k → k < length (r ∷ ranks) → is_wanted_slot same skip (at + k) (get_or (r ∷ ranks) k slot.NoneOrLess) ≡ true
        there zero h lt = absurd (omega (arith, rest.above))
        there (suc k) h lt = shifted k true (rest.here k (omega arith) (omega arith))

        earlier : (k : ℕ) → at + k < first_wanted_slot same skip (at + 1) ranks → is_wanted_slot same skip (at + k) (get_or (r ∷ ranks) k slot.NoneOrLess) ≡ false
        earlier zero lt = subst (λ n. is_wanted_slot same skip n r ≡ false) (omega arith) is
        earlier (suc k) lt = shifted k false (rest.before k (omega arith))

-- the same of a whole list
from_zero : (same : Bool) (skip : Option ℕ) (ranks : List NameComparison) (k : ℕ) (b : Bool) → is_wanted_slot same skip (0 + k) (get_or ranks k slot.NoneOrLess) ≡ b → is_wanted_slot same skip k (get_or ranks k slot.NoneOrLess) ≡ b
from_zero same skip ranks k b h = subst (λ n. is_wanted_slot same skip n (get_or ranks k slot.NoneOrLess) ≡ b) (omega arith) h

-- ---- the answer

pub rank_at : (order : NameOrder) (name : Name) (slots : List RawSlot) (k : ℕ) → get_or (map (comparison_with_slot order name) slots) k slot.NoneOrLess ≡ comparison_with_slot order name (slot_of_id slots k)
rank_at order name [] k = refl
rank_at order name (s ∷ slots) zero = refl
rank_at order name (s ∷ slots) (suc k) = rank_at order name slots k

same_wanted : (order : NameOrder) (name : Name) (o : Option Name) → is_wanted true (option_map_or (λ other. ordering_comparison (name_cmp order name other)) o slot.NoneOrLess) ≡ option_map_or (same_name name) o false
same_wanted order name None = refl
same_wanted order name (Some other) = by_order (name_cmp order name other) ∙ same_by order name other
  where
    by_order : (o : Ordering) → is_wanted true (ordering_comparison o) ≡ is_equal o
    by_order Less = refl
    by_order Equal = refl
    by_order Greater = refl

behind_wanted : (order : NameOrder) (name : Name) (o : Option Name) → is_wanted false (option_map_or (λ other. ordering_comparison (name_cmp order name other)) o slot.NoneOrLess) ≡ option_map_or (comes_after order name) o false
behind_wanted order name None = refl
behind_wanted order name (Some other) = by_order (name_cmp order name other)
  where
    by_order : (o : Ordering) → is_wanted false (ordering_comparison o) ≡ is_less o
    by_order Less = refl
    by_order Equal = refl
    by_order Greater = refl

same_named : (order : NameOrder) (name : Name) (skip : Option ℕ) (slots : List RawSlot) (k : ℕ) → passes_name_test (same_name name) skip slots k ≡ is_wanted_slot true skip k (get_or (map (comparison_with_slot order name) slots) k slot.NoneOrLess)
same_named order name skip slots k = ap (λ b. b && not (is_skipped skip k)) (sym (ap (is_wanted true) (rank_at order name slots k) ∙ same_wanted order name (entry_name (slot_of_id slots k))))

behind_named : (order : NameOrder) (name : Name) (skip : Option ℕ) (slots : List RawSlot) (k : ℕ) → passes_name_test (comes_after order name) skip slots k ≡ is_wanted_slot false skip k (get_or (map (comparison_with_slot order name) slots) k slot.NoneOrLess)
behind_named order name skip slots k = ap (λ b. b && not (is_skipped skip k)) (sym (ap (is_wanted false) (rank_at order name slots k) ∙ behind_wanted order name (entry_name (slot_of_id slots k))))

found_is : (order : NameOrder) (name : Name) (skip : Option ℕ) (slots : List RawSlot) (id : ℕ) → id ≡ first_wanted_slot true skip 0 (map (comparison_with_slot order name) slots) → id < length slots → IsNameId name skip slots id
found_is order name skip slots id is lt =
    let first = subst (FirstFrom true skip 0 (map (comparison_with_slot order name) slots)) (sym is) (first_at true skip 0 (map (comparison_with_slot order name) slots)) in
    let len = length-map slots (comparison_with_slot order name) in
    record {
      named = same_named order name skip slots id ∙ from_zero true skip (map (comparison_with_slot order name) slots) id true (first.here id (omega arith) (omega (arith, len)));
      least = λ k below. same_named order name skip slots k ∙ from_zero true skip (map (comparison_with_slot order name) slots) k false (first.before k (omega arith));
    }

place_is : (order : NameOrder) (name : Name) (skip : Option ℕ) (slots : List RawSlot) (id : ℕ) → length slots ≤ first_wanted_slot true skip 0 (map (comparison_with_slot order name) slots) → id ≡ first_wanted_slot false skip 0 (map (comparison_with_slot order name) slots) → IsInsertionId order name skip slots id
place_is order name skip slots id past is =
    let none = first_at true skip 0 (map (comparison_with_slot order name) slots) in
    let first = subst (FirstFrom false skip 0 (map (comparison_with_slot order name) slots)) (sym is) (first_at false skip 0 (map (comparison_with_slot order name) slots)) in
    let len = length-map slots (comparison_with_slot order name) in
    record {
      absent = λ k. elim (cases_lt k (length slots)) [
        | inl lt ↦ same_named order name skip slots k ∙ from_zero true skip (map (comparison_with_slot order name) slots) k false (none.before k (omega arith))
        | inr le ↦ ap (λ (s : RawSlot). option_map_or (same_name name) (entry_name s) false && not (is_skipped skip k)) (get_or_past slots k empty_slot le)
      ];
      least = λ k below. behind_named order name skip slots k ∙ from_zero false skip (map (comparison_with_slot order name) slots) k false (first.before k (omega arith));
      greater = λ lt. behind_named order name skip slots id ∙ from_zero false skip (map (comparison_with_slot order name) slots) id true (first.here id (omega arith) (omega (arith, len)));
      within = omega (arith, first.within, len);
    }

pub lookup_is : (order : NameOrder) (name : Name) (skip : Option ℕ) (slots : List RawSlot) → IsNameLookup order name skip slots (lookup_of_comparisons skip (map (comparison_with_slot order name) slots))
lookup_is order name skip slots = by_test (ltb found (length ranks)) refl
  where
    ranks : List NameComparison
    ranks = map (comparison_with_slot order name) slots

    found : ℕ
    found = first_wanted_slot true skip 0 ranks

    by_test : (b : Bool) → ltb found (length ranks) ≡ b → IsNameLookup order name skip slots (cond b (Found found) (Place (first_wanted_slot false skip 0 ranks)))
    by_test true is = let lt : found < length ranks = grind (arith, nat_tests) in found_is order name skip slots found refl (omega (arith, length-map slots (comparison_with_slot order name)))
    by_test false is = let le : length ranks ≤ found = grind (arith, nat_tests) in place_is order name skip slots (first_wanted_slot false skip 0 ranks) (omega (arith, length-map slots (comparison_with_slot order name))) refl

-- ---- one slot after the other

slots_from : (order : NameOrder) (name : Name) (slots : List RawSlot) (id : ℕ) → id < length slots → drop id (map (comparison_with_slot order name) slots) ≡ comparison_with_slot order name (slot_of_id slots id) ∷ drop (id + 1) (map (comparison_with_slot order name) slots)
slots_from order name slots id lt =
    let ranks = map (comparison_with_slot order name) slots in
    let len = length-map slots (comparison_with_slot order name) in
    let inside : id < length ranks = omega (arith, len) in
    let one : id + 1 ≡ suc id = omega arith in
    drop-cons ranks id slot.NoneOrLess inside ∙ rw one (ap (λ r. r ∷ drop (suc id) ranks) (rank_at order name slots id))

pub first_here : (order : NameOrder) (name : Name) (same : Bool) (skip : Option ℕ) (slots : List RawSlot) (id : ℕ) (rank : NameComparison) → id < length slots → rank ≡ comparison_with_slot order name (slot_of_id slots id) → is_wanted_slot same skip id rank ≡ true
    → id ≡ first_wanted_slot same skip id (drop id (map (comparison_with_slot order name) slots))
first_here order name same skip slots id rank lt is wanted =
    let there = subst (λ r. is_wanted_slot same skip id r ≡ true) is wanted in
    rw (slots_from order name slots id lt, there) refl

pub first_later : (order : NameOrder) (name : Name) (same : Bool) (skip : Option ℕ) (slots : List RawSlot) (id : ℕ) (rank : NameComparison) → id < length slots → rank ≡ comparison_with_slot order name (slot_of_id slots id) → is_wanted_slot same skip id rank ≡ false
    → first_wanted_slot same skip (id + 1) (drop (id + 1) (map (comparison_with_slot order name) slots)) ≡ first_wanted_slot same skip id (drop id (map (comparison_with_slot order name) slots))
first_later order name same skip slots id rank lt is other =
    let there = subst (λ r. is_wanted_slot same skip id r ≡ false) is other in
    rw (slots_from order name slots id lt, there) refl
