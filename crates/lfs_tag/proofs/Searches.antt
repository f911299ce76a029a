-- A search from the newest entry back finds the parts that slots have.
use Rattle.std.proofs.Common.{◌≡◌, ◌≢◌, ◌⊎◌, ℕ, suc, ◌+◌, ◌-◌, ◌/◌, ◌%◌, ◌^◌, ◌<◌, ◌≤◌, Bool, true, false, ◌&&◌, ◌||◌, not, cond, eqb, ltb, leb, List, [], ◌∷◌, ◌++◌, reverse, length, insert, remove, Option, Some, None, refl, sym, ap, subst, ◌∙◌, arith, inl, inr}
use Rattle.lfs_tag.proofs.Common.{option_and_then, option_map, cases_lt, cases_order, nat_tests, option_and_then_some, same_Some, Attributes, tag_type, tag_id, tag_class, tag_chunk, LogEntry, block_entries, RawSlot, RawContent, empty_slot, slot_of_id, slot_changed_at, padded_slots, entry_type_bytes, attributes_after, attributes_with, attributes_without, attribute_bytes, content_after_entry, content_after, empty_raw_content, is_attribute_removal, create_tag_type, bytes_if_type, found_in_entries, searched_count}
use Rattle.std.proofs.lemmas.Bool.{cases_eq}
use Rattle.std.proofs.lemmas.List.{reverse-append, reverse-reverse}
use Rattle.std.proofs.lemmas.List.Edits.{get_or-insert_below, get_or-insert_at, get_or-insert_above, get_or-remove_below, get_or-remove_above}
use Rattle.lfs_model.specs.layers.Lookup.{slot_bytes}
use Rattle.lfs_tag.specs.EntrySearch.{SlotEffect, Holds, Was, is_entry_about, slot_effect, found_given_effect, count_given_effect}
use Rattle.lfs_tag.proofs.Effects.{Effect, rests, names, creates, deletes, structures, attributes, effect}
use Rattle.lfs_tag.proofs.Held.{attribute-put_same, attribute-put_other, attribute-without_same, attribute-without_other, slot-up_to, length-up_to, slot-changed_same, slot-changed_other}

-- what a slot holds of the class of a type, or of an attribute's type
abbrev pub part_in : ℕ → RawSlot → Option (ℕ × List ℕ)
part_in type s =
    cond (eqb (type / 2 ^ 8) 0) s.name
    (cond (eqb (type / 2 ^ 8) 2) s.struct
    (cond (eqb (type / 2 ^ 8) 3) (option_map (λ bytes. (type, bytes)) (attribute_bytes (type % 2 ^ 8) s.attributes)) None))

abbrev pub part_at : List RawSlot → ℕ → ℕ → Option (ℕ × List ℕ)
part_at slots type i = part_in type (slot_of_id slots i)

-- its bytes, where it has the type
pub bytes_of_part : (type : ℕ) (s : RawSlot) → bytes_if_type type (part_in type s) ≡ slot_bytes type s
bytes_of_part type s = either (eqb (type / 2 ^ 8) 0) (eqb (type / 2 ^ 8) 2) (eqb (type / 2 ^ 8) 3)
  where
    attribute : (o : Option (List ℕ)) → bytes_if_type type (option_map (λ bytes. (type, bytes)) o) ≡ o
    attribute None = refl
    attribute (Some bytes) = let e : eqb type type ≡ true = grind (arith, nat_tests) in rw e refl

    either : (a b c : Bool) → bytes_if_type type (cond a s.name (cond b s.struct (cond c (option_map (λ bytes. (type, bytes)) (attribute_bytes (type % 2 ^ 8) s.attributes)) None)))
        ≡ cond a (bytes_if_type type s.name) (cond b (bytes_if_type type s.struct) (cond c (attribute_bytes (type % 2 ^ 8) s.attributes) None))
    either true b c = refl
    either false true c = refl
    either false false true = attribute (attribute_bytes (type % 2 ^ 8) s.attributes)
    either false false false = refl

-- what an entry says of a type and an id is what the slots after it hold
abbrev Finds : LogEntry → ℕ → ℕ → List RawSlot → List RawSlot → Type 0
Finds e type i s t = found_given_effect (slot_effect e type i) (part_at s type) ≡ part_at t type i

empty_part : (type : ℕ) → part_in type empty_slot ≡ None
empty_part type = either (eqb (type / 2 ^ 8) 0) (eqb (type / 2 ^ 8) 2) (eqb (type / 2 ^ 8) 3)
  where
    none : Option (ℕ × List ℕ)
    none = None

    either : (a b c : Bool) → cond a none (cond b none (cond c none none)) ≡ none
    either true b c = refl
    either false true c = refl
    either false false true = refl
    either false false false = refl

-- ---- creates and deletes

create_finds : (e : LogEntry) (type i : ℕ) (s : List RawSlot) → tag_class e.tag ≡ 4 → tag_type e.tag ≡ create_tag_type → tag_id e.tag ≤ length s → Finds e type i s (insert s (tag_id e.tag) empty_slot)
create_finds e type i s class create le =
    let a : eqb (tag_class e.tag) 4 ≡ true = grind (arith, nat_tests) in
    let b : eqb (tag_type e.tag) create_tag_type ≡ true = grind (arith, nat_tests) in
    let j = tag_id e.tag in
    rw (a, b) (elim (cases_order j i) [
      | inl same ↦
          let t : eqb j i ≡ true = grind (arith, nat_tests) in
          rw (t, ← same, get_or-insert_at s j empty_slot empty_slot le) (sym (empty_part type))
      | inr (inl lt) ↦
          let t : eqb j i ≡ false = grind (arith, nat_tests) in
          let u : ltb j i ≡ true = grind (arith, nat_tests) in
          let v : i ≡ i - 1 + 1 = omega arith in
          rw (t, u) (ap (part_in type) (sym (get_or-insert_above s j empty_slot empty_slot (i - 1) (omega arith) le) ∙ ap (slot_of_id (insert s j empty_slot)) (sym v)))
      | inr (inr gt) ↦
          let t : eqb j i ≡ false = grind (arith, nat_tests) in
          let u : ltb j i ≡ false = grind (arith, nat_tests) in
          rw (t, u) (ap (part_in type) (sym (get_or-insert_below s j empty_slot empty_slot i gt le)))
    ])

delete_finds : (e : LogEntry) (type i : ℕ) (s : List RawSlot) → tag_class e.tag ≡ 4 → tag_type e.tag ≢ create_tag_type → tag_id e.tag < length s → Finds e type i s (remove s (tag_id e.tag))
delete_finds e type i s class delete lt =
    let a : eqb (tag_class e.tag) 4 ≡ true = grind (arith, nat_tests) in
    let b : eqb (tag_type e.tag) create_tag_type ≡ false = grind (arith, nat_tests) in
    let j = tag_id e.tag in
    rw (a, b) (elim (cases_lt i j) [
      | inl below ↦
          let t : leb j i ≡ false = grind (arith, nat_tests) in
          rw t (ap (part_in type) (sym (get_or-remove_below s j empty_slot i below lt)))
      | inr above ↦
          let t : leb j i ≡ true = grind (arith, nat_tests) in
          rw t (ap (part_in type) (sym (get_or-remove_above s j empty_slot i above lt)))
    ])

-- ---- names, structs and attributes

-- the entry isn't about that
not_about : (e : LogEntry) (type i : ℕ) → tag_class e.tag ≢ 4 → is_entry_about e type i ≡ false → (before : ℕ → Option (ℕ × List ℕ)) → found_given_effect (slot_effect e type i) before ≡ before i
not_about e type i class other before =
    let a : eqb (tag_class e.tag) 4 ≡ false = grind (arith, nat_tests) in
    rw (a, other) refl

-- it is
about : (e : LogEntry) (type i : ℕ) → tag_class e.tag ≢ 4 → is_entry_about e type i ≡ true → (before : ℕ → Option (ℕ × List ℕ))
    → found_given_effect (slot_effect e type i) before ≡ cond (is_attribute_removal e.tag) None (entry_type_bytes e)
about e type i class here before =
    let a : eqb (tag_class e.tag) 4 ≡ false = grind (arith, nat_tests) in
    rw (a, here) refl

elsewhere : (e : LogEntry) (type i : ℕ) → tag_id e.tag ≢ i → is_entry_about e type i ≡ false
elsewhere e type i ne = let a : eqb (tag_id e.tag) i ≡ false = grind (arith, nat_tests) in rw a refl

high : (e : LogEntry) (type i : ℕ) → 5 ≤ tag_class e.tag → is_entry_about e type i ≡ false
high e type i le = let a : ltb (tag_class e.tag) 4 ≡ false = grind (arith, nat_tests) in rw a (either (eqb (tag_id e.tag) i))
  where
    either : (b : Bool) → (b && false) ≡ false
    either true = refl
    either false = refl

other_class : (e : LogEntry) (type i : ℕ) → tag_class e.tag ≢ type / 2 ^ 8 → is_entry_about e type i ≡ false
other_class e type i ne = let a : eqb (tag_class e.tag) (type / 2 ^ 8) ≡ false = grind (arith, nat_tests) in rw a (either (eqb (tag_id e.tag) i) (ltb (tag_class e.tag) 4))
  where
    either : (b c : Bool) → (b && (c && false)) ≡ false
    either true true = refl
    either true false = refl
    either false c = refl

-- a name or a struct of that class
same_class : (e : LogEntry) (type i : ℕ) → tag_id e.tag ≡ i → tag_class e.tag < 3 → tag_class e.tag ≡ type / 2 ^ 8 → is_entry_about e type i ≡ true
same_class e type i id small class =
    let a : eqb (tag_id e.tag) i ≡ true = grind (arith, nat_tests) in
    let b : ltb (tag_class e.tag) 4 ≡ true = grind (arith, nat_tests) in
    let c : eqb (tag_class e.tag) (type / 2 ^ 8) ≡ true = grind (arith, nat_tests) in
    let d : eqb (tag_class e.tag) 3 ≡ false = grind (arith, nat_tests) in
    rw (a, b, c, d) refl

-- one slot is changed, and the others stay
changed_finds : (e : LogEntry) (type i : ℕ) (f : RawSlot → RawSlot) (s all : List RawSlot) → tag_class e.tag ≢ 4 → tag_id e.tag < length all → ((k : ℕ) → slot_of_id all k ≡ slot_of_id s k)
    → (tag_id e.tag ≡ i → found_given_effect (slot_effect e type i) (part_at s type) ≡ part_in type (f (slot_of_id s i)))
    → Finds e type i s (slot_changed_at f all (tag_id e.tag))
changed_finds e type i f s all class lt same here =
    elim (cases_eq (tag_id e.tag) i) [
      | inl hit ↦
          let there : slot_of_id (slot_changed_at f all (tag_id e.tag)) i ≡ f (slot_of_id s i) =
          ap (slot_of_id (slot_changed_at f all (tag_id e.tag))) (sym hit) ∙ slot-changed_same f all (tag_id e.tag) lt ∙ ap f (same (tag_id e.tag) ∙ ap (slot_of_id s) hit) in
          here hit ∙ ap (part_in type) (sym there)
      | inr miss ↦ not_about e type i class (elsewhere e type i miss) (part_at s type) ∙ ap (part_in type) (sym (slot-changed_other f all (tag_id e.tag) i (λ z. miss (sym z)) ∙ same i))
    ]

name_finds : (e : LogEntry) (type i : ℕ) (s : List RawSlot) → tag_class e.tag ≡ 0 → is_attribute_removal e.tag ≡ false → Finds e type i s (slot_changed_at (λ r. record r { name = entry_type_bytes e }) (padded_slots s (tag_id e.tag)) (tag_id e.tag))
name_finds e type i s class keeps =
    changed_finds e type i (λ r. record r { name = entry_type_bytes e }) s (padded_slots s (tag_id e.tag)) (omega arith) (omega (arith, length-up_to s (tag_id e.tag))) (slot-up_to s (tag_id e.tag))
    (λ hit. elim (cases_eq (type / 2 ^ 8) 0) [
      | inl same ↦
          let z : eqb (type / 2 ^ 8) 0 ≡ true = grind (arith, nat_tests) in
          about e type i (omega arith) (same_class e type i hit (omega arith) (omega arith)) (part_at s type)
          ∙ rw (keeps, z) refl
      | inr other ↦
          let z : eqb (type / 2 ^ 8) 0 ≡ false = grind (arith, nat_tests) in
          not_about e type i (omega arith) (other_class e type i (omega arith)) (part_at s type) ∙ rw z refl
    ])

structure_finds : (e : LogEntry) (type i : ℕ) (s : List RawSlot) → tag_class e.tag ≡ 2 → is_attribute_removal e.tag ≡ false → tag_id e.tag < length s → Finds e type i s (slot_changed_at (λ r. record r { struct = entry_type_bytes e }) s (tag_id e.tag))
structure_finds e type i s class keeps lt =
    changed_finds e type i (λ r. record r { struct = entry_type_bytes e }) s s (omega arith) lt (λ k. refl)
    (λ hit. elim (cases_eq (type / 2 ^ 8) 2) [
      | inl same ↦
          let z : eqb (type / 2 ^ 8) 0 ≡ false = grind (arith, nat_tests) in
          let w : eqb (type / 2 ^ 8) 2 ≡ true = grind (arith, nat_tests) in
          about e type i (omega arith) (same_class e type i hit (omega arith) (omega arith)) (part_at s type)
          ∙ rw (keeps, z, w) refl
      | inr other ↦
          let w : eqb (type / 2 ^ 8) 2 ≡ false = grind (arith, nat_tests) in
          not_about e type i (omega arith) (other_class e type i (omega arith)) (part_at s type) ∙ rw w refl
    ])

-- the attribute that an entry sets or removes
attribute_same : (e : LogEntry) (xs : Attributes) → attribute_bytes (tag_chunk e.tag) (attributes_after e xs) ≡ cond (not (is_attribute_removal e.tag)) (Some e.bytes) None
attribute_same e xs = by_test (is_attribute_removal e.tag)
  where
    by_test : (b : Bool) → attribute_bytes (tag_chunk e.tag) (cond b (attributes_without (tag_chunk e.tag) xs) (attributes_with (tag_chunk e.tag) e.bytes xs)) ≡ cond (not b) (Some e.bytes) None
    by_test true = attribute-without_same (tag_chunk e.tag) xs
    by_test false = attribute-put_same (tag_chunk e.tag) e.bytes xs

-- the others
attribute_other : (e : LogEntry) (type : ℕ) (xs : Attributes) → tag_chunk e.tag ≢ type → attribute_bytes type (attributes_after e xs) ≡ attribute_bytes type xs
attribute_other e type xs ne = by_test (is_attribute_removal e.tag)
  where
    by_test : (b : Bool) → attribute_bytes type (cond b (attributes_without (tag_chunk e.tag) xs) (attributes_with (tag_chunk e.tag) e.bytes xs)) ≡ attribute_bytes type xs
    by_test true = attribute-without_other type (tag_chunk e.tag) xs ne
    by_test false = attribute-put_other type (tag_chunk e.tag) e.bytes xs ne

attribute_finds : (e : LogEntry) (type i : ℕ) (s : List RawSlot) → tag_class e.tag ≡ 3 → tag_id e.tag < length s → Finds e type i s (slot_changed_at (λ r. record r { attributes = attributes_after e r.attributes }) s (tag_id e.tag))
attribute_finds e type i s class lt =
    changed_finds e type i (λ r. record r { attributes = attributes_after e r.attributes }) s s (omega arith) lt (λ k. refl)
    (λ hit. elim (cases_eq (tag_type e.tag) type) [
      | inl same ↦
          let id : eqb (tag_id e.tag) i ≡ true = grind (arith, nat_tests) in
          let small : ltb (tag_class e.tag) 4 ≡ true = grind (arith, nat_tests) in
          let here : eqb (tag_class e.tag) (type / 2 ^ 8) ≡ true = grind (arith, nat_tests) in
          let k : eqb (tag_type e.tag) type ≡ true = grind (arith, nat_tests) in
          let z : eqb (type / 2 ^ 8) 0 ≡ false = grind (arith, nat_tests) in
          let w : eqb (type / 2 ^ 8) 2 ≡ false = grind (arith, nat_tests) in
          let v : eqb (type / 2 ^ 8) 3 ≡ true = grind (arith, nat_tests) in
          let chunk : tag_chunk e.tag ≡ type % 2 ^ 8 = omega arith in
          let is : is_entry_about e type i ≡ true = rw (id, small, here, k) (either (not (eqb (tag_class e.tag) 3))) in
          about e type i (omega arith) is (part_at s type)
          ∙ rw (z, w, v) (kept (is_attribute_removal e.tag) same ∙ ap (option_map (λ bytes. (type, bytes))) (sym (ap (λ (n : ℕ). attribute_bytes n (attributes_after e (slot_of_id s i).attributes)) (sym chunk) ∙ attribute_same e (slot_of_id s i).attributes)))
      | inr other ↦
          let k : eqb (tag_type e.tag) type ≡ false = grind (arith, nat_tests) in
          let three : eqb (tag_class e.tag) 3 ≡ true = grind (arith, nat_tests) in
          let is : is_entry_about e type i ≡ false = rw (three, k) (never (eqb (tag_id e.tag) i) (ltb (tag_class e.tag) 4) (eqb (tag_class e.tag) (type / 2 ^ 8))) in
          not_about e type i (omega arith) is (part_at s type) ∙ stays (slot_of_id s i) other (cases_eq (type / 2 ^ 8) 3)
    ])
  where
    either : (b : Bool) → (b || true) ≡ true
    either true = refl
    either false = refl

    kept : (b : Bool) → tag_type e.tag ≡ type → cond b None (entry_type_bytes e) ≡ option_map (λ bytes. (type, bytes)) (cond (not b) (Some e.bytes) None)
    kept true same = refl
    kept false same = ap (λ k. Some (k, e.bytes)) same

    never : (a b c : Bool) → (a && (b && (c && false))) ≡ false
    never true true true = refl
    never true true false = refl
    never true false c = refl
    never false b c = refl

    stays : (r : RawSlot) → tag_type e.tag ≢ type → ((type / 2 ^ 8 ≡ 3) ⊎ (type / 2 ^ 8 ≢ 3)) → part_in type r ≡ part_in type (record r { attributes = attributes_after e r.attributes })
    stays r other (inl three) =
        let z : eqb (type / 2 ^ 8) 0 ≡ false = grind (arith, nat_tests) in
        let w : eqb (type / 2 ^ 8) 2 ≡ false = grind (arith, nat_tests) in
        let v : eqb (type / 2 ^ 8) 3 ≡ true = grind (arith, nat_tests) in
        rw (z, w, v) (ap (option_map (λ bytes. (type, bytes))) (sym (attribute_other e (type % 2 ^ 8) r.attributes (λ same. other (omega arith)))))
    stays r other (inr apart) =
        let v : eqb (type / 2 ^ 8) 3 ≡ false = grind (arith, nat_tests) in
        rw v refl

-- ---- an entry

effect_finds : (e : LogEntry) (type i : ℕ) (s t : List RawSlot) → Effect s t e → Finds e type i s t
effect_finds e type i s t (rests high_class same) = not_about e type i (omega arith) (high e type i high_class) (part_at s type) ∙ ap (λ (x : List RawSlot). part_at x type i) (sym same)
effect_finds e type i s t (names class keeps is) = subst (Finds e type i s) (sym is) (name_finds e type i s class keeps)
effect_finds e type i s t (creates class create le is) = subst (Finds e type i s) (sym is) (create_finds e type i s class create le)
effect_finds e type i s t (deletes class delete lt is) = subst (Finds e type i s) (sym is) (delete_finds e type i s class delete lt)
effect_finds e type i s t (structures class keeps lt is) = subst (Finds e type i s) (sym is) (structure_finds e type i s class keeps lt)
effect_finds e type i s t (attributes class lt is) = subst (Finds e type i s) (sym is) (attribute_finds e type i s class lt)

-- ---- all entries

funext : {A B : Type 0} (f g : A → B) → ((x : A) → f x ≡ g x) → f ≡ g
funext f g h = λ i x. h x i

pub after_last : (s : RawContent) (xs : List LogEntry) (e : LogEntry) → content_after s (xs ++ e ∷ []) ≡ option_and_then (λ t. content_after_entry t e) (content_after s xs)
after_last s [] e = last (content_after_entry s e)
  where
    last : (o : Option RawContent) → option_and_then (λ t. content_after t []) o ≡ o
    last None = refl
    last (Some t) = refl
after_last s (x ∷ xs) e = elim (content_after_entry s x) as (λ o. option_and_then (λ t. content_after t (xs ++ e ∷ [])) o ≡ option_and_then (λ t. content_after_entry t e) (option_and_then (λ t. content_after t xs) o)) [
  | None ↦ refl
  | Some t ↦ after_last t xs e
]

-- the newest first: what a search says is what the slots hold
pub found_is : (es : List LogEntry) (t : RawContent) (type i : ℕ) → content_after empty_raw_content (reverse es) ≡ Some t → found_in_entries es type i ≡ part_at t.slots type i
found_is [] t type i h = sym (ap (λ (x : RawContent). part_at x.slots type i) (sym (same_Some empty_raw_content t h)) ∙ empty_part type)
found_is (e ∷ es) t type i h =
    let split : option_and_then (λ u. content_after_entry u e) (content_after empty_raw_content (reverse es)) ≡ Some t =
    sym (after_last empty_raw_content (reverse es) e) ∙ ap (content_after empty_raw_content) (sym (reverse-append (e ∷ []) es)) ∙ h in
    option_and_then_some (λ u. content_after_entry u e) (content_after empty_raw_content (reverse es)) t split (λ u was is.
    let same : (λ (j : ℕ). found_in_entries es type j) ≡ part_at u.slots type = funext _ _ (λ j. found_is es u type j was) in
    ap (found_given_effect (slot_effect e type i)) same ∙ effect_finds e type i u.slots t.slots (effect u t e is))

-- so of the log of a block
pub found_in_log : (block : List ℕ) (t : RawContent) (type i : ℕ) → content_after empty_raw_content (block_entries block) ≡ Some t → found_in_entries (reverse (block_entries block)) type i ≡ part_at t.slots type i
found_in_log block t type i h = found_is (reverse (block_entries block)) t type i (ap (content_after empty_raw_content) (reverse-reverse (block_entries block)) ∙ h)

pub looks_within : (es : List LogEntry) (type i : ℕ) → searched_count es type i ≤ length es
looks_within [] type i = omega arith
looks_within (e ∷ es) type i = by_verdict (slot_effect e type i) (λ j. looks_within es type j)
  where
    by_verdict : (v : SlotEffect) → ((j : ℕ) → searched_count es type j ≤ length es) → count_given_effect v (λ j. searched_count es type j) ≤ suc (length es)
    by_verdict (Holds bytes) within = omega arith
    by_verdict (Was j) within = omega (arith, within j)
