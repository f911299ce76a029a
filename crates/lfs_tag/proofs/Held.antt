-- A slot's attributes, and the ids of slots, after one entry.
use Rattle.std.proofs.Common.{◌≡◌, ◌≢◌, ℕ, zero, suc, ◌+◌, ◌-◌, ◌<◌, Bool, true, false, not, cond, eqb, ltb, List, [], ◌∷◌, find, length, replicate, Some, None, refl, sym, ap, ◌∙◌, arith, inl, inr, get_or-set_same, get_or-set_other}
use Rattle.lfs_tag.proofs.Common.{option_map, cases_lt, cases_order, nat_tests, get_or_past, length-append, length-replicate, Attributes, RawSlot, empty_slot, slot_of_id, slot_changed_at, padded_slots, attributes_with, attributes_without, attribute_bytes}
use Rattle.std.proofs.lemmas.List.{get_or_append_left, get_or-append_right}

-- ---- attributes

pub attribute-put_same : (type : ℕ) (bytes : List ℕ) (xs : Attributes) → attribute_bytes type (attributes_with type bytes xs) ≡ Some bytes
attribute-put_same type bytes [] = let e : eqb type type ≡ true = grind (arith, nat_tests) in rw e refl
attribute-put_same type bytes (a ∷ xs) = elim (cases_order type a.0) [
  | inl equal ↦
      let t : ltb type a.0 ≡ false = grind (arith, nat_tests) in
      let e : eqb type a.0 ≡ true = grind (arith, nat_tests) in
      let s : eqb type type ≡ true = grind (arith, nat_tests) in
      rw (t, e, s) refl
  | inr (inl below) ↦
      let t : ltb type a.0 ≡ true = grind (arith, nat_tests) in
      let s : eqb type type ≡ true = grind (arith, nat_tests) in
      rw (t, s) refl
  | inr (inr above) ↦
      let t : ltb type a.0 ≡ false = grind (arith, nat_tests) in
      let e : eqb type a.0 ≡ false = grind (arith, nat_tests) in
      let f : eqb a.0 type ≡ false = grind (arith, nat_tests) in
      rw (t, e, f) (attribute-put_same type bytes xs)
]

pub attribute-put_other : (type other : ℕ) (bytes : List ℕ) (xs : Attributes) → other ≢ type → attribute_bytes type (attributes_with other bytes xs) ≡ attribute_bytes type xs
attribute-put_other type other bytes [] ne = let e : eqb other type ≡ false = grind (arith, nat_tests) in rw e refl
attribute-put_other type other bytes (a ∷ xs) ne = elim (cases_order other a.0) [
  | inl equal ↦
      let t : ltb other a.0 ≡ false = grind (arith, nat_tests) in
      let e : eqb other a.0 ≡ true = grind (arith, nat_tests) in
      let s : eqb other type ≡ false = grind (arith, nat_tests) in
      let f : eqb a.0 type ≡ false = grind (arith, nat_tests) in
      rw (t, e, s, f) refl
  | inr (inl below) ↦
      let t : ltb other a.0 ≡ true = grind (arith, nat_tests) in
      let s : eqb other type ≡ false = grind (arith, nat_tests) in
      rw (t, s) refl
  | inr (inr above) ↦
      let t : ltb other a.0 ≡ false = grind (arith, nat_tests) in
      let e : eqb other a.0 ≡ false = grind (arith, nat_tests) in
      rw (t, e) (first (eqb a.0 type) (attribute-put_other type other bytes xs ne))
]
  where
    first : (b : Bool) → attribute_bytes type (attributes_with other bytes xs) ≡ attribute_bytes type xs
        → option_map (λ (x : ℕ × List ℕ). x.1) (cond b (Some a) (find (λ (x : ℕ × List ℕ). eqb x.0 type) (attributes_with other bytes xs))) ≡ option_map (λ (x : ℕ × List ℕ). x.1) (cond b (Some a) (find (λ (x : ℕ × List ℕ). eqb x.0 type) xs))
    first true rest = refl
    first false rest = rest

pub attribute-without_same : (type : ℕ) (xs : Attributes) → attribute_bytes type (attributes_without type xs) ≡ None
attribute-without_same type [] = refl
attribute-without_same type (a ∷ xs) = elim (eqb a.0 type) as (λ b. eqb a.0 type ≡ b → attribute_bytes type (cond (not b) (a ∷ attributes_without type xs) (attributes_without type xs)) ≡ None) [
  | true ↦ λ is. attribute-without_same type xs
  | false ↦ λ is. rw is (attribute-without_same type xs)
] refl

pub attribute-without_other : (type other : ℕ) (xs : Attributes) → other ≢ type → attribute_bytes type (attributes_without other xs) ≡ attribute_bytes type xs
attribute-without_other type other [] ne = refl
attribute-without_other type other (a ∷ xs) ne = elim (eqb a.0 other) as (λ b. eqb a.0 other ≡ b → attribute_bytes type (cond (not b) (a ∷ attributes_without other xs) (attributes_without other xs)) ≡ attribute_bytes type (a ∷ xs)) [
  | true ↦ λ is. let f : eqb a.0 type ≡ false = grind (arith, nat_tests) in rw f (attribute-without_other type other xs ne)
  | false ↦ λ is. first (eqb a.0 type) (attribute-without_other type other xs ne)
] refl
  where
    first : (b : Bool) → attribute_bytes type (attributes_without other xs) ≡ attribute_bytes type xs
        → option_map (λ (x : ℕ × List ℕ). x.1) (cond b (Some a) (find (λ (x : ℕ × List ℕ). eqb x.0 type) (attributes_without other xs))) ≡ option_map (λ (x : ℕ × List ℕ). x.1) (cond b (Some a) (find (λ (x : ℕ × List ℕ). eqb x.0 type) xs))
    first true rest = refl
    first false rest = rest

-- ---- slots

pub slot-up_to : (slots : List RawSlot) (j i : ℕ) → slot_of_id (padded_slots slots j) i ≡ slot_of_id slots i
slot-up_to slots j i =
    elim (cases_lt i (length slots)) [
      | inl lt ↦ get_or_append_left slots (replicate (j + 1 - length slots) empty_slot) empty_slot i lt
      | inr le ↦ get_or-append_right slots (replicate (j + 1 - length slots) empty_slot) (length slots) i empty_slot refl le ∙ empties (j + 1 - length slots) (i - length slots) ∙ sym (get_or_past slots i empty_slot le)
    ]
  where
    empties : (n k : ℕ) → slot_of_id (replicate n empty_slot) k ≡ empty_slot
    empties zero k = refl
    empties (suc n) zero = refl
    empties (suc n) (suc k) = empties n k

pub length-up_to : (slots : List RawSlot) (j : ℕ) → length (padded_slots slots j) ≡ length slots + (j + 1 - length slots)
length-up_to slots j = length-append slots (replicate (j + 1 - length slots) empty_slot) ∙ ap (λ (n : ℕ). length slots + n) (length-replicate (j + 1 - length slots) empty_slot)

pub slot-changed_same : (f : RawSlot → RawSlot) (slots : List RawSlot) (j : ℕ) → j < length slots → slot_of_id (slot_changed_at f slots j) j ≡ f (slot_of_id slots j)
slot-changed_same f slots j lt = get_or-set_same slots j (f (slot_of_id slots j)) empty_slot lt

pub slot-changed_other : (f : RawSlot → RawSlot) (slots : List RawSlot) (j i : ℕ) → i ≢ j → slot_of_id (slot_changed_at f slots j) i ≡ slot_of_id slots i
slot-changed_other f slots j i ne = get_or-set_other slots j i (f (slot_of_id slots j)) empty_slot ne
