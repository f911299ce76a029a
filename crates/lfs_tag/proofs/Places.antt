-- Attributes by type, and slots in a list.
use Rattle.std.proofs.Common.{◌≡◌, ℕ, suc, ◌+◌, ◌<◌, ◌≤◌, Bool, true, false, not, filter, cond, eqb, leb, ltb, List, [], ◌∷◌, ◌++◌, length, map, take, drop, replicate, set, get_or, remove, insert, refl, sym, ap, ◌∙◌, arith, append_assoc, inl, inr}
use Rattle.std.specs.List.{take-map, drop-map}
use Rattle.lfs_tag.proofs.Common.{cases_order, nat_tests, map-append, map-set, get_or-map, Attributes, RawSlot, empty_slot, attributes_with, attributes_without, slot_changed_at, slot_view, attribute_view, index_for_attribute}
use Rattle.std.proofs.lemmas.List.{replicate-append-replicate}
use Rattle.lfs_tag.specs.declared.content.Slot.{Slot}
use Rattle.lfs_tag.specs.declared.content.Attribute.{Attribute}

pub map-remove : {X Y : Type 0} (f : X → Y) (xs : List X) (i : ℕ) → map f (remove xs i) ≡ remove (map f xs) i
map-remove f xs i = map-append f (take i xs) (drop (suc i) xs) ∙ rw (take-map f i xs, drop-map f (suc i) xs) refl

pub map-insert : {X Y : Type 0} (f : X → Y) (xs : List X) (i : ℕ) (x : X) → map f (insert xs i x) ≡ insert (map f xs) i (f x)
map-insert f xs i x = map-append f (take i xs) (x ∷ drop i xs) ∙ rw (take-map f i xs, drop-map f i xs) refl

-- ---- attributes

-- the attribute of that type stands where one of its type or a greater one first stands
pub put_same : (type : ℕ) (bytes : List ℕ) (xs : Attributes) (x : ℕ × List ℕ) → index_for_attribute type xs < length xs → (get_or xs (index_for_attribute type xs) x).0 ≡ type
    → attributes_with type bytes xs ≡ set xs (index_for_attribute type xs) (type, bytes)
put_same type bytes [] x lt same = absurd (omega arith)
put_same type bytes (a ∷ xs) x lt same = elim (cases_order type a.0) [
  | inl equal ↦
      let l : leb type a.0 ≡ true = grind (arith, nat_tests) in
      let t : ltb type a.0 ≡ false = grind (arith, nat_tests) in
      let e : eqb type a.0 ≡ true = grind (arith, nat_tests) in
      rw (l, t, e) refl
  | inr (inl below) ↦
      let l : leb type a.0 ≡ true = grind (arith, nat_tests) in
      absurd (let s : a.0 ≡ type = rw l at same in omega arith)
  | inr (inr above) ↦
      let l : leb type a.0 ≡ false = grind (arith, nat_tests) in
      let t : ltb type a.0 ≡ false = grind (arith, nat_tests) in
      let e : eqb type a.0 ≡ false = grind (arith, nat_tests) in
      rw (l, t, e) (ap (λ (ys : Attributes). a ∷ ys) (put_same type bytes xs x (let m = rw l at lt in omega arith) (rw l at same)))
]

-- no attribute of that type is there
pub put_other : (type : ℕ) (bytes : List ℕ) (xs : Attributes) (x : ℕ × List ℕ) → (index_for_attribute type xs < length xs → (get_or xs (index_for_attribute type xs) x).0 ≡ type → ⊥)
    → attributes_with type bytes xs ≡ insert xs (index_for_attribute type xs) (type, bytes)
put_other type bytes [] x other = refl
put_other type bytes (a ∷ xs) x other = elim (cases_order type a.0) [
  | inl equal ↦
      let l : leb type a.0 ≡ true = grind (arith, nat_tests) in
      absurd ((rw l at other) (omega arith) (sym equal))
  | inr (inl below) ↦
      let l : leb type a.0 ≡ true = grind (arith, nat_tests) in
      let t : ltb type a.0 ≡ true = grind (arith, nat_tests) in
      rw (l, t) refl
  | inr (inr above) ↦
      let l : leb type a.0 ≡ false = grind (arith, nat_tests) in
      let t : ltb type a.0 ≡ false = grind (arith, nat_tests) in
      let e : eqb type a.0 ≡ false = grind (arith, nat_tests) in
      rw (l, t, e) (ap (λ (ys : Attributes). a ∷ ys) (put_other type bytes xs x (λ lt same. (rw l at other) (omega arith) same)))
]

pub first_within : (type : ℕ) (xs : Attributes) → index_for_attribute type xs ≤ length xs
first_within type [] = omega arith
first_within type (a ∷ xs) = by_test (leb type a.0) (first_within type xs)
  where
    by_test : (b : Bool) → index_for_attribute type xs ≤ length xs → cond b 0 (suc (index_for_attribute type xs)) ≤ suc (length xs)
    by_test true within = omega arith
    by_test false within = omega arith

pub without_is : (kind : ℕ) (xs : List Attribute) → map attribute_view (filter (λ a. not (eqb a.kind kind)) xs) ≡ attributes_without kind (map attribute_view xs)
without_is kind [] = refl
without_is kind (a ∷ xs) = by_test (eqb a.kind kind) (without_is kind xs)
  where
    by_test : (b : Bool) → map attribute_view (filter (λ a. not (eqb a.kind kind)) xs) ≡ attributes_without kind (map attribute_view xs) → map attribute_view (cond (not b) (a ∷ filter (λ a. not (eqb a.kind kind)) xs) (filter (λ a. not (eqb a.kind kind)) xs))
        ≡ cond (not b) (attribute_view a ∷ attributes_without kind (map attribute_view xs)) (attributes_without kind (map attribute_view xs))
    by_test true rest = rest
    by_test false rest = ap (λ (ys : Attributes). attribute_view a ∷ ys) rest

-- ---- slots

-- one more empty slot
pub one_more : (xs ys : List RawSlot) (n : ℕ) → ys ≡ xs ++ replicate n empty_slot → ys ++ empty_slot ∷ [] ≡ xs ++ replicate (n + 1) empty_slot
one_more xs ys n e = rw (e, append_assoc xs (replicate n empty_slot) (empty_slot ∷ [])) (ap (λ (t : List RawSlot). xs ++ t) (replicate-append-replicate n 1 empty_slot))

-- a slot that is changed in the code is changed as it is seen
pub changed_is : (f : RawSlot → RawSlot) (xs : List Slot) (i : ℕ) (x y : Slot) → i < length xs → x ≡ get_or xs i x → slot_view y ≡ f (slot_view x)
    → map slot_view (set xs i y) ≡ slot_changed_at f (map slot_view xs) i
changed_is f xs i x y lt is new =
    map-set slot_view xs i y ∙ ap (set (map slot_view xs) i) (new ∙ ap f (ap slot_view is ∙ sym (get_or-map slot_view xs i x empty_slot lt)))
