-- How many bytes attributes use, before and after one is set.
use Rattle.std.proofs.Common.{Fits, w64, ℕ, zero, suc, drop, map, get_or, ◌≡◌, ◌+◌, ◌-◌, ◌*◌, ◌<◌, ◌≤◌, ◌==◌, Bool, true, false, cond, List, [], ◌∷◌, length, None, Some, nat_lt, refl, sym, ap, arith, eqb-true}
use Rattle.std.specs.Prelude.{find}
use Rattle.lfs_lookup.proofs.Common.{option_map, option_map_or, sum_by-cons, attribute_bytes, AttributesInOrder, Attributes, attributes_size, attribute_view, IsAttributesSize}
use Rattle.std.proofs.lemmas.Bool.{eqb-false, ltb-true}
use Rattle.lfs_model.specs.format.Content.{attributes_with}
use Rattle.lfs_tag.specs.declared.content.Attribute.{Attribute}
use Rattle.lfs_lookup.specs.AttributeAt.{SettingAttributeChangesSize}

-- there are at most 256, each of at most 1,022 bytes
pub size_bound : (low : ℕ) (xs : Attributes) → low ≤ 256 → AttributesInOrder low xs → attributes_size xs ≤ (256 - low) * 1026
size_bound low [] l h = omega arith
size_bound low (a ∷ xs) l h =
    let e = sum_by-cons (λ (a : ℕ × List ℕ). 4 + length a.1) a xs in
    let low_is = h.0 in
    let below = h.1 in
    let short = h.2 in
    let r = size_bound (a.0 + 1) xs (omega arith) h.3 in
    omega arith

-- none is of a type below the first one's
absent_below : (low kind : ℕ) (xs : Attributes) → AttributesInOrder low xs → kind < low → attribute_bytes kind xs ≡ None
absent_below low kind [] h l = refl
absent_below low kind (a ∷ xs) h l = go (a.0 == kind) refl (let m = h.0 in absent_below (a.0 + 1) kind xs h.3 (omega arith))
  where
    go : (b : Bool) → (a.0 == kind) ≡ b → attribute_bytes kind xs ≡ None → option_map (λ (x : ℕ × List ℕ). x.1) (cond b (Some a) (find (λ (x : ℕ × List ℕ). x.0 == kind) xs)) ≡ None
    go true e later = let k = eqb-true a.0 kind e in let m = h.0 in absurd (omega arith)
    go false e later = later

pub takes_place : (low : ℕ) (xs : Attributes) → AttributesInOrder low xs → SettingAttributeChangesSize xs
takes_place low [] h kind bytes = let e = sum_by-cons (λ (a : ℕ × List ℕ). 4 + length a.1) (kind, bytes) [] in omega arith
takes_place low (a ∷ xs) h kind bytes = go (nat_lt kind a.0) (kind == a.0) (a.0 == kind) refl refl refl (takes_place (a.0 + 1) xs h.3 kind bytes)
  where
    go : (s t u : Bool) → nat_lt kind a.0 ≡ s → (kind == a.0) ≡ t → (a.0 == kind) ≡ u → attributes_size (attributes_with kind bytes xs) + option_map_or (λ b. 4 + length b) (attribute_bytes kind xs) 0 ≡ attributes_size xs + (4 + length bytes) →
        attributes_size (cond s ((kind, bytes) ∷ a ∷ xs) (cond t ((kind, bytes) ∷ xs) (a ∷ attributes_with kind bytes xs)))
        + option_map_or (λ z. 4 + length z) (option_map (λ (x : ℕ × List ℕ). x.1) (cond u (Some a) (find (λ (x : ℕ × List ℕ). x.0 == kind) xs))) 0
        ≡ attributes_size (a ∷ xs) + (4 + length bytes)
    go true t true below same back later = let l = ltb-true kind a.0 below in let e = eqb-true a.0 kind back in absurd (omega arith)
    go true t false below same back later =
        let l = ltb-true kind a.0 below in
        let e = sum_by-cons (λ (a : ℕ × List ℕ). 4 + length a.1) (kind, bytes) (a ∷ xs) in
        let none = ap (λ o. option_map_or (λ (z : List ℕ). 4 + length z) o 0) (absent_below (a.0 + 1) kind xs h.3 (omega arith)) in
        omega arith
    go false true true below same back later =
        let e = sum_by-cons (λ (a : ℕ × List ℕ). 4 + length a.1) (kind, bytes) xs in
        let f = sum_by-cons (λ (a : ℕ × List ℕ). 4 + length a.1) a xs in
        omega arith
    go false true false below same back later = let e = eqb-true kind a.0 same in absurd (eqb-false a.0 kind back (sym e))
    go false false true below same back later = let e = eqb-true a.0 kind back in absurd (eqb-false kind a.0 same (sym e))
    go false false false below same back later =
        let e = sum_by-cons (λ (a : ℕ × List ℕ). 4 + length a.1) a (attributes_with kind bytes xs) in
        let f = sum_by-cons (λ (a : ℕ × List ℕ). 4 + length a.1) a xs in
        omega arith

pub none_sized : IsAttributesSize [] 0
none_sized = record { is = refl; small = omega arith; put = takes_place 0 [] tt }

pub sized : (xs : Attributes) (size : ℕ) → AttributesInOrder 0 xs → size ≡ attributes_size xs → IsAttributesSize xs size
sized xs size h e = record { is = e; small = (let b = size_bound 0 xs (omega arith) h in omega arith); put = takes_place 0 xs h }

-- the sizes from one of them on
size_on : (xs : List Attribute) (i : ℕ) (d : Attribute) → i < length xs
    → attributes_size (map attribute_view (drop i xs)) ≡ (4 + length (get_or xs i d).bytes.now) + attributes_size (map attribute_view (drop (suc i) xs))
size_on [] i d l = absurd (omega arith)
size_on (x ∷ xs) zero d l = sum_by-cons (λ (a : ℕ × List ℕ). 4 + length a.1) (attribute_view x) (map attribute_view xs)
size_on (x ∷ xs) (suc i) d l = size_on xs i d (omega arith)

-- one more size is no overflow
pub size_fits : (xs : List Attribute) (i : ℕ) (d : Attribute) (size : ℕ) → i < length xs → AttributesInOrder 0 (map attribute_view xs) → size + attributes_size (map attribute_view (drop i xs)) ≡ attributes_size (map attribute_view xs)
    → Fits w64 (size + (4 + length (get_or xs i d).bytes.now))
size_fits xs i d size l h so_far =
    let on = size_on xs i d l in
    let bound = size_bound 0 (map attribute_view xs) (omega arith) h in
    omega arith
