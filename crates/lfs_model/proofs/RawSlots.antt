-- A slot as it stands in a log, among others.
use Rattle.std.proofs.Common.{ℕ, ◌≡◌, ◌≤◌, ◌+◌, Bool, true, false, cond, not, nat_eq, List, [], ◌∷◌, ◌++◌, length, Option, Some, None, refl, ap, ◌∙◌, arith}
use Rattle.std.specs.Prelude.{is_some}
use Rattle.lfs_model.proofs.Common.{same_Some, sum_by-cons, RawSlot, decoded_slot, decoded_slots, kind_of_type, slot_of_id, decoded_struct, attributes_without, Attributes, Slot, option_and_then, option_map, attributes_size}
use Rattle.lfs_model.proofs.Completed.{complete_parts}

-- it has a name
pub is_named : (s : RawSlot) (t : Slot) → decoded_slot s ≡ Some t → is_some s.name ≡ true
is_named s t h = go s.name h
  where
    go : (o : Option (ℕ × List ℕ)) → option_and_then (λ name. option_map (λ struct. record {
      kind = kind_of_type name.0;
      name = name.1;
      struct = decoded_struct struct.0 struct.1;
      attributes = s.attributes;
    }) s.struct) o ≡ Some t → is_some o ≡ true
    go None k = absurd (cc)
    go (Some n) k = refl

-- with other attributes
pub complete_with : (s : RawSlot) (t : Slot) (f : Attributes → Attributes) → decoded_slot s ≡ Some t → decoded_slot (record s { attributes = f s.attributes }) ≡ Some (record t { attributes = f t.attributes })
complete_with s t f h = go s.name s.struct h
  where
    go : (o q : Option (ℕ × List ℕ)) → option_and_then (λ name. option_map (λ struct. record {
      kind = kind_of_type name.0;
      name = name.1;
      struct = decoded_struct struct.0 struct.1;
      attributes = s.attributes;
    }) q) o ≡ Some t → option_and_then (λ name. option_map (λ struct. record {
      kind = kind_of_type name.0;
      name = name.1;
      struct = decoded_struct struct.0 struct.1;
      attributes = f s.attributes;
    }) q) o ≡ Some (record t { attributes = f t.attributes })
    go None q k = absurd (cc)
    go (Some n) None k = absurd (cc)
    go (Some n) (Some q) k =
        let same = same_Some (record { kind = kind_of_type n.0; name = n.1; struct = decoded_struct q.0 q.1; attributes = s.attributes }) t k in
        ap (λ (x : Slot). Some (record x { attributes = f x.attributes })) same

-- ---- one of several

pub record IsRaw (xs : List RawSlot) (front : List Slot) (u : Slot) : Type 0 where
  pub here : RawSlot
  pub there : slot_of_id xs (length front) ≡ here
  pub is : decoded_slot here ≡ Some u

pub is_raw : (xs : List RawSlot) (front : List Slot) (u : Slot) (back : List Slot) → decoded_slots xs ≡ Some (front ++ u ∷ back) → IsRaw xs front u
is_raw [] front u back e = absurd (none front e)
  where
    none : (front : List Slot) → decoded_slots [] ≡ Some (front ++ u ∷ back) → ⊥
    none [] k = cc
    none (t ∷ front) k = cc
is_raw (x ∷ xs) [] u back e =
    let p = complete_parts x xs (u ∷ back) e in
    record { here = x; there = refl; is = p.is_first ∙ ap Some (first p.all_are) }
  where
    first : {a b : Slot} {us vs : List Slot} → a ∷ us ≡ b ∷ vs → b ≡ a
    first k = cc
is_raw (x ∷ xs) (t ∷ front) u back e =
    let p = complete_parts x xs (t ∷ (front ++ u ∷ back)) e in
    let r = is_raw xs front u back (p.are_others ∙ ap Some (rest p.all_are)) in
    record { here = r.here; there = r.there; is = r.is }
  where
    rest : {a b : Slot} {us vs : List Slot} → a ∷ us ≡ b ∷ vs → vs ≡ us
    rest k = cc

-- ---- attributes

pub fewer_attributes : (kind : ℕ) (attributes : Attributes) → attributes_size (attributes_without kind attributes) ≤ attributes_size attributes
fewer_attributes kind [] = omega arith
fewer_attributes kind (a ∷ rest) = go (nat_eq a.0 kind) (fewer_attributes kind rest)
  where
    go : (b : Bool) → attributes_size (attributes_without kind rest) ≤ attributes_size rest → attributes_size (cond (not b) (a ∷ attributes_without kind rest) (attributes_without kind rest)) ≤ attributes_size (a ∷ rest)
    go true l = omega (arith, sum_by-cons (λ (x : ℕ × List ℕ). 4 + length x.1) a rest)
    go false l = omega (arith, sum_by-cons (λ (x : ℕ × List ℕ). 4 + length x.1) a rest, sum_by-cons (λ (x : ℕ × List ℕ). 4 + length x.1) a (attributes_without kind rest))

-- with another struct
pub complete_struct : (s : RawSlot) (t : Slot) (part : ℕ × List ℕ) → decoded_slot s ≡ Some t → decoded_slot (record s { struct = Some part }) ≡ Some (record t { struct = decoded_struct part.0 part.1 })
complete_struct s t part h = go s.name s.struct h
  where
    go : (o q : Option (ℕ × List ℕ)) → option_and_then (λ name. option_map (λ struct. record {
      kind = kind_of_type name.0;
      name = name.1;
      struct = decoded_struct struct.0 struct.1;
      attributes = s.attributes;
    }) q) o ≡ Some t → option_and_then (λ name. option_map (λ struct. record {
      kind = kind_of_type name.0;
      name = name.1;
      struct = decoded_struct struct.0 struct.1;
      attributes = s.attributes;
    }) (Some part)) o ≡ Some (record t { struct = decoded_struct part.0 part.1 })
    go None q k = absurd (cc)
    go (Some n) None k = absurd (cc)
    go (Some n) (Some q) k =
        let same = same_Some (record { kind = kind_of_type n.0; name = n.1; struct = decoded_struct q.0 q.1; attributes = s.attributes }) t k in
        ap (λ (x : Slot). Some (record x { struct = decoded_struct part.0 part.1 })) same
