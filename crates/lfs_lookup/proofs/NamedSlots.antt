-- A search among the slots of a log, as one among the slots of its content.
use Rattle.std.proofs.Common.{ℕ, zero, suc, ◌≡◌, ◌⊎◌, inl, inr, ◌<◌, ◌==◌, ◌&&◌, Bool, true, false, cond, not, List, [], ◌∷◌, ◌++◌, length, length-append, rules, Option, Some, None, T, refl, sym, ap, ap₂, slice_get, subst, ◌∙◌, arith, eqb-true, Ordering, Less, Equal, Greater}
use Rattle.std.specs.Prelude.{IsSome}
use Rattle.lfs_lookup.proofs.Common.{option_and_then, option_map, option_map_or, AllByRecursion, ne_eqb, same_Some, Name, name_cmp, same_name, is_less, Slot, PairContent, is_superblock, is_superblock_kind, RawSlot, RawContent, decoded_content, decoded_slot, decoded_slots, slot_of_id, kind_of_type, decoded_struct, begins_with_superblock, IsNameOrStruct, IsNameOrStructIfAny, IsWellFormedSlot, AreWellFormed, IsWellFormed, complete_parts, completed_parts, entry_slots, HasName, BeginsWithGreaterName, NameBelongsAtId, IsNameAbsentExcept}
use Rattle.std.specs.Ordering.{ordering_reverse}
use Rattle.std.proofs.Math.Dec.{eqb_refl}
use Rattle.lfs_model.proofs.Orders.{name_order, same_by}
use Rattle.lfs_model.specs.declared.order.NameOrder.{NameOrder}
use Rattle.lfs_model.specs.format.Names.{is_equal}
use Rattle.lfs_model.specs.format.EntryTypes.{file_name_type, directory_name_type, superblock_name_type}
use Rattle.lfs_model.specs.layers.Lookup.{entry_name, passes_name_test, comes_after, IsNameId, IsInsertionId}
use Rattle.lfs_model.proofs.Paths.{name_from_same, same_itself}
use Rattle.lfs_model.proofs.FirstEntries.{superblock_type}
use Rattle.lfs_tag.specs.ContentView.{part_view}
use Rattle.lfs_tag.specs.declared.content.NameOrStruct.{NameOrStruct}

-- ---- one slot

pub entry_is : (s : RawSlot) (t : Slot) → IsWellFormedSlot s → decoded_slot s ≡ Some t → entry_name s ≡ cond (is_superblock t) None (Some t.name)
entry_is s t h e = go s.name s.struct h.name e
  where
    go : (n p : Option (ℕ × List ℕ)) → IsNameOrStructIfAny 0 n →
        option_and_then (λ name. option_map (λ struct. record { kind = kind_of_type name.0; name = name.1; struct = decoded_struct struct.0 struct.1; attributes = s.attributes }) p) n ≡ Some t →
        option_and_then (λ name. cond (name.0 == superblock_name_type) None (Some name.1)) n ≡ cond (is_superblock t) None (Some t.name)
    go None p k f = absurd (cc)
    go (Some n) None k f = absurd (cc)
    go (Some n) (Some p) k f = by_type (n.0 == file_name_type) (n.0 == directory_name_type) refl refl
        ∙ ap (λ (x : Slot). cond (is_superblock x) None (Some x.name)) (same_Some (record { kind = kind_of_type n.0; name = n.1; struct = decoded_struct p.0 p.1; attributes = s.attributes }) t f)
      where
        by_type : (a b : Bool) → (n.0 == file_name_type) ≡ a → (n.0 == directory_name_type) ≡ b →
            cond (n.0 == superblock_name_type) None (Some n.1) ≡ cond (is_superblock_kind (kind_of_type n.0)) None (Some n.1)
        by_type true b ea eb =
            let is = eqb-true n.0 file_name_type ea in
            ap (λ x. cond (x == superblock_name_type) None (Some n.1)) is ∙ sym (ap (λ x. cond (is_superblock_kind (kind_of_type x)) None (Some n.1)) is)
        by_type false true ea eb =
            let is = eqb-true n.0 directory_name_type eb in
            ap (λ x. cond (x == superblock_name_type) None (Some n.1)) is ∙ sym (ap (λ x. cond (is_superblock_kind (kind_of_type x)) None (Some n.1)) is)
        by_type false false ea eb =
            let is = superblock_type n.0 n.1 k ea eb in
            ap (λ x. cond (x == superblock_name_type) None (Some n.1)) is ∙ sym (ap (λ x. cond (is_superblock_kind (kind_of_type x)) None (Some n.1)) is)

-- ---- a test of the slot at an id

-- an entry whose name passes
abbrev passing : (Name → Bool) → Slot → Bool
passing passes t = cond (is_superblock t) false (passes t.name)

and_true : (b : Bool) → (b && true) ≡ b
and_true true = refl
and_true false = refl

named_first : (passes : Name → Bool) (s : RawSlot) (rest : List RawSlot) (t : Slot) → IsWellFormedSlot s → decoded_slot s ≡ Some t → passes_name_test passes None (s ∷ rest) 0 ≡ passing passes t
named_first passes s rest t h e = and_true (option_map_or passes (entry_name s) false) ∙ ap (λ o. option_map_or passes o false) (entry_is s t h e) ∙ go (is_superblock t)
  where
    go : (b : Bool) → option_map_or passes (cond b None (Some t.name)) false ≡ cond b false (passes t.name)
    go true = refl
    go false = refl

record Passes (passes : Name → Bool) (t : Slot) : Type 0 where
  entry : is_superblock t ≡ false
  named : passes t.name ≡ true

passed : (passes : Name → Bool) (t : Slot) → passing passes t ≡ true → Passes passes t
passed passes t h = go (is_superblock t) refl h
  where
    go : (b : Bool) → is_superblock t ≡ b → cond b false (passes t.name) ≡ true → Passes passes t
    go true e k = absurd (cc)
    go false e k = record { entry = e; named = k }

not_passed : (passes : Name → Bool) (t : Slot) → passing passes t ≡ false → is_superblock t ≡ false → passes t.name ≡ false
not_passed passes t h e = sym (ap (λ b. cond b false (passes t.name)) e) ∙ h

-- ---- found

pub stands : (name : Name) (raw : List RawSlot) (slots : List Slot) (id : ℕ) → AreWellFormed raw → decoded_slots raw ≡ Some slots → passes_name_test (same_name name) None raw id ≡ true → HasName slots name id
stands name [] slots id h e k = absurd (cc)
stands name (s ∷ raw) slots zero h e k =
    let p = complete_parts s raw slots e in
    let ok = passed (same_name name) p.first (sym (named_first (same_name name) s raw p.first h.0 p.is_first) ∙ k) in
    record { left = []; slot = p.first; right = p.others; held = p.all_are; number = refl; entry = ok.entry; named = sym (name_from_same name p.first.name ok.named) }
stands name (s ∷ raw) slots (suc id) h e k =
    let p = complete_parts s raw slots e in
    let r = stands name raw p.others id h.1 p.are_others k in
    record { left = p.first ∷ r.left; slot = r.slot; right = r.right; held = p.all_are ∙ ap (λ z. p.first ∷ z) r.held; number = ap suc r.number; entry = r.entry; named = r.named }

-- ---- a place

is_greater : (o : Ordering) → is_equal o ≡ false → is_less o ≡ false → o ≡ Greater
is_greater Less e f = absurd (cc)
is_greater Equal e f = absurd (cc)
is_greater Greater e f = refl

is_below : (o : Ordering) → is_less o ≡ true → o ≡ Less
is_below Less e = refl
is_below Equal e = absurd (cc)
is_below Greater e = absurd (cc)

less_first : (by : NameOrder) (name : Name) (t : Slot) (slots : List Slot) → passing (same_name name) t ≡ false → passing (comes_after by name) t ≡ false
    → AllByRecursion (λ s. name_cmp by s.name name ≡ Less) (entry_slots slots) → AllByRecursion (λ s. name_cmp by s.name name ≡ Less) (entry_slots (t ∷ slots))
less_first by name t slots same behind rest = go (is_superblock t) refl
  where
    go : (b : Bool) → is_superblock t ≡ b → AllByRecursion (λ s. name_cmp by s.name name ≡ Less) (cond (not b) (t ∷ entry_slots slots) (entry_slots slots))
    go true e = rest
    go false e =
        let g = is_greater (name_cmp by name t.name) (same_by by name t.name ∙ not_passed (same_name name) t same e) (not_passed (comes_after by name) t behind e) in
        ((name_order by).antisymm t.name name ∙ ap ordering_reverse g, rest)

pub belongs : {by : NameOrder} (name : Name) (raw : List RawSlot) (slots : List Slot) (id : ℕ) → AreWellFormed raw → decoded_slots raw ≡ Some slots → IsInsertionId by name None raw id → NameBelongsAtId by slots name id
belongs {by} name raw slots zero h e p = record { left = []; right = slots; held = refl; number = refl; less = tt; greater = go raw slots h e p.greater; fronted = plain raw slots h e p.greater }
  where
    go : (raw : List RawSlot) (slots : List Slot) → AreWellFormed raw → decoded_slots raw ≡ Some slots → (0 < length raw → passes_name_test (comes_after by name) None raw 0 ≡ true) → (slots ≡ []) ⊎ BeginsWithGreaterName by name (entry_slots slots)
    go [] slots h e k = inl (sym (same_Some [] slots e))
    go (s ∷ raw) slots h e k =
        let p = complete_parts s raw slots e in
        let ok = passed (comes_after by name) p.first (sym (named_first (comes_after by name) s raw p.first h.0 p.is_first) ∙ k (omega arith)) in
        inr (record {
          first = p.first;
          rest = entry_slots p.others;
          are = ap entry_slots p.all_are ∙ ap (λ b. cond (not b) (p.first ∷ entry_slots p.others) (entry_slots p.others)) ok.entry;
          above = is_below (name_cmp by name p.first.name) ok.named;
        })

    plain : (raw : List RawSlot) (slots : List Slot) → AreWellFormed raw → decoded_slots raw ≡ Some slots → (0 < length raw → passes_name_test (comes_after by name) None raw 0 ≡ true) → begins_with_superblock slots ≡ false
    plain [] slots h e k = ap begins_with_superblock (sym (same_Some [] slots e))
    plain (s ∷ raw) slots h e k =
        let p = complete_parts s raw slots e in
        let ok = passed (comes_after by name) p.first (sym (named_first (comes_after by name) s raw p.first h.0 p.is_first) ∙ k (omega arith)) in
        ap begins_with_superblock p.all_are ∙ ok.entry
belongs {by} name [] slots (suc id) h e p = absurd (let w = p.within in omega arith)
belongs {by} name (s ∷ raw) slots (suc id) h e p =
    let c = complete_parts s raw slots e in
    let r = belongs name raw c.others id h.1 c.are_others (record {
      absent = λ other. p.absent (suc other);
      least = λ other l. p.least (suc other) (omega arith);
      greater = λ l. p.greater (omega arith);
      within = let w = p.within in omega arith;
    }) in
    record {
      left = c.first ∷ r.left;
      right = r.right;
      held = c.all_are ∙ ap (λ z. c.first ∷ z) r.held;
      number = ap suc r.number;
      less = less_first by name c.first r.left (sym (named_first (same_name name) s raw c.first h.0 c.is_first) ∙ p.absent 0) (sym (named_first (comes_after by name) s raw c.first h.0 c.is_first) ∙ p.least 0 (omega arith)) r.less;
      greater = r.greater;
      fronted = r.fronted;
    }

-- ---- the slot at an id

-- what is read at an id is what stands there
pub record IsReadAt (raw : List RawSlot) (id : ℕ) (t : Slot) : Type 0 where
  pub part : ℕ × List ℕ
  pub is : (slot_of_id raw id).struct ≡ Some part
  pub is_part : IsNameOrStruct 2 part
  pub struct : t.struct ≡ decoded_struct part.0 part.1

read_first : (s : RawSlot) (raw : List RawSlot) (t : Slot) → IsWellFormedSlot s → decoded_slot s ≡ Some t → IsReadAt (s ∷ raw) 0 t
read_first s raw t h e = go s.name s.struct refl h.struct e
  where
    go : (n p : Option (ℕ × List ℕ)) → s.struct ≡ p → IsNameOrStructIfAny 2 p
        → option_and_then (λ name. option_map (λ struct. record { kind = kind_of_type name.0; name = name.1; struct = decoded_struct struct.0 struct.1; attributes = s.attributes }) p) n ≡ Some t → IsReadAt (s ∷ raw) 0 t
    go None p is k f = absurd (cc)
    go (Some n) None is k f = absurd (cc)
    go (Some n) (Some p) is k f = record {
      part = p;
      is = is;
      is_part = k;
      struct = ap (λ (x : Slot). x.struct) (sym (same_Some (record { kind = kind_of_type n.0; name = n.1; struct = decoded_struct p.0 p.1; attributes = s.attributes }) t f));
    }

pub read_at : (raw : List RawSlot) (slots left : List Slot) (t : Slot) (right : List Slot) → AreWellFormed raw → decoded_slots raw ≡ Some slots → slots ≡ left ++ t ∷ right → IsReadAt raw (length left) t
read_at [] slots left t right h e is = absurd (let k = ap length (same_Some [] slots e ∙ is) in let l = length-append left (t ∷ right) in omega (arith, k, l))
read_at (s ∷ raw) slots [] t right h e is =
    let p = complete_parts s raw slots e in
    let same : p.first ≡ t = let k = sym p.all_are ∙ is in cc in
    read_first s raw t h.0 (p.is_first ∙ ap Some same)
read_at (s ∷ raw) slots (x ∷ left) t right h e is =
    let p = complete_parts s raw slots e in
    let same : p.others ≡ left ++ t ∷ right = let k = sym p.all_are ∙ is in cc in
    let r = read_at raw p.others left t right h.1 p.are_others same in
    record { part = r.part; is = r.is; is_part = r.is_part; struct = r.struct }

-- ---- the answer of a search

-- the name by which a slot can be looked up
name_at_id : (raw : List RawSlot) (slots : List Slot) (id : ℕ) (t : Slot) → AreWellFormed raw → decoded_slots raw ≡ Some slots → slice_get slots id ≡ Some t → entry_name (slot_of_id raw id) ≡ cond (is_superblock t) None (Some t.name)
name_at_id [] slots id t h e is = absurd (let k : slots ≡ [] = sym (same_Some [] slots e) in let m = ap (λ z. slice_get z id) k in cc)
name_at_id (s ∷ raw) slots zero t h e is =
    let p = complete_parts s raw slots e in
    let same : p.first ≡ t = let k = sym (ap (λ z. slice_get z 0) p.all_are) ∙ is in cc in
    entry_is s t h.0 (p.is_first ∙ ap Some same)
name_at_id (s ∷ raw) slots (suc id) t h e is =
    let p = complete_parts s raw slots e in
    name_at_id raw p.others id t h.1 p.are_others (sym (ap (λ z. slice_get z (suc id)) p.all_are) ∙ is)

-- what is named and not passed over
record IsKept (a b : Bool) : Type 0 where
  named : a ≡ true
  kept : b ≡ false

kept_from : (a b : Bool) → (a && not b) ≡ true → IsKept a b
kept_from true false e = record { named = refl; kept = refl }
kept_from true true e = absurd (cc)
kept_from false b e = absurd (cc)

pub same_id : (n : ℕ) → (n == n) ≡ true
same_id n = T_true (n == n) (eqb_refl n)
  where
    T_true : (b : Bool) → T b → b ≡ true
    T_true true h = refl
    T_true false h = absurd h

not_skipped : (skip : Option ℕ) (id : ℕ) → option_map_or (λ k. k == id) skip false ≡ false → skip ≡ Some id → ⊥
not_skipped skip id e is = absurd (let k = sym (ap (λ o. option_map_or (λ k. k == id) o false) is) ∙ e in let m = same_id id in cc)

skip_false : (skip : Option ℕ) (id : ℕ) → (skip ≡ Some id → ⊥) → option_map_or (λ k. k == id) skip false ≡ false
skip_false None id h = refl
skip_false (Some k) id h = ne_eqb k id (λ e. h (ap Some e))

module _ (by : NameOrder) (content : PairContent) (name : Name) (skip : Option ℕ) (raw : RawContent) (logged : IsWellFormed raw) (decoded_slot : decoded_content raw ≡ Some content) where
  pub stands_in : (id : ℕ) → IsNameId name skip raw.slots id → HasName content.slots name id
  stands_in id found =
      let k = kept_from (option_map_or (same_name name) (entry_name (slot_of_id raw.slots id)) false) (option_map_or (λ k. k == id) skip false) found.named in
      stands name raw.slots content.slots id logged.slots (completed_parts raw content decoded_slot).slots (and_true (option_map_or (same_name name) (entry_name (slot_of_id raw.slots id)) false) ∙ k.named)

  pub kept_in : (id : ℕ) → IsNameId name skip raw.slots id → skip ≡ Some id → ⊥
  kept_in id found is =
      let k = kept_from (option_map_or (same_name name) (entry_name (slot_of_id raw.slots id)) false) (option_map_or (λ k. k == id) skip false) found.named in
      not_skipped skip id k.kept is

  pub belongs_in : (id : ℕ) → IsInsertionId by name skip raw.slots id → skip ≡ None → NameBelongsAtId by content.slots name id
  belongs_in id place none = belongs name raw.slots content.slots id logged.slots (completed_parts raw content decoded_slot).slots (subst (λ o. IsInsertionId by name o raw.slots id) none place)

  pub absent_in : (id : ℕ) → IsInsertionId by name skip raw.slots id → IsNameAbsentExcept skip content.slots name
  absent_in id place other s at entry not_passed same =
      let n = name_at_id raw.slots content.slots other s logged.slots (completed_parts raw content decoded_slot).slots at in
      let m = ap (λ b. option_map_or (same_name name) (cond b None (Some s.name)) false) entry in
      let w = ap (same_name name) same ∙ same_itself name in
      let f = skip_false skip other not_passed in
      absurd (let k = sym (ap₂ (λ o b. option_map_or (same_name name) o false && not b) n f) ∙ place.absent other in
      let j = sym (ap (λ x. x && true) (m ∙ w)) ∙ k in cc)

  pub read_there : (id : ℕ) (s : HasName content.slots name id) → IsReadAt raw.slots id s.slot
  read_there id s = subst (λ (i : ℕ). IsReadAt raw.slots i s.slot) s.number (read_at raw.slots content.slots s.left s.slot s.right logged.slots (completed_parts raw content decoded_slot).slots s.held)

-- ---- a part that is read

pub some_part : (o : Option NameOrStruct) (held : Option (ℕ × List ℕ)) (part : ℕ × List ℕ) → option_map part_view o ≡ held → held ≡ Some part → IsSome o
some_part None held part e f = absurd (let k = e ∙ f in cc)
some_part (Some p) held part e f = search rules

pub part_is : (o : Option NameOrStruct) (p : NameOrStruct) (held : Option (ℕ × List ℕ)) (part : ℕ × List ℕ) → o ≡ Some p → option_map part_view o ≡ held → held ≡ Some part → part_view p ≡ part
part_is o p held part is e f = same_Some (part_view p) part (sym (ap (option_map part_view) is) ∙ e ∙ f)
