-- The effect of one entry on the slots, by its kind.
use Rattle.std.proofs.Common.{◌≡◌, ◌≢◌, ℕ, ◌<◌, ◌≤◌, Bool, true, false, ◌&&◌, not, cond, eqb, ltb, leb, is_some, List, length, insert, remove, Option, Some, None, refl, sym, ap, ◌∙◌, arith, inl, inr, ◌⊎◌}
use Rattle.lfs_tag.proofs.Common.{option_map, cases_lt, eqb-true, nat_tests, same_Some, get_or_past, tag_type, tag_id, tag_class, LogEntry, RawSlot, RawContent, empty_slot, slot_of_id, slot_changed_at, padded_slots, entry_type_bytes, attributes_after, slots_after, content_after_entry, is_known_tag, has_needed_id, is_attribute_removal, create_tag_type, delete_tag_type}
use Rattle.std.proofs.lemmas.Bool.{ltb-true, leb-true}
use Rattle.std.proofs.lemmas.Option.{cond_some}

-- the slots before an entry and after it
pub data Effect (s t : List RawSlot) (e : LogEntry) : Type 0 where
  rests : 5 ≤ tag_class e.tag → t ≡ s → Effect s t e
  names : tag_class e.tag ≡ 0 → is_attribute_removal e.tag ≡ false → t ≡ slot_changed_at (λ r. record r { name = entry_type_bytes e }) (padded_slots s (tag_id e.tag)) (tag_id e.tag) → Effect s t e
  creates : tag_class e.tag ≡ 4 → tag_type e.tag ≡ create_tag_type → tag_id e.tag ≤ length s → t ≡ insert s (tag_id e.tag) empty_slot → Effect s t e
  deletes : tag_class e.tag ≡ 4 → tag_type e.tag ≢ create_tag_type → tag_id e.tag < length s → t ≡ remove s (tag_id e.tag) → Effect s t e
  structures : tag_class e.tag ≡ 2 → is_attribute_removal e.tag ≡ false → tag_id e.tag < length s → t ≡ slot_changed_at (λ r. record r { struct = entry_type_bytes e }) s (tag_id e.tag) → Effect s t e
  attributes : tag_class e.tag ≡ 3 → tag_id e.tag < length s → t ≡ slot_changed_at (λ r. record r { attributes = attributes_after e r.attributes }) s (tag_id e.tag) → Effect s t e

-- which way a test went
chosen : {A : Type 0} (b : Bool) (x y z : A) → cond b x y ≡ z → ((b ≡ true) × (x ≡ z)) ⊎ ((b ≡ false) × (y ≡ z))
chosen true x y z h = inl (refl, h)
chosen false x y z h = inr (refl, h)

-- only an attribute is removed
keeps : (tag : ℕ) → is_known_tag tag ≡ true → tag_class tag ≢ 3 → is_attribute_removal tag ≡ false
keeps tag h other = by_test (is_attribute_removal tag) _ h
  where
    by_test : (b rest : Bool) → cond b (eqb (tag_class tag) 3) rest ≡ true → b ≡ false
    by_test true rest h = absurd (other (eqb-true _ _ h))
    by_test false rest h = refl

-- the classes of the table's types
table_class : (tag : ℕ) → is_known_tag tag ≡ true → tag_type tag ≢ create_tag_type → tag_type tag ≢ delete_tag_type → tag_class tag ≢ 0 → tag_class tag ≢ 2 → tag_class tag < 5 → tag_class tag ≡ 3
table_class tag h create delete zero two small = by_test (eqb (tag_class tag) 3) refl
  where
    by_len : (b : Bool) → cond b false false ≡ true → ⊥
    by_len true h = cc
    by_len false h = cc

    by_test : (b : Bool) → eqb (tag_class tag) 3 ≡ b → tag_class tag ≡ 3
    by_test true is = eqb-true _ _ is
    by_test false is =
        let a : eqb (tag_type tag) 1 ≡ false = grind (arith, nat_tests) in
        let b : eqb (tag_type tag) 2 ≡ false = grind (arith, nat_tests) in
        let c : eqb (tag_type tag) 0x201 ≡ false = grind (arith, nat_tests) in
        let d : eqb (tag_type tag) 0xff ≡ false = grind (arith, nat_tests) in
        let e : eqb (tag_type tag) 0x200 ≡ false = grind (arith, nat_tests) in
        let f : eqb (tag_type tag) 0x202 ≡ false = grind (arith, nat_tests) in
        let g : eqb (tag_type tag) 0x600 ≡ false = grind (arith, nat_tests) in
        let i : eqb (tag_type tag) 0x601 ≡ false = grind (arith, nat_tests) in
        let j : eqb (tag_type tag) 0x401 ≡ false = grind (arith, nat_tests) in
        let k : eqb (tag_type tag) 0x4ff ≡ false = grind (arith, nat_tests) in
        let l : eqb (tag_type tag) 0x7ff ≡ false = grind (arith, nat_tests) in
        absurd (by_len (is_attribute_removal tag) (rw (is, a, b, c, d, e, f, g, i, j, k, l) at h))

there_is : (s : List RawSlot) (id : ℕ) → not (is_some (slot_of_id s id).name) ≡ false → id < length s
there_is s id h =
    elim (cases_lt id (length s)) [
      | inl lt ↦ lt
      | inr le ↦ absurd (let past = get_or_past s id empty_slot le in let g = rw past at h in cc)
    ]

spliced : (s t : List RawSlot) (e : LogEntry) → tag_class e.tag < 5 → is_known_tag e.tag ≡ true → slots_after s e ≡ Some t → Effect s t e
spliced s t e small table h =
    elim (chosen (eqb (tag_class e.tag) 0) _ _ (Some t) h) [
      | inl a ↦ names (eqb-true _ _ a.0) (keeps e.tag table (grind (arith, nat_tests, a.0))) (sym (same_Some _ _ a.1))
      | inr a ↦ elim (chosen (eqb (tag_type e.tag) create_tag_type) _ _ (Some t) a.1) [
        | inl b ↦
            let c = cond_some (leb (tag_id e.tag) (length s)) _ t b.1 in
            creates (grind (arith, nat_tests, b.0)) (eqb-true _ _ b.0) (leb-true _ _ c.0) (sym c.1)
        | inr b ↦ elim (chosen (eqb (tag_type e.tag) delete_tag_type) _ _ (Some t) b.1) [
          | inl c ↦
              let d = cond_some (ltb (tag_id e.tag) (length s)) _ t c.1 in
              deletes (grind (arith, nat_tests, c.0)) (grind (arith, nat_tests, b.0)) (ltb-true _ _ d.0) (sym d.1)
          | inr c ↦ elim (chosen (not (is_some (slot_of_id s (tag_id e.tag)).name)) _ _ (Some t) c.1) [
            | inl d ↦ absurd (let none : None ≡ Some t = d.1 in cc)
            | inr d ↦ elim (chosen (eqb (tag_class e.tag) 2) _ _ (Some t) d.1) [
              | inl f ↦ structures (eqb-true _ _ f.0) (keeps e.tag table (grind (arith, nat_tests, f.0))) (there_is s (tag_id e.tag) d.0) (sym (same_Some _ _ f.1))
              | inr f ↦
                  let three = table_class e.tag table (grind (arith, nat_tests, b.0)) (grind (arith, nat_tests, c.0)) (grind (arith, nat_tests, a.0)) (grind (arith, nat_tests, f.0)) small in
                  attributes three (there_is s (tag_id e.tag) d.0) (sym (same_Some _ _ f.1))
            ]
          ]
        ]
      ]
    ]

pub effect : (s t : RawContent) (e : LogEntry) → content_after_entry s e ≡ Some t → Effect s.slots t.slots e
effect s t e h =
    elim (chosen (eqb (tag_class e.tag) 5) _ _ (Some t) h) [
      | inl a ↦ rests (grind (arith, nat_tests, a.0)) (ap (λ (x : RawContent). x.slots) (sym (same_Some _ _ a.1)))
      | inr a ↦ elim (chosen (not (is_known_tag e.tag && has_needed_id e.tag)) _ _ (Some t) a.1) [
        | inl b ↦ absurd (let none : None ≡ Some t = b.1 in cc)
        | inr b ↦ elim (chosen (eqb (tag_class e.tag) 6) _ _ (Some t) b.1) [
          | inl c ↦ rests (grind (arith, nat_tests, c.0)) (ap (λ (x : RawContent). x.slots) (sym (same_Some _ _ c.1)))
          | inr c ↦ elim (chosen (eqb (tag_class e.tag) 7) _ _ (Some t) c.1) [
            | inl d ↦ rests (grind (arith, nat_tests, d.0)) (ap (λ (x : RawContent). x.slots) (sym (same_Some _ _ d.1)))
            | inr d ↦
                let small : tag_class e.tag < 5 = grind (arith, nat_tests, a.0, c.0, d.0) in
                by_slots (slots_after s.slots e) refl small (in_table (is_known_tag e.tag) (has_needed_id e.tag) b.0) d.1
          ]
        ]
      ]
    ]
  where
    in_table : (a b : Bool) → not (a && b) ≡ false → a ≡ true
    in_table true b h = refl
    in_table false b h = absurd (cc)

    by_slots : (o : Option (List RawSlot)) → slots_after s.slots e ≡ o → tag_class e.tag < 5 → is_known_tag e.tag ≡ true → option_map (λ (slots : List RawSlot). record s { slots = slots }) o ≡ Some t → Effect s.slots t.slots e
    by_slots None is small table h = absurd (cc)
    by_slots (Some new) is small table h = spliced s.slots t.slots e small table (is ∙ ap (λ (x : RawContent). Some x.slots) (same_Some _ _ h))
