-- The summary of a log is that of its content.
use Rattle.std.proofs.Common.{◌≡◌, ℕ, zero, suc, ◌+◌, ◌-◌, Bool, true, false, ◌&&◌, not, cond, eqb, leb, ltb, is_some, List, [], ◌∷◌, ◌++◌, length, map, replicate, insert, remove, Option, Some, None, refl, sym, ap, ap₂, ◌∙◌}
use Rattle.lfs_tag.proofs.Common.{option_map, option_and_then, list_all, map-append, length-map, same_Some, tag_type, tag_id, tag_class, LogEntry, block_entries, RawSlot, RawContent, empty_slot, slot_of_id, slot_changed_at, padded_slots, entry_type_bytes, attributes_after, slots_after, content_after_entry, content_after, empty_raw_content, is_known_tag, has_needed_id, create_tag_type, delete_tag_type, slot_mark, is_complete_mark, outline_after, empty_outline}
use Rattle.lfs_model.specs.format.Slots.{Slot, PairContent}
use Rattle.lfs_model.specs.format.Content.{kind_of_type, decoded_struct, decoded_slots, decoded_content}
use Rattle.lfs_model.specs.format.EntryTypes.{entry_tail, decoded_gstate}
use Rattle.lfs_tag.specs.declared.summary.SlotSummary.{SlotSummary}
use Rattle.lfs_tag.specs.Summary.{id_mark, marks_with_change, padded_marks, empty_mark, marks_after_entry, LogOutline, content_outline, outline_after_entry}
use Rattle.lfs_tag.proofs.Places.{map-insert, map-remove}

-- ---- one slot

mark_at : (slots : List RawSlot) (i : ℕ) → id_mark (map slot_mark slots) i ≡ slot_mark (slot_of_id slots i)
mark_at [] i = refl
mark_at (s ∷ slots) zero = refl
mark_at (s ∷ slots) (suc i) = mark_at slots i

change_marks : (f : RawSlot → RawSlot) (g : SlotSummary → SlotSummary) → ((s : RawSlot) → slot_mark (f s) ≡ g (slot_mark s)) → (slots : List RawSlot) (i : ℕ) → map slot_mark (slot_changed_at f slots i) ≡ marks_with_change g (map slot_mark slots) i
change_marks f g same [] i = refl
change_marks f g same (s ∷ slots) zero = ap (λ m. m ∷ map slot_mark slots) (same s)
change_marks f g same (s ∷ slots) (suc i) = ap (λ ms. slot_mark s ∷ ms) (change_marks f g same slots i)

marked_as_it_is : (marks : List SlotSummary) (i : ℕ) → marks_with_change (λ m. m) marks i ≡ marks
marked_as_it_is [] i = refl
marked_as_it_is (m ∷ marks) zero = refl
marked_as_it_is (m ∷ marks) (suc i) = ap (λ ms. m ∷ ms) (marked_as_it_is marks i)

empty_marks : (n : ℕ) → map slot_mark (replicate n empty_slot) ≡ replicate n empty_mark
empty_marks zero = refl
empty_marks (suc n) = ap (λ ms. empty_mark ∷ ms) (empty_marks n)

up_to_marks : (slots : List RawSlot) (i : ℕ) → map slot_mark (padded_slots slots i) ≡ padded_marks (map slot_mark slots) i
up_to_marks slots i =
    map-append slot_mark slots (replicate (i + 1 - length slots) empty_slot)
    ∙ ap (λ ms. map slot_mark slots ++ ms) (empty_marks (i + 1 - length slots) ∙ ap (λ n. replicate (i + 1 - n) empty_mark) (sym (length-map slots slot_mark)))

-- ---- one entry

either : {A B : Type 0} (f : A → B) (a create within delete there named struct : Bool) (x y z u v : A) (x2 y2 z2 u2 v2 : B) → f x ≡ x2 → f y ≡ y2 → f z ≡ z2 → f u ≡ u2 → f v ≡ v2
    → option_map f (cond a (Some x) (cond create (cond within (Some y) None) (cond delete (cond there (Some z) None) (cond (not named) None (cond struct (Some u) (Some v))))))
    ≡ cond a (Some x2) (cond create (cond within (Some y2) None) (cond delete (cond there (Some z2) None) (cond (not named) None (cond struct (Some u2) (Some v2)))))
either f true create within delete there named struct x y z u v x2 y2 z2 u2 v2 a b c d e = ap Some a
either f false true true delete there named struct x y z u v x2 y2 z2 u2 v2 a b c d e = ap Some b
either f false true false delete there named struct x y z u v x2 y2 z2 u2 v2 a b c d e = refl
either f false false within true true named struct x y z u v x2 y2 z2 u2 v2 a b c d e = ap Some c
either f false false within true false named struct x y z u v x2 y2 z2 u2 v2 a b c d e = refl
either f false false within false there true true x y z u v x2 y2 z2 u2 v2 a b c d e = ap Some d
either f false false within false there true false x y z u v x2 y2 z2 u2 v2 a b c d e = ap Some e
either f false false within false there false struct x y z u v x2 y2 z2 u2 v2 a b c d e = refl

slots_marked : (slots : List RawSlot) (e : LogEntry) → option_map (map slot_mark) (slots_after slots e) ≡ marks_after_entry (map slot_mark slots) e
slots_marked slots e =
    either (map slot_mark) (eqb (tag_class e.tag) 0) (eqb (tag_type e.tag) create_tag_type) (leb i (length slots)) (eqb (tag_type e.tag) delete_tag_type) (ltb i (length slots)) (is_some (slot_of_id slots i).name) (eqb (tag_class e.tag) 2)
    (slot_changed_at (λ s. record s { name = entry_type_bytes e }) (padded_slots slots i) i) (insert slots i empty_slot) (remove slots i) (slot_changed_at (λ s. record s { struct = entry_type_bytes e }) slots i) (slot_changed_at (λ s. record s { attributes = attributes_after e s.attributes }) slots i)
    named (insert marks i empty_mark) (remove marks i) structured marks
    (change_marks (λ s. record s { name = entry_type_bytes e }) (λ m. record m { has_name = true }) (λ s. refl) (padded_slots slots i) i ∙ ap (λ ms. marks_with_change (λ m. record m { has_name = true }) ms i) (up_to_marks slots i))
    (map-insert slot_mark slots i empty_slot)
    (map-remove slot_mark slots i)
    (change_marks (λ s. record s { struct = entry_type_bytes e }) (λ m. record m { has_struct = true }) (λ s. refl) slots i)
    (change_marks (λ s. record s { attributes = attributes_after e s.attributes }) (λ m. m) (λ s. refl) slots i ∙ marked_as_it_is marks i)
    ∙ ap₂ tested (sym (length-map slots slot_mark)) (sym (ap (λ m. m.has_name) (mark_at slots i)))
  where
    i : ℕ
    i = tag_id e.tag

    marks : List SlotSummary
    marks = map slot_mark slots

    named : List SlotSummary
    named = marks_with_change (λ m. record m { has_name = true }) (padded_marks marks i) i

    structured : List SlotSummary
    structured = marks_with_change (λ m. record m { has_struct = true }) marks i

    tested : ℕ → Bool → Option (List SlotSummary)
    tested count is_named =
        cond (eqb (tag_class e.tag) 0) (Some named)
        (cond (eqb (tag_type e.tag) create_tag_type) (cond (leb i count) (Some (insert marks i empty_mark)) None)
        (cond (eqb (tag_type e.tag) delete_tag_type) (cond (ltb i count) (Some (remove marks i)) None)
        (cond (not is_named) None
        (cond (eqb (tag_class e.tag) 2) (Some structured) (Some marks)))))

-- ---- all entries

entry_outlined : (c : RawContent) (e : LogEntry) → option_map content_outline (content_after_entry c e) ≡ outline_after_entry (content_outline c) e
entry_outlined c e = go (eqb (tag_class e.tag) 5) (is_known_tag e.tag && has_needed_id e.tag) (eqb (tag_class e.tag) 6) (eqb (tag_class e.tag) 7) (slots_after c.slots e) (slots_marked c.slots e)
  where
    slots : (o : Option (List RawSlot)) → option_map content_outline (option_map (λ slots. record c { slots = slots }) o) ≡ option_map (λ marks. record (content_outline c) { marks = marks }) (option_map (map slot_mark) o)
    slots None = refl
    slots (Some s) = refl

    go : (checksum fits tail move : Bool) (o : Option (List RawSlot)) → option_map (map slot_mark) o ≡ marks_after_entry (map slot_mark c.slots) e
        → option_map content_outline (cond checksum (Some c) (cond (not fits) None (cond tail (Some (record c { tail = entry_tail e })) (cond move (Some (record c { move = decoded_gstate e.bytes })) (option_map (λ slots. record c { slots = slots }) o)))))
        ≡ cond checksum (Some (content_outline c)) (cond (not fits) None (cond tail (Some (record (content_outline c) { tail = entry_tail e })) (cond move (Some (record (content_outline c) { move = decoded_gstate e.bytes })) (option_map (λ marks. record (content_outline c) { marks = marks }) (marks_after_entry (map slot_mark c.slots) e)))))
    go true fits tail move o same = refl
    go false false tail move o same = refl
    go false true true move o same = refl
    go false true false true o same = refl
    go false true false false o same = slots o ∙ ap (option_map (λ marks. record (content_outline c) { marks = marks })) same

pub outlined : (c : RawContent) (es : List LogEntry) → option_map content_outline (content_after c es) ≡ outline_after (content_outline c) es
outlined c [] = refl
outlined c (e ∷ es) = go (content_after_entry c e) (λ d. outlined d es) ∙ ap (option_and_then (λ p. outline_after p es)) (entry_outlined c e)
  where
    go : (o : Option RawContent) → ((d : RawContent) → option_map content_outline (content_after d es) ≡ outline_after (content_outline d) es)
        → option_map content_outline (option_and_then (λ d. content_after d es) o) ≡ option_and_then (λ p. outline_after p es) (option_map content_outline o)
    go None rest = refl
    go (Some d) rest = rest d

-- ---- complete slots

whole_slots : (slots : List RawSlot) → list_all is_complete_mark (map slot_mark slots) ≡ is_some (decoded_slots slots)
whole_slots [] = refl
whole_slots (s ∷ slots) = by_parts (λ name struct. record { kind = kind_of_type name.0; name = name.1; struct = decoded_struct struct.0 struct.1; attributes = s.attributes }) s.name s.struct (decoded_slots slots) (whole_slots slots)
  where
    by_parts : (make : ℕ × List ℕ → ℕ × List ℕ → Slot) (name struct : Option (ℕ × List ℕ)) (others : Option (List Slot)) → list_all is_complete_mark (map slot_mark slots) ≡ is_some others
        → ((is_some name && is_some struct) && list_all is_complete_mark (map slot_mark slots)) ≡ is_some (option_and_then (λ t. option_map (λ ts. t ∷ ts) others) (option_and_then (λ n. option_map (λ p. make n p) struct) name))
    by_parts make None struct others same = refl
    by_parts make (Some n) None others same = refl
    by_parts make (Some n) (Some p) None same = same
    by_parts make (Some n) (Some p) (Some ts) same = same

pub whole_content : (c : RawContent) → list_all is_complete_mark (map slot_mark c.slots) ≡ is_some (decoded_content c)
whole_content c = whole_slots c.slots ∙ go (decoded_slots c.slots)
  where
    the_content : List Slot → PairContent
    the_content slots = record { slots = slots; tail = c.tail; move = c.move }

    go : (o : Option (List Slot)) → is_some o ≡ is_some (option_map (λ slots. the_content slots) o)
    go None = refl
    go (Some slots) = refl

-- ---- the log

pub of_content : (block : List ℕ) (o : LogOutline) → outline_after empty_outline (block_entries block) ≡ Some o → (c : RawContent) × (content_after empty_raw_content (block_entries block) ≡ Some c) × (content_outline c ≡ o)
of_content block o h = go (content_after empty_raw_content (block_entries block)) refl (outlined empty_raw_content (block_entries block) ∙ h)
  where
    go : (d : Option RawContent) → content_after empty_raw_content (block_entries block) ≡ d → option_map content_outline (content_after empty_raw_content (block_entries block)) ≡ Some o → (c : RawContent) × (content_after empty_raw_content (block_entries block) ≡ Some c) × (content_outline c ≡ o)
    go None is same = absurd (let z : None ≡ Some o = sym (ap (option_map content_outline) is) ∙ same in cc)
    go (Some c) is same = (c, is, same_Some (content_outline c) o (sym (ap (option_map content_outline) is) ∙ same))

pub no_content_where_none : (block : List ℕ) → outline_after empty_outline (block_entries block) ≡ None → content_after empty_raw_content (block_entries block) ≡ None
no_content_where_none block h = go (content_after empty_raw_content (block_entries block)) (outlined empty_raw_content (block_entries block) ∙ h)
  where
    go : (d : Option RawContent) → option_map content_outline d ≡ None → d ≡ None
    go None same = refl
    go (Some c) same = absurd (cc)
