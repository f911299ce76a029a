-- What each change does to the slots, the tail and the move state of a pair.
use Rattle.std.proofs.Common.{ℕ, ◌≡◌, ◌+◌, ◌-◌, ◌/◌, ◌%◌, ◌^◌, ◌<◌, ◌≤◌, ◌==◌, ◌&&◌, Bool, true, false, cond, not, List, [], ◌∷◌, ◌++◌, length, take, drop, Some, None, refl, sym, ap, ◌∙◌, arith, replicate, eq-eqb}
use Rattle.std.specs.Prelude.{slice_set, nat_le, is_some}
use Rattle.lfs_model.proofs.Common.{insert, remove, list_all, option_and_then, option_map, ne_eqb, le-leb, lt-ltb, and_from, or_right, append-nil, length-take-le, length-insert, set-append_seam, get_or-append_seam, make_tag, tag_type, tag_id, tag_length, tag_class, LogEntry, Gstate, RawSlot, RawContent, content_after_entry, content_after, slots_after, slot_changed_at, padded_slots, empty_slot, slot_of_id, attributes_with, attributes_without, is_known_tag, allows_any_length, requires_eight_bytes, requires_no_bytes, move_state_type, has_needed_id, is_attribute_removal, no_id, create_tag_type, delete_tag_type, tail_if_not_null, log_entry, first_attribute_type, IsNameOrStruct, AreU32Addresses, MoveStateFits, ContentChange, Create, Delete, PutStruct, PutAttribute, RemoveAttribute, PutTail, PutMove, change_entries, entries_of_changes, is_storable, content_with_changes}
use Rattle.lfs_model.proofs.WrittenAnew.{tag_type-make_tag, tag_id-make_tag, tag_length-make_tag, then, decoded_address-address_bytes, decoded_gstate-bytes_of_move_state}

-- ---- one after the other

-- the change can be stored, and makes that
pub record Does (change : ContentChange) (c d : RawContent) : Type 0 where
  pub storable : is_storable change ≡ true
  pub makes : content_after c (change_entries change) ≡ Some d

pub does_nothing : (c : RawContent) → content_with_changes c [] ≡ Some c
does_nothing c = refl

pub does_first : (change : ContentChange) (changes : List ContentChange) (c d e : RawContent) → Does change c d → content_with_changes d changes ≡ Some e → content_with_changes c (change ∷ changes) ≡ Some e
does_first change changes c d e first others = go (list_all is_storable changes) refl others
  where
    go : (b : Bool) → list_all is_storable changes ≡ b → cond b (content_after d (entries_of_changes changes)) None ≡ Some e → content_with_changes c (change ∷ changes) ≡ Some e
    go true s f = ap (λ b. cond b (content_after c (entries_of_changes (change ∷ changes))) None) (and_from (is_storable change) (list_all is_storable changes) first.storable s)
        ∙ then c d (change_entries change) (entries_of_changes changes) (Some e) first.makes f
    go false s f = absurd (cc)

-- ---- an entry about a slot

by_slots : (c : RawContent) (e : LogEntry) → tag_class e.tag < 5 → is_known_tag e.tag ≡ true → tag_id e.tag < 0x3ff
    → content_after_entry c e ≡ option_map (λ slots. record c { slots = slots }) (slots_after c.slots e)
by_slots c e k t i =
    let five : tag_class e.tag == 5 ≡ false = ne_eqb (tag_class e.tag) 5 (λ h. omega arith) in
    let six : tag_class e.tag == 6 ≡ false = ne_eqb (tag_class e.tag) 6 (λ h. omega arith) in
    let seven : tag_class e.tag == 7 ≡ false = ne_eqb (tag_class e.tag) 7 (λ h. omega arith) in
    let other : tag_id e.tag == no_id ≡ false = ne_eqb (tag_id e.tag) no_id (λ h. omega arith) in
    let its : has_needed_id e.tag ≡ true = or_right (nat_le 5 (tag_class e.tag)) (not (tag_id e.tag == no_id)) (ap not other) in
    rw (five, t, its, six, seven) refl

one_entry : (c d : RawContent) (e : LogEntry) → content_after_entry c e ≡ Some d → content_after c (e ∷ []) ≡ Some d
one_entry c d e h = ap (option_and_then (λ x. Some x)) h

-- the part is in the table under any id
in_table_at : (class : ℕ) (part : ℕ × List ℕ) (id : ℕ) → class < 5 → id < 2 ^ 10 → IsNameOrStruct class part → is_known_tag (make_tag part.0 id (length part.1)) ≡ true
in_table_at class part id c i h =
    let of : part.0 / 2 ^ 8 ≡ class = h.of_class in
    let short : length part.1 < 0x3ff = h.short in
    let kind : tag_type (make_tag part.0 id (length part.1)) ≡ tag_type (make_tag part.0 0 (length part.1)) = omega arith in
    let len : tag_length (make_tag part.0 id (length part.1)) ≡ tag_length (make_tag part.0 0 (length part.1)) = omega arith in
    rw (kind, len) h.in_table

-- ---- delete

pub deletes : (c : RawContent) (id : ℕ) → id < 0x3ff → id < length c.slots → Does (Delete id) c (record c { slots = remove c.slots id })
deletes c id small there = record {
  storable = lt-ltb id no_id small;
  makes = one_entry c (record c { slots = remove c.slots id }) (log_entry delete_tag_type id [])
      (by_slots c (log_entry delete_tag_type id []) (omega arith) in_table (omega arith) ∙ ap (option_map (λ slots. record c { slots = slots })) after);
}
  where
    kind : tag_type (make_tag delete_tag_type id 0) ≡ delete_tag_type
    kind = tag_type-make_tag delete_tag_type id 0 (omega arith) (omega arith) (omega arith)

    len : tag_length (make_tag delete_tag_type id 0) ≡ 0
    len = tag_length-make_tag delete_tag_type id 0 (omega arith)

    at : tag_id (make_tag delete_tag_type id 0) ≡ id
    at = tag_id-make_tag delete_tag_type id 0 (omega arith) (omega arith)

    in_table : is_known_tag (make_tag delete_tag_type id 0) ≡ true
    in_table = rw (kind, len) refl

    after : slots_after c.slots (log_entry delete_tag_type id []) ≡ Some (remove c.slots id)
    after = rw (kind, at, lt-ltb id (length c.slots) there) refl

-- ---- structs and attributes

abbrev pub IsNamed : List RawSlot → ℕ → Type 0
IsNamed slots id = is_some (slot_of_id slots id).name ≡ true

abbrev pub with_struct : ℕ × List ℕ → RawSlot → RawSlot
with_struct part s = record s { struct = Some part }

pub puts_struct : (c : RawContent) (id kind : ℕ) (bytes : List ℕ) → id < 0x3ff → IsNamed c.slots id → IsNameOrStruct 2 (kind, bytes)
    → Does (PutStruct id kind bytes) c (record c { slots = slot_changed_at (with_struct (kind, bytes)) c.slots id })
puts_struct c id type bytes small named part = record {
  storable = and_from _ _ (lt-ltb id no_id small) (and_from _ _ (and_from _ _ (le-leb 0x200 type (omega arith)) (lt-ltb type 0x300 (omega arith))) (le-leb (length bytes) 1022 (omega arith)));
  makes = one_entry c (record c { slots = slot_changed_at (with_struct (type, bytes)) c.slots id }) (log_entry type id bytes)
      (by_slots c (log_entry type id bytes) (omega arith) (in_table_at 2 (type, bytes) id (omega arith) (omega arith) part) (omega arith)
      ∙ ap (option_map (λ slots. record c { slots = slots })) after);
}
  where
    of_class : type / 2 ^ 8 ≡ 2
    of_class = part.of_class

    short : length bytes < 0x3ff
    short = part.short

    kind : tag_type (make_tag type id (length bytes)) ≡ type
    kind = tag_type-make_tag type id (length bytes) (omega arith) (omega arith) (omega arith)

    at : tag_id (make_tag type id (length bytes)) ≡ id
    at = tag_id-make_tag type id (length bytes) (omega arith) (omega arith)

    after : slots_after c.slots (log_entry type id bytes) ≡ Some (slot_changed_at (with_struct (type, bytes)) c.slots id)
    after =
        let not_name : type / 2 ^ 8 == 0 ≡ false = ne_eqb (type / 2 ^ 8) 0 (λ h. omega arith) in
        let not_create : type == create_tag_type ≡ false = ne_eqb type create_tag_type (λ h. omega arith) in
        let not_delete : type == delete_tag_type ≡ false = ne_eqb type delete_tag_type (λ h. omega arith) in
        let is_struct : type / 2 ^ 8 == 2 ≡ true = eq-eqb (type / 2 ^ 8) 2 of_class in
        rw (kind, at) (rw (not_name, not_create, not_delete, is_struct, named) refl)

-- an entry of an attribute's type
attribute_after : (slots : List RawSlot) (e : LogEntry) (id attribute : ℕ) → attribute < 0x100 → tag_type e.tag ≡ first_attribute_type + attribute → tag_id e.tag ≡ id → IsNamed slots id
    → slots_after slots e ≡ Some (slot_changed_at (λ s. record s { attributes = cond (is_attribute_removal e.tag) (attributes_without attribute s.attributes) (attributes_with attribute e.bytes s.attributes) }) slots id)
attribute_after slots e id attribute small kind at named =
    let not_name : (first_attribute_type + attribute) / 2 ^ 8 == 0 ≡ false = ne_eqb ((first_attribute_type + attribute) / 2 ^ 8) 0 (λ h. omega arith) in
    let not_create : first_attribute_type + attribute == create_tag_type ≡ false = ne_eqb (first_attribute_type + attribute) create_tag_type (λ h. omega arith) in
    let not_delete : first_attribute_type + attribute == delete_tag_type ≡ false = ne_eqb (first_attribute_type + attribute) delete_tag_type (λ h. omega arith) in
    let not_struct : (first_attribute_type + attribute) / 2 ^ 8 == 2 ≡ false = ne_eqb ((first_attribute_type + attribute) / 2 ^ 8) 2 (λ h. omega arith) in
    let chunk : (first_attribute_type + attribute) % 2 ^ 8 ≡ attribute = omega arith in
    rw (kind, at) (rw (not_name, not_create, not_delete, not_struct, chunk, named) refl)

attribute_in_table : (tag attribute : ℕ) → attribute < 0x100 → tag_type tag ≡ first_attribute_type + attribute → is_known_tag tag ≡ true
attribute_in_table tag attribute small kind = go (is_attribute_removal tag)
  where
    third : (first_attribute_type + attribute) / 2 ^ 8 == 3 ≡ true
    third = eq-eqb ((first_attribute_type + attribute) / 2 ^ 8) 3 (omega arith)

    go : (b : Bool) → cond b (tag_class tag == 3) (cond (allows_any_length tag) true (cond (requires_eight_bytes tag) (tag_length tag == 8) (cond (requires_no_bytes tag) (tag_length tag == 0) (tag_type tag == move_state_type && tag_length tag == 12)))) ≡ true
    go true = rw (kind, third) refl
    go false = rw (kind, third) refl

abbrev pub with_attribute_put : ℕ → List ℕ → RawSlot → RawSlot
with_attribute_put attribute bytes s = record s { attributes = attributes_with attribute bytes s.attributes }

abbrev pub with_attribute_removed : ℕ → RawSlot → RawSlot
with_attribute_removed attribute s = record s { attributes = attributes_without attribute s.attributes }

abbrev put_entry : ℕ → ℕ → List ℕ → LogEntry
put_entry id attribute bytes = log_entry (first_attribute_type + attribute) id bytes

abbrev remove_entry : ℕ → ℕ → LogEntry
remove_entry id attribute = record { tag = make_tag (first_attribute_type + attribute) id 0x3ff; bytes = [] }

pub puts_attribute : (c : RawContent) (id attribute : ℕ) (bytes : List ℕ) → id < 0x3ff → attribute < 0x100 → length bytes < 0x3ff → IsNamed c.slots id
    → Does (PutAttribute id attribute bytes) c (record c { slots = slot_changed_at (with_attribute_put attribute bytes) c.slots id })
puts_attribute c id attribute bytes small low short named = record {
  storable = and_from _ _ (lt-ltb id no_id small) (and_from _ _ (lt-ltb attribute 0x100 low) (le-leb (length bytes) 1022 (omega arith)));
  makes = one_entry c (record c { slots = slot_changed_at (with_attribute_put attribute bytes) c.slots id }) (put_entry id attribute bytes)
      (by_slots c (put_entry id attribute bytes) (omega arith) (attribute_in_table (put_entry id attribute bytes).tag attribute low kind) (omega arith) ∙ ap (option_map (λ slots. record c { slots = slots }))
      (attribute_after c.slots (put_entry id attribute bytes) id attribute low kind at named
      ∙ ap (λ b. Some (slot_changed_at (λ s. record s { attributes = cond b (attributes_without attribute s.attributes) (attributes_with attribute bytes s.attributes) }) c.slots id)) stays));
}
  where
    kind : tag_type (make_tag (first_attribute_type + attribute) id (length bytes)) ≡ first_attribute_type + attribute
    kind = tag_type-make_tag (first_attribute_type + attribute) id (length bytes) (omega arith) (omega arith) (omega arith)

    at : tag_id (make_tag (first_attribute_type + attribute) id (length bytes)) ≡ id
    at = tag_id-make_tag (first_attribute_type + attribute) id (length bytes) (omega arith) (omega arith)

    stays : is_attribute_removal (make_tag (first_attribute_type + attribute) id (length bytes)) ≡ false
    stays = ne_eqb (tag_length (make_tag (first_attribute_type + attribute) id (length bytes))) 0x3ff (λ h. omega arith)

pub removes_attribute : (c : RawContent) (id attribute : ℕ) → id < 0x3ff → attribute < 0x100 → IsNamed c.slots id
    → Does (RemoveAttribute id attribute) c (record c { slots = slot_changed_at (with_attribute_removed attribute) c.slots id })
removes_attribute c id attribute small low named = record {
  storable = and_from _ _ (lt-ltb id no_id small) (lt-ltb attribute 0x100 low);
  makes = one_entry c (record c { slots = slot_changed_at (with_attribute_removed attribute) c.slots id }) (remove_entry id attribute)
      (by_slots c (remove_entry id attribute) (omega arith) (attribute_in_table (remove_entry id attribute).tag attribute low kind) (omega arith) ∙ ap (option_map (λ slots. record c { slots = slots }))
      (attribute_after c.slots (remove_entry id attribute) id attribute low kind at named
      ∙ ap (λ b. Some (slot_changed_at (λ s. record s { attributes = cond b (attributes_without attribute s.attributes) (attributes_with attribute [] s.attributes) }) c.slots id)) goes));
}
  where
    kind : tag_type (make_tag (first_attribute_type + attribute) id 0x3ff) ≡ first_attribute_type + attribute
    kind = tag_type-make_tag (first_attribute_type + attribute) id 0x3ff (omega arith) (omega arith) (omega arith)

    at : tag_id (make_tag (first_attribute_type + attribute) id 0x3ff) ≡ id
    at = tag_id-make_tag (first_attribute_type + attribute) id 0x3ff (omega arith) (omega arith)

    goes : is_attribute_removal (make_tag (first_attribute_type + attribute) id 0x3ff) ≡ true
    goes = eq-eqb (tag_length (make_tag (first_attribute_type + attribute) id 0x3ff)) 0x3ff (tag_length-make_tag (first_attribute_type + attribute) id 0x3ff (omega arith))

-- ---- create

-- a slot with that name, and nothing else
abbrev pub slot_named : ℕ × List ℕ → RawSlot
slot_named name = record { name = Some name; struct = None; attributes = [] }

-- what is at the place of an insert, and what is put there
inserted_at : (slots : List RawSlot) (id : ℕ) (s : RawSlot) → id ≤ length slots → slot_of_id (insert slots id s) id ≡ s
inserted_at slots id s fits = ap (slot_of_id (insert slots id s)) (sym (length-take-le id slots fits)) ∙ get_or-append_seam (take id slots) s (drop id slots) empty_slot

put_inserted : (slots : List RawSlot) (id : ℕ) (s t : RawSlot) → id ≤ length slots → slice_set (insert slots id s) id t ≡ insert slots id t
put_inserted slots id s t fits =
    ap (λ k. slice_set (insert slots id s) k t) (sym (length-take-le id slots fits)) ∙ set-append_seam (take id slots) s (drop id slots) t

pub changed_inserted : (f : RawSlot → RawSlot) (slots : List RawSlot) (id : ℕ) (s : RawSlot) → id ≤ length slots → slot_changed_at f (insert slots id s) id ≡ insert slots id (f s)
changed_inserted f slots id s fits = ap (λ t. slice_set (insert slots id s) id (f t)) (inserted_at slots id s fits) ∙ put_inserted slots id s (f s) fits

-- slots that reach past an id stay
long_enough : (slots : List RawSlot) (id : ℕ) → id < length slots → padded_slots slots id ≡ slots
long_enough slots id there =
    let none : id + 1 - length slots ≡ 0 = omega arith in
    ap (λ n. slots ++ replicate n empty_slot) none ∙ append-nil slots

pub creates : (c : RawContent) (id type : ℕ) (name : List ℕ) → id < 0x3ff → id ≤ length c.slots → IsNameOrStruct 0 (type, name)
    → Does (Create id type name) c (record c { slots = insert c.slots id (slot_named (type, name)) })
creates c id type name small fits part = record {
  storable = and_from _ _ (lt-ltb id no_id small) (and_from _ _ (lt-ltb type 0x100 (omega arith)) (le-leb (length name) 1022 (omega arith)));
  makes = then c (record c { slots = insert c.slots id empty_slot }) (log_entry create_tag_type id [] ∷ []) (log_entry type id name ∷ []) _
      (one_entry c (record c { slots = insert c.slots id empty_slot }) (log_entry create_tag_type id [])
      (by_slots c (log_entry create_tag_type id []) (omega arith) create_in_table (omega arith) ∙ ap (option_map (λ slots. record c { slots = slots })) create_after))
      (one_entry (record c { slots = insert c.slots id empty_slot }) (record c { slots = insert c.slots id (slot_named (type, name)) }) (log_entry type id name)
      (by_slots (record c { slots = insert c.slots id empty_slot }) (log_entry type id name) (omega arith) (in_table_at 0 (type, name) id (omega arith) (omega arith) part) (omega arith)
      ∙ ap (option_map (λ slots. record c { slots = slots })) name_after));
}
  where
    of_class : type / 2 ^ 8 ≡ 0
    of_class = part.of_class

    short : length name < 0x3ff
    short = part.short

    create_kind : tag_type (make_tag create_tag_type id 0) ≡ create_tag_type
    create_kind = tag_type-make_tag create_tag_type id 0 (omega arith) (omega arith) (omega arith)

    create_len : tag_length (make_tag create_tag_type id 0) ≡ 0
    create_len = tag_length-make_tag create_tag_type id 0 (omega arith)

    create_at : tag_id (make_tag create_tag_type id 0) ≡ id
    create_at = tag_id-make_tag create_tag_type id 0 (omega arith) (omega arith)

    create_in_table : is_known_tag (make_tag create_tag_type id 0) ≡ true
    create_in_table = rw (create_kind, create_len) refl

    create_after : slots_after c.slots (log_entry create_tag_type id []) ≡ Some (insert c.slots id empty_slot)
    create_after = rw (create_kind, create_at, le-leb id (length c.slots) fits) refl

    kind : tag_type (make_tag type id (length name)) ≡ type
    kind = tag_type-make_tag type id (length name) (omega arith) (omega arith) (omega arith)

    at : tag_id (make_tag type id (length name)) ≡ id
    at = tag_id-make_tag type id (length name) (omega arith) (omega arith)

    longer : length (insert c.slots id empty_slot) ≡ length c.slots + 1
    longer = length-insert c.slots id empty_slot fits

    name_after : slots_after (insert c.slots id empty_slot) (log_entry type id name) ≡ Some (insert c.slots id (slot_named (type, name)))
    name_after =
        let is_name : type / 2 ^ 8 == 0 ≡ true = eq-eqb (type / 2 ^ 8) 0 of_class in
        rw (kind, at) (rw is_name (ap (λ slots. Some (slot_changed_at (λ s. record s { name = Some (type, name) }) slots id)) (long_enough (insert c.slots id empty_slot) id (omega (arith, longer)))
        ∙ ap Some (changed_inserted (λ s. record s { name = Some (type, name) }) c.slots id empty_slot fits)))

-- a slot with its struct
abbrev pub slot_with : ℕ × List ℕ → ℕ × List ℕ → RawSlot
slot_with name part = record { name = Some name; struct = Some part; attributes = [] }

pub creates_with_struct : (c : RawContent) (id type : ℕ) (name : List ℕ) (kind : ℕ) (bytes : List ℕ) (changes : List ContentChange) (e : RawContent) →
    id < 0x3ff → id ≤ length c.slots → IsNameOrStruct 0 (type, name) → IsNameOrStruct 2 (kind, bytes) →
    content_with_changes (record c { slots = insert c.slots id (slot_with (type, name) (kind, bytes)) }) changes ≡ Some e →
    content_with_changes c (Create id type name ∷ PutStruct id kind bytes ∷ changes) ≡ Some e
creates_with_struct c id type name kind bytes changes e small fits is_name is_struct others =
    does_first (Create id type name) (PutStruct id kind bytes ∷ changes) c created e (creates c id type name small fits is_name)
    (does_first (PutStruct id kind bytes) changes created (record c { slots = slot_changed_at (with_struct (kind, bytes)) created.slots id }) e
    (puts_struct created id kind bytes small (ap (λ s. is_some s.name) (inserted_at c.slots id (slot_named (type, name)) fits)) is_struct)
    (ap (λ slots. content_with_changes (record c { slots = slots }) changes) (changed_inserted (with_struct (kind, bytes)) c.slots id (slot_named (type, name)) fits) ∙ others))
  where
    created : RawContent
    created = record c { slots = insert c.slots id (slot_named (type, name)) }

-- ---- tails and move states

tail_after : (c : RawContent) (hard : Bool) (pair : ℕ × ℕ) → AreU32Addresses pair → content_after c (change_entries (PutTail hard (Some pair))) ≡ Some (record c { tail = tail_if_not_null hard pair })
tail_after c true pair h = ap (λ p. Some (record c { tail = tail_if_not_null true p })) (decoded_address-address_bytes pair h)
tail_after c false pair h = ap (λ p. Some (record c { tail = tail_if_not_null false p })) (decoded_address-address_bytes pair h)

pub puts_tail : (c : RawContent) (hard : Bool) (pair : ℕ × ℕ) → AreU32Addresses pair → Does (PutTail hard (Some pair)) c (record c { tail = tail_if_not_null hard pair })
puts_tail c hard pair h = record {
  storable = and_from _ _ (lt-ltb pair.0 (2 ^ 32) h.0) (lt-ltb pair.1 (2 ^ 32) h.1);
  makes = tail_after c hard pair h;
}

pub ends_tail : (c : RawContent) (hard : Bool) → Does (PutTail hard None) c (record c { tail = None })
ends_tail c true = record { storable = refl; makes = refl }
ends_tail c false = record { storable = refl; makes = refl }

pub puts_move : (c : RawContent) (g : Gstate) → MoveStateFits g → Does (PutMove g) c (record c { move = g })
puts_move c g h = record {
  storable = and_from _ _ (lt-ltb g.kind (2 ^ 11) h.kind) (and_from _ _ (lt-ltb g.id (2 ^ 10) h.id) (and_from _ _ (lt-ltb g.pair.0 (2 ^ 32) h.pair.0) (lt-ltb g.pair.1 (2 ^ 32) h.pair.1)));
  makes = ap (λ m. Some (record c { move = m })) (decoded_gstate-bytes_of_move_state g h);
}
