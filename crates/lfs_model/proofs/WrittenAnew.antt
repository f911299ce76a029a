-- A compacted block holds what was written to it.
use Rattle.std.proofs.Common.{ℕ, ◌≡◌, ◌+◌, ◌-◌, ◌*◌, ◌/◌, ◌%◌, ◌^◌, ◌<◌, ◌≤◌, ◌==◌, Bool, true, false, cond, not, List, [], ◌∷◌, ◌++◌, length, Option, Some, None, refl, sym, ap, ap₂, ◌∙◌, arith, length-append, append_assoc, eq-eqb, eqb-true}
use Rattle.std.specs.Prelude.{nat_lt, nat_le, is_some}
use Rattle.lfs_model.proofs.Common.{option_and_then, option_map, ne_eqb, or_right, le-ltb, le-leb, and_parts, append-nil, set-append_seam, get_or-append_seam, make_tag, tag_type, tag_id, tag_length, tag_class, tag_chunk, LogEntry, Attributes, Tail, Gstate, zero_gstate, RawSlot, RawContent, content_after_entry, content_after, slots_after, attributes_with, empty_raw_content, is_known_tag, has_needed_id, no_id, create_tag_type, delete_tag_type, is_attribute_removal, decoded_address, tail_if_not_null, decoded_gstate, move_state_type, log_entry, name_or_struct_entries, attribute_entries, slot_entries, entries_of_slots, address_bytes, tail_entries, bytes_of_move_state, move_state_entries, is_zero, content_entries, IsNameOrStruct, IsNameOrStructIfAny, AttributesInOrder, IsWellFormedSlot, AreWellFormed, AreU32Addresses, IsAllowedTail, MoveStateFits}
use Rattle.std.proofs.lemmas.Bool.{lt-leb}
use Rattle.byteorder.specs.Endian.{little_number, little_bytes}
use Rattle.byteorder.specs.Numbers.{little_number-reads_back}
use Rattle.lfs_model.specs.format.EntryTypes.{unpacked_gstate}
use Rattle.lfs_model.specs.layers.WrittenContent.{move_word}
use Rattle.lfs_model.specs.layers.LoggedContent.{AreNamed, IsStorable}

-- ---- the fields of a tag

pub tag_type-make_tag : (type id len : ℕ) → type < 2 ^ 11 → id < 2 ^ 10 → len < 2 ^ 10 → tag_type (make_tag type id len) ≡ type
tag_type-make_tag type id len t i l = omega arith

pub tag_id-make_tag : (type id len : ℕ) → id < 2 ^ 10 → len < 2 ^ 10 → tag_id (make_tag type id len) ≡ id
tag_id-make_tag type id len i l = omega arith

pub tag_length-make_tag : (type id len : ℕ) → len < 2 ^ 10 → tag_length (make_tag type id len) ≡ len
tag_length-make_tag type id len l = omega arith

-- ---- runs of entries

pub content_after-append : (c : RawContent) (xs ys : List LogEntry) → content_after c (xs ++ ys) ≡ option_and_then (λ d. content_after d ys) (content_after c xs)
content_after-append c [] ys = refl
content_after-append c (x ∷ xs) ys = go (content_after_entry c x) (λ d. content_after-append d xs ys)
  where
    go : (o : Option RawContent) → ((d : RawContent) → content_after d (xs ++ ys) ≡ option_and_then (λ d. content_after d ys) (content_after d xs))
        → option_and_then (λ d. content_after d (xs ++ ys)) o ≡ option_and_then (λ d. content_after d ys) (option_and_then (λ d. content_after d xs) o)
    go None h = refl
    go (Some d) h = h d

-- one after the other
pub then : (c d : RawContent) (xs ys : List LogEntry) (e : Option RawContent) → content_after c xs ≡ Some d → content_after d ys ≡ e → content_after c (xs ++ ys) ≡ e
then c d xs ys e f g = content_after-append c xs ys ∙ ap (option_and_then (λ d. content_after d ys)) f ∙ g

-- ---- an entry of a slot

-- an entry of a class below 5 that is in the table changes the slots
by_slots : (c : RawContent) (e : LogEntry) → tag_class e.tag < 5 → is_known_tag e.tag ≡ true → tag_id e.tag < 0x3ff
    → content_after_entry c e ≡ option_map (λ slots. record c { slots = slots }) (slots_after c.slots e)
by_slots c e k t i =
    let five : tag_class e.tag == 5 ≡ false = ne_eqb (tag_class e.tag) 5 (λ h. omega arith) in
    let six : tag_class e.tag == 6 ≡ false = ne_eqb (tag_class e.tag) 6 (λ h. omega arith) in
    let seven : tag_class e.tag == 7 ≡ false = ne_eqb (tag_class e.tag) 7 (λ h. omega arith) in
    let other : tag_id e.tag == no_id ≡ false = ne_eqb (tag_id e.tag) no_id (λ h. omega arith) in
    let its : has_needed_id e.tag ≡ true = or_right (nat_le 5 (tag_class e.tag)) (not (tag_id e.tag == no_id)) (ap not other) in
    rw (five, t, its, six, seven) refl

-- a name at the end makes a slot
name_at_end : (slots : List RawSlot) (e : LogEntry) → tag_class e.tag ≡ 0 → tag_id e.tag ≡ length slots
    → slots_after slots e ≡ Some (slots ++ record { name = Some (tag_type e.tag, e.bytes); struct = None; attributes = [] } ∷ [])
name_at_end slots e k i =
    let zero_class : tag_class e.tag == 0 ≡ true = eq-eqb (tag_class e.tag) 0 k in
    let one : length slots + 1 - length slots ≡ 1 = omega arith in
    rw (zero_class, i) (rw (one, get_or-append_seam, set-append_seam) refl)

-- the last slot
abbrev last : List RawSlot → RawSlot → List RawSlot
last slots s = slots ++ s ∷ []

-- a struct for the last slot
struct_at_end : (slots : List RawSlot) (s : RawSlot) (e : LogEntry) → is_some s.name ≡ true → tag_class e.tag ≡ 2 → tag_id e.tag ≡ length slots
    → slots_after (last slots s) e ≡ Some (last slots (record s { struct = Some (tag_type e.tag, e.bytes) }))
struct_at_end slots s e n k i =
    let not_name : tag_class e.tag == 0 ≡ false = ne_eqb (tag_class e.tag) 0 (λ h. omega arith) in
    let not_create : tag_type e.tag == create_tag_type ≡ false = ne_eqb (tag_type e.tag) create_tag_type (λ h. omega arith) in
    let not_delete : tag_type e.tag == delete_tag_type ≡ false = ne_eqb (tag_type e.tag) delete_tag_type (λ h. omega arith) in
    let is_struct : tag_class e.tag == 2 ≡ true = eq-eqb (tag_class e.tag) 2 k in
    rw (not_name, not_create, not_delete, i) (rw (get_or-append_seam, n, is_struct) (rw set-append_seam refl))

-- an attribute for the last slot
attribute_at_end : (slots : List RawSlot) (s : RawSlot) (e : LogEntry) → is_some s.name ≡ true → tag_class e.tag ≡ 3 → tag_id e.tag ≡ length slots → tag_length e.tag < 0x3ff
    → slots_after (last slots s) e ≡ Some (last slots (record s { attributes = attributes_with (tag_chunk e.tag) e.bytes s.attributes }))
attribute_at_end slots s e n k i l =
    let not_name : tag_class e.tag == 0 ≡ false = ne_eqb (tag_class e.tag) 0 (λ h. omega arith) in
    let not_create : tag_type e.tag == create_tag_type ≡ false = ne_eqb (tag_type e.tag) create_tag_type (λ h. omega arith) in
    let not_delete : tag_type e.tag == delete_tag_type ≡ false = ne_eqb (tag_type e.tag) delete_tag_type (λ h. omega arith) in
    let not_struct : tag_class e.tag == 2 ≡ false = ne_eqb (tag_class e.tag) 2 (λ h. omega arith) in
    let stays : is_attribute_removal e.tag ≡ false = ne_eqb (tag_length e.tag) 0x3ff (λ h. omega arith) in
    rw (not_name, not_create, not_delete, i) (rw (get_or-append_seam, n, not_struct, stays) (rw set-append_seam refl))

-- ---- attributes one after the other

abbrev Below : ℕ → Attributes → Type 0
Below type [] = Unit {0}
Below type (a ∷ others) = (a.0 < type) × Below type others

put_last : (type : ℕ) (bytes : List ℕ) (front : Attributes) → Below type front → attributes_with type bytes front ≡ front ++ (type, bytes) ∷ []
put_last type bytes [] h = refl
put_last type bytes (a ∷ others) h =
    let not_before : nat_lt type a.0 ≡ false = le-ltb type a.0 (omega arith) in
    let not_same : type == a.0 ≡ false = ne_eqb type a.0 (λ e. omega arith) in
    rw (not_before, not_same) (ap (λ z. a ∷ z) (put_last type bytes others h.1))

below_more : (type high : ℕ) (bytes : List ℕ) (front : Attributes) → type < high → Below type front → Below high (front ++ (type, bytes) ∷ [])
below_more type high bytes [] l h = (l, tt)
below_more type high bytes (a ∷ others) l h = (omega arith, below_more type high bytes others l h.1)

below_later : (low high : ℕ) (front : Attributes) → low ≤ high → Below low front → Below high front
below_later low high [] l h = tt
below_later low high (a ∷ others) l h = (omega arith, below_later low high others l h.1)

-- ---- the entries that are written

in_table_at : (part : ℕ × List ℕ) (class id : ℕ) → class < 5 → id < 2 ^ 10 → IsNameOrStruct class part → is_known_tag (make_tag part.0 id (length part.1)) ≡ true
in_table_at part class id c i h =
    let of : part.0 / 2 ^ 8 ≡ class = h.of_class in
    let short : length part.1 < 0x3ff = h.short in
    let kind : tag_type (make_tag part.0 id (length part.1)) ≡ tag_type (make_tag part.0 0 (length part.1)) = omega arith in
    let len : tag_length (make_tag part.0 id (length part.1)) ≡ tag_length (make_tag part.0 0 (length part.1)) = omega arith in
    rw (kind, len) h.in_table

name_written : (c : RawContent) (part : ℕ × List ℕ) → length c.slots < 0x3ff → IsNameOrStruct 0 part
    → content_after_entry c (log_entry part.0 (length c.slots) part.1) ≡ Some (record c { slots = c.slots ++ record { name = Some part; struct = None; attributes = [] } ∷ [] })
name_written c part n h =
    let of : part.0 / 2 ^ 8 ≡ 0 = h.of_class in
    let short : length part.1 < 0x3ff = h.short in
    let kind : tag_type (make_tag part.0 (length c.slots) (length part.1)) ≡ part.0 = tag_type-make_tag part.0 (length c.slots) (length part.1) (omega arith) (omega arith) (omega arith) in
    let id : tag_id (make_tag part.0 (length c.slots) (length part.1)) ≡ length c.slots = tag_id-make_tag part.0 (length c.slots) (length part.1) (omega arith) (omega arith) in
    by_slots c (log_entry part.0 (length c.slots) part.1) (omega arith) (in_table_at part 0 (length c.slots) (omega arith) (omega arith) h) (omega arith)
    ∙ ap (option_map (λ slots. record c { slots = slots })) (name_at_end c.slots (log_entry part.0 (length c.slots) part.1) (omega arith) id)
    ∙ ap (λ k. Some (record c { slots = c.slots ++ record { name = Some (k, part.1); struct = None; attributes = [] } ∷ [] })) kind

struct_written : (c : RawContent) (slots : List RawSlot) (s : RawSlot) (part : ℕ × List ℕ) → is_some s.name ≡ true → length slots < 0x3ff → IsNameOrStruct 2 part
    → content_after_entry (record c { slots = last slots s }) (log_entry part.0 (length slots) part.1) ≡ Some (record c { slots = last slots (record s { struct = Some part }) })
struct_written c slots s part named n h =
    let of : part.0 / 2 ^ 8 ≡ 2 = h.of_class in
    let short : length part.1 < 0x3ff = h.short in
    let kind : tag_type (make_tag part.0 (length slots) (length part.1)) ≡ part.0 = tag_type-make_tag part.0 (length slots) (length part.1) (omega arith) (omega arith) (omega arith) in
    let id : tag_id (make_tag part.0 (length slots) (length part.1)) ≡ length slots = tag_id-make_tag part.0 (length slots) (length part.1) (omega arith) (omega arith) in
    by_slots (record c { slots = last slots s }) (log_entry part.0 (length slots) part.1) (omega arith) (in_table_at part 2 (length slots) (omega arith) (omega arith) h) (omega arith)
    ∙ ap (option_map (λ all. record c { slots = all })) (struct_at_end slots s (log_entry part.0 (length slots) part.1) named (omega arith) id)
    ∙ ap (λ k. Some (record c { slots = last slots (record s { struct = Some (k, part.1) }) })) kind

attribute_written : (c : RawContent) (slots : List RawSlot) (s : RawSlot) (type : ℕ) (bytes : List ℕ) → is_some s.name ≡ true → length slots < 0x3ff → type < 2 ^ 8 → length bytes < 0x3ff
    → content_after_entry (record c { slots = last slots s }) (log_entry (0x300 + type) (length slots) bytes)
    ≡ Some (record c { slots = last slots (record s { attributes = attributes_with type bytes s.attributes }) })
attribute_written c slots s type bytes named n t short =
    let kind : tag_type (make_tag (0x300 + type) (length slots) (length bytes)) ≡ 0x300 + type = tag_type-make_tag (0x300 + type) (length slots) (length bytes) (omega arith) (omega arith) (omega arith) in
    let id : tag_id (make_tag (0x300 + type) (length slots) (length bytes)) ≡ length slots = tag_id-make_tag (0x300 + type) (length slots) (length bytes) (omega arith) (omega arith) in
    let len : tag_length (make_tag (0x300 + type) (length slots) (length bytes)) ≡ length bytes = tag_length-make_tag (0x300 + type) (length slots) (length bytes) (omega arith) in
    let class : tag_class (make_tag (0x300 + type) (length slots) (length bytes)) ≡ 3 = omega arith in
    let chunk : tag_chunk (make_tag (0x300 + type) (length slots) (length bytes)) ≡ type = omega arith in
    by_slots (record c { slots = last slots s }) (log_entry (0x300 + type) (length slots) bytes) (omega arith)
    (attribute_in_table (log_entry (0x300 + type) (length slots) bytes) class (omega arith)) (omega arith)
    ∙ ap (option_map (λ all. record c { slots = all })) (attribute_at_end slots s (log_entry (0x300 + type) (length slots) bytes) named class id (omega arith))
    ∙ ap (λ k. Some (record c { slots = last slots (record s { attributes = attributes_with k bytes s.attributes }) })) chunk
  where
    attribute_in_table : (e : LogEntry) → tag_class e.tag ≡ 3 → tag_length e.tag < 0x3ff → is_known_tag e.tag ≡ true
    attribute_in_table e k l =
        let stays : is_attribute_removal e.tag ≡ false = ne_eqb (tag_length e.tag) 0x3ff (λ h. omega arith) in
        let is_attribute : tag_class e.tag == 3 ≡ true = eq-eqb (tag_class e.tag) 3 k in
        rw (stays, is_attribute) refl

-- attributes after those that the last slot has
attributes_written : (c : RawContent) (slots : List RawSlot) (s : RawSlot) (low : ℕ) (rest : Attributes) → is_some s.name ≡ true → length slots < 0x3ff → Below low s.attributes → AttributesInOrder low rest
    → content_after (record c { slots = last slots s }) (attribute_entries (length slots) rest) ≡ Some (record c { slots = last slots (record s { attributes = s.attributes ++ rest }) })
attributes_written c slots s low [] named n below up =
    ap (λ z. Some (record c { slots = last slots (record s { attributes = z }) })) (sym (append-nil s.attributes))
attributes_written c slots s low (a ∷ rest) named n below up =
    let more : s.attributes ++ (a ∷ rest) ≡ (s.attributes ++ (a.0, a.1) ∷ []) ++ rest = sym (append_assoc s.attributes ((a.0, a.1) ∷ []) rest) in
    let last_one : attributes_with a.0 a.1 s.attributes ≡ s.attributes ++ (a.0, a.1) ∷ [] = put_last a.0 a.1 s.attributes (below_later low a.0 s.attributes up.0 below) in
    ap (option_and_then (λ d. content_after d (attribute_entries (length slots) rest))) (attribute_written c slots s a.0 a.1 named n up.1 up.2)
    ∙ ap (λ z. content_after (record c { slots = last slots (record s { attributes = z }) }) (attribute_entries (length slots) rest)) last_one
    ∙ attributes_written c slots (record s { attributes = s.attributes ++ (a.0, a.1) ∷ [] }) (a.0 + 1) rest named n (below_more a.0 (a.0 + 1) a.1 s.attributes (omega arith) (below_later low a.0 s.attributes up.0 below)) up.3
    ∙ ap (λ z. Some (record c { slots = last slots (record s { attributes = z }) })) (sym more)

-- a struct, if there is one, after a name
struct_part_written : (c : RawContent) (slots : List RawSlot) (s : RawSlot) (part : Option (ℕ × List ℕ)) → s.struct ≡ None → is_some s.name ≡ true → length slots < 0x3ff → IsNameOrStructIfAny 2 part
    → content_after (record c { slots = last slots s }) (name_or_struct_entries (length slots) part) ≡ Some (record c { slots = last slots (record s { struct = part }) })
struct_part_written c slots s None none named n h = ap (λ z. Some (record c { slots = last slots (record s { struct = z }) })) none
struct_part_written c slots s (Some part) none named n h = ap (option_and_then (λ d. content_after d [])) (struct_written c slots s part named n h)

-- a slot after others
pub slot_written : (c : RawContent) (s : RawSlot) → length c.slots < 0x3ff → is_some s.name ≡ true → IsWellFormedSlot s
    → content_after c (slot_entries (length c.slots) s) ≡ Some (record c { slots = last c.slots s })
slot_written c s n has_name h =
    then c (record c { slots = last c.slots (named s.struct) }) (name_or_struct_entries (length c.slots) s.name ++ name_or_struct_entries (length c.slots) s.struct) (attribute_entries (length c.slots) s.attributes) _
    (then c (record c { slots = last c.slots (named None) }) (name_or_struct_entries (length c.slots) s.name) (name_or_struct_entries (length c.slots) s.struct) _ front
    (struct_part_written c c.slots (named None) s.struct refl has_name n h.struct))
    (attributes_written c c.slots (named s.struct) 0 s.attributes has_name n tt h.attributes)
  where
    named : Option (ℕ × List ℕ) → RawSlot
    named struct = record { name = s.name; struct = struct; attributes = [] }

    front : content_after c (name_or_struct_entries (length c.slots) s.name) ≡ Some (record c { slots = last c.slots (named None) })
    front = go s.name has_name h.name
      where
        go : (o : Option (ℕ × List ℕ)) → is_some o ≡ true → IsNameOrStructIfAny 0 o → content_after c (name_or_struct_entries (length c.slots) o) ≡ Some (record c { slots = last c.slots (record { name = o; struct = None; attributes = [] }) })
        go None e p = absurd (cc)
        go (Some part) e p = ap (option_and_then (λ d. content_after d [])) (name_written c part n p)

-- slots after others
pub slots_written : (c : RawContent) (slots : List RawSlot) → length c.slots + length slots < 0x400 → AreNamed slots → AreWellFormed slots
    → content_after c (entries_of_slots (length c.slots) slots) ≡ Some (record c { slots = c.slots ++ slots })
slots_written c [] n m h = ap (λ z. Some (record c { slots = z })) (sym (append-nil c.slots))
slots_written c (s ∷ slots) n m h =
    let longer : length (last c.slots s) ≡ length c.slots + 1 = length-append c.slots (s ∷ []) in
    then c (record c { slots = last c.slots s }) (slot_entries (length c.slots) s) (entries_of_slots (length c.slots + 1) slots) _
    (slot_written c s (omega arith) m.0 h.0)
    (ap (λ k. content_after (record c { slots = last c.slots s }) (entries_of_slots k slots)) (sym longer)
    ∙ slots_written (record c { slots = last c.slots s }) slots (omega arith) m.1 h.1
    ∙ ap (λ z. Some (record c { slots = z })) (append_assoc c.slots (s ∷ []) slots))

-- ---- tails and move states

pub decoded_address-address_bytes : (pair : ℕ × ℕ) → AreU32Addresses pair → decoded_address (address_bytes pair) ≡ pair
decoded_address-address_bytes pair h =
    let first : little_number 4 (address_bytes pair) ≡ pair.0 = little_number-reads_back 4 pair.0 (little_bytes 4 pair.1) h.0 in
    let second : little_number 4 (little_bytes 4 pair.1 ++ []) ≡ pair.1 = little_number-reads_back 4 pair.1 [] h.1 in
    ap₂ (λ x y. (x, y)) first (ap (little_number 4) (sym (append-nil (little_bytes 4 pair.1))) ∙ second)

tail_written : (c : RawContent) (t : Option Tail) → c.tail ≡ None → IsAllowedTail t → content_after c (tail_entries t) ≡ Some (record c { tail = t })
tail_written c None none h = ap (λ t. Some (record c { tail = t })) none
tail_written c (Some t) none h = go t.hard
  where
    shown : (hard : Bool) → tail_if_not_null hard (decoded_address (address_bytes t.to)) ≡ Some (record { hard = hard; to = t.to })
    shown hard = ap (tail_if_not_null hard) (decoded_address-address_bytes t.to h.0) ∙ ap (λ b. cond b None (Some (record { hard = hard; to = t.to }))) h.1

    go : (hard : Bool) → content_after c (tail_entries (Some (record { hard = hard; to = t.to }))) ≡ Some (record c { tail = Some (record { hard = hard; to = t.to }) })
    go true = ap (λ z. Some (record c { tail = z })) (shown true)
    go false = ap (λ z. Some (record c { tail = z })) (shown false)

-- the fields of a move state's word
word_small : (g : Gstate) → MoveStateFits g → move_word g < 2 ^ 32
word_small g h = go g.sync
  where
    go : (sync : Bool) → move_word (record g { sync = sync }) < 2 ^ 32
    go true = omega (arith, h.kind, h.id)
    go false = omega (arith, h.kind, h.id)

word_fields : (g : Gstate) → MoveStateFits g → unpacked_gstate (move_word g) g.pair ≡ g
word_fields g h = go g.sync
  where
    fields : (sync : Bool) (word : ℕ) → nat_le (2 ^ 31) word ≡ sync → word / 2 ^ 20 % 2 ^ 11 ≡ g.kind → word / 2 ^ 10 % 2 ^ 10 ≡ g.id → unpacked_gstate word g.pair ≡ record g { sync = sync }
    fields sync word s k i = rw (s, k, i) refl

    go : (sync : Bool) → unpacked_gstate (move_word (record g { sync = sync })) g.pair ≡ record g { sync = sync }
    go true = fields true (2 ^ 31 + g.kind * 2 ^ 20 + g.id * 2 ^ 10) (le-leb (2 ^ 31) (2 ^ 31 + g.kind * 2 ^ 20 + g.id * 2 ^ 10) (omega arith)) (omega (arith, h.kind, h.id)) (omega (arith, h.kind, h.id))
    go false = fields false (0 + g.kind * 2 ^ 20 + g.id * 2 ^ 10) (lt-leb (2 ^ 31) (0 + g.kind * 2 ^ 20 + g.id * 2 ^ 10) (omega (arith, h.kind, h.id))) (omega (arith, h.kind, h.id)) (omega (arith, h.kind, h.id))

pub decoded_gstate-bytes_of_move_state : (g : Gstate) → MoveStateFits g → decoded_gstate (bytes_of_move_state g) ≡ g
decoded_gstate-bytes_of_move_state g h =
    ap₂ unpacked_gstate (little_number-reads_back 4 (move_word g) (address_bytes g.pair) (word_small g h)) (decoded_address-address_bytes g.pair h.pair)
    ∙ word_fields g h

-- a zero move state is none
zero_is_none : (g : Gstate) → is_zero g ≡ true → g ≡ zero_gstate
zero_is_none g z = go g.sync refl
  where
    go : (sync : Bool) → g.sync ≡ sync → g ≡ zero_gstate
    go true e = absurd (let s = (and_parts (not g.sync) _ z).0 in cc)
    go false e =
        let k = and_parts (not g.sync) _ z in
        let i = and_parts (g.kind == 0) _ k.1 in
        let p = and_parts (g.id == 0) _ i.1 in
        let q = and_parts (g.pair.0 == 0) (g.pair.1 == 0) p.1 in
        let kind = eqb-true g.kind 0 i.0 in
        let id = eqb-true g.id 0 p.0 in
        let pair : g.pair ≡ (0, 0) = ap₂ (λ x y. (x, y)) (eqb-true g.pair.0 0 q.0) (eqb-true g.pair.1 0 q.1) in
        ap (λ s. record g { sync = s }) e ∙ ap (λ k. record g { sync = false; kind = k }) kind
        ∙ ap₂ (λ i p. record { sync = false; kind = 0; id = i; pair = p }) id pair

move_written : (c : RawContent) (g : Gstate) → c.move ≡ zero_gstate → MoveStateFits g → content_after c (move_state_entries g) ≡ Some (record c { move = g })
move_written c g none h = go (is_zero g) refl
  where
    go : (z : Bool) → is_zero g ≡ z → content_after c (cond z [] (log_entry move_state_type no_id (bytes_of_move_state g) ∷ [])) ≡ Some (record c { move = g })
    go true z = ap (λ m. Some (record c { move = m })) (none ∙ sym (zero_is_none g z))
    go false z = ap (λ m. Some (record c { move = m })) (decoded_gstate-bytes_of_move_state g h)

-- ---- the whole

pub entries_of-reads : (c : RawContent) → IsStorable c → content_after empty_raw_content (content_entries c) ≡ Some c
entries_of-reads c h =
    then empty_raw_content (record { slots = c.slots; tail = c.tail; move = zero_gstate }) (entries_of_slots 0 c.slots ++ tail_entries c.tail) (move_state_entries c.move) _
    (then empty_raw_content (record { slots = c.slots; tail = None; move = zero_gstate }) (entries_of_slots 0 c.slots) (tail_entries c.tail) _
    (slots_written empty_raw_content c.slots (omega (arith, h.few)) h.names h.logged.slots)
    (tail_written (record { slots = c.slots; tail = None; move = zero_gstate }) c.tail refl h.logged.tail))
    (move_written (record { slots = c.slots; tail = c.tail; move = zero_gstate }) c.move refl h.logged.move)
