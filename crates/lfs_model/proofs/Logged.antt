-- What a log comes to can be written again.
use Rattle.std.proofs.Common.{ℕ, zero, suc, ◌≡◌, ◌≢◌, ◌+◌, ◌-◌, ◌^◌, ◌<◌, ◌≤◌, ◌==◌, ◌&&◌, Bool, true, false, cond, not, List, [], ◌∷◌, ◌++◌, length, take, drop, flat_map, inl, inr, Option, Some, None, refl, sym, ap, subst, ◌∙◌, arith, replicate, eqb-true, get_or-drop}
use Rattle.lfs_model.proofs.Common.{length-take, get_or_past, insert, remove, option_and_then, option_map, same_Some, cases_lt, ne_eqb, ltb-false, ltb-true, make_tag, tag_type, tag_id, tag_length, tag_class, tag_chunk, tag_data_size, LogEntry, entry_end, IsCommit, AreAdjacentCommits, block_entries, Attributes, RawSlot, RawContent, content_after_entry, content_after, slots_after, slot_changed_at, padded_slots, empty_slot, slot_of_id, attributes_with, attributes_without, empty_raw_content, is_known_tag, has_needed_id, is_attribute_removal, create_tag_type, delete_tag_type, decoded_address, decoded_gstate, hard_tail_type, IsNameOrStruct, AttributesInOrder, IsWellFormedSlot, AreWellFormed, IsWellFormed, HasTagLength, HaveTagLengths, AreU32Addresses, IsAllowedTail, MoveStateFits}
use Rattle.std.proofs.lemmas.List.{get_or-take}
use Rattle.std.specs.Prelude.{slice_set, slice_index, nat_lt, nat_le, is_some}
use Rattle.std.proofs.lemmas.Bool.{eqb-false}
use Rattle.byteorder.specs.Endian.{little_number}
use Rattle.lfs_model.specs.format.Log.{entry_at, chain_of}
use Rattle.lfs_model.specs.format.Content.{attributes_after, entry_type_bytes}
use Rattle.lfs_model.specs.format.EntryTypes.{entry_tail}
use Rattle.lfs_model.proofs.Chains.{lies, chain_sound}
use Rattle.lfs_model.proofs.WrittenAnew.{tag_type-make_tag, tag_length-make_tag}
use Rattle.lfs_model.specs.layers.LoggedContent.{is_null}

-- ---- attributes

ascend_lower : (low high : ℕ) (rest : Attributes) → low ≤ high → AttributesInOrder high rest → AttributesInOrder low rest
ascend_lower low high [] l h = tt
ascend_lower low high (a ∷ rest) l h = (omega arith, h.1, h.2, h.3)

put_ascends : (low type : ℕ) (bytes : List ℕ) (rest : Attributes) → low ≤ type → type < 2 ^ 8 → length bytes < 0x3ff → AttributesInOrder low rest → AttributesInOrder low (attributes_with type bytes rest)
put_ascends low type bytes [] l t n h = (l, t, n, tt)
put_ascends low type bytes (a ∷ rest) l t n h = go (nat_lt type a.0) (type == a.0) refl refl (put_ascends (a.0 + 1) type bytes rest)
  where
    go : (less same : Bool) → nat_lt type a.0 ≡ less → (type == a.0) ≡ same → (a.0 + 1 ≤ type → type < 2 ^ 8 → length bytes < 0x3ff → AttributesInOrder (a.0 + 1) rest → AttributesInOrder (a.0 + 1) (attributes_with type bytes rest))
        → AttributesInOrder low (cond less ((type, bytes) ∷ a ∷ rest) (cond same ((type, bytes) ∷ rest) (a ∷ attributes_with type bytes rest)))
    go true same e f more = let lt : type < a.0 = ltb-true type a.0 e in (l, t, n, (omega arith, h.1, h.2, h.3))
    go false true e f more = let is : type ≡ a.0 = eqb-true type a.0 f in (l, t, n, subst (λ k. AttributesInOrder (k + 1) rest) (sym is) h.3)
    go false false e f more =
        let above : a.0 ≤ type = ltb-false type a.0 e in
        let apart : type ≢ a.0 = eqb-false type a.0 f in
        (h.0, h.1, h.2, more (omega arith) t n h.3)

without_ascends : (low type : ℕ) (rest : Attributes) → AttributesInOrder low rest → AttributesInOrder low (attributes_without type rest)
without_ascends low type [] h = tt
without_ascends low type (a ∷ rest) h = go (a.0 == type) (without_ascends (a.0 + 1) type rest h.3)
  where
    go : (same : Bool) → AttributesInOrder (a.0 + 1) (attributes_without type rest) → AttributesInOrder low (cond (not same) (a ∷ attributes_without type rest) (attributes_without type rest))
    go true more = ascend_lower low (a.0 + 1) (attributes_without type rest) (omega (arith, h.0)) more
    go false more = (h.0, h.1, h.2, more)

-- ---- slots

set_parts : (slots : List RawSlot) (i : ℕ) (s : RawSlot) → AreWellFormed slots → IsWellFormedSlot s → AreWellFormed (slice_set slots i s)
set_parts [] i s h p = tt
set_parts (t ∷ slots) zero s h p = (p, h.1)
set_parts (t ∷ slots) (suc i) s h p = (h.0, set_parts slots i s h.1 p)

parts_of_empty : IsWellFormedSlot empty_slot
parts_of_empty = record { name = tt; struct = tt; attributes = tt }

parts_at : (slots : List RawSlot) (i : ℕ) → AreWellFormed slots → IsWellFormedSlot (slot_of_id slots i)
parts_at [] i h = parts_of_empty
parts_at (t ∷ slots) zero h = h.0
parts_at (t ∷ slots) (suc i) h = parts_at slots i h.1

insert_parts : (slots : List RawSlot) (i : ℕ) (s : RawSlot) → AreWellFormed slots → IsWellFormedSlot s → AreWellFormed (insert slots i s)
insert_parts slots zero s h p = (p, h)
insert_parts [] (suc i) s h p = (p, tt)
insert_parts (t ∷ slots) (suc i) s h p = (h.0, insert_parts slots i s h.1 p)

remove_parts : (slots : List RawSlot) (i : ℕ) → AreWellFormed slots → AreWellFormed (remove slots i)
remove_parts [] zero h = tt
remove_parts [] (suc i) h = tt
remove_parts (t ∷ slots) zero h = h.1
remove_parts (t ∷ slots) (suc i) h = (h.0, remove_parts slots i h.1)

longer_parts : (slots : List RawSlot) (n : ℕ) → AreWellFormed slots → AreWellFormed (slots ++ replicate n empty_slot)
longer_parts [] zero h = tt
longer_parts [] (suc n) h = (parts_of_empty, longer_parts [] n tt)
longer_parts (t ∷ slots) n h = (h.0, longer_parts slots n h.1)

changed_parts : (f : RawSlot → RawSlot) (slots : List RawSlot) (i : ℕ) → AreWellFormed slots → ((s : RawSlot) → IsWellFormedSlot s → IsWellFormedSlot (f s)) → AreWellFormed (slot_changed_at f slots i)
changed_parts f slots i h g = set_parts slots i (f (slot_of_id slots i)) h (g (slot_of_id slots i) (parts_at slots i h))

-- ---- an entry

-- the bytes of an entry that removes nothing are as many as its length says
stored_length : (e : LogEntry) → HasTagLength e → is_attribute_removal e.tag ≡ false → length e.bytes ≡ tag_length e.tag
stored_length e h r = h.size ∙ ap (λ b. cond b 0 (tag_length e.tag)) r

stored_short : (e : LogEntry) → HasTagLength e → length e.bytes < 0x3ff
stored_short e h = go (is_attribute_removal e.tag) refl
  where
    go : (b : Bool) → is_attribute_removal e.tag ≡ b → length e.bytes < 0x3ff
    go true r = let s : length e.bytes ≡ 0 = h.size ∙ ap (λ b. cond b 0 (tag_length e.tag)) r in omega arith
    go false r =
        let s : length e.bytes ≡ tag_length e.tag = stored_length e h r in
        let n : tag_length e.tag ≢ 0x3ff = eqb-false (tag_length e.tag) 0x3ff r in
        let small : tag_length e.tag < 0x400 = omega arith in
        omega arith

-- a name or a struct is a part
part_of : (e : LogEntry) (class : ℕ) → HasTagLength e → class ≢ 3 → tag_class e.tag ≡ class → is_known_tag e.tag ≡ true → IsNameOrStruct class (tag_type e.tag, e.bytes)
part_of e class h n c t = go (is_attribute_removal e.tag) refl
  where
    go : (b : Bool) → is_attribute_removal e.tag ≡ b → IsNameOrStruct class (tag_type e.tag, e.bytes)
    go true r =
        let other : tag_class e.tag == 3 ≡ false = ne_eqb (tag_class e.tag) 3 (λ k. n (sym c ∙ k)) in
        absurd (let no : is_known_tag e.tag ≡ false = rw (r, other) refl in cc)
    go false r =
        let same : length e.bytes ≡ tag_length e.tag = stored_length e h r in
        let short : length e.bytes < 0x3ff = stored_short e h in
        let kind : tag_type (make_tag (tag_type e.tag) 0 (length e.bytes)) ≡ tag_type e.tag = tag_type-make_tag (tag_type e.tag) 0 (length e.bytes) (omega arith) (omega arith) (omega arith) in
        let len : tag_length (make_tag (tag_type e.tag) 0 (length e.bytes)) ≡ tag_length e.tag = tag_length-make_tag (tag_type e.tag) 0 (length e.bytes) (omega arith) ∙ same in
        record { of_class = c; short = short; in_table = rw (kind, len) t }

-- one of five lists
one_of : (names creates deletes low lower unnamed structs : Bool) (a b c d e new : List RawSlot) → (names ≡ true → AreWellFormed a) → AreWellFormed b → AreWellFormed c → (structs ≡ true → AreWellFormed d) → AreWellFormed e
    → cond names (Some a) (cond creates (cond low (Some b) None) (cond deletes (cond lower (Some c) None) (cond unnamed None (cond structs (Some d) (Some e))))) ≡ Some new → AreWellFormed new
one_of true creates deletes low lower unnamed structs a b c d e new ha hb hc hd he is = subst AreWellFormed (same_Some a new is) (ha refl)
one_of false true deletes true lower unnamed structs a b c d e new ha hb hc hd he is = subst AreWellFormed (same_Some b new is) hb
one_of false true deletes false lower unnamed structs a b c d e new ha hb hc hd he is = absurd (cc)
one_of false false true low true unnamed structs a b c d e new ha hb hc hd he is = subst AreWellFormed (same_Some c new is) hc
one_of false false true low false unnamed structs a b c d e new ha hb hc hd he is = absurd (cc)
one_of false false false low lower true structs a b c d e new ha hb hc hd he is = absurd (cc)
one_of false false false low lower false true a b c d e new ha hb hc hd he is = subst AreWellFormed (same_Some d new is) (hd refl)
one_of false false false low lower false false a b c d e new ha hb hc hd he is = subst AreWellFormed (same_Some e new is) he

with_attribute_ascends : (e : LogEntry) (attributes : Attributes) → HasTagLength e → AttributesInOrder 0 attributes → AttributesInOrder 0 (attributes_after e attributes)
with_attribute_ascends e attributes h up = go (is_attribute_removal e.tag)
  where
    go : (b : Bool) → AttributesInOrder 0 (cond b (attributes_without (tag_chunk e.tag) attributes) (attributes_with (tag_chunk e.tag) e.bytes attributes))
    go true = without_ascends 0 (tag_chunk e.tag) attributes up
    go false = put_ascends 0 (tag_chunk e.tag) e.bytes attributes (omega arith) (omega arith) (stored_short e h) up

-- the slots after an entry
slots_parts : (slots : List RawSlot) (e : LogEntry) (new : List RawSlot) → AreWellFormed slots → HasTagLength e → is_known_tag e.tag ≡ true → slots_after slots e ≡ Some new → AreWellFormed new
slots_parts slots e new h stored t is =
    one_of (tag_class e.tag == 0) (tag_type e.tag == create_tag_type) (tag_type e.tag == delete_tag_type) (nat_le (tag_id e.tag) (length slots)) (nat_lt (tag_id e.tag) (length slots))
    (not (is_some (slot_of_id slots (tag_id e.tag)).name)) (tag_class e.tag == 2)
    _ _ _ _ _ new
    (λ k. changed_parts (λ s. record s { name = entry_type_bytes e }) (padded_slots slots (tag_id e.tag)) (tag_id e.tag) (longer_parts slots (tag_id e.tag + 1 - length slots) h)
    (λ s p. record { name = part_of e 0 stored (λ z. omega arith) (eqb-true (tag_class e.tag) 0 k) t; struct = p.struct; attributes = p.attributes }))
    (insert_parts slots (tag_id e.tag) empty_slot h parts_of_empty)
    (remove_parts slots (tag_id e.tag) h)
    (λ k. changed_parts (λ s. record s { struct = entry_type_bytes e }) slots (tag_id e.tag) h
    (λ s p. record { name = p.name; struct = part_of e 2 stored (λ z. omega arith) (eqb-true (tag_class e.tag) 2 k) t; attributes = p.attributes }))
    (changed_parts (λ s. record s { attributes = attributes_after e s.attributes }) slots (tag_id e.tag) h (λ s p. record { name = p.name; struct = p.struct; attributes = with_attribute_ascends e s.attributes stored p.attributes }))
    is

-- ---- tails and move states

number_small : (bytes : List ℕ) → ((i : ℕ) → slice_index bytes i < 256) → little_number 4 bytes < 2 ^ 32
number_small bytes h = omega (arith, h 0, h 1, h 2, h 3)

address_small : (bytes : List ℕ) → ((i : ℕ) → slice_index bytes i < 256) → AreU32Addresses (decoded_address bytes)
address_small bytes h = (number_small bytes h, number_small (drop 4 bytes) (λ i. rw (get_or-drop 4 bytes i 0) (h (4 + i))))

tail_parts : (e : LogEntry) → ((i : ℕ) → slice_index e.bytes i < 256) → IsAllowedTail (entry_tail e)
tail_parts e h = go (is_null (decoded_address e.bytes)) refl
  where
    go : (b : Bool) → is_null (decoded_address e.bytes) ≡ b → IsAllowedTail (cond b None (Some (record { hard = tag_type e.tag == hard_tail_type; to = decoded_address e.bytes })))
    go true n = tt
    go false n = (address_small e.bytes h, n)

move_parts : (bytes : List ℕ) → ((i : ℕ) → slice_index bytes i < 256) → MoveStateFits (decoded_gstate bytes)
move_parts bytes h = record { kind = omega arith; id = omega arith; pair = address_small (drop 4 bytes) (λ i. rw (get_or-drop 4 bytes i 0) (h (4 + i))) }

-- ---- a log

logged_after : (c : RawContent) (e : LogEntry) (d : RawContent) → IsWellFormed c → HasTagLength e → content_after_entry c e ≡ Some d → IsWellFormed d
logged_after c e d h stored is = go (tag_class e.tag == 5) (is_known_tag e.tag) (has_needed_id e.tag) (tag_class e.tag == 6) (tag_class e.tag == 7) (slots_after c.slots e) refl refl refl refl is
  where
    go : (five t i six seven : Bool) (slots : Option (List RawSlot)) → is_known_tag e.tag ≡ t → (tag_class e.tag == 6) ≡ six → (tag_class e.tag == 7) ≡ seven → slots_after c.slots e ≡ slots
        → cond five (Some c) (cond (not (t && i)) None (cond six (Some (record c { tail = entry_tail e })) (cond seven (Some (record c { move = decoded_gstate e.bytes })) (option_map (λ all. record c { slots = all }) slots)))) ≡ Some d
        → IsWellFormed d
    go true t i six seven slots u v w s f = subst IsWellFormed (same_Some c d f) h
    go false false i six seven slots u v w s f = absurd (cc)
    go false true false six seven slots u v w s f = absurd (cc)
    go false true true true seven slots u v w s f = subst IsWellFormed (same_Some _ d f) (record { slots = h.slots; tail = tail_parts e (stored.bytes (let six = eqb-true (tag_class e.tag) 6 v in omega arith)); move = h.move })
    go false true true false true slots u v w s f = subst IsWellFormed (same_Some _ d f) (record { slots = h.slots; tail = h.tail; move = move_parts e.bytes (stored.bytes (let seven = eqb-true (tag_class e.tag) 7 w in omega arith)) })
    go false true true false false None u v w s f = absurd (cc)
    go false true true false false (Some all) u v w s f = subst IsWellFormed (same_Some _ d f) (record { slots = slots_parts c.slots e all h.slots stored u s; tail = h.tail; move = h.move })

pub logged_after_all : (c : RawContent) (es : List LogEntry) (d : RawContent) → IsWellFormed c → HaveTagLengths es → content_after c es ≡ Some d → IsWellFormed d
logged_after_all c [] d h stored is = subst IsWellFormed (same_Some c d is) h
logged_after_all c (e ∷ es) d h stored is = go (content_after_entry c e) refl is (λ b s. logged_after_all b es d s stored.1)
  where
    go : (o : Option RawContent) → content_after_entry c e ≡ o → option_and_then (λ b. content_after b es) o ≡ Some d
        → ((b : RawContent) → IsWellFormed b → content_after b es ≡ Some d → IsWellFormed d) → IsWellFormed d
    go None f g more = absurd (cc)
    go (Some b) f g more = more b (logged_after c e b h stored.0 f) g

pub nothing_logged : IsWellFormed empty_raw_content
nothing_logged = record { slots = tt; tail = tt; move = record { kind = omega arith; id = omega arith; pair = (omega arith, omega arith) } }

-- ---- entries that are stored

pub stored_append : (xs ys : List LogEntry) → HaveTagLengths xs → HaveTagLengths ys → HaveTagLengths (xs ++ ys)
stored_append [] ys h k = k
stored_append (x ∷ xs) ys h k = (h.0, stored_append xs ys h.1 k)

byte_of_part : (block : List ℕ) (n at i : ℕ) → ((j : ℕ) → slice_index block j < 256) → slice_index (take n (drop at block)) i < 256
byte_of_part block n at i h = elim (cases_lt i n) [
  | inl lt ↦ rw (get_or-take n (drop at block) i 0 lt, get_or-drop at block i 0) (h (at + i))
  | inr le ↦ rw (get_or_past (take n (drop at block)) i 0 (omega (arith, length-take n (drop at block)))) (omega arith)
]

stored_entry : (block : List ℕ) (at before : ℕ) (e : LogEntry) → ((i : ℕ) → slice_index block i < 256) → entry_at block at before ≡ Some e → HasTagLength e
stored_entry block at before e h is =
    let l = lies block at before e is in
    record { size = l.size; bytes = λ _ i. rw l.bytes (byte_of_part block (tag_data_size e.tag) (at + 4) i h) }

stored_commit : (block : List ℕ) (start at before : ℕ) (es : List LogEntry) (end last : ℕ) → ((i : ℕ) → slice_index block i < 256) → IsCommit block start at before es end last → HaveTagLengths es
stored_commit block start at before [] end last h c = absurd c
stored_commit block start at before (e ∷ []) end last h c = (stored_entry block at before e h c.0, tt)
stored_commit block start at before (e ∷ f ∷ es) end last h c = (stored_entry block at before e h c.0, stored_commit block start (entry_end at e) e.tag (f ∷ es) end last h c.2)

stored_chain : (block : List ℕ) (start at before : ℕ) (cs : List (List LogEntry)) (end last : ℕ) → ((i : ℕ) → slice_index block i < 256) → AreAdjacentCommits block start at before cs end last → HaveTagLengths (flat_map (λ c. c) cs)
stored_chain block start at before [] end last h c = tt
stored_chain block start at before (es ∷ cs) end last h (mid, carry, commit, rest) =
    stored_append es (flat_map (λ c. c) cs) (stored_commit block start at before es mid carry h commit) (stored_chain block mid mid carry cs end last h rest)

pub stored_log : (block : List ℕ) → ((i : ℕ) → slice_index block i < 256) → HaveTagLengths (block_entries block)
unfolding chain_of
stored_log block h = stored_chain block 0 4 0xffffffff _ _ _ h (chain_sound (length block - 4) block 0 4 0xffffffff)

-- what a block's log comes to can be written again
pub logged : (block : List ℕ) (c : RawContent) → ((i : ℕ) → slice_index block i < 256) → content_after empty_raw_content (block_entries block) ≡ Some c → IsWellFormed c
logged block c h is = logged_after_all empty_raw_content (block_entries block) c nothing_logged (stored_log block h) is
