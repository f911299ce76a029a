-- Slots with a name and a struct, when one comes, goes or changes; and the bytes that they take.
use Rattle.std.proofs.Common.{ℕ, zero, suc, ◌≡◌, ◌+◌, ◌/◌, ◌^◌, ◌<◌, ◌≤◌, ◌==◌, ◌&&◌, Bool, true, false, cond, List, [], ◌∷◌, ◌++◌, length, take, drop, Option, Some, None, refl, sym, ap, ap₂, subst, ◌∙◌, arith, eqb-true}
use Rattle.std.specs.Prelude.{slice_set, sum_by}
use Rattle.lfs_model.proofs.Common.{insert, remove, option_and_then, option_map, same_Some, ne_eqb, sum_by-cons, make_tag, tag_type, tag_length, tag_class, pair_capacity, slots_limit, Slot, Inline, Ctz, Branch, struct_len, attributes_size, slot_size, PairContent, FitsInPair, RawSlot, RawContent, decoded_slot, decoded_slots, decoded_content, kind_of_type, decoded_struct, decoded_address, is_known_tag, is_attribute_removal, allows_any_length, requires_eight_bytes, requires_no_bytes, move_state_type, create_tag_type, delete_tag_type, inline_struct_type, directory_struct_type, file_name_type, directory_name_type, raw_slot_size, raw_slots_size, name_or_struct_size, RawContentFitsInPair, IsNameOrStruct, IsNameOrStructIfAny, IsWellFormedSlot, AreWellFormed, IsWellFormed}
use Rattle.byteorder.specs.Endian.{little_number}
use Rattle.lfs_model.specs.format.Slots.{slots_size}
use Rattle.lfs_model.proofs.WrittenAnew.{tag_type-make_tag, tag_length-make_tag}

-- ---- lists of slots

-- the first is complete, and so are the others
pub record AreComplete (s : RawSlot) (slots : List RawSlot) (all : List Slot) : Type 0 where
  pub first : Slot
  pub others : List Slot
  pub is_first : decoded_slot s ≡ Some first
  pub are_others : decoded_slots slots ≡ Some others
  pub all_are : all ≡ first ∷ others

pub complete_parts : (s : RawSlot) (slots : List RawSlot) (all : List Slot) → decoded_slots (s ∷ slots) ≡ Some all → AreComplete s slots all
complete_parts s slots all h = go (decoded_slot s) (decoded_slots slots) refl refl h
  where
    go : (o : Option Slot) (os : Option (List Slot)) → decoded_slot s ≡ o → decoded_slots slots ≡ os → option_and_then (λ t. option_map (λ ts. t ∷ ts) os) o ≡ Some all → AreComplete s slots all
    go None os e f k = absurd (cc)
    go (Some t) None e f k = absurd (cc)
    go (Some t) (Some ts) e f k = record { first = t; others = ts; is_first = e; are_others = f; all_are = sym (same_Some (t ∷ ts) all k) }

pub complete_cons : (s : RawSlot) (slots : List RawSlot) (t : Slot) (ts : List Slot) → decoded_slot s ≡ Some t → decoded_slots slots ≡ Some ts → decoded_slots (s ∷ slots) ≡ Some (t ∷ ts)
complete_cons s slots t ts e f = ap₂ (λ o os. option_and_then (λ x. option_map (λ xs. x ∷ xs) os) o) e f

pub complete_append : (xs ys : List RawSlot) (us vs : List Slot) → decoded_slots xs ≡ Some us → decoded_slots ys ≡ Some vs → decoded_slots (xs ++ ys) ≡ Some (us ++ vs)
complete_append [] ys us vs h k = k ∙ ap (λ ts. Some (ts ++ vs)) (same_Some [] us h)
complete_append (x ∷ xs) ys us vs h k =
    let p = complete_parts x xs us h in
    complete_cons x (xs ++ ys) p.first (p.others ++ vs) p.is_first (complete_append xs ys p.others vs p.are_others k) ∙ ap (λ ts. Some (ts ++ vs)) (sym p.all_are)

pub complete_take : (n : ℕ) (xs : List RawSlot) (us : List Slot) → decoded_slots xs ≡ Some us → decoded_slots (take n xs) ≡ Some (take n us)
complete_take zero xs us h = refl
complete_take (suc n) [] us h = ap (λ ts. Some (take (suc n) ts)) (same_Some [] us h)
complete_take (suc n) (x ∷ xs) us h =
    let p = complete_parts x xs us h in
    complete_cons x (take n xs) p.first (take n p.others) p.is_first (complete_take n xs p.others p.are_others) ∙ ap (λ ts. Some (take (suc n) ts)) (sym p.all_are)

pub complete_drop : (n : ℕ) (xs : List RawSlot) (us : List Slot) → decoded_slots xs ≡ Some us → decoded_slots (drop n xs) ≡ Some (drop n us)
complete_drop zero xs us h = h
complete_drop (suc n) [] us h = ap (λ ts. Some (drop (suc n) ts)) (same_Some [] us h)
complete_drop (suc n) (x ∷ xs) us h =
    let p = complete_parts x xs us h in
    complete_drop n xs p.others p.are_others ∙ ap (λ ts. Some (drop (suc n) ts)) (sym p.all_are)

pub complete_insert : (xs : List RawSlot) (us : List Slot) (id : ℕ) (s : RawSlot) (t : Slot) → decoded_slots xs ≡ Some us → decoded_slot s ≡ Some t →
    decoded_slots (insert xs id s) ≡ Some (insert us id t)
complete_insert xs us id s t h e =
    complete_append (take id xs) (s ∷ drop id xs) (take id us) (t ∷ drop id us) (complete_take id xs us h) (complete_cons s (drop id xs) t (drop id us) e (complete_drop id xs us h))

pub complete_remove : (xs : List RawSlot) (us : List Slot) (id : ℕ) → decoded_slots xs ≡ Some us → decoded_slots (remove xs id) ≡ Some (remove us id)
complete_remove xs us id h = complete_append (take id xs) (drop (suc id) xs) (take id us) (drop (suc id) us) (complete_take id xs us h) (complete_drop (suc id) xs us h)

pub complete_set : (xs : List RawSlot) (us : List Slot) (id : ℕ) (s : RawSlot) (t : Slot) → decoded_slots xs ≡ Some us → decoded_slot s ≡ Some t →
    decoded_slots (slice_set xs id s) ≡ Some (slice_set us id t)
complete_set [] us id s t h e = ap (λ ts. Some (slice_set ts id t)) (same_Some [] us h)
complete_set (x ∷ xs) us zero s t h e =
    let p = complete_parts x xs us h in
    complete_cons s xs t p.others e p.are_others ∙ ap (λ ts. Some (slice_set ts zero t)) (sym p.all_are)
complete_set (x ∷ xs) us (suc id) s t h e =
    let p = complete_parts x xs us h in
    complete_cons x (slice_set xs id s) p.first (slice_set p.others id t) p.is_first (complete_set xs p.others id s t p.are_others e) ∙ ap (λ ts. Some (slice_set ts (suc id) t)) (sym p.all_are)

-- ---- sizes

-- what is in the table, no attribute and of none of the other lengths, has 8 bytes
eight : (tag : ℕ) → is_known_tag tag ≡ true → is_attribute_removal tag ≡ false → allows_any_length tag ≡ false → requires_no_bytes tag ≡ false → (tag_type tag == move_state_type) ≡ false → tag_length tag ≡ 8
eight tag h a b c d = go (requires_eight_bytes tag) (tag_length tag == 8) refl (ap (λ x. cond x (tag_class tag == 3) (cond false true (cond (requires_eight_bytes tag) (tag_length tag == 8) (cond false (tag_length tag == 0) false)))) (sym a) ∙ rest)
  where
    rest : cond (is_attribute_removal tag) (tag_class tag == 3) (cond false true (cond (requires_eight_bytes tag) (tag_length tag == 8) (cond false (tag_length tag == 0) false))) ≡ true
    rest = ap₂ (λ x y. cond (is_attribute_removal tag) (tag_class tag == 3) (cond x true (cond (requires_eight_bytes tag) (tag_length tag == 8) (cond y (tag_length tag == 0) false)))) (sym b) (sym c)
        ∙ ap (λ z. cond (is_attribute_removal tag) (tag_class tag == 3) (cond (allows_any_length tag) true (cond (requires_eight_bytes tag) (tag_length tag == 8) (cond (requires_no_bytes tag) (tag_length tag == 0) (z && tag_length tag == 12))))) (sym d)
        ∙ h

    go : (e l : Bool) → (tag_length tag == 8) ≡ l → cond e l (cond false (tag_length tag == 0) false) ≡ true → tag_length tag ≡ 8
    go true true f g = eqb-true (tag_length tag) 8 f
    go true false f g = absurd (cc)
    go false l f g = absurd (cc)

pub struct_length : (type : ℕ) (bytes : List ℕ) → IsNameOrStruct 2 (type, bytes) → struct_len (decoded_struct type bytes) ≡ length bytes
struct_length type bytes h = go (type == inline_struct_type) (type == directory_struct_type) refl
  where
    of_class : type / 2 ^ 8 ≡ 2
    of_class = h.of_class

    short : length bytes < 0x3ff
    short = h.short

    kind : tag_type (make_tag type 0 (length bytes)) ≡ type
    kind = tag_type-make_tag type 0 (length bytes) (omega arith) (omega arith) (omega arith)

    len : tag_length (make_tag type 0 (length bytes)) ≡ length bytes
    len = tag_length-make_tag type 0 (length bytes) (omega arith)

    fixed : (type == inline_struct_type) ≡ false → length bytes ≡ 8
    fixed other = sym len ∙ eight (make_tag type 0 (length bytes)) h.in_table (rw len (ne_eqb (length bytes) 0x3ff (λ e. omega arith)))
        (rw kind (rw (ne_eqb (type / 2 ^ 8) 3 (λ e. omega arith), ne_eqb type file_name_type (λ e. omega arith), ne_eqb type directory_name_type (λ e. omega arith), other) refl))
        (rw kind (rw (ne_eqb type create_tag_type (λ e. omega arith), ne_eqb type delete_tag_type (λ e. omega arith)) refl))
        (rw kind (ne_eqb type move_state_type (λ e. omega arith)))

    go : (a b : Bool) → (type == inline_struct_type) ≡ a → struct_len (cond a (Inline bytes) (cond b (Branch (decoded_address bytes)) (Ctz (little_number 4 bytes) (little_number 4 (drop 4 bytes))))) ≡ length bytes
    go true b e = refl
    go false true e = sym (fixed e)
    go false false e = sym (fixed e)

pub slot_size_is : (s : RawSlot) (t : Slot) → IsWellFormedSlot s → decoded_slot s ≡ Some t → slot_size t ≡ raw_slot_size s
slot_size_is s t h e = go s.name s.struct h.struct e
  where
    go : (n p : Option (ℕ × List ℕ)) → IsNameOrStructIfAny 2 p →
        option_and_then (λ name. option_map (λ struct. record { kind = kind_of_type name.0; name = name.1; struct = decoded_struct struct.0 struct.1; attributes = s.attributes }) p) n ≡ Some t →
        slot_size t ≡ name_or_struct_size n + name_or_struct_size p + attributes_size s.attributes
    go None p k f = absurd (cc)
    go (Some n) None k f = absurd (cc)
    go (Some n) (Some p) k f =
        ap slot_size (sym (same_Some (record { kind = kind_of_type n.0; name = n.1; struct = decoded_struct p.0 p.1; attributes = s.attributes }) t f))
        ∙ ap (λ l. 4 + length n.1 + (4 + l) + attributes_size s.attributes) (struct_length p.0 p.1 k)

pub slots_size_is : (slots : List RawSlot) (all : List Slot) → AreWellFormed slots → decoded_slots slots ≡ Some all → sum_by slot_size all ≡ sum_by raw_slot_size slots
slots_size_is [] all h e = ap (sum_by slot_size) (sym (same_Some [] all e))
slots_size_is (s ∷ slots) all h e =
    let p = complete_parts s slots all e in
    ap (sum_by slot_size) p.all_are ∙ sum_by-cons slot_size p.first p.others
    ∙ ap₂ (λ x y. x + y) (slot_size_is s p.first h.0 p.is_first) (slots_size_is slots p.others h.1 p.are_others) ∙ sym (sum_by-cons raw_slot_size s slots)

pub complete_length : (slots : List RawSlot) (all : List Slot) → decoded_slots slots ≡ Some all → length all ≡ length slots
complete_length [] all e = ap length (sym (same_Some [] all e))
complete_length (s ∷ slots) all e =
    let p = complete_parts s slots all e in
    ap length p.all_are ∙ ap suc (complete_length slots p.others p.are_others)

-- ---- contents

-- the parts of a content whose slots are complete
pub record IsCompleted (raw : RawContent) (c : PairContent) : Type 0 where
  pub slots : decoded_slots raw.slots ≡ Some c.slots
  pub tail : c.tail ≡ raw.tail
  pub move : c.move ≡ raw.move

pub completed_parts : (raw : RawContent) (c : PairContent) → decoded_content raw ≡ Some c → IsCompleted raw c
completed_parts raw c e = go (decoded_slots raw.slots) refl e
  where
    go : (o : Option (List Slot)) → decoded_slots raw.slots ≡ o → option_map (λ slots. record { slots = slots; tail = raw.tail; move = raw.move }) o ≡ Some c → IsCompleted raw c
    go None f k = absurd (cc)
    go (Some slots) f k =
        let l = same_Some (record { slots = slots; tail = raw.tail; move = raw.move }) c k in
        record { slots = f ∙ ap (λ (x : PairContent). Some x.slots) l; tail = sym (ap (λ (x : PairContent). x.tail) l); move = sym (ap (λ (x : PairContent). x.move) l) }

pub completed_from : (raw : RawContent) (slots : List Slot) → decoded_slots raw.slots ≡ Some slots → decoded_content raw ≡ Some (record { slots = slots; tail = raw.tail; move = raw.move })
completed_from raw slots e = ap (option_map (λ s. record { slots = s; tail = raw.tail; move = raw.move })) e

pub content_size_is : (raw : RawContent) (c : PairContent) → IsWellFormed raw → decoded_content raw ≡ Some c → slots_size c ≡ raw_slots_size raw
content_size_is raw c h e = slots_size_is raw.slots c.slots h.slots (completed_parts raw c e).slots

pub fits_pair : (block_size page : ℕ) (raw : RawContent) (c : PairContent) → IsWellFormed raw → decoded_content raw ≡ Some c → RawContentFitsInPair block_size page raw → FitsInPair block_size page c
fits_pair block_size page raw c h e f = record {
  size = subst (λ n. n ≤ pair_capacity block_size page) (sym (content_size_is raw c h e)) f.size;
  count = subst (λ n. n ≤ slots_limit) (sym (complete_length raw.slots c.slots (completed_parts raw c e).slots)) f.count;
}

pub fits_raw : (block_size page : ℕ) (raw : RawContent) (c : PairContent) → IsWellFormed raw → decoded_content raw ≡ Some c → FitsInPair block_size page c → RawContentFitsInPair block_size page raw
fits_raw block_size page raw c h e f = record {
  size = subst (λ n. n ≤ pair_capacity block_size page) (content_size_is raw c h e) f.size;
  count = subst (λ n. n ≤ slots_limit) (complete_length raw.slots c.slots (completed_parts raw c e).slots) f.count;
}
