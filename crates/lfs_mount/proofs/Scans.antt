-- The result of a scan of slots: they are entries of a directory, or one of them isn't.
use Rattle.std.proofs.Common.{ℕ, suc, ◌≡◌, ◌/◌, ◌^◌, ◌<◌, ◌==◌, ◌&&◌, ◌||◌, ⊎_elim, Bool, true, false, cond, List, [], ◌∷◌, length, map, Option, Some, None, refl, sym, ap, ap₂, subst, subst₂, ◌∙◌, arith, eqb-true, eq-eqb, option_and_then, option_map, true≢false}
use Rattle.std.specs.Prelude.{All}
use Rattle.lfs_mount.proofs.Common.{and_parts, or_cases, All-head, All-tail, All-cons, same_Some, Name, is_valid_name, Slot, inline_struct_type, directory_struct_type, RawSlot, decoded_slot, decoded_slots, kind_of_type, decoded_struct, IsWellFormedSlot, AreWellFormed, IsFileOrDirectory, AreComplete, complete_parts, Vertex, IsNoEntryAt, InSlot, InList, Below, struct_reference, NamedReference, named_reference, raw_slot_entry, scan_with_entry, scan_with_entries, scan_after_slots}
use Rattle.std.proofs.lemmas.Bool.{ne_eqb}
use Rattle.lfs_model.specs.declared.order.NameOrder.{NameOrder}
use Rattle.lfs_model.specs.format.Tag.{make_tag, tag_type, tag_length, tag_class}
use Rattle.lfs_model.specs.format.Slots.{File, Directory, Superblock}
use Rattle.lfs_model.specs.format.EntryTypes.{is_known_tag, is_attribute_removal, allows_any_length, requires_no_bytes, requires_eight_bytes, superblock_name_type, create_tag_type, delete_tag_type, soft_tail_type, hard_tail_type, move_state_type, decoded_address, file_name_type, directory_name_type, ctz_struct_type}
use Rattle.lfs_model.specs.layers.LoggedContent.{IsNameOrStruct, IsNameOrStructIfAny}
use Rattle.lfs_model.specs.tree.View.{IsKindOfStruct}
use Rattle.lfs_model.proofs.WrittenAnew.{tag_type-make_tag, tag_length-make_tag}
use Rattle.lfs_model.proofs.Completed.{complete_cons}
use Rattle.lfs_mount.specs.DirectoryEntries.{EntryReference, raw_reference}

-- ---- one slot that is an entry

data Suited (kind : ℕ) (part : ℕ × List ℕ) (stand : EntryReference) : Type 0 where
  inline : kind ≡ file_name_type → part.0 ≡ inline_struct_type → stand ≡ InSlot → Suited kind part stand
  list : kind ≡ file_name_type → part.0 ≡ ctz_struct_type → stand ≡ InList (decoded_address part.1).0 (decoded_address part.1).1 → Suited kind part stand
  below : kind ≡ directory_name_type → part.0 ≡ directory_struct_type → stand ≡ Below (decoded_address part.1) → Suited kind part stand

suited : (kind : ℕ) (part : ℕ × List ℕ) (stand : EntryReference) → raw_reference kind part ≡ Some stand → Suited kind part stand
suited kind part stand e =
    go (kind == file_name_type && part.0 == inline_struct_type) (kind == file_name_type && part.0 == ctz_struct_type) (kind == directory_name_type && part.0 == directory_struct_type) (length part.1 == 8) refl refl refl e
  where
    go : (a b c l : Bool) → (kind == file_name_type && part.0 == inline_struct_type) ≡ a → (kind == file_name_type && part.0 == ctz_struct_type) ≡ b
        → (kind == directory_name_type && part.0 == directory_struct_type) ≡ c
        → cond a (Some InSlot) (cond b (cond l (Some (InList (decoded_address part.1).0 (decoded_address part.1).1)) None) (cond c (cond l (Some (Below (decoded_address part.1))) None) None)) ≡ Some stand
        → Suited kind part stand
    go true b c l f g h is = let w = and_parts (kind == file_name_type) (part.0 == inline_struct_type) f in
        inline (eqb-true kind file_name_type w.0) (eqb-true part.0 inline_struct_type w.1) (sym (same_Some InSlot stand is))
    go false true c true f g h is = let w = and_parts (kind == file_name_type) (part.0 == ctz_struct_type) g in
        list (eqb-true kind file_name_type w.0) (eqb-true part.0 ctz_struct_type w.1) (sym (same_Some (InList (decoded_address part.1).0 (decoded_address part.1).1) stand is))
    go false true c false f g h is = absurd (cc)
    go false false true true f g h is = let w = and_parts (kind == directory_name_type) (part.0 == directory_struct_type) h in
        below (eqb-true kind directory_name_type w.0) (eqb-true part.0 directory_struct_type w.1) (sym (same_Some (Below (decoded_address part.1)) stand is))
    go false false true false f g h is = absurd (cc)
    go false false false l f g h is = absurd (cc)

suits_typed : (kind : ℕ) (part : ℕ × List ℕ) (stand : EntryReference) → Suited kind part stand → IsKindOfStruct (kind_of_type kind) (decoded_struct part.0 part.1) × (struct_reference (decoded_struct part.0 part.1) ≡ stand)
suits_typed kind part stand (inline k t is) =
    (subst₂ IsKindOfStruct (sym (ap kind_of_type k)) (sym (ap (λ (ty : ℕ). decoded_struct ty part.1) t)) tt, ap (λ (ty : ℕ). struct_reference (decoded_struct ty part.1)) t ∙ sym is)
suits_typed kind part stand (list k t is) =
    (subst₂ IsKindOfStruct (sym (ap kind_of_type k)) (sym (ap (λ (ty : ℕ). decoded_struct ty part.1) t)) tt, ap (λ (ty : ℕ). struct_reference (decoded_struct ty part.1)) t ∙ sym is)
suits_typed kind part stand (below k t is) =
    (subst₂ IsKindOfStruct (sym (ap kind_of_type k)) (sym (ap (λ (ty : ℕ). decoded_struct ty part.1) t)) tt, ap (λ (ty : ℕ). struct_reference (decoded_struct ty part.1)) t ∙ sym is)

pub record Holds (s : RawSlot) (e : NamedReference) : Type 0 where
  pub slot : Slot
  pub is : decoded_slot s ≡ Some slot
  pub entry : IsFileOrDirectory slot
  pub same : named_reference slot ≡ e

pub entry_some : (s : RawSlot) (e : NamedReference) → raw_slot_entry s ≡ Some e → Holds s e
entry_some s e is = go s.name s.struct refl refl is
  where
    parts : (n p : ℕ × List ℕ) → s.name ≡ Some n → s.struct ≡ Some p → (b : Bool) → is_valid_name n.1 ≡ b → (o : Option EntryReference) → raw_reference n.0 p ≡ o
        → cond b (option_map (λ stand. (n.1, stand)) o) None ≡ Some e → Holds s e
    parts n p f g true h None i is = absurd (cc)
    parts n p f g true h (Some stand) i is =
        let both = suits_typed n.0 p stand (suited n.0 p stand i) in
        record {
          slot = record { kind = kind_of_type n.0; name = n.1; struct = decoded_struct p.0 p.1; attributes = s.attributes };
          is = ap₂ (λ (a b : Option (ℕ × List ℕ)). decoded_slot (record { name = a; struct = b; attributes = s.attributes })) f g;
          entry = record { name = h; struct = both.0 };
          same = ap (λ (st : EntryReference). (n.1, st)) both.1 ∙ same_Some (n.1, stand) e is;
        }
    parts n p f g false h o i is = absurd (cc)

    go : (n p : Option (ℕ × List ℕ)) → s.name ≡ n → s.struct ≡ p
        → option_and_then (λ name. option_and_then (λ struct. cond (is_valid_name name.1) (option_map (λ stand. (name.1, stand)) (raw_reference name.0 struct)) None) p) n ≡ Some e → Holds s e
    go None p f g is = absurd (cc)
    go (Some n) None f g is = absurd (cc)
    go (Some n) (Some p) f g is = parts n p f g (is_valid_name n.1) refl (raw_reference n.0 p) refl is

-- ---- one slot that is none

-- what is in the table, no attribute and of none of the other lengths, has 8 bytes
eight_bytes : (tag : ℕ) → is_known_tag tag ≡ true → is_attribute_removal tag ≡ false → allows_any_length tag ≡ false → requires_no_bytes tag ≡ false → (tag_type tag == move_state_type) ≡ false
    → (requires_eight_bytes tag ≡ true) × (tag_length tag ≡ 8)
eight_bytes tag h a b c d = go (requires_eight_bytes tag) (tag_length tag == 8) refl refl (ap (λ x. cond x (tag_class tag == 3) (cond false true (cond (requires_eight_bytes tag) (tag_length tag == 8) (cond false (tag_length tag == 0) false)))) (sym a) ∙ rest)
  where
    rest : cond (is_attribute_removal tag) (tag_class tag == 3) (cond false true (cond (requires_eight_bytes tag) (tag_length tag == 8) (cond false (tag_length tag == 0) false))) ≡ true
    rest = ap₂ (λ x y. cond (is_attribute_removal tag) (tag_class tag == 3) (cond x true (cond (requires_eight_bytes tag) (tag_length tag == 8) (cond y (tag_length tag == 0) false)))) (sym b) (sym c)
        ∙ ap (λ z. cond (is_attribute_removal tag) (tag_class tag == 3) (cond (allows_any_length tag) true (cond (requires_eight_bytes tag) (tag_length tag == 8) (cond (requires_no_bytes tag) (tag_length tag == 0) (z && tag_length tag == 12))))) (sym d)
        ∙ h

    go : (e l : Bool) → requires_eight_bytes tag ≡ e → (tag_length tag == 8) ≡ l → cond e l (cond false (tag_length tag == 0) false) ≡ true → (requires_eight_bytes tag ≡ true) × (tag_length tag ≡ 8)
    go true true k f g = (k, eqb-true (tag_length tag) 8 f)
    go true false k f g = absurd (cc)
    go false l k f g = absurd (cc)

data PartType (type : ℕ) (bytes : List ℕ) : Type 0 where
  bytes_there : type ≡ inline_struct_type → PartType type bytes
  pair_there : type ≡ directory_struct_type → length bytes ≡ 8 → PartType type bytes
  list_there : type ≡ ctz_struct_type → length bytes ≡ 8 → PartType type bytes

part_type : (type : ℕ) (bytes : List ℕ) → IsNameOrStruct 2 (type, bytes) → PartType type bytes
part_type type bytes h = go (type == inline_struct_type) refl
  where
    of_class : type / 2 ^ 8 ≡ 2
    of_class = h.of_class

    short : length bytes < 0x3ff
    short = h.short

    kind : tag_type (make_tag type 0 (length bytes)) ≡ type
    kind = tag_type-make_tag type 0 (length bytes) (omega arith) (omega arith) (omega arith)

    len : tag_length (make_tag type 0 (length bytes)) ≡ length bytes
    len = tag_length-make_tag type 0 (length bytes) (omega arith)

    eight : (type == inline_struct_type) ≡ false → (requires_eight_bytes (make_tag type 0 (length bytes)) ≡ true) × (tag_length (make_tag type 0 (length bytes)) ≡ 8)
    eight other = eight_bytes (make_tag type 0 (length bytes)) h.in_table (rw len (ne_eqb (length bytes) 0x3ff (λ e. omega arith)))
        (rw kind (rw (ne_eqb (type / 2 ^ 8) 3 (λ e. omega arith), ne_eqb type file_name_type (λ e. omega arith), ne_eqb type directory_name_type (λ e. omega arith), other) refl))
        (rw kind (rw (ne_eqb type create_tag_type (λ e. omega arith), ne_eqb type delete_tag_type (λ e. omega arith)) refl))
        (rw kind (ne_eqb type move_state_type (λ e. omega arith)))

    five : (type == superblock_name_type || (type == directory_struct_type || (type == ctz_struct_type || (type == soft_tail_type || type == hard_tail_type)))) ≡ true → length bytes ≡ 8 → PartType type bytes
    five e l = ⊎_elim
        (λ f. let k = eqb-true type superblock_name_type f in absurd (omega arith))
        (λ f. ⊎_elim (λ g. pair_there (eqb-true type directory_struct_type g) l)
        (λ g. ⊎_elim (λ i. list_there (eqb-true type ctz_struct_type i) l)
        (λ i. ⊎_elim (λ j. let k = eqb-true type soft_tail_type j in absurd (omega arith)) (λ j. let k = eqb-true type hard_tail_type j in absurd (omega arith))
        (or_cases (type == soft_tail_type) (type == hard_tail_type) i))
        (or_cases (type == ctz_struct_type) (type == soft_tail_type || type == hard_tail_type) g))
        (or_cases (type == directory_struct_type) (type == ctz_struct_type || (type == soft_tail_type || type == hard_tail_type)) f))
        (or_cases (type == superblock_name_type) (type == directory_struct_type || (type == ctz_struct_type || (type == soft_tail_type || type == hard_tail_type))) e)

    go : (b : Bool) → (type == inline_struct_type) ≡ b → PartType type bytes
    go true e = bytes_there (eqb-true type inline_struct_type e)
    go false e = let w = eight e in five (subst (λ (k : ℕ). (k == superblock_name_type || (k == directory_struct_type || (k == ctz_struct_type || (k == soft_tail_type || k == hard_tail_type)))) ≡ true) kind w.0) (sym len ∙ w.1)

data NameType (kind : ℕ) : Type 0 where
  file_there : kind ≡ file_name_type → NameType kind
  directory_there : kind ≡ directory_name_type → NameType kind
  other_there : kind_of_type kind ≡ Superblock → NameType kind

name_type : (kind : ℕ) → NameType kind
name_type kind = go (kind == file_name_type) (kind == directory_name_type) refl refl
  where
    go : (a b : Bool) → (kind == file_name_type) ≡ a → (kind == directory_name_type) ≡ b → NameType kind
    go true b e f = file_there (eqb-true kind file_name_type e)
    go false true e f = directory_there (eqb-true kind directory_name_type f)
    go false false e f = other_there (ap₂ (λ x y. cond x File (cond y Directory Superblock)) e f)

-- a kind and a struct that suit it name something
stands : (kind type : ℕ) (bytes : List ℕ) → IsNameOrStruct 2 (type, bytes) → IsKindOfStruct (kind_of_type kind) (decoded_struct type bytes) → raw_reference kind (type, bytes) ≡ None → ⊥
stands kind type bytes h has_struct_of_its_kind none = go (name_type kind) (part_type type bytes h)
  where
    -- the types written out
    at : (k t : ℕ) (b : Bool) → kind ≡ k → type ≡ t → (length bytes == 8) ≡ b
        → cond (k == file_name_type && t == inline_struct_type) (Some InSlot)
        (cond (k == file_name_type && t == ctz_struct_type) (cond b (Some (InList (decoded_address bytes).0 (decoded_address bytes).1)) None)
        (cond (k == directory_name_type && t == directory_struct_type) (cond b (Some (Below (decoded_address bytes))) None) None)) ≡ None
    at k t b e f l = ap (λ (x : Bool). cond (k == file_name_type && t == inline_struct_type) (Some InSlot)
        (cond (k == file_name_type && t == ctz_struct_type) (cond x (Some (InList (decoded_address bytes).0 (decoded_address bytes).1)) None)
        (cond (k == directory_name_type && t == directory_struct_type) (cond x (Some (Below (decoded_address bytes))) None) None))) (sym l)
        ∙ ap₂ (λ (x y : ℕ). raw_reference x (y, bytes)) (sym e) (sym f) ∙ none

    reported : (k t : ℕ) → kind ≡ k → type ≡ t → IsKindOfStruct (kind_of_type k) (decoded_struct t bytes)
    reported k t e f = subst₂ (λ (x y : ℕ). IsKindOfStruct (kind_of_type x) (decoded_struct y bytes)) e f has_struct_of_its_kind

    long : length bytes ≡ 8 → (length bytes == 8) ≡ true
    long e = eq-eqb (length bytes) 8 e

    go : NameType kind → PartType type bytes → ⊥
    go (file_there e) (bytes_there f) = absurd (let c = at file_name_type inline_struct_type (length bytes == 8) e f refl in cc)
    go (file_there e) (pair_there f l) = reported file_name_type directory_struct_type e f
    go (file_there e) (list_there f l) = absurd (let c = at file_name_type ctz_struct_type true e f (long l) in cc)
    go (directory_there e) (bytes_there f) = reported directory_name_type inline_struct_type e f
    go (directory_there e) (pair_there f l) = absurd (let c = at directory_name_type directory_struct_type true e f (long l) in cc)
    go (directory_there e) (list_there f l) = reported directory_name_type ctz_struct_type e f
    go (other_there e) p = subst (λ k. IsKindOfStruct k (decoded_struct type bytes)) e has_struct_of_its_kind

pub entry_none : (s : RawSlot) (t : Slot) → IsWellFormedSlot s → raw_slot_entry s ≡ None → decoded_slot s ≡ Some t → IsFileOrDirectory t → ⊥
entry_none s t parts none is entry = go s.name s.struct parts.struct none is
  where
    below_name : (n p : ℕ × List ℕ) → IsNameOrStruct 2 p → (b : Bool) → is_valid_name n.1 ≡ b → (o : Option EntryReference) → raw_reference n.0 p ≡ o
        → cond b (option_map {U = NamedReference} (λ stand. (n.1, stand)) o) None ≡ None → record { kind = kind_of_type n.0; name = n.1; struct = decoded_struct p.0 p.1; attributes = s.attributes } ≡ t → ⊥
    below_name n p h true f None g e same = stands n.0 p.0 p.1 h (subst (λ (u : Slot). IsKindOfStruct u.kind u.struct) (sym same) entry.struct) g
    below_name n p h true f (Some stand) g e same = absurd (cc)
    below_name n p h false f o g e same = true≢false (sym entry.name ∙ ap (λ (u : Slot). is_valid_name u.name) (sym same) ∙ f)

    go : (n p : Option (ℕ × List ℕ)) → IsNameOrStructIfAny 2 p
        → option_and_then (λ name. option_and_then (λ struct. cond (is_valid_name name.1) (option_map {U = NamedReference} (λ stand. (name.1, stand)) (raw_reference name.0 struct)) None) p) n ≡ None
        → option_and_then (λ name. option_map (λ struct. record { kind = kind_of_type name.0; name = name.1; struct = decoded_struct struct.0 struct.1; attributes = s.attributes }) p) n ≡ Some t → ⊥
    go None p h e f = absurd (cc)
    go (Some n) None h e f = absurd (cc)
    go (Some n) (Some p) h e f = below_name n p h (is_valid_name n.1) refl (raw_reference n.0 p) refl e (same_Some _ t f)

-- ---- all slots of a pair

-- the slots are entries, and this is known then
pub record IsScanned (by : NameOrder) (firsts : List (ℕ × ℕ)) (known : Name × Vertex) (raws : List RawSlot) (new : Name × Vertex) : Type 0 where
  pub slots : List Slot
  pub are : decoded_slots raws ≡ Some slots
  pub entries : All IsFileOrDirectory slots
  pub same : new ≡ scan_with_entries by firsts known (map named_reference slots)

pub scan_some : (by : NameOrder) (firsts : List (ℕ × ℕ)) (known : Name × Vertex) (raws : List RawSlot) (new : Name × Vertex) → scan_after_slots by firsts known raws ≡ Some new → IsScanned by firsts known raws new
scan_some by firsts known [] new e = record { slots = []; are = refl; entries = λ k d lt. absurd (omega arith); same = sym (same_Some known new e) }
scan_some by firsts known (s ∷ raws) new e = go (raw_slot_entry s) refl e (λ x. scan_some by firsts (scan_with_entry by firsts known x) raws new)
  where
    go : (o : Option NamedReference) → raw_slot_entry s ≡ o → option_and_then (λ x. scan_after_slots by firsts (scan_with_entry by firsts known x) raws) o ≡ Some new
        → ((x : NamedReference) → scan_after_slots by firsts (scan_with_entry by firsts known x) raws ≡ Some new → IsScanned by firsts (scan_with_entry by firsts known x) raws new) → IsScanned by firsts known (s ∷ raws) new
    go None f g next = absurd (cc)
    go (Some x) f g next =
        let h = entry_some s x f in
        let r = next x g in
        record {
          slots = h.slot ∷ r.slots;
          are = complete_cons s raws h.slot r.slots h.is r.are;
          entries = All-cons IsFileOrDirectory h.slot r.slots h.entry r.entries;
          same = r.same ∙ ap (λ (y : NamedReference). scan_with_entries by firsts (scan_with_entry by firsts known y) (map named_reference r.slots)) (sym h.same);
        }

pub scan_none : (by : NameOrder) (firsts : List (ℕ × ℕ)) (known : Name × Vertex) (raws : List RawSlot) → AreWellFormed raws → scan_after_slots by firsts known raws ≡ None → (slots : List Slot) → decoded_slots raws ≡ Some slots → All IsFileOrDirectory slots → ⊥
scan_none by firsts known [] parts e slots are entries = absurd (cc)
scan_none by firsts known (s ∷ raws) parts e slots are entries = go (raw_slot_entry s) refl e (λ x f. scan_none by firsts (scan_with_entry by firsts known x) raws parts.1 f p.others p.are_others (All-tail IsFileOrDirectory p.first p.others all))
  where
    p : AreComplete s raws slots
    p = complete_parts s raws slots are

    all : All IsFileOrDirectory (p.first ∷ p.others)
    all = subst (All IsFileOrDirectory) p.all_are entries

    go : (o : Option NamedReference) → raw_slot_entry s ≡ o → option_and_then (λ x. scan_after_slots by firsts (scan_with_entry by firsts known x) raws) o ≡ None
        → ((x : NamedReference) → scan_after_slots by firsts (scan_with_entry by firsts known x) raws ≡ None → ⊥) → ⊥
    go None f g next = entry_none s p.first parts.0 f p.is_first (All-head IsFileOrDirectory p.first p.others all)
    go (Some x) f g next = next x g

-- if they aren't all entries, one isn't
pub scan_none_at : (by : NameOrder) (firsts : List (ℕ × ℕ)) (known : Name × Vertex) (raws : List RawSlot) → scan_after_slots by firsts known raws ≡ None → (index : ℕ) × IsNoEntryAt raws index
scan_none_at by firsts known [] e = absurd (cc)
scan_none_at by firsts known (s ∷ raws) e = go (raw_slot_entry s) refl e (λ x. scan_none_at by firsts (scan_with_entry by firsts known x) raws)
  where
    go : (o : Option NamedReference) → raw_slot_entry s ≡ o → option_and_then (λ x. scan_after_slots by firsts (scan_with_entry by firsts known x) raws) o ≡ None
        → ((x : NamedReference) → scan_after_slots by firsts (scan_with_entry by firsts known x) raws ≡ None → (index : ℕ) × IsNoEntryAt raws index) → (index : ℕ) × IsNoEntryAt (s ∷ raws) index
    go None f g next = (0, (s, (refl, f)))
    go (Some x) f g next = let r = next x g in (suc r.0, r.1)
