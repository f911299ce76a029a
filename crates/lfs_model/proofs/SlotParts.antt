-- What the changes make that put a slot at an id.
use Rattle.std.proofs.Common.{ℕ, ◌≡◌, ◌⊎◌, inl, inr, ◌+◌, ◌<◌, ◌≤◌, ◌==◌, Bool, true, false, cond, take, drop, List, [], ◌∷◌, ◌++◌, length, Option, Some, None, refl, sym, ap, ap₂, subst, ◌∙◌, arith, append_assoc, eqb-true}
use Rattle.std.specs.List.{insert}
use Rattle.std.specs.Prelude.{nat_lt, nat_le, ◌&&◌, is_some}
use Rattle.std.proofs.lemmas.Bool.{leb-true}
use Rattle.std.proofs.Math.Seq.{get_or-append_seam}
use Rattle.lfs_model.proofs.Common.{append-nil, le-ltb, ne_eqb, same_Some, PutAttribute, content_with_changes, RawSlot, RawContent, decoded_slot, slot_changed_at, empty_slot, kind_of_type, attributes_with, slot_of_id, decoded_struct, file_name_type, directory_name_type, IsWellFormedSlot, IsNameOrStruct, Name, is_valid_name, Attributes, Slot, File, Directory, Superblock, is_superblock, length-take-le, AttributesInOrder, IsNameOrStructIfAny, is_superblock_kind}
use Rattle.lfs_model.specs.layers.SlotChanges.{NamelessSlot, attribute_changes, slot_without_name, slot_creation_changes}
use Rattle.lfs_model.specs.format.Names.{is_component}
use Rattle.lfs_model.proofs.Counts.{Each, each_append, each_weaker}
use Rattle.lfs_model.proofs.Effects.{creates_with_struct, does_first, puts_attribute, changed_inserted, with_attribute_put}
use Rattle.lfs_model.proofs.WrittenAnew.{tag_type-make_tag, tag_length-make_tag}

-- ---- attributes, one after another

pub put_last : (front : Attributes) (kind : ℕ) (bytes : List ℕ) → Each (λ (a : ℕ × List ℕ). a.0 < kind) front → attributes_with kind bytes front ≡ front ++ (kind, bytes) ∷ []
put_last [] kind bytes h = refl
put_last (a ∷ front) kind bytes h =
    let less : a.0 < kind = h.0 in
    let not_less : nat_lt kind a.0 ≡ false = le-ltb kind a.0 (omega arith) in
    let differs : kind == a.0 ≡ false = ne_eqb kind a.0 (λ e. omega arith) in
    ap₂ (λ x y. cond x ((kind, bytes) ∷ a ∷ front) (cond y ((kind, bytes) ∷ front) (a ∷ attributes_with kind bytes front))) not_less differs
    ∙ ap (λ z. a ∷ z) (put_last front kind bytes h.1)

inserted : (slots : List RawSlot) (id : ℕ) (s : RawSlot) → id ≤ length slots → slot_of_id (insert slots id s) id ≡ s
inserted slots id s fits = ap (slot_of_id (insert slots id s)) (sym (length-take-le id slots fits)) ∙ get_or-append_seam (take id slots) s (drop id slots) empty_slot

-- a content in which a slot stands at an id
abbrev pub with_slot : RawContent → ℕ → RawSlot → RawContent
with_slot c id s = record c { slots = insert c.slots id s }

pub puts_attributes : (c : RawContent) (id : ℕ) (s : RawSlot) (low : ℕ) (front rest : Attributes) → id < 0x3ff → id ≤ length c.slots → is_some s.name ≡ true
    → Each (λ (a : ℕ × List ℕ). a.0 < low) front → AttributesInOrder low rest
    → content_with_changes (with_slot c id (record s { attributes = front })) (attribute_changes id rest) ≡ Some (with_slot c id (record s { attributes = front ++ rest }))
puts_attributes c id s low front [] small fits named below up =
    ap (λ (z : Attributes). Some (with_slot c id (record s { attributes = z }))) (sym (append-nil front))
puts_attributes c id s low front (a ∷ rest) small fits named below up =
    let was : RawSlot = record s { attributes = front } in
    let now : RawSlot = record s { attributes = front ++ a ∷ [] } in
    let short : length a.1 < 0x3ff = up.2 in
    let from : low ≤ a.0 = up.0 in
    let same : slot_changed_at (with_attribute_put a.0 a.1) (insert c.slots id was) id ≡ insert c.slots id now
    = changed_inserted (with_attribute_put a.0 a.1) c.slots id was fits
    ∙ ap (λ (z : Attributes). insert c.slots id (record s { attributes = z })) (put_last front a.0 a.1 (each_weaker (λ (x : ℕ × List ℕ). x.0 < low) (λ (x : ℕ × List ℕ). x.0 < a.0) (λ x l. omega arith) front below)) in
    does_first (PutAttribute id a.0 a.1) (attribute_changes id rest) (with_slot c id was) (record c { slots = slot_changed_at (with_attribute_put a.0 a.1) (insert c.slots id was) id }) (with_slot c id (record s { attributes = front ++ a ∷ rest }))
    (puts_attribute (with_slot c id was) id a.0 a.1 small (let l : a.0 < 256 = up.1 in omega arith) short (ap (λ (z : RawSlot). is_some z.name) (inserted c.slots id was fits) ∙ named))
    (ap (λ (z : List RawSlot). content_with_changes (record c { slots = z }) (attribute_changes id rest)) same
    ∙ puts_attributes c id s (a.0 + 1) (front ++ a ∷ []) rest small fits named
    (each_append (λ (x : ℕ × List ℕ). x.0 < a.0 + 1) front (a ∷ []) (each_weaker (λ (x : ℕ × List ℕ). x.0 < low) (λ (x : ℕ × List ℕ). x.0 < a.0 + 1) (λ x l. omega arith) front below) (omega arith, tt)) up.3
    ∙ ap (λ (z : Attributes). Some (with_slot c id (record s { attributes = z }))) (append_assoc front (a ∷ []) rest))

-- ---- a whole slot

-- the parts can be written again
pub record AreParts (parts : NamelessSlot) : Type 0 where
  pub kind : (parts.kind ≡ file_name_type) ⊎ (parts.kind ≡ directory_name_type)
  pub struct : IsNameOrStruct 2 parts.struct
  pub attributes : AttributesInOrder 0 parts.attributes

abbrev pub slot_of_parts : Name → NamelessSlot → RawSlot
slot_of_parts name parts = record { name = Some (parts.kind, name); struct = Some parts.struct; attributes = parts.attributes }

pub name_length : (name : Name) → is_valid_name name ≡ true → length name ≤ 255
name_length name h = leb-true (length name) 255 (and_second (is_component name) (nat_le (length name) 255) h)
  where
    and_second : (a b : Bool) → (a && b) ≡ true → b ≡ true
    and_second true b e = e
    and_second false b e = absurd (cc)

name_part : (kind : ℕ) (name : Name) → (kind ≡ file_name_type) ⊎ (kind ≡ directory_name_type) → length name ≤ 255 → IsNameOrStruct 0 (kind, name)
name_part kind name (inl e) short = subst (λ (k : ℕ). IsNameOrStruct 0 (k, name)) (sym e) (record {
  of_class = refl;
  short = omega arith;
  in_table =
      let kind = tag_type-make_tag file_name_type 0 (length name) (omega arith) (omega arith) (omega arith) in
      let len = tag_length-make_tag file_name_type 0 (length name) (omega arith) in
      rw len (rw kind (rw (ne_eqb (length name) 0x3ff (λ e. omega arith)) refl));
})
name_part kind name (inr e) short = subst (λ (k : ℕ). IsNameOrStruct 0 (k, name)) (sym e) (record {
  of_class = refl;
  short = omega arith;
  in_table =
      let kind = tag_type-make_tag directory_name_type 0 (length name) (omega arith) (omega arith) (omega arith) in
      let len = tag_length-make_tag directory_name_type 0 (length name) (omega arith) in
      rw len (rw kind (rw (ne_eqb (length name) 0x3ff (λ e. omega arith)) refl));
})

pub slot_comes : (c : RawContent) (id : ℕ) (name : Name) (parts : NamelessSlot) → id < 0x3ff → id ≤ length c.slots → length name ≤ 255 → AreParts parts
    → content_with_changes c (slot_creation_changes id name parts) ≡ Some (with_slot c id (slot_of_parts name parts))
slot_comes c id name parts small fits short are =
    let s : RawSlot = slot_of_parts name parts in
    creates_with_struct c id parts.kind name parts.struct.0 parts.struct.1 (attribute_changes id parts.attributes) (with_slot c id s) small fits (name_part parts.kind name are.kind short) are.struct
    (puts_attributes c id s 0 [] parts.attributes small fits refl tt are.attributes)

-- ---- of a slot that is complete

-- what stands in a log is a slot
pub record IsOf (s : RawSlot) (u : Slot) : Type 0 where
  pub are : AreParts (slot_without_name s)
  pub complete : (name : Name) → decoded_slot (slot_of_parts name (slot_without_name s)) ≡ Some (record u { name = name })

kind_of_entry : (type : ℕ) → is_superblock_kind (kind_of_type type) ≡ false → (type ≡ file_name_type) ⊎ (type ≡ directory_name_type)
kind_of_entry type h = go (type == file_name_type) (type == directory_name_type) refl refl h
  where
    go : (a b : Bool) → (type == file_name_type) ≡ a → (type == directory_name_type) ≡ b → is_superblock_kind (cond a File (cond b Directory Superblock)) ≡ false → (type ≡ file_name_type) ⊎ (type ≡ directory_name_type)
    go true b e f k = inl (eqb-true type file_name_type e)
    go false true e f k = inr (eqb-true type directory_name_type f)
    go false false e f k = absurd (cc)

pub is_of : (s : RawSlot) (u : Slot) → IsWellFormedSlot s → decoded_slot s ≡ Some u → is_superblock u ≡ false → IsOf s u
is_of s u parts is other = go s.name s.struct s.attributes parts.struct parts.attributes is
  where
    go : (n p : Option (ℕ × List ℕ)) (attributes : Attributes) → IsNameOrStructIfAny 2 p → AttributesInOrder 0 attributes → (let x : RawSlot = record { name = n; struct = p; attributes = attributes } in decoded_slot x ≡ Some u)
        → IsOf (record { name = n; struct = p; attributes = attributes }) u
    go None p attributes h k e = absurd (cc)
    go (Some n) None attributes h k e = absurd (cc)
    go (Some n) (Some p) attributes h k e =
        let same = same_Some (record { kind = kind_of_type n.0; name = n.1; struct = decoded_struct p.0 p.1; attributes = attributes }) u e in
        record {
          are = record { kind = kind_of_entry n.0 (ap is_superblock same ∙ other); struct = h; attributes = k };
          complete = λ name. ap (λ (x : Slot). Some (record x { name = name })) same;
        }
