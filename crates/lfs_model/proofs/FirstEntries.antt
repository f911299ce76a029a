-- The types of names, and the first entry of a log that is written anew.
use Rattle.std.proofs.Common.{ℕ, ◌≡◌, ◌==◌, ◌/◌, ◌^◌, ◌<◌, ◌⊎◌, inl, inr, Bool, true, false, cond, List, [], ◌∷◌, ◌++◌, length, Option, Some, None, refl, sym, ap, ap₂, subst, ◌∙◌, arith, eqb-true}
use Rattle.std.specs.Prelude.{slice_get, codes}
use Rattle.lfs_model.proofs.Common.{option_and_then, option_map, ne_eqb, same_Some, Slot, SlotKind, PairContent, File, Directory, Superblock, is_superblock_kind, make_tag, tag_type, tag_length, IsNameOrStruct, IsNameOrStructIfAny, IsWellFormedSlot, AreWellFormed, RawSlot, RawContent, decoded_slot, decoded_slots, decoded_content, kind_of_type, decoded_struct, is_known_tag, allows_any_length, requires_eight_bytes, requires_no_bytes, is_attribute_removal, file_name_type, directory_name_type, inline_struct_type, directory_struct_type, hard_tail_type, create_tag_type, delete_tag_type, move_state_type, content_entries, entries_of_slots, log_entry, tail_entries, move_state_entries, begins_with_superblock, superblock_entry}
use Rattle.lfs_model.specs.format.EntryTypes.{superblock_name_type, ctz_struct_type, soft_tail_type}
use Rattle.lfs_model.proofs.Completed.{complete_parts, completed_parts}
use Rattle.lfs_model.proofs.WrittenAnew.{tag_type-make_tag, tag_length-make_tag}

-- ---- the types of names

-- a name that is neither a file's nor a directory's is a superblock's
pub superblock_type : (type : ℕ) (bytes : List ℕ) → IsNameOrStruct 0 (type, bytes) → (type == file_name_type) ≡ false → (type == directory_name_type) ≡ false → type ≡ superblock_name_type
superblock_type type bytes h e f = go (type == superblock_name_type) refl
  where
    of_class : type / 2 ^ 8 ≡ 0
    of_class = h.of_class

    short : length bytes < 0x3ff
    short = h.short

    kind : tag_type (make_tag type 0 (length bytes)) ≡ type
    kind = tag_type-make_tag type 0 (length bytes) (omega arith) (omega arith) (omega arith)

    len : tag_length (make_tag type 0 (length bytes)) ≡ length bytes
    len = tag_length-make_tag type 0 (length bytes) (omega arith)

    go : (c : Bool) → (type == superblock_name_type) ≡ c → type ≡ superblock_name_type
    go true g = eqb-true type superblock_name_type g
    go false g =
        let any : allows_any_length (make_tag type 0 (length bytes)) ≡ false
        = rw kind (rw (ne_eqb (type / 2 ^ 8) 3 (λ i. omega arith), e, f, ne_eqb type inline_struct_type (λ i. omega arith)) refl) in
        let eight : requires_eight_bytes (make_tag type 0 (length bytes)) ≡ false
        = rw kind (rw (g, ne_eqb type directory_struct_type (λ i. omega arith), ne_eqb type ctz_struct_type (λ i. omega arith), ne_eqb type soft_tail_type (λ i. omega arith), ne_eqb type hard_tail_type (λ i. omega arith)) refl) in
        let none : requires_no_bytes (make_tag type 0 (length bytes)) ≡ false
        = rw kind (rw (ne_eqb type create_tag_type (λ i. omega arith), ne_eqb type delete_tag_type (λ i. omega arith)) refl) in
        let gone : is_attribute_removal (make_tag type 0 (length bytes)) ≡ false = rw len (ne_eqb (length bytes) 0x3ff (λ i. omega arith)) in
        let moved : (tag_type (make_tag type 0 (length bytes)) == move_state_type) ≡ false = rw kind (ne_eqb type move_state_type (λ i. omega arith)) in
        let not_there : is_known_tag (make_tag type 0 (length bytes)) ≡ false = rw (gone, any, eight, none, moved) refl in
        absurd (let t = h.in_table in cc)

-- the type of a name of that kind
abbrev pub type_of : SlotKind → ℕ
type_of File = file_name_type
type_of Directory = directory_name_type
type_of Superblock = superblock_name_type

-- a name's type says its kind, and the kind the type
pub type_is : (type : ℕ) (bytes : List ℕ) → IsNameOrStruct 0 (type, bytes) → type ≡ type_of (kind_of_type type)
type_is type bytes h = go (type == file_name_type) (type == directory_name_type) refl refl
  where
    go : (a b : Bool) → (type == file_name_type) ≡ a → (type == directory_name_type) ≡ b → type ≡ type_of (cond a File (cond b Directory Superblock))
    go true b e f = eqb-true type file_name_type e
    go false true e f = eqb-true type directory_name_type f
    go false false e f = superblock_type type bytes h e f

-- a name is a file's, a directory's or a superblock's
pub name_types : (type : ℕ) (bytes : List ℕ) → IsNameOrStruct 0 (type, bytes) → (type ≡ file_name_type) ⊎ ((type ≡ directory_name_type) ⊎ (type ≡ superblock_name_type))
name_types type bytes h = go (kind_of_type type) (type_is type bytes h)
  where
    go : (k : SlotKind) → type ≡ type_of k → (type ≡ file_name_type) ⊎ ((type ≡ directory_name_type) ⊎ (type ≡ superblock_name_type))
    go File e = inl e
    go Directory e = inr (inl e)
    go Superblock e = inr (inr e)

-- ---- complete slots

-- a slot's name as the log has it
pub record IsNamed (s : RawSlot) (t : Slot) : Type 0 where
  pub is : s.name ≡ Some (type_of t.kind, t.name)

part_some : (o : Option (ℕ × List ℕ)) (part : ℕ × List ℕ) → o ≡ Some part → IsNameOrStructIfAny 0 o → IsNameOrStruct 0 part
part_some None part e k = absurd (cc)
part_some (Some p) part e k = subst (IsNameOrStruct 0) (same_Some p part e) k

pub is_named : (s : RawSlot) (t : Slot) → IsWellFormedSlot s → decoded_slot s ≡ Some t → IsNamed s t
is_named s t parts h = go s.name refl s.struct h
  where
    go : (o : Option (ℕ × List ℕ)) → s.name ≡ o → (p : Option (ℕ × List ℕ)) → option_and_then (λ name. option_map (λ struct. record {
      kind = kind_of_type name.0;
      name = name.1;
      struct = decoded_struct struct.0 struct.1;
      attributes = s.attributes;
    }) p) o ≡ Some t → IsNamed s t
    go None e p k = absurd (cc)
    go (Some n) e None k = absurd (cc)
    go (Some n) e (Some p) k =
        let same = same_Some (record { kind = kind_of_type n.0; name = n.1; struct = decoded_struct p.0 p.1; attributes = s.attributes }) t k in
        let type : n.0 ≡ type_of t.kind = type_is n.0 n.1 (part_some s.name n e parts.name) ∙ ap (λ (x : Slot). type_of x.kind) same in
        record { is = e ∙ ap₂ (λ a b. Some (a, b)) type (ap (λ (x : Slot). x.name) same) }

-- ---- written anew

same_first : (x y : Slot) (xs ys : List Slot) → x ∷ xs ≡ y ∷ ys → x ≡ y
same_first x y xs ys k = cc

-- a complete content that is written anew begins with the name in slot 0
pub named_anew : (raw : RawContent) (c : PairContent) (t : Slot) → AreWellFormed raw.slots → decoded_content raw ≡ Some c → slice_get c.slots 0 ≡ Some t → slice_get (content_entries raw) 0 ≡ Some (log_entry (type_of t.kind) 0 t.name)
named_anew raw c t have h at = go raw.slots refl c.slots refl
  where
    go : (slots : List RawSlot) → raw.slots ≡ slots → (all : List Slot) → c.slots ≡ all → slice_get (content_entries raw) 0 ≡ Some (log_entry (type_of t.kind) 0 t.name)
    go slots e [] f = let none : List Slot = [] in absurd (let k : slice_get none 0 ≡ Some t = ap (λ (z : List Slot). slice_get z 0) (sym f) ∙ at in cc)
    go [] e (u ∷ us) f = absurd (let k : decoded_slots [] ≡ Some (u ∷ us) = ap decoded_slots (sym e) ∙ (completed_parts raw c h).slots ∙ ap Some f in cc)
    go (s ∷ slots) e (u ∷ us) f =
        let p = complete_parts s slots (u ∷ us) (ap decoded_slots (sym e) ∙ (completed_parts raw c h).slots ∙ ap Some f) in
        let same : t ≡ p.first = sym (same_Some u t (ap (λ (z : List Slot). slice_get z 0) (sym f) ∙ at)) ∙ same_first u p.first us p.others p.all_are in
        let n = is_named s t (subst AreWellFormed e have).0 (p.is_first ∙ ap Some (sym same)) in
        ap (λ (z : List RawSlot). slice_get (entries_of_slots 0 z ++ tail_entries raw.tail ++ move_state_entries raw.move) 0) e
        ∙ ap (λ (o : Option (ℕ × List ℕ)). slice_get (entries_of_slots 0 (record s { name = o } ∷ slots) ++ tail_entries raw.tail ++ move_state_entries raw.move) 0) n.is

-- with the superblock in slot 0, it begins with the superblock's entry
pub superblock_anew : (raw : RawContent) (c : PairContent) → AreWellFormed raw.slots → decoded_content raw ≡ Some c → begins_with_superblock c.slots ≡ true → option_map (λ s. s.name) (slice_get c.slots 0) ≡ Some (codes "littlefs")
    → slice_get (content_entries raw) 0 ≡ Some superblock_entry
superblock_anew raw c have h first name = go c.slots refl
  where
    kind_is : (k : SlotKind) → is_superblock_kind k ≡ true → k ≡ Superblock
    kind_is File e = absurd (cc)
    kind_is Directory e = absurd (cc)
    kind_is Superblock e = refl

    go : (all : List Slot) → c.slots ≡ all → slice_get (content_entries raw) 0 ≡ Some superblock_entry
    go [] f = absurd (let k : begins_with_superblock [] ≡ true = ap begins_with_superblock (sym f) ∙ first in cc)
    go (t ∷ ts) f =
        let kind : t.kind ≡ Superblock = kind_is t.kind (ap begins_with_superblock (sym f) ∙ first) in
        let called : t.name ≡ codes "littlefs" = same_Some t.name (codes "littlefs") (ap (λ (z : List Slot). option_map (λ (x : Slot). x.name) (slice_get z 0)) (sym f) ∙ name) in
        named_anew raw c t have h (ap (λ (z : List Slot). slice_get z 0) f) ∙ ap₂ (λ k (b : List ℕ). Some (log_entry (type_of k) 0 b)) kind called
