-- The first slot of a pair: whether it is a superblock's, and its struct.
use Rattle.std.proofs.Common.{ℕ, ◌≡◌, ◌==◌, ◌&&◌, Bool, true, false, cond, List, [], ◌∷◌, length, drop, slice_get, Option, Some, None, codes, refl, sym, ap, subst, ◌∙◌, eqb-true, eq-eqb, option_and_then, option_map}
use Rattle.lfs_mount.proofs.Common.{and_parts, and_from, same_Some, RawSlot, decoded_slot, decoded_slots, kind_of_type, decoded_struct, inline_struct_type, directory_struct_type, Disk, block_count, Slot, Struct, Inline, Ctz, Branch, is_superblock, begins_with_superblock, RepeatsSuperblockStruct, IsSuperblockStruct, complete_parts, FirstSlotIsSuperblock, first_slot_struct, first_repeats_superblock}
use Rattle.std.proofs.lemmas.Slice.Eq.{bytes_eq-Decides}
use Rattle.lfs_model.specs.format.EntryTypes.{superblock_fields}
use Rattle.lfs_model.specs.layers.Violations.{IsDiskSuperblock}
use Rattle.lfs_model.specs.declared.limits.AcceptedVersions.{AcceptedVersions}
use Rattle.lfs_model.specs.tree.View.{SameExceptVersion, accepts_version}
use Rattle.lfs_tag.specs.KindView.{is_superblock_name}
use Rattle.lfs_mount.specs.SuperblockChain.{has_name, inline_bytes, is_geometry_struct, struct_if_geometry_matches, repeats_superblock_struct, repeats_superblock_if_struct}

-- ---- a slot with a name and a struct

pub record IsMadeOf (s : RawSlot) (t : Slot) : Type 0 where
  pub name : ℕ × List ℕ
  pub struct : ℕ × List ℕ
  pub name_is : s.name ≡ Some name
  pub struct_is : s.struct ≡ Some struct
  pub made : t ≡ record { kind = kind_of_type name.0; name = name.1; struct = decoded_struct struct.0 struct.1; attributes = s.attributes }

pub made_of : (s : RawSlot) (t : Slot) → decoded_slot s ≡ Some t → IsMadeOf s t
made_of s t e = go s.name s.struct refl refl e
  where
    go : (n u : Option (ℕ × List ℕ)) → s.name ≡ n → s.struct ≡ u
        → option_and_then (λ name. option_map (λ struct. record { kind = kind_of_type name.0; name = name.1; struct = decoded_struct struct.0 struct.1; attributes = s.attributes }) u) n ≡ Some t → IsMadeOf s t
    go None u f h k = absurd (cc)
    go (Some n) None f h k = absurd (cc)
    go (Some n) (Some u) f h k =
        record { name = n; struct = u; name_is = f; struct_is = h; made = sym (same_Some (record { kind = kind_of_type n.0; name = n.1; struct = decoded_struct u.0 u.1; attributes = s.attributes }) t k) }

pub slot_named : (s : RawSlot) (t : Slot) → IsMadeOf s t → is_superblock t ≡ is_superblock_name s.name
slot_named s t m = ap is_superblock m.made ∙ sym (ap is_superblock_name m.name_is)

inline_some : (u : ℕ × List ℕ) (bytes : List ℕ) → decoded_struct u.0 u.1 ≡ Inline bytes → inline_bytes (Some u) ≡ Some bytes
inline_some u bytes e = go (u.0 == inline_struct_type) (u.0 == directory_struct_type) _ _ _ e
  where
    go : (a b : Bool) (to : ℕ × ℕ) (head size : ℕ) → cond a (Inline u.1) (cond b (Branch to) (Ctz head size)) ≡ Inline bytes → cond a (Some u.1) None ≡ Some bytes
    go true b to head size f = let same : u.1 ≡ bytes = cc in ap (λ (x : List ℕ). Some x) same
    go false true to head size f = absurd (cc)
    go false false to head size f = absurd (cc)

inline_back : (u : ℕ × List ℕ) (bytes : List ℕ) → inline_bytes (Some u) ≡ Some bytes → decoded_struct u.0 u.1 ≡ Inline bytes
inline_back u bytes e = go (u.0 == inline_struct_type) _ e
  where
    go : (a : Bool) (other : Struct) → cond a (Some u.1) None ≡ Some bytes → cond a (Inline u.1) other ≡ Inline bytes
    go true other f = ap Inline (same_Some u.1 bytes f)
    go false other f = absurd (cc)

slot_inline : (s : RawSlot) (t : Slot) (bytes : List ℕ) → IsMadeOf s t → t.struct ≡ Inline bytes → inline_bytes s.struct ≡ Some bytes
slot_inline s t bytes m h = ap inline_bytes m.struct_is ∙ inline_some m.struct bytes (sym (ap (λ (x : Slot). x.struct) m.made) ∙ h)

slot_struct : (s : RawSlot) (t : Slot) (bytes : List ℕ) → IsMadeOf s t → inline_bytes s.struct ≡ Some bytes → t.struct ≡ Inline bytes
slot_struct s t bytes m h = ap (λ (x : Slot). x.struct) m.made ∙ inline_back m.struct bytes (sym (ap inline_bytes m.struct_is) ∙ h)

-- ---- whether the superblock is repeated

repeats_from : (versions : AcceptedVersions) (bytes own : List ℕ) → repeats_superblock_struct versions bytes own ≡ true → SameExceptVersion versions bytes own
repeats_from versions bytes own e =
    let one = and_parts (length own == length bytes) _ e in
    let two = and_parts (accepts_version versions (superblock_fields own).version) _ one.1 in
    record { len = eqb-true _ _ one.0; version = two.0; rest = (bytes_eq-Decides (drop 4 own) (drop 4 bytes)).0 two.1 }

repeats_to : (versions : AcceptedVersions) (bytes own : List ℕ) → SameExceptVersion versions bytes own → repeats_superblock_struct versions bytes own ≡ true
repeats_to versions bytes own h = and_from _ _ (eq-eqb _ _ h.len) (and_from _ _ h.version ((bytes_eq-Decides (drop 4 own) (drop 4 bytes)).1 h.rest))

module _ (versions : AcceptedVersions) (bytes : List ℕ) where
  same_from : (o : Option (List ℕ)) → repeats_superblock_if_struct versions bytes o ≡ Some true → (own : List ℕ) × ((o ≡ Some own) × SameExceptVersion versions bytes own)
  same_from None e = absurd (cc)
  same_from (Some own) e = go (repeats_superblock_struct versions bytes own) refl e
    where
      go : (b : Bool) → repeats_superblock_struct versions bytes own ≡ b → cond b (Some true) None ≡ Some true → (x : List ℕ) × ((Some own ≡ Some x) × SameExceptVersion versions bytes x)
      go true f k = (own, (refl, repeats_from versions bytes own f))
      go false f k = absurd (cc)

  never_false : (o : Option (List ℕ)) → repeats_superblock_if_struct versions bytes o ≡ Some false → ⊥
  never_false None e = absurd (cc)
  never_false (Some own) e = go (repeats_superblock_struct versions bytes own) e
    where
      go : (b : Bool) → cond b (Some true) None ≡ Some false → ⊥
      go true k = absurd (cc)
      go false k = absurd (cc)

  differs : (o : Option (List ℕ)) (own : List ℕ) → repeats_superblock_if_struct versions bytes o ≡ None → o ≡ Some own → SameExceptVersion versions bytes own → ⊥
  differs o own e f same = absurd (
      let some : repeats_superblock_if_struct versions bytes o ≡ Some true = ap (repeats_superblock_if_struct versions bytes) f ∙ ap (λ b. cond b (Some true) None) (repeats_to versions bytes own same) in
      let clash : Some true ≡ None = sym some ∙ e in cc)

  pub repeats_true : (raws : List RawSlot) (slots : List Slot) → decoded_slots raws ≡ Some slots → first_repeats_superblock versions bytes raws ≡ Some true → FirstSlotIsSuperblock versions bytes slots
  repeats_true [] slots c e = absurd (cc)
  repeats_true (s ∷ raws) slots c e =
      let p = complete_parts s raws slots c in
      subst (FirstSlotIsSuperblock versions bytes) (sym p.all_are) (go p.first (made_of s p.first p.is_first) (is_superblock_name s.name) refl e)
    where
      go : (t : Slot) → IsMadeOf s t → (b : Bool) → is_superblock_name s.name ≡ b → cond b (repeats_superblock_if_struct versions bytes (inline_bytes s.struct)) (Some false) ≡ Some true → (is_superblock t ≡ true) × RepeatsSuperblockStruct versions bytes t
      go t m true n k = let f = same_from (inline_bytes s.struct) k in (slot_named s t m ∙ n, (f.0, (slot_struct s t f.0 m f.1.0, f.1.1)))
      go t m false n k = absurd (cc)

  pub repeats_false : (raws : List RawSlot) (slots : List Slot) → decoded_slots raws ≡ Some slots → first_repeats_superblock versions bytes raws ≡ Some false → begins_with_superblock slots ≡ false
  repeats_false [] slots c e = ap begins_with_superblock (sym (same_Some [] slots c))
  repeats_false (s ∷ raws) slots c e =
      let p = complete_parts s raws slots c in
      ap begins_with_superblock p.all_are ∙ slot_named s p.first (made_of s p.first p.is_first) ∙ go (is_superblock_name s.name) refl e
    where
      go : (b : Bool) → is_superblock_name s.name ≡ b → cond b (repeats_superblock_if_struct versions bytes (inline_bytes s.struct)) (Some false) ≡ Some false → b ≡ false
      go true n k = absurd (never_false (inline_bytes s.struct) k)
      go false n k = refl

  pub repeats_none : (raws : List RawSlot) (slots : List Slot) → decoded_slots raws ≡ Some slots → first_repeats_superblock versions bytes raws ≡ None
      → (begins_with_superblock slots ≡ true) × (FirstSlotIsSuperblock versions bytes slots → ⊥)
  repeats_none [] slots c e = absurd (cc)
  repeats_none (s ∷ raws) slots c e =
      let p = complete_parts s raws slots c in
      let m = made_of s p.first p.is_first in
      let k = go (is_superblock_name s.name) refl e in
      (ap begins_with_superblock p.all_are ∙ slot_named s p.first m ∙ k.0, λ h. other p.first m k.1 (subst (FirstSlotIsSuperblock versions bytes) p.all_are h).1)
    where
      go : (b : Bool) → is_superblock_name s.name ≡ b → cond b (repeats_superblock_if_struct versions bytes (inline_bytes s.struct)) (Some false) ≡ None → (b ≡ true) × (repeats_superblock_if_struct versions bytes (inline_bytes s.struct) ≡ None)
      go true n k = (refl, k)
      go false n k = absurd (cc)

      other : (t : Slot) → IsMadeOf s t → repeats_superblock_if_struct versions bytes (inline_bytes s.struct) ≡ None → RepeatsSuperblockStruct versions bytes t → ⊥
      other t m none (own, (is, same)) = differs (inline_bytes s.struct) own none (slot_inline s t own m is) same

-- ---- the superblock itself

-- it is named so
abbrev pub IsNamed : List Slot → Type 0
IsNamed slots = option_map (λ (s : Slot). s.name) (slice_get slots 0) ≡ Some (codes "littlefs")

-- the first slot is a superblock's, with this very struct
abbrev pub BeginsWithStruct : List ℕ → List Slot → Type 0
BeginsWithStruct bytes [] = ⊥
BeginsWithStruct bytes (s ∷ slots) = (is_superblock s ≡ true) × (s.struct ≡ Inline bytes)

pub record IsFirst (versions : AcceptedVersions) (block_size count : ℕ) (bytes : List ℕ) (slots : List Slot) : Type 0 where
  pub start : BeginsWithStruct bytes slots
  pub named : IsNamed slots
  pub describes : is_geometry_struct versions block_size count bytes ≡ true

described : (versions : AcceptedVersions) (block_size count : ℕ) (o : Option (List ℕ)) (bytes : List ℕ) → struct_if_geometry_matches versions block_size count o ≡ Some bytes → (o ≡ Some bytes) × (is_geometry_struct versions block_size count bytes ≡ true)
described versions block_size count None bytes e = absurd (cc)
described versions block_size count (Some held) bytes e = go (is_geometry_struct versions block_size count held) refl e
  where
    go : (b : Bool) → is_geometry_struct versions block_size count held ≡ b → cond b (Some held) None ≡ Some bytes → (Some held ≡ Some bytes) × (is_geometry_struct versions block_size count bytes ≡ true)
    go true f k = (k, ap (is_geometry_struct versions block_size count) (sym (same_Some held bytes k)) ∙ f)
    go false f k = absurd (cc)

called : (s : RawSlot) (t : Slot) (name : List ℕ) → IsMadeOf s t → has_name name s.name ≡ true → t.name ≡ name
called s t name m e = ap (λ (x : Slot). x.name) m.made ∙ (bytes_eq-Decides m.name.1 name).0 (sym (ap (has_name name) m.name_is) ∙ e)

calls : (s : RawSlot) (t : Slot) (name : List ℕ) → IsMadeOf s t → t.name ≡ name → has_name name s.name ≡ true
calls s t name m e = ap (has_name name) m.name_is ∙ (bytes_eq-Decides m.name.1 name).1 (sym (ap (λ (x : Slot). x.name) m.made) ∙ e)

pub first_found : (versions : AcceptedVersions) (block_size count : ℕ) (raws : List RawSlot) (slots : List Slot) (bytes : List ℕ) → decoded_slots raws ≡ Some slots → first_slot_struct versions block_size count raws ≡ Some bytes
    → IsFirst versions block_size count bytes slots
first_found versions block_size count [] slots bytes c e = absurd (cc)
first_found versions block_size count (s ∷ raws) slots bytes c e =
    let p = complete_parts s raws slots c in
    subst (IsFirst versions block_size count bytes) (sym p.all_are) (go p.first p.others (made_of s p.first p.is_first) (is_superblock_name s.name && has_name (codes "littlefs") s.name) refl e)
  where
    go : (t : Slot) (ts : List Slot) → IsMadeOf s t → (b : Bool) → (is_superblock_name s.name && has_name (codes "littlefs") s.name) ≡ b → cond b (struct_if_geometry_matches versions block_size count (inline_bytes s.struct)) None ≡ Some bytes
        → IsFirst versions block_size count bytes (t ∷ ts)
    go t ts m false n k = absurd (cc)
    go t ts m true n k =
        let both = and_parts (is_superblock_name s.name) (has_name (codes "littlefs") s.name) n in
        let d = described versions block_size count (inline_bytes s.struct) bytes k in
        record {
          start = (slot_named s t m ∙ both.0, slot_struct s t bytes m d.0);
          named = ap (λ (x : List ℕ). Some x) (called s t (codes "littlefs") m both.1);
          describes = d.1;
        }

pub first_is : (versions : AcceptedVersions) (block_size count : ℕ) (raws : List RawSlot) (slots : List Slot) (bytes : List ℕ) → decoded_slots raws ≡ Some slots → IsFirst versions block_size count bytes slots
    → first_slot_struct versions block_size count raws ≡ Some bytes
first_is versions block_size count [] slots bytes c f = absurd (subst (BeginsWithStruct bytes) (sym (same_Some [] slots c)) f.start)
first_is versions block_size count (s ∷ raws) slots bytes c f =
    let p = complete_parts s raws slots c in
    go p.first p.others (made_of s p.first p.is_first) (subst (IsFirst versions block_size count bytes) p.all_are f)
  where
    go : (t : Slot) (ts : List Slot) → IsMadeOf s t → IsFirst versions block_size count bytes (t ∷ ts) → first_slot_struct versions block_size count (s ∷ raws) ≡ Some bytes
    go t ts m h =
        ap (λ b. cond b (struct_if_geometry_matches versions block_size count (inline_bytes s.struct)) None)
        (and_from (is_superblock_name s.name) (has_name (codes "littlefs") s.name) (sym (slot_named s t m) ∙ h.start.0) (calls s t (codes "littlefs") m (same_Some t.name (codes "littlefs") h.named)))
        ∙ ap (struct_if_geometry_matches versions block_size count) (slot_inline s t bytes m h.start.1) ∙ ap (λ b. cond b (Some bytes) None) h.describes

pub struct_described : (disk : Disk) (bytes : List ℕ) → is_geometry_struct disk.profile.versions disk.block_size (block_count disk) bytes ≡ true → IsSuperblockStruct disk bytes
struct_described disk bytes e =
    let a = and_parts (length bytes == 24) _ e in
    let b = and_parts (accepts_version disk.profile.versions (superblock_fields bytes).version) _ a.1 in
    let c = and_parts ((superblock_fields bytes).block_size == disk.block_size) _ b.1 in
    record { len = eqb-true _ _ a.0; version = b.0; block_size = eqb-true _ _ c.0; block_count = eqb-true _ _ c.1 }

pub describes_struct : (disk : Disk) (bytes : List ℕ) → IsSuperblockStruct disk bytes → is_geometry_struct disk.profile.versions disk.block_size (block_count disk) bytes ≡ true
describes_struct disk bytes h =
    and_from _ _ (eq-eqb _ _ h.len) (and_from _ _ h.version (and_from _ _ (eq-eqb _ _ h.block_size) (eq-eqb _ _ h.block_count)))

-- the disk's struct repeats itself
pub first_begins : (disk : Disk) (bytes : List ℕ) (slots : List Slot) → IsSuperblockStruct disk bytes → BeginsWithStruct bytes slots → FirstSlotIsSuperblock disk.profile.versions bytes slots
first_begins disk bytes [] h start = absurd start
first_begins disk bytes (s ∷ slots) h start = (start.0, (bytes, (start.1, record { len = refl; version = h.version; rest = refl })))

-- the slot with the struct
pub begins_struct : (bytes : List ℕ) (slots : List Slot) → BeginsWithStruct bytes slots → (s : Slot) × ((slice_get slots 0 ≡ Some s) × (s.struct ≡ Inline bytes))
begins_struct bytes [] start = absurd start
begins_struct bytes (s ∷ slots) start = (s, (refl, start.1))

-- a superblock of the disk in slot 0
pub first_of_disk : (disk : Disk) (slots : List Slot) (s : Slot) → slice_get slots 0 ≡ Some s → (is : IsDiskSuperblock disk s) → IsFirst disk.profile.versions disk.block_size (block_count disk) is.bytes slots
first_of_disk disk [] s e is = absurd (cc)
first_of_disk disk (x ∷ slots) s e is =
    let same = same_Some x s e in
    record {
      start = (ap is_superblock same ∙ is.kind, ap (λ (t : Slot). t.struct) same ∙ is.inline);
      named = ap (λ (t : Slot). Some t.name) same ∙ ap (λ (n : List ℕ). Some n) is.name;
      describes = describes_struct disk is.bytes is.struct;
    }
