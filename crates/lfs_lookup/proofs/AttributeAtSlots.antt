-- The attributes of a slot, as its log has them.
use Rattle.std.proofs.Common.{ℕ, zero, suc, ◌≡◌, ◌+◌, ◌/◌, ◌%◌, ◌^◌, ◌<◌, ◌≤◌, ◌==◌, ◌∙◌, Bool, true, false, cond, List, [], ◌∷◌, length, slice_get, slice_index_or, Option, Some, None, Result, Ok, Err, Vec, Global, Bor, refl, sym, ap, ap₂, subst, arith}
use Rattle.std.specs.Prelude.{IfOk, IfSome, IsSome, find}
use Rattle.lfs_lookup.proofs.Common.{option_and_then, option_copied, option_map, same_Some, node_attributes_of, RawSlot, attribute_bytes, decoded_slot, kind_of_type, slot_of_id, decoded_struct, Disk, AttributesInOrder, IsWellFormedSlot, AreWellFormed, slot_bytes, bytes_if_type, Attributes, Slot, Struct, Inline, Ctz, Branch, slot_of_path, Pair, Path, struct_node, disk_list_bytes, all_entries, disk_tree, KeptThread, ThreadView, cached_log, empty_anchor, IsLookupResult, AreAttributesAt, IsFoundPairCached, IsVisibleSlot}
use Rattle.lfs_device.specs.declared.error.Error.{Error}
use Rattle.lfs_model.specs.session.Operations as ops
use Rattle.lfs_lookup.specs.AttributeAt.{IsAttribute, AttributeFitsTag, lookup_slot_position}
use Rattle.lfs_lookup.specs.BytesAt.{IsSpotSlot}
use Rattle.lfs_lookup.specs.declared.found_entries.FoundAttribute.{FoundAttribute}
use Rattle.lfs_lookup.specs.declared.paths.VisiblePathLookup.{VisiblePathLookup}
use Rattle.lfs_lookup.specs.declared.paths.VisiblePathLookup.TheVariants as shown
use Rattle.lfs_lookup.specs.declared.search.SlotPosition.{SlotPosition}
use Rattle.lfs_lookup.proofs.AtPaths.{nothing_at, refused_none}
use Rattle.lfs_lookup.proofs.BytesAtSlots.{behind_below, slot_stands}

-- ---- in a block

attribute_kind : (s : RawSlot) (kind : ℕ) → kind < 2 ^ 8 → slot_bytes (0x300 + kind) s ≡ attribute_bytes kind s.attributes
attribute_kind s kind l =
    let d : (0x300 + kind) / 2 ^ 8 ≡ 3 = omega (arith, l) in
    let m : (0x300 + kind) % 2 ^ 8 ≡ kind = omega (arith, l) in
    ap₂ (λ d m. cond (d == 0) (bytes_if_type (0x300 + kind) s.name) (cond (d == 2) (bytes_if_type (0x300 + kind) s.struct) (cond (d == 3) (attribute_bytes m s.attributes) None))) d m

pub same_attributes : (s : RawSlot) (t : Slot) → decoded_slot s ≡ Some t → s.attributes ≡ t.attributes
same_attributes s t e = go s.name s.struct e
  where
    go : (n p : Option (ℕ × List ℕ)) →
        option_and_then (λ name. option_map (λ struct. record { kind = kind_of_type name.0; name = name.1; struct = decoded_struct struct.0 struct.1; attributes = s.attributes }) p) n ≡ Some t → s.attributes ≡ t.attributes
    go None p k = absurd (cc)
    go (Some n) None k = absurd (cc)
    go (Some n) (Some p) k = ap (λ (x : Slot). x.attributes) (same_Some (record { kind = kind_of_type n.0; name = n.1; struct = decoded_struct p.0 p.1; attributes = s.attributes }) t k)

pub attribute_if_slot : (s : RawSlot) (t : Slot) (kind : ℕ) → kind < 2 ^ 8 → decoded_slot s ≡ Some t → slot_bytes (0x300 + kind) s ≡ attribute_bytes kind t.attributes
attribute_if_slot s t kind l e = attribute_kind s kind l ∙ ap (attribute_bytes kind) (same_attributes s t e)

pub parts_of_id : (raw : List RawSlot) (id : ℕ) → AreWellFormed raw → IsWellFormedSlot (slot_of_id raw id)
parts_of_id [] zero h = record { name = tt; struct = tt; attributes = tt }
parts_of_id [] (suc id) h = record { name = tt; struct = tt; attributes = tt }
parts_of_id (s ∷ raw) zero h = h.0
parts_of_id (s ∷ raw) (suc id) h = parts_of_id raw id h.1

short_one : (low : ℕ) (xs : Attributes) (kind : ℕ) → AttributesInOrder low xs → IfSome (attribute_bytes kind xs) (λ b. length b ≤ 1022)
short_one low [] kind h = tt
short_one low (a ∷ xs) kind h = go (a.0 == kind) (short_one (a.0 + 1) xs kind h.3)
  where
    go : (b : Bool) → IfSome (attribute_bytes kind xs) (λ b. length b ≤ 1022) → IfSome (option_map (λ (x : ℕ × List ℕ). x.1) (cond b (Some a) (find (λ (x : ℕ × List ℕ). x.0 == kind) xs))) (λ b. length b ≤ 1022)
    go true r = let l = h.2 in omega (arith, l)
    go false r = r

pub short_in : (raw : List RawSlot) (id kind : ℕ) → kind < 2 ^ 8 → AreWellFormed raw → IfSome (slot_bytes (0x300 + kind) (slot_of_id raw id)) (λ b. length b ≤ 1022)
short_in raw id kind l h =
    subst (λ o. IfSome o (λ b. length b ≤ 1022)) (sym (attribute_kind (slot_of_id raw id) kind l)) (short_one 0 (slot_of_id raw id).attributes kind (parts_of_id raw id h).attributes)

pub short_result : (r : Option (Bor (List ℕ))) (o : Option (List ℕ)) → option_copied r ≡ o → IfSome o (λ b. length b ≤ 1022) → IfSome r (λ x. length x.now ≤ 1022)
short_result None o e h = tt
short_result (Some x) o e h = subst (λ z. IfSome z (λ b. length b ≤ 1022)) (sym e) h

pub short_copy : (r : Option (Bor (List ℕ))) (found : Option (Vec ℕ Global)) → option_map (λ (v : Vec ℕ Global). v.items) found ≡ option_copied r → IfSome r (λ x. length x.now ≤ 1022) → AttributeFitsTag found
short_copy r None e h = tt
short_copy None (Some v) e h = absurd (cc)
short_copy (Some x) (Some v) e h = subst (λ b. length b ≤ 1022) (sym (same_Some v.items x.now e)) h

-- ---- at a path

pub is_slot_of : (t : KeptThread) (path : Path) (x : VisiblePathLookup) (slot : SlotPosition) → IsLookupResult t path x → lookup_slot_position x ≡ Some slot → (moved : Option SlotPosition) × IsVisibleSlot t.pairs moved path slot
is_slot_of t path shown.Root slot s e = absurd (cc)
is_slot_of t path (shown.Directory at first) slot s e = (s.moved, subst (λ z. IsVisibleSlot t.pairs s.moved path z) (same_Some at slot e) s.shows.1.0)
is_slot_of t path (shown.File at contents) slot s e = (s.moved, subst (λ z. IsVisibleSlot t.pairs s.moved path z) (same_Some at slot e) s.shows.1.0)
is_slot_of t path shown.Nothing slot s e = absurd (cc)
is_slot_of t path shown.ParentIsFile slot s e = absurd (cc)
is_slot_of t path shown.ParentIsMissing slot s e = absurd (cc)

node_attributes : (disk : Disk) (ps : List Pair) (x : Slot) (s : Struct) → node_attributes_of (Some (struct_node (disk_list_bytes disk) (all_entries ps) x.attributes s)) ≡ x.attributes
node_attributes disk ps x (Inline bytes) = refl
node_attributes disk ps x (Ctz head size) = refl
node_attributes disk ps x (Branch to) = refl

attributes_at : (disk : Disk) (ps : List Pair) (path : Path) (x : Slot) → slot_of_path ps path ≡ Some x → x.attributes ≡ node_attributes_of (disk_tree disk ps path)
attributes_at disk ps path x e =
    sym (node_attributes disk ps x x.struct) ∙ ap (λ (o : Option Slot). node_attributes_of (option_map (λ (f : Slot). struct_node (disk_list_bytes disk) (all_entries ps) f.attributes f.struct) o)) (sym e)

-- what is found of the slot at a path
pub record IsSlotFor (t : KeptThread) (path : Path) (slot : SlotPosition) : Type 0 where
  pub held : Slot
  pub below : slot.pair < length t.pairs
  pub there : IsSpotSlot t slot held
  pub attributes : held.attributes ≡ node_attributes_of (disk_tree t.disk t.pairs path)

pub slot_for : (t : KeptThread) (path : Path) (x : VisiblePathLookup) (slot : SlotPosition) → IsLookupResult t path x → lookup_slot_position x ≡ Some slot → IsSlotFor t path slot
slot_for t path x slot shows e =
    let s = (is_slot_of t path x slot shows e).1 in
    record {
      held = s.stands.stands.slot;
      below = behind_below t.pairs s.first slot.pair s.stands.pair s.stands.rest s.stands.place;
      there = slot_stands t.pairs s.first s.name slot.pair slot.id s.stands;
      attributes = attributes_at t.disk t.pairs path s.stands.stands.slot s.slot;
    }

pub no_slot : (t : KeptThread) (path : Path) (x : VisiblePathLookup) → IsLookupResult t path x → lookup_slot_position x ≡ None → node_attributes_of (disk_tree t.disk t.pairs path) ≡ []
no_slot t path shown.Root s e = ap (λ p. node_attributes_of (disk_tree t.disk t.pairs p)) s.shows
no_slot t path (shown.Directory at first) s e = absurd (cc)
no_slot t path (shown.File at contents) s e = absurd (cc)
no_slot t path shown.Nothing s e = ap node_attributes_of (nothing_at t.disk t.pairs path s.shows.1)
no_slot t path shown.ParentIsFile s e = ap node_attributes_of (nothing_at t.disk t.pairs path (refused_none t.disk t.pairs path [] ops.NotDir s.shows))
no_slot t path shown.ParentIsMissing s e = ap node_attributes_of (nothing_at t.disk t.pairs path (refused_none t.disk t.pairs path [] ops.NoEnt s.shows))

-- the attributes of what is shown at a path are those of its slot
pub are_held : (t : KeptThread) (path : Path) (x : VisiblePathLookup) (slot : Option SlotPosition) → IsLookupResult t path x → slot ≡ lookup_slot_position x → AreAttributesAt t slot (node_attributes_of (disk_tree t.disk t.pairs path))
are_held t path x None s e = no_slot t path x s (sym e)
are_held t path x (Some spot) s e = let f = slot_for t path x spot s (sym e) in (f.held, (f.there, f.attributes))

pub held_later : (a b : KeptThread) (slot : Option SlotPosition) (attributes : Attributes) → b.pairs ≡ a.pairs → AreAttributesAt a slot attributes → AreAttributesAt b slot attributes
held_later a b None attributes e h = h
held_later a b (Some spot) attributes e h = (h.0, (subst (λ ps. slice_get (slice_index_or ps spot.pair empty_anchor).content.slots spot.id ≡ Some h.0) (sym e) h.1.0, h.1.1))

pub slot_within : (t : KeptThread) (path : Path) (x : VisiblePathLookup) (slot : Option SlotPosition) (now : List Pair) → IsLookupResult t path x → slot ≡ lookup_slot_position x → now ≡ t.pairs → IfSome slot (λ s. s.pair < length now)
slot_within t path x None now s e same = tt
slot_within t path x (Some spot) now s e same = subst (λ ps. spot.pair < length ps) (sym same) (slot_for t path x spot s (sym e)).below

pub slot_is_cached : (t : ThreadView) (x : VisiblePathLookup) (slot : Option SlotPosition) → IsFoundPairCached t x → slot ≡ lookup_slot_position x → IfSome slot (λ s. IsSome (cached_log t s.pair))
slot_is_cached t x slot h e = subst (λ (o : Option SlotPosition). IfSome o (λ s. IsSome (cached_log t s.pair))) (sym e) h

pub attribute_same : (kind : ℕ) (old new : Attributes) (r : Result (Option (Vec ℕ Global)) Error) → old ≡ new → IfOk r (IsAttribute kind old) → IfOk r (IsAttribute kind new)
attribute_same kind old new r e h = subst (λ a. IfOk r (IsAttribute kind a)) e h

pub attribute_then : (kind : ℕ) (old new : Attributes) (r : Result FoundAttribute Error) → old ≡ new → IfOk r (λ f. IsAttribute kind old f.bytes) → IfOk r (λ f. IsAttribute kind new f.bytes)
attribute_then kind old new r e h = subst (λ a. IfOk r (λ f. IsAttribute kind a f.bytes)) e h

pub attribute_given : (kind : ℕ) (attributes : Attributes) (r : Result FoundAttribute Error) → IfOk r (λ f. IsAttribute kind attributes f.bytes) → IfOk r (λ f. AttributeFitsTag f.bytes)
    → IfOk r (λ f. (option_map (λ (v : Vec ℕ Global). v.items) f.bytes ≡ attribute_bytes kind attributes) × IfSome f.bytes (λ v. length v.items ≤ 1022))
attribute_given kind attributes (Ok found) is short = (is, short)
attribute_given kind attributes (Err e) is short = tt
