-- Inline contents are short.
use Rattle.std.proofs.Common.{ℕ, zero, suc, ◌≡◌, ◌<◌, ◌==◌, ◌&&◌, Bool, true, false, cond, not, List, [], ◌∷◌, length, map, Option, Some, None, option_and_then, option_map, refl, sym, subst}
use Rattle.lfs_lookup.proofs.Common.{remove, same_Some, recursion_from_All, RawContent, RawSlot, decoded_slot, decoded_slots, decoded_content, kind_of_type, decoded_struct, directory_struct_type, inline_struct_type, decoded_address, Disk, disk_block, IsWellFormedSlot, AreWellFormed, IsNameOrStructIfAny, Gstate, Slot, Inline, Ctz, Branch, same_pair, Pair, pairs_gstate, slots_not_moved, Path, IsAccepted, IsDirectoryAtPath, all_entries, complete_parts, completed_parts, Each, each_joined, each_weaker, logged, AreByteBlocks, named_struct, AreNamedStructsInLimits, IsNamedStructInLimits}
use Rattle.lfs_model.specs.format.Content.{content_after, content_at, has_commit, later_committed_block, current_block, is_later, empty_raw_content}
use Rattle.lfs_model.specs.format.Log.{block_entries, block_revision}
use Rattle.lfs_device.specs.Bytes.{ElementsAreBytes}
use Rattle.lfs_lookup.specs.ListAt.{StructFitsTag}
use Rattle.lfs_lookup.proofs.ListAtNames.{name_fits, fitting_names}
use Rattle.lfs_lookup.proofs.Visits.{each_both, each_entry}

abbrev short_slot : Slot → Type 0
short_slot s = StructFitsTag s.struct

-- ---- the slots of a log

short_of : (a b : Bool) (bytes : List ℕ) (to : ℕ × ℕ) (head size : ℕ) → length bytes < 0x3ff → StructFitsTag (cond a (Inline bytes) (cond b (Branch to) (Ctz head size)))
short_of true b bytes to head size l = l
short_of false true bytes to head size l = tt
short_of false false bytes to head size l = tt

short_typed : (kind : ℕ) (bytes : List ℕ) → length bytes < 0x3ff → StructFitsTag (decoded_struct kind bytes)
short_typed kind bytes l = short_of (kind == inline_struct_type) (kind == directory_struct_type) bytes (decoded_address bytes) _ _ l

short_complete : (s : RawSlot) (t : Slot) → IsWellFormedSlot s → decoded_slot s ≡ Some t → short_slot t
short_complete s t h e = go s.name s.struct h.struct e
  where
    go : (n p : Option (ℕ × List ℕ)) → IsNameOrStructIfAny 2 p
        → option_and_then (λ name. option_map (λ struct. record { kind = kind_of_type name.0; name = name.1; struct = decoded_struct struct.0 struct.1; attributes = s.attributes }) p) n ≡ Some t → short_slot t
    go None p k f = absurd (cc)
    go (Some n) None k f = absurd (cc)
    go (Some n) (Some p) k f =
        subst short_slot (same_Some (record { kind = kind_of_type n.0; name = n.1; struct = decoded_struct p.0 p.1; attributes = s.attributes }) t f) (short_typed p.0 p.1 k.short)

short_all : (raw : List RawSlot) (all : List Slot) → AreWellFormed raw → decoded_slots raw ≡ Some all → Each short_slot all
short_all [] all h e = subst (Each short_slot) (same_Some [] all e) tt
short_all (x ∷ xs) all h e =
    let p = complete_parts x xs all e in
    subst (Each short_slot) (sym p.all_are) (short_complete x p.first h.0 p.is_first, short_all xs p.others h.1 p.are_others)

-- ---- the slots of a pair

bytes_of_holder : (a b block : List ℕ) → ElementsAreBytes a → ElementsAreBytes b → later_committed_block a b ≡ Some block → ElementsAreBytes block
bytes_of_holder a b block h k e = go (has_commit a) (has_commit b) (is_later (block_revision a) (block_revision b)) e
  where
    go : (x y z : Bool) → cond (not x) (cond y (Some b) None) (cond (y && z) (Some b) (Some a)) ≡ Some block → ElementsAreBytes block
    go false false z f = absurd (cc)
    go false true z f = subst ElementsAreBytes (same_Some b block f) k
    go true false z f = subst ElementsAreBytes (same_Some a block f) h
    go true true false f = subst ElementsAreBytes (same_Some a block f) h
    go true true true f = subst ElementsAreBytes (same_Some b block f) k

short_pair : (disk : Disk) (p : Pair) → AreByteBlocks disk.blocks → content_at disk p.at ≡ Some p.content → Each short_slot p.content.slots
short_pair disk p bytes e = go (current_block disk p.at) refl e
  where
    by_raw : (block : List ℕ) (o : Option RawContent) → ElementsAreBytes block → content_after empty_raw_content (block_entries block) ≡ o → option_and_then decoded_content o ≡ Some p.content → Each short_slot p.content.slots
    by_raw block None h f k = absurd (cc)
    by_raw block (Some raw) h f k = short_all raw.slots p.content.slots (logged block raw h f).slots (completed_parts raw p.content k).slots

    go : (o : Option (List ℕ)) → current_block disk p.at ≡ o → option_and_then decoded_content (option_and_then (λ block. content_after empty_raw_content (block_entries block)) o) ≡ Some p.content → Each short_slot p.content.slots
    go None f k = absurd (cc)
    go (Some block) f k =
        by_raw block (content_after empty_raw_content (block_entries block)) (bytes_of_holder (disk_block disk p.at.0) (disk_block disk p.at.1) block (bytes p.at.0) (bytes p.at.1) f) refl k

each_remove : (xs : List Slot) (id : ℕ) → Each short_slot xs → Each short_slot (remove xs id)
each_remove [] zero h = tt
each_remove [] (suc id) h = tt
each_remove (x ∷ xs) zero h = h.1
each_remove (x ∷ xs) (suc id) h = (h.0, each_remove xs id h.1)

short_unmoved : (g : Gstate) (p : Pair) → Each short_slot p.content.slots → Each short_slot (slots_not_moved g p)
short_unmoved g p h = go (g.kind == 0x4ff && same_pair g.pair p.at)
  where
    go : (b : Bool) → Each short_slot (cond b (remove p.content.slots g.id) p.content.slots)
    go true = each_remove p.content.slots g.id h
    go false = h

-- ---- the entries of a directory

short_shapes : (slots : List Slot) → Each (λ s. IsNamedStructInLimits (named_struct s)) slots → AreNamedStructsInLimits (map named_struct slots)
short_shapes [] h = tt
short_shapes (s ∷ slots) h = (h.0, short_shapes slots h.1)

pub short_entries : (disk : Disk) (ps : List Pair) (path : Path) (at : ℕ × ℕ) → AreByteBlocks disk.blocks → IsAccepted disk ps → IsDirectoryAtPath ps path at → AreNamedStructsInLimits (map named_struct (all_entries ps at))
short_entries disk ps path at bytes ok leads =
    let pairs : Each (λ p. Each short_slot (slots_not_moved (pairs_gstate ps) p)) ps =
    each_weaker (λ p. content_at disk p.at ≡ Some p.content) (λ p. Each short_slot (slots_not_moved (pairs_gstate ps) p)) (λ p e. short_unmoved (pairs_gstate ps) p (short_pair disk p bytes e)) ps
    (recursion_from_All (λ (p : Pair). content_at disk p.at ≡ Some p.content) ps ok.thread.contents) in
    short_shapes (all_entries ps at) (each_both short_slot name_fits (λ s. IsNamedStructInLimits (named_struct s)) (all_entries ps at) (λ s k l. (k, l))
    (each_entry short_slot disk ps path at ok leads (each_joined short_slot (slots_not_moved (pairs_gstate ps)) ps pairs)) (fitting_names disk ps path at ok leads))
