-- The superblock with which the root directory begins.
use Rattle.std.proofs.Common.{ℕ, zero, suc, ◌≡◌, ◌<◌, ◌+◌, ◌∙◌, true, List, [], ◌∷◌, length, drop, take, slice_get, slice_index_or, Some, refl, sym, ap, subst, arith}
use Rattle.lfs_lookup.proofs.Common.{option_and_then, get_or-take, length-take, take_all, Disk, superblock_fields, Inline, Slot, Pair, count_before_root, begins_with_superblock, BeginsWithSuperblock, IsAccepted, empty_anchor}
use Rattle.lfs_model.specs.declared.limits.AcceptedVersions.{AcceptedVersions}
use Rattle.lfs_model.specs.tree.Profile.{struct_superblock_fields, image_superblock_fields}
use Rattle.lfs_model.specs.tree.View.{first_pair_slots}

-- slot 0 has a superblock's struct of 24 bytes
pub record HasSuperblockInFirstSlot (slots : List Slot) : Type 0 where
  pub slot : Slot
  pub own : List ℕ
  pub at : slice_get slots 0 ≡ Some slot
  pub is : slot.struct ≡ Inline own
  pub len : length own ≡ 24

in_first_slot : (versions : AcceptedVersions) (bytes : List ℕ) (slots : List Slot) → length bytes ≡ 24 → begins_with_superblock slots ≡ true → BeginsWithSuperblock versions bytes slots → HasSuperblockInFirstSlot slots
in_first_slot versions bytes [] n starts h = absurd (cc)
in_first_slot versions bytes (s ∷ slots) n starts h = record { slot = s; own = h.1.0; at = refl; is = h.1.1.0; len = h.1.1.1.len ∙ n }

slots_from : (n : ℕ) (ps : List Pair) → first_pair_slots (drop n ps) ≡ (slice_index_or ps n empty_anchor).content.slots
slots_from zero [] = refl
slots_from zero (p ∷ ps) = refl
slots_from (suc n) [] = refl
slots_from (suc n) (p ∷ ps) = slots_from n ps

some_root : (n : ℕ) (ps : List Pair) → begins_with_superblock (first_pair_slots (drop n ps)) ≡ true → n < length ps
some_root zero [] e = absurd (cc)
some_root zero (p ∷ ps) e = omega arith
some_root (suc n) [] e = absurd (cc)
some_root (suc n) (p ∷ ps) e = let l = some_root n ps e in omega arith

-- the root's first pair begins with one
pub root_superblock : (disk : Disk) (ps : List Pair) (root : ℕ) → IsAccepted disk ps → root ≡ count_before_root ps → HasSuperblockInFirstSlot (slice_index_or ps root empty_anchor).content.slots
root_superblock disk ps root ok is =
    let n = count_before_root ps in
    let s = ok.superblock in
    let below = some_root n ps ok.root in
    let many = length-take (n + 1) ps in
    subst (λ k. HasSuperblockInFirstSlot (slice_index_or ps k empty_anchor).content.slots) (sym is)
    (in_first_slot disk.profile.versions s.0 (slice_index_or ps n empty_anchor).content.slots s.1.0.len
    (ap begins_with_superblock (sym (slots_from n ps)) ∙ ok.root)
    (subst (λ (p : Pair). BeginsWithSuperblock disk.profile.versions s.0 p.content.slots) (get_or-take (n + 1) ps n empty_anchor (omega arith))
    (s.1.1 n empty_anchor (omega (arith, many, below)))))

-- and that is the image's
pub image_superblock : (ps : List Pair) (root : ℕ) (slot : Slot) (own : List ℕ) → root ≡ count_before_root ps → slice_get (slice_index_or ps root empty_anchor).content.slots 0 ≡ Some slot → slot.struct ≡ Inline own → image_superblock_fields ps ≡ Some (superblock_fields own)
image_superblock ps root slot own is at has =
    ap (λ (slots : List Slot). option_and_then (λ (s : Slot). struct_superblock_fields s.struct) (slice_get slots 0)) (slots_from (count_before_root ps) ps ∙ ap (λ k. (slice_index_or ps k empty_anchor).content.slots) (sym is))
    ∙ ap (option_and_then (λ (s : Slot). struct_superblock_fields s.struct)) at
    ∙ ap struct_superblock_fields has

-- its 24 bytes are all that it has
pub whole_struct : (own : List ℕ) → length own ≡ 24 → take 24 (drop 0 own) ≡ own
whole_struct own len = take_all 24 own (omega arith)
