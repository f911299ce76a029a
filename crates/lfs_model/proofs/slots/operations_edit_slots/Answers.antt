use Rattle.std.proofs.Common.{ℕ, ◌≡◌, inl, inr, List, [], ◌∷◌, refl, sym, ap, arith}
use Rattle.std.specs.Prelude.{codes, slice_index}
use Rattle.lfs_model.proofs.Common.{same_Some, default_profile, Slot, Struct, Inline, superblock_slot, file_slot, directory_slot, root_and_directory, root_with_file, all_slots}
use Rattle.lfs_model.specs.session.SlotEdits.{MovesSlot}
use Rattle.lfs_model.proofs.Sites.{HoldsForSome}
use Rattle.lfs_model.proofs.Spliced.{comes}
use Rattle.lfs_model.proofs.slots.operations_edit_slots.Goals as goal

abbrev root : List Slot
root = superblock_slot default_profile 4096 16 ∷ directory_slot (codes "d") (4, 5) ∷ []

pub returns-clause-made : goal.returns-clause-made
returns-clause-made c = (refl, record { before = []; pair = _; after = _; left = root; right = []; was = refl; held = refl; is = refl })

pub returns-clause-moved : goal.returns-clause-moved
returns-clause-moved c = (
  refl,
  (
    file_slot (codes "a"),
    root_and_directory [] [],
    root_and_directory [] [],
    (
      refl,
      record { before = _ ∷ []; pair = _; after = _; left = []; right = []; was = refl; held = refl; is = refl },
      refl,
      record { before = []; pair = _; after = _; left = root; right = []; was = refl; held = refl; is = refl },
    ),
  ),
)

pub returns-clause-removed : goal.returns-clause-removed
returns-clause-removed c = (refl, file_slot (codes "a"), (refl, record { before = _ ∷ []; pair = _; after = _; left = []; right = []; was = refl; held = refl; is = refl }))

pub returns-clause-no_slot : goal.returns-clause-no_slot
returns-clause-no_slot c = λ new h. absurd (let k = h.2.0 in cc)

abbrev first_byte_of : Struct → ℕ
first_byte_of (Inline bytes) = slice_index bytes 0
first_byte_of _ = 0

abbrev first_byte : Slot → ℕ
first_byte s = first_byte_of s.struct

-- the moved slot says `x`, and none of these does
other_bytes : MovesSlot (root_with_file (codes "a") (codes "x")) (codes "a" ∷ []) (codes "b" ∷ []) (root_with_file (codes "a") (codes "x")) (root_with_file (codes "b") (codes "y")) → ⊥
other_bytes (u, left, cleared, (at, out, clear, into)) = go (comes (record u { name = codes "b" }) [] cleared (root_with_file (codes "b") (codes "y")) into)
  where
    says : first_byte u ≡ 120
    says = sym (ap first_byte (same_Some (record (file_slot (codes "a")) { struct = Inline (codes "x") }) u at))

    go : HoldsForSome (λ s. s ≡ record u { name = codes "b" }) (all_slots (root_with_file (codes "b") (codes "y"))) → ⊥
    go (inl e) = absurd (let k : 0 ≡ first_byte u = ap first_byte e in omega (arith, says))
    go (inr (inl e)) = absurd (let k : 121 ≡ first_byte u = ap first_byte e in omega (arith, says))
    go (inr (inr e)) = e

pub returns-clause-other_bytes : goal.returns-clause-other_bytes
returns-clause-other_bytes c = λ h. other_bytes h.1
