use Rattle.std.proofs.Common.{ℕ, ◌+◌, ◌≡◌, ◌≤◌, inl, inr, true, List, [], ◌∷◌, length, refl, sym, ap, ◌∙◌, arith}
use Rattle.std.specs.Prelude.{codes}
use Rattle.lfs_model.proofs.Common.{same_Some, default_profile, Slot, Struct, Inline, Ctz, Branch, attributes_with, superblock_slot, file_numbered, file_slot, directory_slot, ReplacesSlot, IsStructOfBytes, StoresWriter, large_image, root_and_directory, root_and_two_pairs, root_with_file, long_attribute_slot, writer_session, all_slots}
use Rattle.lfs_model.proofs.Sites.{HoldsForSome}
use Rattle.lfs_model.proofs.Spliced.{comes}
use Rattle.lfs_model.proofs.slots.slots_and_attributes_are_replaced.Goals as goal

abbrev root : List Slot
root = superblock_slot default_profile 4096 16 ∷ directory_slot (codes "d") (4, 5) ∷ []

pub returns-clause-onto : goal.returns-clause-onto
returns-clause-onto c = (
  refl,
  (
    file_slot (codes "a"),
    root_and_directory (file_slot (codes "e") ∷ []) [],
    root_and_directory [] [],
    (
      refl,
      record { before = _ ∷ []; pair = _; after = _; left = []; right = []; was = refl; held = refl; is = refl },
      record { before = []; pair = _; after = _; left = root; right = []; was = refl; held = refl; is = refl },
      record { before = []; pair = _; after = _; left = root; right = []; was = refl; held = refl; is = refl },
    ),
  ),
)

pub returns-clause-set : goal.returns-clause-set
returns-clause-set c = (refl, (file_slot (codes "a"), long_attribute_slot (codes "a"), (refl, refl, record { before = _ ∷ []; pair = _; after = _; left = []; right = []; was = refl; held = refl; is = refl })))

pub returns-clause-removed : goal.returns-clause-removed
returns-clause-removed c = (refl, (long_attribute_slot (codes "a"), file_slot (codes "a"), (refl, refl, record { before = _ ∷ []; pair = _; after = _; left = []; right = []; was = refl; held = refl; is = refl })))

pub returns-clause-clean : goal.returns-clause-clean
returns-clause-clean c = (refl, inl (refl, refl))

-- no slot has an attribute
unset : ReplacesSlot (λ u v. v ≡ record u { attributes = attributes_with 0x41 (codes "x") u.attributes }) root_and_two_pairs (codes "d" ∷ codes "a" ∷ []) root_and_two_pairs root_and_two_pairs → ⊥
unset (u, v, (at, is, spliced)) = go (comes v (u ∷ []) root_and_two_pairs root_and_two_pairs spliced)
  where
    some : length v.attributes ≡ 1
    some = ap (λ (s : Slot). length s.attributes) is ∙ sym (ap (λ (s : Slot). length (attributes_with 0x41 (codes "x") s.attributes)) (same_Some (file_slot (codes "a")) u at))

    none : (s : Slot) → length s.attributes ≡ 0 → s ≡ v → ⊥
    none s e f = absurd (let k = ap (λ (t : Slot). length t.attributes) f in omega (arith, some))

    go : HoldsForSome (λ s. s ≡ v) (all_slots root_and_two_pairs) → ⊥
    go (inl e) = none (superblock_slot default_profile 4096 16) refl e
    go (inr (inl e)) = none (directory_slot (codes "d") (4, 5)) refl e
    go (inr (inr (inl e))) = none (file_slot (codes "a")) refl e
    go (inr (inr (inr (inl e)))) = none (file_slot (codes "z")) refl e
    go (inr (inr (inr (inr e)))) = e

pub returns-clause-unset : goal.returns-clause-unset
returns-clause-unset c = λ h. unset h.1

-- no slot says `hi`
size : Struct → ℕ
size (Inline bytes) = length bytes
size _ = 0

stored : (s : Struct) → IsStructOfBytes large_image (codes "hi") s → size s ≡ 2
unfolding size
stored (Inline own) h = ap length h.0
stored (Ctz head long) h = absurd (let k : 512 + 1 ≤ 2 = h.2 in omega arith)
stored (Branch to) h = absurd h

uncommitted : ReplacesSlot (λ u v. (v ≡ record u { struct = v.struct }) × IsStructOfBytes large_image (codes "hi") v.struct) (root_with_file (codes "a") []) (codes "a" ∷ []) (root_with_file (codes "a") []) (root_with_file (codes "a") []) → ⊥
unfolding size
uncommitted (u, v, (at, (is, said), spliced)) = go (comes v (u ∷ []) (root_with_file (codes "a") []) (root_with_file (codes "a") []) spliced)
  where
    two : size v.struct ≡ 2
    two = stored v.struct said

    other : (s : Slot) (n : ℕ) → size s.struct ≡ n → s ≡ v → n ≡ 2
    other s n e f = sym e ∙ ap (λ (t : Slot). size t.struct) f ∙ two

    go : HoldsForSome (λ s. s ≡ v) (all_slots (root_with_file (codes "a") [])) → ⊥
    go (inl e) = absurd (let k : 24 ≡ 2 = other (superblock_slot default_profile 4096 16) 24 refl e in omega arith)
    go (inr (inl e)) = absurd (let k : 0 ≡ 2 = other (file_slot (codes "a")) 0 refl e in omega arith)
    go (inr (inr e)) = e

either : StoresWriter large_image (root_with_file (codes "a") []) (file_numbered (writer_session (codes "a" ∷ []) true (codes "hi")).files 0) (root_with_file (codes "a") []) (root_with_file (codes "a") []) → ⊥
either (inl e) = absurd (let k = e.0 in cc)
either (inr e) = uncommitted e.1

pub returns-clause-uncommitted : goal.returns-clause-uncommitted
returns-clause-uncommitted c = λ h. either h.1
