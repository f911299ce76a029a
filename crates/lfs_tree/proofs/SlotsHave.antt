-- A property of each slot of an image is one of the slot at a path.
use Rattle.std.proofs.Common.{◌≡◌, ◌∙◌, List, [], ◌∷◌, ◌++◌, Option, Some, None, refl, sym, ap, subst}
use Rattle.lfs_tree.proofs.Common.{option_and_then, same_Some, Disk, Name, slot_of_path, Slot, Struct, Inline, Ctz, Branch, Pair, root_address, Path, struct_directory_address, entry_named, root_slot, slot_at_path, IsAccepted, IsDirectoryAtPath, all_unmoved_slots, all_entries, Each}
use Rattle.lfs_model.specs.tree.Tree.{child_slot}
use Rattle.lfs_model.proofs.Walks.{walk_on}
use Rattle.lfs_lookup.proofs.AtPaths.{each_found}
use Rattle.lfs_lookup.proofs.Visits.{each_entry}

module _ (P : Slot → Type 0) (disk : Disk) (ps : List Pair) (ok : IsAccepted disk ps) (all : Each P (all_unmoved_slots ps)) where
  child_has : (above : Path) (s c : Slot) (n : Name) → slot_of_path ps above ≡ Some s → child_slot (all_entries ps) s n ≡ Some c → P c
  child_has above s c n at child = go s.struct refl
    where
      go : (x : Struct) → s.struct ≡ x → P c
      go (Inline bytes) e = absurd (let k = sym (ap (λ z. option_and_then (λ at. entry_named n (all_entries ps at)) (struct_directory_address z)) e) ∙ child in cc)
      go (Ctz head size) e = absurd (let k = sym (ap (λ z. option_and_then (λ at. entry_named n (all_entries ps at)) (struct_directory_address z)) e) ∙ child in cc)
      go (Branch to) e =
          let leads : IsDirectoryAtPath ps above to = ap (λ o. option_and_then (λ (f : Slot). struct_directory_address f.struct) o) at ∙ ap struct_directory_address e in
          each_found P n (all_entries ps to) c (each_entry P disk ps above to ok leads all)
          (sym (ap (λ z. option_and_then (λ at. entry_named n (all_entries ps at)) (struct_directory_address z)) e) ∙ child)

  below_has : (path above : Path) (s u : Slot) → slot_of_path ps above ≡ Some s → P s → slot_at_path (all_entries ps) s path ≡ Some u → P u
  below_has [] above s u at has e = subst P (same_Some s u e) has
  below_has (n ∷ path) above s u at has e = go (child_slot (all_entries ps) s n) refl (λ c k h. below_has path (above ++ n ∷ []) c u
      (walk_on (all_entries ps) (root_slot (root_address ps)) s above (n ∷ []) at ∙ ap (λ o. option_and_then (λ x. slot_at_path (all_entries ps) x []) o) k) (child_has above s c n at k) h) e
    where
      go : (o : Option Slot) → child_slot (all_entries ps) s n ≡ o → ((c : Slot) → child_slot (all_entries ps) s n ≡ Some c → slot_at_path (all_entries ps) c path ≡ Some u → P u)
          → option_and_then (λ child. slot_at_path (all_entries ps) child path) o ≡ Some u → P u
      go None k on h = absurd (cc)
      go (Some c) k on h = on c k h

  -- the root's own slot is in no directory
  pub slot_has : P (root_slot (root_address ps)) → (path : Path) (u : Slot) → slot_of_path ps path ≡ Some u → P u
  slot_has root path u e = below_has path [] (root_slot (root_address ps)) u refl root e
