-- The slot of a new entry, from the result of a look-up.
use Rattle.std.proofs.Common.{◌≡◌, ◌∙◌, true, List, [], ◌∷◌, ◌++◌, map, Some, refl, sym, ap, subst}
use Rattle.std.specs.Prelude.{is_some}
use Rattle.lfs_tree.proofs.Common.{option_map, map-append, last_name, IsInsertionPosition, Name, slot_of_path, Slot, Path, struct_node, disk_list_bytes, all_entries, disk_tree, last_is, KeptThread, IsInsertionSlot, IsVacantPath, IsResultOfPath}
use Rattle.lfs_tree.specs.TreeChanges.{IsMissingNameSlot, is_nothing_found}
use Rattle.lfs_lookup.specs.declared.paths.PathLookup.{PathLookup}
use Rattle.lfs_lookup.specs.declared.paths.PathLookup.TheVariants as found
use Rattle.lfs_lookup.specs.declared.search.SlotPosition.{SlotPosition}

-- what has a slot isn't vacant
taken : (t : KeptThread) (path : Path) (x : Slot) → IsVacantPath (disk_tree t.disk t.pairs) path → slot_of_path t.pairs path ≡ Some x → ⊥
taken t path x v e =
    let k = sym v.nothing ∙ ap (λ o. is_some (option_map (λ (f : Slot). struct_node (disk_list_bytes t.disk) (all_entries t.pairs) f.attributes f.struct) o)) e in absurd (cc)

pub place_found : (t : KeptThread) (path : Path) (f : PathLookup) → IsVacantPath (disk_tree t.disk t.pairs) path → IsResultOfPath t path f → is_nothing_found f ≡ true
place_found t path found.Root v l = let k = sym v.nothing ∙ ap (λ p. is_some (disk_tree t.disk t.pairs p)) l.there in absurd (cc)
place_found t path found.ParentIsFile v l = let k = sym v.parents ∙ l.parents in absurd (cc)
place_found t path found.ParentIsMissing v l = let k = sym v.parents ∙ l.parents in absurd (cc)
place_found t path (found.Nothing parent place) v l = refl
place_found t path (found.Directory parent slot first) v l = let s = l.there.there.0 in absurd (taken t path s.stands.stands.slot v (ap (slot_of_path t.pairs) l.there.is ∙ s.slot))
place_found t path (found.File parent slot contents) v l = let s = l.there.there.0 in absurd (taken t path s.stands.stands.slot v (ap (slot_of_path t.pairs) l.there.is ∙ s.slot))

pub place_for : (t : KeptThread) (path : Path) (f : PathLookup) (name : Name) (spot : SlotPosition) → IsVacantPath (disk_tree t.disk t.pairs) path → IsResultOfPath t path f → IsMissingNameSlot f spot → name ≡ last_name path → IsInsertionSlot t.disk.order t.pairs path name spot
place_for t path found.Root name spot v l h e = absurd h
place_for t path found.ParentIsFile name spot v l h e = absurd h
place_for t path found.ParentIsMissing name spot v l h e = absurd h
place_for t path (found.Directory parent slot first) name spot v l h e = absurd h
place_for t path (found.File parent slot contents) name spot v l h e = absurd h
place_for t path (found.Nothing parent place) name spot v l h e =
    let same : name ≡ l.there.name = e ∙ ap last_name l.there.is ∙ last_is l.there.above l.there.name in
    record {
      above = l.there.above;
      first = parent;
      is = l.there.is ∙ ap (λ n. l.there.above ++ n ∷ []) (sym same);
      on = l.there.there.on;
      belongs = subst (λ (s : SlotPosition). IsInsertionPosition t.disk.order t.pairs parent name s.pair s.id) h (subst (λ n. IsInsertionPosition t.disk.order t.pairs parent n place.pair place.id) (sym same) l.there.there.belongs);
    }

pub last_of_map : {A : Type 0} (f : A → Name) (xs above : List A) (x : A) → xs ≡ above ++ x ∷ [] → f x ≡ last_name (map f xs)
last_of_map f xs above x e = sym (ap last_name (ap (map f) e ∙ map-append f above (x ∷ [])) ∙ last_is (map f above) (f x))
