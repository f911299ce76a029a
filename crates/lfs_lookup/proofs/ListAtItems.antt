-- A listing returns the entries of the tree's directory.
use Rattle.std.proofs.Common.{ℕ, suc, slice_get, ◌≡◌, ◌∙◌, List, [], ◌∷◌, ◌++◌, map, Some, option_map, refl, sym, ap, ap₂, subst}
use Rattle.lfs_lookup.proofs.Common.{recursion_from_All, AreByteBlocks, directory_names, Disk, disk_with_order, slot_of_path, Slot, Struct, Inline, Ctz, Branch, listed_entries_at, node_file_size, Pair, Path, struct_node, IsAccepted, IsWellFormedList, IsDirectoryAtPath, all_unmoved_slots, disk_list_bytes, all_entries, disk_tree, Each, slot_there, KeptThread, disk_of_device, AreSortedShorterFirst, NamedStruct, named_struct, AreNamedStructsInLimits, IsNamedStructInLimits, name_and_size, directory_entries_from, LeadsToPair}
use Rattle.lfs_device.specs.declared.device.BlockDevice.{Ghosts}
use Rattle.lfs_model.specs.declared.order.NameOrder.{NameOrder}
use Rattle.lfs_model.specs.session.Operations as ops
use Rattle.lfs_model.proofs.Counts.{each_both}
use Rattle.lfs_lookup.specs.ListAt.{listed_struct_size}
use Rattle.lfs_lookup.proofs.AtPaths.{SizedLists, directory_at_path}
use Rattle.lfs_lookup.proofs.ByName.{AreRows, each_row, rows_by_name}
use Rattle.lfs_lookup.proofs.Directories.{own_shapes}
use Rattle.lfs_lookup.proofs.ListAtShort.{short_entries}
use Rattle.lfs_lookup.proofs.Visits.{each_entry}

-- ---- what the tree says

each_got : (P : Slot → Type 0) (xs : List Slot) → ((k : ℕ) (x : Slot) → slice_get xs k ≡ Some x → P x) → Each P xs
each_got P [] h = tt
each_got P (x ∷ xs) h = (h 0 x refl, each_got P xs (λ k y e. h (suc k) y e))

module _ (disk : Disk) (ps : List Pair) (path : Path) where
  abbrev IsSized : Slot → Type 0
  IsSized s = node_file_size (disk_tree disk ps (path ++ s.name ∷ [])) ≡ listed_struct_size s.struct

  sized : (s : Slot) → SizedLists disk → slot_of_path ps (path ++ s.name ∷ []) ≡ Some s → IsWellFormedList disk s.struct → IsSized s
  sized s lists e list = ap (λ o. node_file_size (option_map (λ (f : Slot). struct_node (disk_list_bytes disk) (all_entries ps) f.attributes f.struct) o)) e ∙ go s.struct list
    where
      go : (z : Struct) → IsWellFormedList disk z → node_file_size (Some (struct_node (disk_list_bytes disk) (all_entries ps) s.attributes z)) ≡ listed_struct_size z
      go (Inline bytes) l = refl
      go (Ctz head size) l = ap Some (lists head size l)
      go (Branch to) l = refl

  rows : (slots : List Slot) → Each IsSized slots → map (λ name. let item : ops.ListedEntry = record { name = name; size = node_file_size (disk_tree disk ps (path ++ name ∷ [])) } in item) (map (λ (s : Slot). s.name) slots) ≡ map name_and_size (map named_struct slots)
  rows [] h = refl
  rows (s ∷ slots) h = ap₂ (λ z zs. let item : ops.ListedEntry = record { name = s.name; size = z } in item ∷ zs) h.0 (rows slots h.1)

  pub items_listed : (at : ℕ × ℕ) (slots : List Slot) → IsAccepted disk ps → IsDirectoryAtPath ps path at → SizedLists disk → AreRows (all_entries ps at) slots → map name_and_size (map named_struct slots) ≡ listed_entries_at (disk_tree disk ps) path
  items_listed at slots ok leads lists r =
      let d = directory_at_path disk ps path at leads in
      sym (ap (λ o. map (λ name. let item : ops.ListedEntry = record { name = name; size = node_file_size (disk_tree disk ps (path ++ name ∷ [])) } in item) (directory_names o)) d.is
      ∙ ap (map (λ name. let item : ops.ListedEntry = record { name = name; size = node_file_size (disk_tree disk ps (path ++ name ∷ [])) } in item)) (sym r.names)
      ∙ rows slots (each_row IsSized (all_entries ps at) slots r (each_both (λ s. slot_of_path ps (path ++ s.name ∷ []) ≡ Some s) (λ s. IsWellFormedList disk s.struct) IsSized (λ s e l. sized s lists e l) (all_entries ps at)
      (each_got (λ s. slot_of_path ps (path ++ s.name ∷ []) ≡ Some s) (all_entries ps at) (λ k u g. slot_there disk ps path at k u ok leads g))
      (each_entry (λ s. IsWellFormedList disk s.struct) disk ps path at ok leads (recursion_from_All (λ (s : Slot). IsWellFormedList disk s.struct) (all_unmoved_slots ps) ok.lists)))))

-- ---- of a thread

each_short : (slots : List Slot) → AreNamedStructsInLimits (map named_struct slots) → Each (λ s. IsNamedStructInLimits (named_struct s)) slots
each_short [] h = tt
each_short (s ∷ slots) h = (h.0, each_short slots h.1)

short_each : (slots : List Slot) → Each (λ s. IsNamedStructInLimits (named_struct s)) slots → AreNamedStructsInLimits (map named_struct slots)
short_each [] h = tt
short_each (s ∷ slots) h = (h.0, short_each slots h.1)

-- what is found in name order: these entries, put in it
module _ (t : KeptThread) (path : Path) (ok : IsAccepted t.disk t.pairs) (now : List Pair) (first : ℕ) (found shapes : List NamedStruct) (same : now ≡ t.pairs) (on : LeadsToPair t.pairs path first)
    (are : found ≡ directory_entries_from now (Some first)) (by_name : AreSortedShorterFirst found shapes) where
  slots_there : (slots : List Slot) × (AreRows (all_entries t.pairs on.at) slots × (shapes ≡ map named_struct slots))
  slots_there =
      let own = are ∙ ap (λ ps. directory_entries_from ps (Some first)) same ∙ own_shapes t.disk t.pairs path on.at first ok on.leads on.begins in
      rows_by_name (all_entries t.pairs on.at) shapes (subst (λ (z : List NamedStruct). AreSortedShorterFirst z shapes) own by_name)

  pub short_there : AreByteBlocks t.disk.blocks → AreNamedStructsInLimits shapes
  short_there bytes =
      let (slots, (r, is)) = slots_there in
      subst AreNamedStructsInLimits (sym is)
      (short_each slots (each_row (λ s. IsNamedStructInLimits (named_struct s)) (all_entries t.pairs on.at) slots r (each_short (all_entries t.pairs on.at) (short_entries t.disk t.pairs path on.at bytes ok on.leads))))

  pub listed_there : (listed : List ops.ListedEntry) → SizedLists t.disk → listed ≡ map name_and_size shapes → listed ≡ listed_entries_at (disk_tree t.disk t.pairs) path
  listed_there listed lists e = let (slots, (r, is)) = slots_there in e ∙ ap (map name_and_size) is ∙ items_listed t.disk t.pairs path on.at slots ok on.leads lists r

pub bytes_on : {D : Type 0} (g : Ghosts D) (d : D) (disk : Disk) {order : NameOrder} → disk_with_order order (disk_of_device g d) ≡ disk → AreByteBlocks (g.blocks d) → AreByteBlocks disk.blocks
bytes_on g d disk e h = subst (λ (z : Disk). AreByteBlocks z.blocks) e h
