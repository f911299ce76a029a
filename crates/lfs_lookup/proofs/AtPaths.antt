-- The node at a path, from the result of a look-up.
use Rattle.std.proofs.Common.{ℕ, ◌≡◌, ◌≤◌, ◌∙◌, Bool, true, false, cond, List, [], ◌∷◌, ◌++◌, length, Option, Some, None, refl, sym, ap, subst, append_assoc}
use Rattle.std.specs.Prelude.{is_none}
use Rattle.lfs_lookup.proofs.Common.{option_and_then, option_map, option_or, same_Some, sorted_names, is_file, Disk, disk_with_order, Name, directory_refusal, parents_refusal, slot_of_path, Attributes, Slot, Struct, Inline, Ctz, Branch, node_file_size, Pair, root_address, Path, Tree, struct_directory_address, entry_named, names_at, struct_node, root_slot, slot_at_path, IsAccepted, IsWellFormedList, IsDirectoryAtPath, all_unmoved_slots, disk_list_bytes, all_entries, disk_tree, KeptThread, disk_of_device, walk_append, IsStorageOfStruct, IsFoundNode, IsVisibleLookupResult, recursion_from_All, same_name, Each}
use Rattle.lfs_model.specs.declared.order.NameOrder.{NameOrder}
use Rattle.lfs_model.specs.declared.order.NameOrder.TheVariants.{ShorterFirst}
use Rattle.lfs_model.specs.session.TreeEdits.{is_directory}
use Rattle.lfs_model.specs.session.Operations as ops
use Rattle.lfs_model.specs.tree.Tree.{Node, FileNode, DirectoryNode}
use Rattle.lfs_device.specs.declared.device.BlockDevice.{Ghosts}
use Rattle.lfs_model.specs.format.Blocks.{HasBlockSizes}
use Rattle.lfs_model.proofs.ListSizes.{length-list_bytes}
use Rattle.lfs_lookup.specs.AtPath.{storage_size}
use Rattle.lfs_lookup.specs.declared.entry.FileStorage.{FileStorage}
use Rattle.lfs_lookup.specs.declared.entry.FileStorage.TheVariants as contents
use Rattle.lfs_lookup.specs.declared.found_entries.FoundNode.{FoundNode}
use Rattle.lfs_lookup.specs.declared.paths.VisiblePathLookup.TheVariants as shown
use Rattle.lfs_lookup.specs.declared.search.SlotPosition.{SlotPosition}
use Rattle.lfs_lookup.specs.declared.found_entries.Node.TheVariants as node
use Rattle.lfs_lookup.proofs.Visits.{each_entry}

-- a list has as many bytes as its size says
abbrev pub SizedLists : Disk → Type 0
SizedLists disk = (head size : ℕ) → IsWellFormedList disk (Ctz head size) → length (disk_list_bytes disk head size) ≡ size

pub sized_on : {D : Type 0} (g : Ghosts D) (d : D) (disk : Disk) (n : ℕ) {order : NameOrder} → disk_with_order order (disk_of_device g d) ≡ disk → 1024 ≤ (g.geometry d).block_size → HasBlockSizes (g.geometry d).block_size n (g.blocks d) → SizedLists disk
sized_on g d disk n e large shape =
    subst SizedLists e (λ head size list. length-list_bytes (g.blocks d) (g.geometry d).block_size n head size large shape list)

-- ---- by the node

pub finds_nothing : (t : Tree) (p : Path) (fault : Option ops.Refusal) → t p ≡ None → parents_refusal t [] p ≡ fault → IsFoundNode t p (record { fault = fault; node = node.Nothing })
finds_nothing t p fault e h = record { parents = h; nothing = ap is_none e; directories = ap is_directory e; files = ap is_file e; sizes = ap node_file_size e }

pub finds_file : (t : Tree) (p : Path) (attributes : Attributes) (bytes : List ℕ) (size : ℕ) → t p ≡ Some (FileNode attributes bytes) → parents_refusal t [] p ≡ None → length bytes ≡ size
    → IsFoundNode t p (record { fault = None; node = node.File size })
finds_file t p attributes bytes size e h l = record {
  parents = h;
  nothing = ap is_none e;
  directories = ap is_directory e;
  files = ap is_file e;
  sizes = ap node_file_size e ∙ ap Some l;
}

pub finds_directory : (t : Tree) (p : Path) (attributes : Attributes) (names : List Name) → t p ≡ Some (DirectoryNode attributes names) → parents_refusal t [] p ≡ None → IsFoundNode t p (record { fault = None; node = node.Directory })
finds_directory t p attributes names e h = record {
  parents = h;
  nothing = ap is_none e;
  directories = ap is_directory e;
  files = ap is_file e;
  sizes = ap node_file_size e;
}

-- ---- by the slot

module _ (disk : Disk) (ps : List Pair) where
  abbrev node_shown : Option Slot → Option Node
  node_shown o = option_map (λ (f : Slot). struct_node (disk_list_bytes disk) (all_entries ps) f.attributes f.struct) o

  -- nothing is beneath what isn't a directory
  none_below : (p : Path) (n : Name) (q : Path) (r : ops.Refusal) → directory_refusal (disk_tree disk ps p) ≡ Some r → slot_of_path ps (p ++ n ∷ q) ≡ None
  none_below p n q r h = walk_append (all_entries ps) (root_slot (root_address ps)) p (n ∷ q) ∙ go (slot_of_path ps p) h
    where
      by_struct : (a : Attributes) (s : Struct) → directory_refusal (Some (struct_node (disk_list_bytes disk) (all_entries ps) a s)) ≡ Some r → (x : Slot) → x.struct ≡ s → slot_at_path (all_entries ps) x (n ∷ q) ≡ None
      by_struct a (Inline bytes) k x e = ap (λ (z : Struct). option_and_then (λ child. slot_at_path (all_entries ps) child q) (option_and_then (λ at. entry_named n (all_entries ps at)) (struct_directory_address z))) e
      by_struct a (Ctz head size) k x e = ap (λ (z : Struct). option_and_then (λ child. slot_at_path (all_entries ps) child q) (option_and_then (λ at. entry_named n (all_entries ps at)) (struct_directory_address z))) e
      by_struct a (Branch to) k x e = absurd (cc)

      go : (o : Option Slot) → directory_refusal (node_shown o) ≡ Some r → option_and_then (λ x. slot_at_path (all_entries ps) x (n ∷ q)) o ≡ None
      go None k = refl
      go (Some x) k = by_struct x.attributes x.struct k x refl

  pub refused_none : (path above : Path) (r : ops.Refusal) → parents_refusal (disk_tree disk ps) above path ≡ Some r → slot_of_path ps (above ++ path) ≡ None
  refused_none [] above r h = absurd (cc)
  refused_none (n ∷ []) above r h = absurd (cc)
  refused_none (n ∷ m ∷ rest) above r h = subst (λ z. slot_of_path ps z ≡ None) (append_assoc above (n ∷ []) (m ∷ rest)) (go (directory_refusal (disk_tree disk ps (above ++ n ∷ []))) refl (refused_none (m ∷ rest) (above ++ n ∷ []) r) h)
    where
      go : (o : Option ops.Refusal) → directory_refusal (disk_tree disk ps (above ++ n ∷ [])) ≡ o
          → (parents_refusal (disk_tree disk ps) (above ++ n ∷ []) (m ∷ rest) ≡ Some r → slot_of_path ps ((above ++ n ∷ []) ++ m ∷ rest) ≡ None) → option_or o (parents_refusal (disk_tree disk ps) (above ++ n ∷ []) (m ∷ rest)) ≡ Some r
          → slot_of_path ps ((above ++ n ∷ []) ++ m ∷ rest) ≡ None
      go (Some x) e later k = none_below (above ++ n ∷ []) m rest x e
      go None e later k = later k

  pub nothing_at : (path : Path) → slot_of_path ps path ≡ None → disk_tree disk ps path ≡ None
  nothing_at path e = ap node_shown e

  -- ---- a directory

  pub record IsDirectoryAt (path : Path) (at : ℕ × ℕ) : Type 0 where
    pub attributes : Attributes
    pub is : disk_tree disk ps path ≡ Some (DirectoryNode attributes (sorted_names ShorterFirst (names_at (all_entries ps) at)))

  pub directory_at_path : (path : Path) (at : ℕ × ℕ) → IsDirectoryAtPath ps path at → IsDirectoryAt path at
  directory_at_path path at leads = go (slot_of_path ps path) refl leads
    where
      by_struct : (x : Slot) (s : Struct) → x.struct ≡ s → slot_of_path ps path ≡ Some x → struct_directory_address s ≡ Some at → IsDirectoryAt path at
      by_struct x (Inline bytes) k e b = absurd (cc)
      by_struct x (Ctz head size) k e b = absurd (cc)
      by_struct x (Branch to) k e b = record {
        attributes = x.attributes;
        is = ap node_shown e ∙ ap (λ (z : Struct). Some (struct_node (disk_list_bytes disk) (all_entries ps) x.attributes z)) k ∙ ap (λ z. Some (DirectoryNode x.attributes (sorted_names ShorterFirst (names_at (all_entries ps) z)))) (same_Some to at b);
      }

      go : (o : Option Slot) → slot_of_path ps path ≡ o → option_and_then (λ (f : Slot). struct_directory_address f.struct) o ≡ Some at → IsDirectoryAt path at
      go None e b = absurd (cc)
      go (Some x) e b = by_struct x x.struct refl e b

  -- ---- a file

  pub finds_shown : (path : Path) (x : Slot) (contents : FileStorage) → IsAccepted disk ps → IsWellFormedList disk x.struct → slot_of_path ps path ≡ Some x → IsStorageOfStruct contents x.struct → parents_refusal (disk_tree disk ps) [] path ≡ None
      → SizedLists disk → IsFoundNode (disk_tree disk ps) path (record { fault = None; node = node.File (storage_size contents) })
  finds_shown path x (contents.Inline len) ok list e k h sized =
      finds_file (disk_tree disk ps) path x.attributes k.0 len (ap node_shown e ∙ ap (λ (z : Struct). Some (struct_node (disk_list_bytes disk) (all_entries ps) x.attributes z)) k.1.0) h k.1.1.0
  finds_shown path x (contents.List head size) ok list e k h sized =
      finds_file (disk_tree disk ps) path x.attributes (disk_list_bytes disk head size) size (ap node_shown e ∙ ap (λ (z : Struct). Some (struct_node (disk_list_bytes disk) (all_entries ps) x.attributes z)) k) h (sized head size (subst (IsWellFormedList disk) k list))

pub each_found : (Q : Slot → Type 0) (n : Name) (xs : List Slot) (u : Slot) → Each Q xs → entry_named n xs ≡ Some u → Q u
each_found Q n [] u h e = absurd (cc)
each_found Q n (x ∷ xs) u h e = go (same_name n x.name) (each_found Q n xs u h.1) e
  where
    go : (c : Bool) → (entry_named n xs ≡ Some u → Q u) → cond c (Some x) (entry_named n xs) ≡ Some u → Q u
    go true k f = subst Q (same_Some x u f) h.0
    go false k f = k f

-- a file's list is well formed
pub list_at_path : (disk : Disk) (ps : List Pair) (above : Path) (name : Name) (to : ℕ × ℕ) (u : Slot) → IsAccepted disk ps → IsDirectoryAtPath ps above to → slot_of_path ps (above ++ name ∷ []) ≡ Some u
    → IsWellFormedList disk u.struct
list_at_path disk ps above name to u ok leads e =
    each_found (λ s. IsWellFormedList disk s.struct) name (all_entries ps to) u
    (each_entry (λ s. IsWellFormedList disk s.struct) disk ps above to ok leads (recursion_from_All (λ (s : Slot). IsWellFormedList disk s.struct) (all_unmoved_slots ps) ok.lists))
    (go (slot_of_path ps above) leads (sym (walk_append (all_entries ps) (root_slot (root_address ps)) above (name ∷ [])) ∙ e))
  where
    found : (o : Option Slot) → option_and_then (λ c. let r : Option Slot = Some c in r) o ≡ Some u → o ≡ Some u
    found None k = k
    found (Some c) k = k

    by_struct : (x : Slot) (s : Struct) → struct_directory_address s ≡ Some to → option_and_then (λ c. let r : Option Slot = Some c in r) (option_and_then (λ at. entry_named name (all_entries ps at)) (struct_directory_address s)) ≡ Some u → entry_named name (all_entries ps to) ≡ Some u
    by_struct x (Inline bytes) b k = absurd (cc)
    by_struct x (Ctz head size) b k = absurd (cc)
    by_struct x (Branch at) b k = ap (λ z. entry_named name (all_entries ps z)) (sym (same_Some at to b)) ∙ found (entry_named name (all_entries ps at)) k

    go : (o : Option Slot) → option_and_then (λ (f : Slot). struct_directory_address f.struct) o ≡ Some to → option_and_then (λ x. slot_at_path (all_entries ps) x (name ∷ [])) o ≡ Some u → entry_named name (all_entries ps to) ≡ Some u
    go None b k = absurd (cc)
    go (Some x) b k = by_struct x x.struct b k

-- ---- by what is shown

module _ (t : KeptThread) (path : Path) (ok : IsAccepted t.disk t.pairs) where
  pub refused_at : (r : ops.Refusal) (f : FoundNode) → parents_refusal (disk_tree t.disk t.pairs) [] path ≡ Some r → f ≡ record { fault = Some r; node = node.Nothing } → IsFoundNode (disk_tree t.disk t.pairs) path f
  refused_at r f h k = subst (λ z. IsFoundNode (disk_tree t.disk t.pairs) path z) (sym k) (finds_nothing (disk_tree t.disk t.pairs) path (Some r) (nothing_at t.disk t.pairs path (refused_none t.disk t.pairs path [] r h)) h)

  pub file_at : (moved : Option SlotPosition) (spot : SlotPosition) (contents : FileStorage) (f : FoundNode) → IsVisibleLookupResult t moved path (shown.File spot contents) → SizedLists t.disk → f ≡ record { fault = None; node = node.File (storage_size contents) }
      → IsFoundNode (disk_tree t.disk t.pairs) path f
  file_at moved spot contents f (h, (s, k)) sized e =
      subst (λ z. IsFoundNode (disk_tree t.disk t.pairs) path z) (sym e)
      (finds_shown t.disk t.pairs path s.stands.stands.slot contents ok
      (list_at_path t.disk t.pairs s.above s.name s.on.at s.stands.stands.slot ok s.on.leads (sym (ap (slot_of_path t.pairs) s.is) ∙ s.slot)) s.slot k h sized)
