-- Changes of a tree that leave a file's bytes, and slots of files that stay.
use Rattle.std.proofs.Common.{ℕ, suc, ◌≡◌, Bool, true, false, cond, List, [], ◌∷◌, ◌++◌, length, Option, Some, None, refl, sym, ap, ◌∙◌, option_map, append-nil, arith}
use Rattle.lfs_model.proofs.Common.{append_cancel_right, Name, Slot, Struct, Inline, Ctz, Branch, Attributes, Path, DirectoryEntryMap, Node, FileNode, Tree, struct_directory_address, root_slot, slot_at_path, struct_node, root_subtree, same_path, without_prefix, tree_with_change, node_with_names, names_with, names_without, with_attributes, node_attributes_of, tree_creating, tree_removing, tree_renaming, tree_with_subtree, parent_path, last_name, node_with_bytes, KeepsStruct}
use Rattle.lfs_model.proofs.Paths.{path_itself, rest_itself}
use Rattle.lfs_model.proofs.Edits.{planted_off, planted_on, not_same}
use Rattle.lfs_model.proofs.Trees.{set_off, change_off, change_on, renamed_is}
use Rattle.lfs_model.specs.layers.Steps.{KeepsFileBytes}
pub use Rattle.lfs_model.specs.layers.Steps.{KeepsFileBytes, KeepsStruct}

-- ---- changes of a tree

-- what the two changes leave together each of them leaves
abbrev pub Parts : (Tree → Tree) → (Tree → Tree) → Type 0
Parts f g = (q : Path) → KeepsFileBytes (λ t. g (f t)) q → KeepsFileBytes f q × KeepsFileBytes g q

pub same_leaves : (q : Path) → KeepsFileBytes (λ t. t) q
same_leaves q t attributes bytes e = (attributes, e)

pub ends_same : (f : Tree → Tree) → Parts f (λ t. t)
ends_same f q h = (h, same_leaves q)

pub begins_same : (g : Tree → Tree) → Parts (λ t. t) g
begins_same g q h = (same_leaves q, h)

-- a directory's names are none of a file's bytes
names_leave : (p : Path) (f : List Name → List Name) (t : Tree) (q : Path) (attributes : Attributes) (bytes : List ℕ) → t q ≡ Some (FileNode attributes bytes) →
    tree_with_change p (node_with_names f) t q ≡ Some (FileNode attributes bytes)
names_leave p f t q attributes bytes e = go (same_path p q)
  where
    go : (b : Bool) → cond b (option_map (node_with_names f) (t q)) (t q) ≡ Some (FileNode attributes bytes)
    go true = ap (option_map (node_with_names f)) e
    go false = e

pub added_leaves : (p : Path) (node : Node) (q : Path) → same_path p q ≡ false → KeepsFileBytes (tree_creating p node) q
added_leaves p node q off t attributes bytes e = (
  attributes,
  set_off p (Some node) (tree_with_change (parent_path p) (node_with_names (names_with (last_name p))) t) q off
      ∙ names_leave (parent_path p) (names_with (last_name p)) t q attributes bytes e,
)

pub removed_leaves : (p q : Path) → same_path p q ≡ false → KeepsFileBytes (tree_removing p) q
removed_leaves p q off t attributes bytes e = (
  attributes,
  set_off p None (tree_with_change (parent_path p) (node_with_names (names_without (last_name p))) t) q off
      ∙ names_leave (parent_path p) (names_without (last_name p)) t q attributes bytes e,
)

pub renamed_leaves : (old new q : Path) → without_prefix old q ≡ None → without_prefix new q ≡ None → KeepsFileBytes (tree_renaming old new) q
renamed_leaves old new q off aside t attributes bytes e = (attributes, go (same_path old new))
  where
    left : Tree
    left = tree_with_change (parent_path old) (node_with_names (names_without (last_name old))) t

    put : List Name → List Name
    put ns = names_with (last_name new) (names_without (last_name new) ns)

    now : Tree
    now = tree_with_change (parent_path new) (node_with_names put) left

    go : (b : Bool) → cond b t (tree_with_subtree new (λ rest. t (old ++ rest)) (tree_with_subtree old (λ rest. None) now)) q ≡ Some (FileNode attributes bytes)
    go true = e
    go false = planted_off new (λ rest. t (old ++ rest)) (tree_with_subtree old (λ rest. None) now) q aside ∙ planted_off old (λ rest. None) now q off
        ∙ names_leave (parent_path new) put left q attributes bytes (names_leave (parent_path old) (names_without (last_name old)) t q attributes bytes e)

-- no file's bytes are left beneath the new name
pub renamed_moves : (P : Path) (n : Name) (Q : Path) (m : Name) (r : Path) → without_prefix (P ++ n ∷ []) (Q ++ m ∷ []) ≡ None →
    KeepsFileBytes (tree_renaming (P ++ n ∷ []) (Q ++ m ∷ [])) ((Q ++ m ∷ []) ++ r) → ⊥
renamed_moves P n Q m r off leaves =
    let k = leaves only [] [] (ap one (path_itself (new ++ r))) in
    let e = sym k.1 ∙ renamed_is P n Q m only (new ++ r) off ∙ planted_on new (λ z. only (old ++ z)) rest_of (new ++ r) r (rest_itself new r) ∙ ap one (not_same (old ++ r) (new ++ r) apart) in
    absurd (cc)
  where
    old : Path
    old = P ++ n ∷ []

    new : Path
    new = Q ++ m ∷ []

    one : Bool → Option Node
    one b = cond b (Some (FileNode [] [])) None

    only : Tree
    only z = one (same_path z (new ++ r))

    rest_of : Tree
    rest_of = tree_with_change Q (node_with_names (λ ns. names_with m (names_without m ns))) (tree_with_subtree old (λ z. None) (tree_with_change P (node_with_names (names_without n)) only))

    apart : (P ++ n ∷ []) ++ r ≡ (Q ++ m ∷ []) ++ r → ⊥
    apart e =
        let same = append_cancel_right old new r e in
        let f = sym off ∙ ap (without_prefix old) (sym same ∙ sym (append-nil old)) ∙ rest_itself old [] in absurd (cc)

pub attributes_leave : (p : Path) (f : Attributes → Attributes) (q : Path) → KeepsFileBytes (tree_with_change p (λ n. with_attributes (f (node_attributes_of (Some n))) n)) q
attributes_leave p f q t attributes bytes e = go (same_path p q)
  where
    change : Node → Node
    change n = with_attributes (f (node_attributes_of (Some n))) n

    go : (b : Bool) → (others : Attributes) × (cond b (option_map change (t q)) (t q) ≡ Some (FileNode others bytes))
    go true = (f attributes, ap (option_map change) e)
    go false = (attributes, e)

pub change_leaves : (p : Path) (change : Node → Node) (q : Path) → same_path p q ≡ false → KeepsFileBytes (tree_with_change p change) q
change_leaves p change q off t attributes bytes e = (attributes, change_off p change t q off ∙ e)

pub bytes_set : (p : Path) (bytes : List ℕ) → KeepsFileBytes (tree_with_change p (node_with_bytes bytes)) p → ⊥
bytes_set p bytes leaves =
    let k = leaves (λ z. Some (FileNode [] (0 ∷ bytes))) [] (0 ∷ bytes) refl in
    let e : Some (FileNode [] bytes) ≡ Some (FileNode k.0 (0 ∷ bytes)) = sym (change_on p (node_with_bytes bytes) (λ z. Some (FileNode [] (0 ∷ bytes))) p (path_itself p)) ∙ k.1 in
    let same : bytes ≡ 0 ∷ bytes = cc in
    let l : length bytes ≡ suc (length bytes) = ap length same in
    absurd (omega arith)

-- ---- slots of files

pub stays_same : (was now : Option Slot) → now ≡ was → KeepsStruct was now
stays_same was now h u e file = (u, (h ∙ e, refl))

pub stays_then : (was between now : Option Slot) → KeepsStruct was between → KeepsStruct between now → KeepsStruct was now
stays_then was between now h k u e file =
    let x = h u e file in
    let y = k x.0 x.1.0 (ap struct_directory_address x.1.1 ∙ file) in
    (y.0, (y.1.0, y.1.1 ∙ x.1.1))

pub file_node : (c : ℕ → ℕ → List ℕ) (E : DirectoryEntryMap) (attributes : Attributes) (t : Struct) → struct_directory_address t ≡ None → (bytes : List ℕ) × (struct_node c E attributes t ≡ FileNode attributes bytes)
file_node c E attributes (Inline bytes) e = (bytes, refl)
file_node c E attributes (Ctz head size) e = (c head size, refl)
file_node c E attributes (Branch to) e = absurd (cc)

-- A file whose bytes are left has a slot.
pub file_still : (c : ℕ → ℕ → List ℕ) (E F : DirectoryEntryMap) (root : ℕ × ℕ) (change : Tree → Tree) (q : Path) (u : Slot) → root_subtree c F root q ≡ change (root_subtree c E root) q → KeepsFileBytes change q →
    slot_at_path E (root_slot root) q ≡ Some u → struct_directory_address u.struct ≡ None → slot_at_path F (root_slot root) q ≡ None → ⊥
file_still c E F root change q u shows leaves e file none =
    let n = file_node c E u.attributes u.struct file in
    let k = leaves (root_subtree c E root) u.attributes n.0 (ap (option_map (λ (z : Slot). struct_node c E z.attributes z.struct)) e ∙ ap Some n.1) in
    let l = sym (ap (option_map (λ (z : Slot). struct_node c F z.attributes z.struct)) none) ∙ shows ∙ k.1 in
    absurd (cc)
