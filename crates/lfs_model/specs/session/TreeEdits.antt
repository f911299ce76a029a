-- Changes of a plain tree, and the parts of paths and nodes that they use.
use Rattle.std.specs.Prelude.{ℕ, ◌-◌, Bool, true, false, not, ◌&&◌, if◌then◌else◌, List, [], ◌∷◌, ◌++◌, length, take, filter, Option, Some, None, is_some, unwrap_or}
use Rattle.std.specs.Option.{option_map}
use Rattle.lfs_model.specs.declared.order.NameOrder.TheVariants.{ShorterFirst}
use Rattle.lfs_model.specs.format.Names.{Name, same_name, insert_name}
use Rattle.lfs_model.specs.format.Slots.{Attributes}
use Rattle.lfs_model.specs.tree.Tree.{Path, Node, FileNode, DirectoryNode, Tree}

-- ---- paths

abbrev pub same_path : Path → Path → Bool
same_path [] [] = true
same_path [] (b ∷ q) = false
same_path (a ∷ p) [] = false
same_path (a ∷ p) (b ∷ q) = same_name a b && same_path p q

-- The names of the second path after the first, if the first is a prefix of the second.
abbrev pub without_prefix : Path → Path → Option Path
without_prefix [] q = Some q
without_prefix (a ∷ p) [] = None
without_prefix (a ∷ p) (b ∷ q) = if same_name a b then without_prefix p q else None

-- Whether the second path is beneath the first, and not the same.
abbrev pub is_beneath : Path → Path → Bool
is_beneath p q = is_some (without_prefix p q) && not (same_path p q)

-- The path without its last name. The root's parent is the root.
abbrev pub parent_path : Path → Path
parent_path p = take (length p - 1) p

-- The last name of a path, or no bytes for the root.
abbrev pub last_name : Path → Name
last_name [] = []
last_name (a ∷ []) = a
last_name (a ∷ b ∷ p) = last_name (b ∷ p)

-- ---- the tree

abbrev pub is_directory : Option Node → Bool
is_directory None = false
is_directory (Some (FileNode attributes bytes)) = false
is_directory (Some (DirectoryNode attributes names)) = true

abbrev pub is_file : Option Node → Bool
is_file None = false
is_file (Some (FileNode attributes bytes)) = true
is_file (Some (DirectoryNode attributes names)) = false

-- The attributes of a node, or none if there is no node.
abbrev pub node_attributes_of : Option Node → Attributes
node_attributes_of None = []
node_attributes_of (Some (FileNode attributes bytes)) = attributes
node_attributes_of (Some (DirectoryNode attributes names)) = attributes

-- The contents of a file, or no bytes for anything else.
abbrev pub file_bytes : Option Node → List ℕ
file_bytes None = []
file_bytes (Some (FileNode attributes bytes)) = bytes
file_bytes (Some (DirectoryNode attributes names)) = []

-- The names in a directory, or none for anything else.
abbrev pub directory_names : Option Node → List Name
directory_names None = []
directory_names (Some (FileNode attributes bytes)) = []
directory_names (Some (DirectoryNode attributes names)) = names

abbrev pub with_attributes : Attributes → Node → Node
with_attributes attributes (FileNode old bytes) = FileNode attributes bytes
with_attributes attributes (DirectoryNode old names) = DirectoryNode attributes names

-- The node with changed names, if it is a directory, otherwise the node unchanged.
abbrev pub node_with_names : (List Name → List Name) → Node → Node
node_with_names change (FileNode attributes bytes) = FileNode attributes bytes
node_with_names change (DirectoryNode attributes names) = DirectoryNode attributes (change names)

-- The names, sorted, with one more.
abbrev pub names_with : Name → List Name → List Name
names_with = insert_name ShorterFirst

abbrev pub names_without : Name → List Name → List Name
names_without name ns = filter (λ n. not (same_name name n)) ns

-- The tree with this node at the path `p`.
abbrev pub tree_with_node : Path → Option Node → Tree → Tree
tree_with_node p node t q = if same_path p q then node else t q

-- The tree with the node at the path `p` changed.
abbrev pub tree_with_change : Path → (Node → Node) → Tree → Tree
tree_with_change p change t q = if same_path p q then option_map change (t q) else t q

-- The tree with a new node at the path `p`, and its name in the parent directory.
abbrev pub tree_creating : Path → Node → Tree → Tree
tree_creating p node t = tree_with_node p (Some node) (tree_with_change (parent_path p) (node_with_names (names_with (last_name p))) t)

-- The tree without the node at the path `p`, and without its name in the parent directory.
abbrev pub tree_removing : Path → Tree → Tree
tree_removing p t = tree_with_node p None (tree_with_change (parent_path p) (node_with_names (names_without (last_name p))) t)

-- The tree `t` with the subtree `tree` at the path `p` and beneath it.
abbrev pub tree_with_subtree : {A : Type 0} → Path → (Path → Option A) → (Path → Option A) → Path → Option A
tree_with_subtree p tree t q = unwrap_or (option_map tree (without_prefix p q)) (t q)

-- The tree after a rename. The node at `old`, with everything beneath it, is at `new` and replaces
-- what was there.
abbrev pub tree_renaming : Path → Path → Tree → Tree
tree_renaming old new t =
    if same_path old new then t
    else tree_with_subtree new (λ rest. t (old ++ rest)) (tree_with_subtree old (λ rest. None)
    (tree_with_change (parent_path new) (node_with_names (λ ns. names_with (last_name new) (names_without (last_name new) ns)))
    (tree_with_change (parent_path old) (node_with_names (names_without (last_name old))) t)))
