-- The entries of a tree, depth first and in name order, and how they are listed, unpacked and
-- copied.
use Rattle.std.specs.Prelude.{ℕ, ◌+◌, ◌/◌, ◌%◌, ◌≡◌, Bool, true, false, not, ◌&&◌, ◌==◌, nat_le, nat_lt, if◌then◌else◌, List, [], ◌∷◌, ◌++◌, length, map, Some, codes}
use Rattle.std.specs.List.{flat_map}
use Rattle.std.specs.Fmt.{decimal}
use Rattle.lfs_model.specs.tree.Tree.{Path, Node, FileNode, DirectoryNode, Tree}
use Rattle.lfs_model.specs.session.TreeEdits.{directory_names}
use Rattle.lfs_model.specs.session.Operations as ops
use Rattle.lfs_model.specs.session.Operations.{Operation, FlagsOfOpen, path_bytes}

-- A path and the node that it leads to.
pub record PathNode : Type 0 where
  pub path : Path
  pub node : Node

-- The paths of the entries of the directory at `path`, in name order.
abbrev pub entry_paths : Tree → Path → List Path
entry_paths tree path = map (λ name. path ++ name ∷ []) (directory_names (tree path))

-- The list has the entries at the given paths, in order, each followed by all entries beneath it.
abbrev pub IsDepthFirst : Tree → List Path → List PathNode → Type 0
IsDepthFirst tree [] [] = Unit {0}
IsDepthFirst tree [] (e ∷ es) = ⊥
IsDepthFirst tree (p ∷ ps) [] = ⊥
IsDepthFirst tree (p ∷ ps) (e ∷ es) = (e.path ≡ p) × (tree p ≡ Some e.node) × IsDepthFirst tree (entry_paths tree p ++ ps) es

-- The list `entries` has all entries beneath the root, depth first.
abbrev pub IsTreeWalk : Tree → List PathNode → Type 0
IsTreeWalk tree entries = IsDepthFirst tree (entry_paths tree []) entries

-- ---- lines

-- True if the byte `b` is printed as itself: any byte from the space to `~` except the backslash.
abbrev pub is_unescaped_char : ℕ → Bool
is_unescaped_char b = nat_le 0x20 b && (nat_le b 0x7e && not (b == 0x5c))

-- The ASCII code of the hexadecimal digit `d`, in lower case.
abbrev pub hex_digit : ℕ → ℕ
hex_digit d = if nat_lt d 10 then 0x30 + d else 0x57 + d

-- The printed form of the byte `b`: the byte itself, or `\x` and two hexadecimal digits.
abbrev pub escaped_byte : ℕ → List ℕ
escaped_byte b = if is_unescaped_char b then b ∷ [] else 0x5c ∷ 0x78 ∷ hex_digit (b / 16) ∷ hex_digit (b % 16) ∷ []

abbrev pub escaped_text : List ℕ → List ℕ
escaped_text = flat_map escaped_byte

abbrev pub newline : List ℕ
newline = 0x0a ∷ []

-- The part of a line before the path: the entry's type and its size in bytes.
abbrev pub listing_line_prefix : Node → List ℕ
listing_line_prefix (FileNode attributes bytes) = codes "f " ++ decimal (length bytes) ++ codes " "
listing_line_prefix (DirectoryNode attributes names) = codes "d 0 "

abbrev pub listing_line : PathNode → List ℕ
listing_line e = listing_line_prefix e.node ++ escaped_text (path_bytes e.path) ++ newline

abbrev pub listing_lines : List PathNode → List ℕ
listing_lines entries = flat_map listing_line entries

-- `text` is the listing of the tree, with a line for each entry.
abbrev pub IsListing : Tree → List ℕ → Type 0
IsListing tree text = (entries : List PathNode) × (IsTreeWalk tree entries × (text ≡ listing_lines entries))

-- ---- actions

-- An action that unpacks one entry of a tree. A path is given as bytes.
pub data UnpackingAction : Type 0 where
  MakeDirectory : (path : List ℕ) → UnpackingAction
  PutFile : (path bytes : List ℕ) → UnpackingAction

abbrev pub node_action : List ℕ → Node → UnpackingAction
node_action path (FileNode attributes bytes) = PutFile path bytes
node_action path (DirectoryNode attributes names) = MakeDirectory path

abbrev pub entry_action : PathNode → UnpackingAction
entry_action e = node_action (path_bytes e.path) e.node

-- The actions unpack the tree, with one action for each entry, depth first.
abbrev pub Unpack : Tree → List UnpackingAction → Type 0
Unpack tree actions = (entries : List PathNode) × (IsTreeWalk tree entries × (actions ≡ map entry_action entries))

-- ---- operations

-- The flags that open a file for writing, and create it if it doesn't exist.
abbrev pub new_flags : FlagsOfOpen
new_flags = record { read = false; write = true; create = true; exclusive = false; truncate = false; append = false; unknown = false }

-- The operations that copy the node to `path` in a session without open files. An opened file gets
-- the number 0.
abbrev pub node_copy_operations : List ℕ → Node → List Operation
node_copy_operations path (FileNode attributes bytes) = ops.Open path new_flags ∷ ops.Write 0 bytes ∷ ops.Close 0 ∷ []
node_copy_operations path (DirectoryNode attributes names) = ops.Mkdir path ∷ []

abbrev pub entry_copy_operations : PathNode → List Operation
entry_copy_operations e = node_copy_operations (path_bytes e.path) e.node

-- The operations copy the tree, entry by entry, depth first.
abbrev pub AreCopyOperations : Tree → List Operation → Type 0
AreCopyOperations tree operations =
    (entries : List PathNode) × (IsTreeWalk tree entries × (operations ≡ flat_map entry_copy_operations entries))
