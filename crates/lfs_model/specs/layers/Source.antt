-- The source of a tree of files. It has folders, which list their names in any order, and files.
use Rattle.std.specs.Prelude.{ℕ, ◌≡◌, ◌≤◌, ◌⊎◌, Bool, false, if◌then◌else◌, List, [], ◌∷◌, ◌++◌, map, find, Option, Some, None, AllPairs, sum_by}
use Rattle.std.specs.List.Sorted.{IsPermutation}
use Rattle.std.specs.Option.{option_and_then, option_map}
use Rattle.std.specs.declared.cmp.Ordering.TheVariants.{Less}
use Rattle.lfs_model.specs.declared.order.NameOrder.TheVariants.{ShorterFirst}
use Rattle.lfs_model.specs.format.Names.{Name, name_cmp, same_name, is_component, slash_byte}
use Rattle.lfs_model.specs.tree.Tree.{Path, Node, FileNode, DirectoryNode, Tree}

-- The source of a tree. A path is given as bytes, with a slash before each component; the path of
-- the top folder is empty.
pub record TreeSource : Type 0 where
  -- The names in the folder at a path, each with `true` if it is the name of a folder.
  pub names : List ℕ → List (Name × Bool)
  -- The bytes of the file at a path.
  pub bytes : List ℕ → List ℕ

-- The path of the entry `name` of the folder at the path `folder`.
abbrev pub path_in_folder : List ℕ → Name → List ℕ
path_in_folder folder name = folder ++ slash_byte ∷ name

abbrev pub source_names : List (Name × Bool) → List Name
source_names given = map (λ g. g.0) given

-- ---- invalid names

-- The number of times that `name` is in the list `names`.
abbrev pub name_occurrences : Name → List Name → ℕ
name_occurrences name names = sum_by (λ n. if same_name name n then 1 else 0) names

-- One of the names can't be a component of a path, or occurs more than once.
abbrev pub HaveBadOrRepeatedNames : List Name → Type 0
HaveBadOrRepeatedNames names = ((name : Name) × (is_component name ≡ false) × (1 ≤ name_occurrences name names)) ⊎ ((name : Name) × (2 ≤ name_occurrences name names))

-- ---- trees

pub data SourceNode : Type 0 where
  AFile : (bytes : List ℕ) → SourceNode
  AFolder : (names : List Name) → SourceNode

-- Whether the first entry with the name `name` is a folder, or `None` if there is no entry with
-- this name.
abbrev pub is_named_folder : Name → List (Name × Bool) → Option Bool
is_named_folder name given = option_map (λ g. g.1) (find (λ g. same_name name g.0) given)

-- The file at `path` if no components are left, or `None` otherwise, because nothing is beneath a
-- file.
abbrev pub source_file_node : TreeSource → List ℕ → Path → Option SourceNode
source_file_node s path [] = Some (AFile (s.bytes path))
source_file_node s path (name ∷ rest) = None

-- The file or folder that the given components lead to from the folder at the path `folder`, if
-- there is one.
abbrev pub node_at : TreeSource → List ℕ → Path → Option SourceNode
node_at s folder [] = Some (AFolder (source_names (s.names folder)))
node_at s folder (name ∷ rest) =
    option_and_then (λ is_folder. if is_folder then node_at s (path_in_folder folder name) rest else source_file_node s (path_in_folder folder name) rest) (is_named_folder name (s.names folder))

-- Neither node exists, or they agree: a file has the same bytes, a directory has the folder's names
-- in order, and neither has attributes.
abbrev pub IsSourceNode : Option SourceNode → Option Node → Type 0
IsSourceNode None None = Unit {0}
IsSourceNode (Some (AFile bytes)) (Some (FileNode attributes shown)) = (attributes ≡ []) × (shown ≡ bytes)
IsSourceNode (Some (AFolder names)) (Some (DirectoryNode attributes shown)) =
    (attributes ≡ []) × IsPermutation names shown × AllPairs (λ a b. name_cmp ShorterFirst a b ≡ Less) shown
IsSourceNode _ _ = ⊥

-- `tree` has the files and folders of the source `s` and nothing else.
abbrev pub IsSourceTree : TreeSource → Tree → Type 0
IsSourceTree s tree = (path : Path) → IsSourceNode (node_at s [] path) (tree path)
