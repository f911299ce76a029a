-- A walk of all entries beneath the root.
use Rattle.std.specs.Prelude.{ℕ, ◌≡◌, List, [], ◌∷◌, ◌++◌, map, reverse, Some}
use Rattle.lfs_model.specs.format.Disk.{Disk}
use Rattle.lfs_model.specs.format.SkipLists.{IsSkipList}
use Rattle.lfs_model.specs.format.Names.{Name, slash_byte}
use Rattle.lfs_model.specs.format.Slots.{Struct, Inline, Ctz, Branch, Attributes}
use Rattle.lfs_model.specs.format.Thread.{Pair}
use Rattle.lfs_model.specs.tree.Tree.{Node, FileNode, DirectoryNode}
use Rattle.lfs_model.specs.session.Operations.{path_bytes}
use Rattle.lfs_model.specs.layers.Listing.{PathNode, IsTreeWalk}
use Rattle.lfs_model.specs.session.InDirectory.{IsPairAt}
use Rattle.lfs_model.specs.tree.Shown.{disk_list_bytes, disk_tree}
use Rattle.lfs_lookup.specs.declared.walks.TreeItem.{TreeItem}
use Rattle.lfs_lookup.specs.ByName.{AreSortedShorterFirst}
use Rattle.lfs_lookup.specs.Items.{NamedStruct, owned_view}
use Rattle.lfs_lookup.specs.Listed.{directory_entries_from}

-- the bytes of a path, and the struct of its entry
pub record PathStruct : Type 0 where
  pub path : List ℕ
  pub struct : Struct

abbrev pub tree_item_view : TreeItem → PathStruct
tree_item_view f = record { path = f.path.items; struct = owned_view f.structure }

abbrev pub tree_items_view : List TreeItem → List PathStruct
tree_items_view founds = map tree_item_view founds

abbrev pub with_full_path : List ℕ → NamedStruct → PathStruct
with_full_path path shape = record { path = path ++ slash_byte ∷ shape.name; struct = shape.struct }

abbrev pub with_full_paths : List ℕ → List NamedStruct → List PathStruct
with_full_paths path shapes = map (with_full_path path) shapes

-- ---- pairs by their addresses

abbrev pub pairs_addresses : List Pair → List (ℕ × ℕ)
pairs_addresses ps = map (λ p. p.at) ps

-- ---- the stack of entries to be visited

-- if the struct is a directory's, its first pair is in the thread
abbrev pub HasFirstPairIfDirectory : List Pair → Struct → Type 0
HasFirstPairIfDirectory ps (Branch to) = (first : ℕ) × IsPairAt ps to first
HasFirstPairIfDirectory ps (Inline bytes) = Unit {0}
HasFirstPairIfDirectory ps (Ctz head size) = Unit {0}

-- the entries of the directory that begins with the pair of that index were pushed, the first name last
abbrev pub AreEntriesPushed : List Pair → List ℕ → ℕ → List PathStruct → List PathStruct → Type 0
AreEntriesPushed ps path first old new =
    (shapes : List NamedStruct) × (AreSortedShorterFirst (directory_entries_from ps (Some first)) shapes × (new ≡ old ++ reverse (with_full_paths path shapes)))

-- the entries were pushed if the struct is a directory's
abbrev pub PushesIfDirectory : List Pair → List ℕ → Struct → List PathStruct → List PathStruct → Type 0
PushesIfDirectory ps path (Branch to) old new = (first : ℕ) × (IsPairAt ps to first × AreEntriesPushed ps path first old new)
PushesIfDirectory ps path (Inline bytes) old new = new ≡ old
PushesIfDirectory ps path (Ctz head size) old new = new ≡ old

abbrev pub PushesEntriesBelow : List Pair → PathStruct → List PathStruct → List PathStruct → Type 0
PushesEntriesBelow ps place old new = PushesIfDirectory ps place.path place.struct old new

-- ---- the walk

-- the struct is that of the node
abbrev pub IsStructNode : Disk → Struct → Node → Type 0
IsStructNode disk (Inline bytes) node = (attributes : Attributes) × (node ≡ FileNode attributes bytes)
IsStructNode disk (Ctz head size) node = (attributes : Attributes) × ((node ≡ FileNode attributes (disk_list_bytes disk head size)) × IsSkipList disk.blocks disk.block_size head size)
IsStructNode disk (Branch to) node = (attributes : Attributes) × ((names : List Name) × (node ≡ DirectoryNode attributes names))

pub record IsTreeItem (disk : Disk) (place : PathStruct) (entry : PathNode) : Type 0 where
  pub path : place.path ≡ path_bytes entry.path
  pub node : IsStructNode disk place.struct entry.node

abbrev pub AreTreeItems : Disk → List PathStruct → List PathNode → Type 0
AreTreeItems disk [] [] = Unit {0}
AreTreeItems disk [] (e ∷ es) = ⊥
AreTreeItems disk (p ∷ ps) [] = ⊥
AreTreeItems disk (p ∷ ps) (e ∷ es) = IsTreeItem disk p e × AreTreeItems disk ps es

-- the items are those of the definition's walk, in order
abbrev pub AreWalkItems : Disk → List Pair → List PathStruct → Type 0
AreWalkItems disk ps places = (entries : List PathNode) × (IsTreeWalk (disk_tree disk ps) entries × AreTreeItems disk places entries)
