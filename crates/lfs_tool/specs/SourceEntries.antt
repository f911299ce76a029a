-- The entries of a source, after it is read.
use Rattle.std.specs.Prelude.{◌≡◌, ◌⊎◌, ◌++◌, ◌&&◌, ℕ, Bool, true, false, List, [], ◌∷◌, Option, Some, None, All, AllPairs, Contains, IfSome, map}
use Rattle.std.specs.List.Sorted.{IsPermutation}
use Rattle.std.specs.declared.cmp.Ordering.TheVariants.{Less}
use Rattle.lfs_model.specs.declared.order.NameOrder.TheVariants.{ShorterFirst}
use Rattle.lfs_model.specs.format.Names.{Name, name_cmp, is_component, is_less}
use Rattle.lfs_model.specs.layers.Source.{HaveBadOrRepeatedNames, TreeSource, source_names, path_in_folder}
use Rattle.lfs_tool.specs.SourceTrees.{is_folder}
use Rattle.lfs_tool.specs.MemorySources.{optional_bytes_view}
use Rattle.lfs_tool.specs.declared.source.ListedName.{ListedName}
use Rattle.lfs_tool.specs.declared.entries.SourceEntry.{SourceEntry}
use Rattle.lfs_tool.specs.declared.entries.PendingEntry.{PendingEntry}

-- ---- names

abbrev pub listed_name : ListedName → Name
listed_name l = l.name.items

abbrev pub is_listed_before : ListedName → ListedName → Bool
is_listed_before a b = is_less (name_cmp ShorterFirst a.name.items b.name.items)

-- each is a component, and greater than the one before it
abbrev pub are_ascending_after : Name → List Name → Bool
are_ascending_after last [] = true
are_ascending_after last (n ∷ ns) = is_component n && is_less (name_cmp ShorterFirst last n) && are_ascending_after n ns

-- components of paths, each greater than those before it
pub record AreAscendingComponents (names : List Name) : Type 0 where
  pub components : All (λ n. is_component n ≡ true) names
  pub rise : AllPairs (λ a b. name_cmp ShorterFirst a b ≡ Less) names

-- These names, each with whether it is a folder's, are in order. They are all names in a folder of the source's known tree.
pub record AreSortedFolderNames (known : Option TreeSource) (folder : List ℕ) (given : List (Name × Bool)) : Type 0 where
  pub order : AreAscendingComponents (source_names given)
  pub names : IfSome known (λ s. IsPermutation (s.names folder) given)

-- ---- entries

-- a path, and whether a folder is there
abbrev pub PathAndKind : Type 0
PathAndKind = List ℕ × Bool

abbrev pub pending_entry_view : PendingEntry → PathAndKind
pending_entry_view w = (w.path.items, is_folder w.kind)

abbrev pub paths_in_folder : List ℕ → List (Name × Bool) → List PathAndKind
paths_in_folder folder given = map (λ g. (path_in_folder folder g.0, g.1)) given

-- a file has its bytes, and nothing within; a folder has no bytes, and these names within
abbrev pub HasSourceContents : Option TreeSource → List ℕ → Bool → Option (List ℕ) → List (Name × Bool) → Type 0
HasSourceContents known path false None within = ⊥
HasSourceContents known path false (Some bytes) within = IfSome known (λ s. bytes ≡ s.bytes path) × (within ≡ [])
HasSourceContents known path true None within = AreSortedFolderNames known path within
HasSourceContents known path true (Some bytes) within = ⊥

-- The entries at these places, in order, each followed by the entries beneath it.
abbrev pub AreDepthFirst : Option TreeSource → List PathAndKind → List SourceEntry → Type 0
AreDepthFirst known [] [] = Unit {0}
AreDepthFirst known [] (e ∷ es) = ⊥
AreDepthFirst known (p ∷ ps) [] = ⊥
AreDepthFirst known (p ∷ ps) (e ∷ es) =
    (e.path.items ≡ p.0) × ((within : List (Name × Bool)) × (HasSourceContents known p.0 p.1 (optional_bytes_view e.bytes) within × AreDepthFirst known (paths_in_folder p.0 within ++ ps) es))

-- all that the source has, depth first and in name order
abbrev pub AreSourceEntries : Option TreeSource → List SourceEntry → Type 0
AreSourceEntries known entries = (top : List (Name × Bool)) × (AreSortedFolderNames known [] top × AreDepthFirst known (paths_in_folder [] top) entries)

-- ---- faults

-- the last call failed; or it didn't, and this holds
abbrev pub HasFaultOr : Bool → Type 0 → Type 0
HasFaultOr failed other = (failed ≡ true) ⊎ ((failed ≡ false) × other)

-- Names lead from one folder to another, each a folder's in the one before.
abbrev pub IsFolderReached : TreeSource → List ℕ → List Name → List ℕ → Type 0
IsFolderReached s folder [] to = to ≡ folder
IsFolderReached s folder (name ∷ rest) to = Contains (s.names folder) (name, true) × IsFolderReached s (path_in_folder folder name) rest to

-- a folder somewhere in the source
abbrev pub IsSourceFolder : TreeSource → List ℕ → Type 0
IsSourceFolder s folder = (names : List Name) × IsFolderReached s [] names folder

-- a folder in the source has names that aren't allowed in one
abbrev pub HasBadNames : TreeSource → Type 0
HasBadNames s = (folder : List ℕ) × (IsSourceFolder s folder × HaveBadOrRepeatedNames (source_names (s.names folder)))
