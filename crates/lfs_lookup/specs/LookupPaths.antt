-- The results of path look-ups.
use Rattle.std.specs.Prelude.{ℕ, ◌≡◌, List, Option, Some, None, ◌∷◌, [], ◌++◌}
use Rattle.lfs_model.specs.declared.order.NameOrder.{NameOrder}
use Rattle.lfs_model.specs.session.InDirectory.{IsPairAt, IsInsertionPosition, IsPositionOfName}
use Rattle.lfs_model.specs.format.Names.{Name}
use Rattle.lfs_model.specs.session.Operations.{Refusal, NoEnt, NotDir}
use Rattle.lfs_model.specs.session.Session.{directory_refusal, parents_refusal}
use Rattle.lfs_model.specs.session.SlotEdits.{slot_of_path}
use Rattle.lfs_model.specs.format.Slots.{zero_gstate}
use Rattle.lfs_model.specs.format.Thread.{Pair, pairs_gstate}
use Rattle.lfs_model.specs.tree.Tree.{Path}
use Rattle.lfs_model.specs.tree.View.{IsAccepted}
use Rattle.lfs_model.specs.tree.Shown.{IsDirectoryAtPath, disk_tree}
use Rattle.lfs_thread.specs.Kept.{KeptThread}
use Rattle.lfs_lookup.specs.Entry.{IsStorageOfStruct}
use Rattle.lfs_lookup.specs.NameSearch.{IsOnlyMovedSlot, skipped_id}
use Rattle.lfs_lookup.specs.declared.paths.PathLookup.{PathLookup}
use Rattle.lfs_lookup.specs.declared.paths.PathLookup.TheVariants as found
use Rattle.lfs_lookup.specs.declared.paths.VisiblePathLookup.{VisiblePathLookup}
use Rattle.lfs_lookup.specs.declared.paths.VisiblePathLookup.TheVariants as shown
use Rattle.lfs_lookup.specs.declared.search.SlotPosition.{SlotPosition}
use Rattle.lfs_lookup.specs.declared.paths.Parent.{Parent}
use Rattle.lfs_lookup.specs.declared.paths.Parent.TheVariants as parent

-- the image is accepted, and has nothing to recover
pub record IsAcceptedRecovered (t : KeptThread) : Type 0 where
  pub accepted : IsAccepted t.disk t.pairs
  pub settled : pairs_gstate t.pairs ≡ zero_gstate

-- the image is accepted, and only the slot `moved` counts as deleted
pub record HidesMovedSlot (t : KeptThread) (moved : Option SlotPosition) : Type 0 where
  pub accepted : IsAccepted t.disk t.pairs
  pub hides : IsOnlyMovedSlot (pairs_gstate t.pairs) moved 0 t.pairs

-- the path leads to a directory that begins with the pair of index `first`
pub record LeadsToPair (ps : List Pair) (path : Path) (first : ℕ) : Type 0 where
  pub at : ℕ × ℕ
  pub leads : IsDirectoryAtPath ps path at
  pub begins : IsPairAt ps at first

-- the result of a search for the directory at a path
abbrev pub IsParentAt : KeptThread → Path → Parent → Type 0
IsParentAt t path (parent.Directory first) = LeadsToPair t.pairs path first
IsParentAt t path parent.File = directory_refusal (disk_tree t.disk t.pairs path) ≡ Some NotDir
IsParentAt t path parent.Nothing = directory_refusal (disk_tree t.disk t.pairs path) ≡ Some NoEnt

-- the refusal of a path by the parent of its last component
abbrev pub parent_refusal : Parent → Option Refusal
parent_refusal (parent.Directory first) = None
parent_refusal parent.File = Some NotDir
parent_refusal parent.Nothing = Some NoEnt

abbrev pub HoldsIfDirectory : Parent → (ℕ → Type 0) → Type 0
HoldsIfDirectory (parent.Directory first) P = P first
HoldsIfDirectory parent.File P = Unit {0}
HoldsIfDirectory parent.Nothing P = Unit {0}

-- the result of the search for a path's parent
pub record IsPathParent (t : KeptThread) (path : Path) (parent : Parent) : Type 0 where
  pub fault : (name : Name) → parents_refusal (disk_tree t.disk t.pairs) [] (path ++ name ∷ []) ≡ parent_refusal parent
  pub begins : HoldsIfDirectory parent (LeadsToPair t.pairs path)

-- ---- without a pending move

-- The directory at the path `above` has the name, in the slot `spot`. This is the slot of the name's path.
pub record IsSlotOfChild (ps : List Pair) (above : Path) (name : Name) (first : ℕ) (spot : SlotPosition) : Type 0 where
  pub on : LeadsToPair ps above first
  pub stands : IsPositionOfName ps first name spot.pair spot.id
  pub slot : slot_of_path ps (above ++ name ∷ []) ≡ Some stands.stands.slot

-- the directory at the path `above` doesn't have the name, which belongs before the slot `spot`
pub record IsInsertionSlotAt (order : NameOrder) (ps : List Pair) (above : Path) (name : Name) (first : ℕ) (spot : SlotPosition) : Type 0 where
  pub on : LeadsToPair ps above first
  pub belongs : IsInsertionPosition order ps first name spot.pair spot.id
  pub nothing : slot_of_path ps (above ++ name ∷ []) ≡ None

-- the result of the search for a name in the directory at a path
abbrev pub IsNameLookupResult : NameOrder → List Pair → Path → Name → PathLookup → Type 0
IsNameLookupResult order ps above name (found.Directory parent slot first) = IsSlotOfChild ps above name parent slot × LeadsToPair ps (above ++ name ∷ []) first
IsNameLookupResult order ps above name (found.File parent slot contents) = (s : IsSlotOfChild ps above name parent slot) × IsStorageOfStruct contents s.stands.stands.slot.struct
IsNameLookupResult order ps above name (found.Nothing parent place) = IsInsertionSlotAt order ps above name parent place
IsNameLookupResult order ps above name found.Root = ⊥
IsNameLookupResult order ps above name found.ParentIsFile = ⊥
IsNameLookupResult order ps above name found.ParentIsMissing = ⊥

-- the refusal of a path by its parents
abbrev pub lookup_refusal : PathLookup → Option Refusal
lookup_refusal found.ParentIsFile = Some NotDir
lookup_refusal found.ParentIsMissing = Some NoEnt
lookup_refusal _ = None

-- the result is that of the path's last name in its parent
pub record IsPathLookupResult (order : NameOrder) (ps : List Pair) (path : Path) (found : PathLookup) : Type 0 where
  pub above : Path
  pub name : Name
  pub is : path ≡ above ++ name ∷ []
  pub there : IsNameLookupResult order ps above name found

-- the result of the look-up, unless a parent refuses the path
abbrev pub IsFoundOrRefused : KeptThread → Path → PathLookup → Type 0
IsFoundOrRefused t path found.Root = path ≡ []
IsFoundOrRefused t path found.ParentIsFile = Unit {0}
IsFoundOrRefused t path found.ParentIsMissing = Unit {0}
IsFoundOrRefused t path there = IsPathLookupResult t.disk.order t.pairs path there

-- `found` is the result of the path's look-up
pub record IsResultOfPath (t : KeptThread) (path : Path) (found : PathLookup) : Type 0 where
  pub parents : parents_refusal (disk_tree t.disk t.pairs) [] path ≡ lookup_refusal found
  pub there : IsFoundOrRefused t path found

-- ---- with a slot that counts as deleted

-- The last name of the path is in the slot `spot` of the parent directory, and this slot doesn't count as deleted. It is the
-- slot of the path.
pub record IsVisibleSlot (ps : List Pair) (moved : Option SlotPosition) (path : Path) (spot : SlotPosition) : Type 0 where
  pub above : Path
  pub name : Name
  pub is : path ≡ above ++ name ∷ []
  pub first : ℕ
  pub on : LeadsToPair ps above first
  pub stands : IsPositionOfName ps first name spot.pair spot.id
  pub kept : skipped_id moved spot.pair ≡ Some spot.id → ⊥
  pub slot : slot_of_path ps path ≡ Some stands.stands.slot

-- the result of the look-up of a path that isn't the root's
abbrev pub IsVisibleNameLookup : List Pair → Option SlotPosition → Path → VisiblePathLookup → Type 0
IsVisibleNameLookup ps moved path (shown.Directory spot first) = IsVisibleSlot ps moved path spot × LeadsToPair ps path first
IsVisibleNameLookup ps moved path (shown.File spot contents) = (s : IsVisibleSlot ps moved path spot) × IsStorageOfStruct contents s.stands.stands.slot.struct
IsVisibleNameLookup ps moved path shown.Nothing = slot_of_path ps path ≡ None
IsVisibleNameLookup ps moved path shown.Root = ⊥
IsVisibleNameLookup ps moved path shown.ParentIsFile = ⊥
IsVisibleNameLookup ps moved path shown.ParentIsMissing = ⊥

-- the result of the look-up of a path, or a parent's refusal
abbrev pub IsVisibleLookupResult : KeptThread → Option SlotPosition → Path → VisiblePathLookup → Type 0
IsVisibleLookupResult t moved path shown.Root = path ≡ []
IsVisibleLookupResult t moved path shown.ParentIsFile = parents_refusal (disk_tree t.disk t.pairs) [] path ≡ Some NotDir
IsVisibleLookupResult t moved path shown.ParentIsMissing = parents_refusal (disk_tree t.disk t.pairs) [] path ≡ Some NoEnt
IsVisibleLookupResult t moved path there = (parents_refusal (disk_tree t.disk t.pairs) [] path ≡ None) × IsVisibleNameLookup t.pairs moved path there
