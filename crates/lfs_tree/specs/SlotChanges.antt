-- The slot of an entry whose attributes change.
use Rattle.std.specs.Prelude.{ℕ, ◌≡◌, Bool, true, false, List, [], ◌∷◌, ◌++◌, Some, None, is_none}
use Rattle.lfs_model.specs.session.TreeEdits.{node_attributes_of, tree_with_change, with_attributes}
use Rattle.lfs_model.specs.format.Names.{Name}
use Rattle.lfs_model.specs.session.Session.{parents_refusal}
use Rattle.lfs_model.specs.format.Slots.{Attributes}
use Rattle.lfs_model.specs.session.Refusals.{is_root_path}
use Rattle.lfs_model.specs.format.Thread.{Pair}
use Rattle.lfs_model.specs.tree.Tree.{Path, Tree}
use Rattle.lfs_lookup.specs.LookupPaths.{IsSlotOfChild}
use Rattle.lfs_lookup.specs.declared.paths.PathLookup.{PathLookup}
use Rattle.lfs_lookup.specs.declared.paths.PathLookup.TheVariants as found
use Rattle.lfs_lookup.specs.declared.search.SlotPosition.{SlotPosition}

-- the path has an entry
pub record HasPathEntry (t : Tree) (path : Path) : Type 0 where
  pub entry : is_root_path path ≡ false
  pub parents : parents_refusal t [] path ≡ None
  pub something : is_none (t path) ≡ false

-- `spot` is the slot of the path, which has the path's last name
pub record IsSlotOfPath (ps : List Pair) (path : Path) (spot : SlotPosition) : Type 0 where
  pub above : Path
  pub name : Name
  pub first : ℕ
  pub is : path ≡ above ++ name ∷ []
  pub stands : IsSlotOfChild ps above name first spot

-- the look-up found an entry
abbrev pub is_entry_found : PathLookup → Bool
is_entry_found (found.Directory parent slot first) = true
is_entry_found (found.File parent slot contents) = true
is_entry_found _ = false

abbrev pub IsFoundSlot : PathLookup → SlotPosition → Type 0
IsFoundSlot (found.Directory parent slot first) spot = slot ≡ spot
IsFoundSlot (found.File parent slot contents) spot = slot ≡ spot
IsFoundSlot _ spot = ⊥

-- the tree with changed attributes of the entry at the path
abbrev pub tree_with_attributes : Path → (Attributes → Attributes) → Tree → Tree
tree_with_attributes path f t = tree_with_change path (λ n. with_attributes (f (node_attributes_of (Some n))) n) t
