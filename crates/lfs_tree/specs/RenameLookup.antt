-- The look-ups of a rename's two paths.
use Rattle.std.specs.Prelude.{◌≡◌, List, [], ◌∷◌, ◌++◌}
use Rattle.lfs_model.specs.crash.Frame.{ancestor_paths}
use Rattle.lfs_model.specs.format.Slots.{zero_gstate}
use Rattle.lfs_model.specs.format.Thread.{pairs_gstate}
use Rattle.lfs_model.specs.tree.Tree.{Path, Tree}
use Rattle.lfs_model.specs.session.TreeEdits.{node_attributes_of}
use Rattle.lfs_lookup.specs.AttributeAt.{IsAttributesSize}
use Rattle.lfs_lookup.specs.Finds.{IsFoundNode, has_entry_beneath}
use Rattle.lfs_lookup.specs.LookupPaths.{IsResultOfPath}
use Rattle.lfs_lookup.specs.declared.paths.PathLookup.{PathLookup}
use Rattle.lfs_lookup.specs.declared.paths.PathLookup.TheVariants as found
use Rattle.lfs_lookup.specs.declared.paths.VisiblePathLookup.{VisiblePathLookup}
use Rattle.lfs_lookup.specs.declared.paths.VisiblePathLookup.TheVariants as shown
use Rattle.lfs_thread.specs.Kept.{KeptThread}
use Rattle.lfs_tree.specs.declared.rename_paths.RenameLookup.{RenameLookup}
use Rattle.lfs_tree.specs.declared.rename_paths.RenameTargets.{RenameTargets}

-- the result of a look-up without the directory, and without the slot of a missing name
abbrev pub lookup_without_parent : PathLookup → VisiblePathLookup
lookup_without_parent found.Root = shown.Root
lookup_without_parent (found.Directory parent slot first) = shown.Directory slot first
lookup_without_parent (found.File parent slot contents) = shown.File slot contents
lookup_without_parent (found.Nothing parent place) = shown.Nothing
lookup_without_parent found.ParentIsFile = shown.ParentIsFile
lookup_without_parent found.ParentIsMissing = shown.ParentIsMissing

-- the directories that both look-ups search: those above the old path, twice, those above the new one, and the one at it
abbrev pub rename_parents : Path → Path → List Path
rename_parents from to = ancestor_paths from ++ (ancestor_paths from ++ (ancestor_paths to ++ to ∷ []))

-- the image has nothing to recover, and these are the results of the two look-ups
pub record AreRenameResults (t : KeptThread) (from to : Path) (targets : RenameTargets) : Type 0 where
  pub settled : pairs_gstate t.pairs ≡ zero_gstate
  pub entry : IsResultOfPath t from targets.entry
  pub target : IsResultOfPath t to targets.target

-- the nodes at the old and the new path, and how many bytes the attributes at the old one use
pub record AreRenameFindings (t : Tree) (from to : Path) (r : RenameLookup) : Type 0 where
  pub entry : IsFoundNode t from r.entry
  pub target : IsFoundNode t to r.target.finding
  pub has : r.target.has_entries ≡ has_entry_beneath t to
  pub size : IsAttributesSize (node_attributes_of (t from)) r.attributes_size
