-- An entry that is removed from its directory.
use Rattle.std.specs.Prelude.{ℕ, ◌≡◌, ◌≤◌, ◌+◌, true, List, [], ◌∷◌, ◌++◌}
use Rattle.lfs_tree.specs.SettledFiles.{stored_list_blocks}
use Rattle.lfs_model.specs.declared.order.NameOrder.{NameOrder}
use Rattle.lfs_model.specs.crash.Frame.{KeepsUnrelatedBlocks}
use Rattle.lfs_model.specs.session.Operations as ops
use Rattle.lfs_model.specs.session.Session.{Session}
use Rattle.lfs_model.specs.session.Refusals.{path_or_root}
use Rattle.lfs_model.specs.format.Thread.{Pair}
use Rattle.lfs_model.specs.tree.Tree.{Path}
use Rattle.lfs_model.specs.tree.Shown.{disk_tree, used_blocks}
use Rattle.lfs_model.specs.layers.Steps.{CompletesOperation, occurrence_count}
use Rattle.lfs_operations.specs.Dropping.{HasSameBlocksInFlight}
use Rattle.lfs_operations.specs.Editing.{editable_slot}
use Rattle.lfs_operations.specs.Ready.{IsRecoveredWritableImage, IsWritableBeforeMapUpdate, KeepsRootPairIndex}
use Rattle.lfs_operations.specs.Removing.{CanRemoveIn}
use Rattle.lfs_operations.specs.Unlinking.{CanRemoveDirectory}
use Rattle.lfs_thread.specs.Kept.{KeptThread}
use Rattle.lfs_tree.specs.SlotChanges.{is_entry_found}
use Rattle.lfs_lookup.specs.Entry.{IsStorageOfStruct}
use Rattle.lfs_lookup.specs.LookupPaths.{IsPathLookupResult}
use Rattle.lfs_lookup.specs.declared.entry.FileStorage.{FileStorage}
use Rattle.lfs_lookup.specs.declared.paths.PathLookup.{PathLookup}
use Rattle.lfs_lookup.specs.declared.paths.PathLookup.TheVariants as found
use Rattle.lfs_lookup.specs.declared.search.SlotPosition.{SlotPosition}
use Rattle.lfs_file.specs.Bases.{IsListOrEmpty}
use Rattle.lfs_tree.specs.Stores.{list_in_storage}

-- `found` is the result of the path's look-up, and an entry
pub record IsFoundAt (order : NameOrder) (ps : List Pair) (path : Path) (found : PathLookup) : Type 0 where
  pub ends : IsPathLookupResult order ps path found
  pub has : is_entry_found found ≡ true

-- ---- the list of a file

-- The image no longer has the file of these contents; the blocks of its list are still marked as used.
pub record CanFreeList (t : KeptThread) (contents : FileStorage) : Type 0 where
  pub gone : List ℕ
  pub ready : IsWritableBeforeMapUpdate t gone []
  pub once : (b : ℕ) → occurrence_count b (used_blocks t.disk t.pairs) + occurrence_count b gone ≤ 1
  pub list : IsListOrEmpty t.disk.blocks t.disk.block_size (list_in_storage contents).head (list_in_storage contents).size
  pub are : stored_list_blocks t (list_in_storage contents) ≡ gone

-- ---- what may be removed

-- the file at the path, in the directory that begins with the pair of index `parent`
pub record CanRemoveFile (t : KeptThread) (path : Path) (parent : ℕ) (slot : SlotPosition) (contents : FileStorage) : Type 0 where
  pub take : CanRemoveIn t slot.pair slot.id parent
  pub is : path ≡ take.can.path ++ take.can.name ∷ []
  pub shows : IsStorageOfStruct contents (editable_slot take.can).struct

-- the directory at the path, which has no entries
pub record CanRemoveEmpty (t : KeptThread) (path : Path) (parent : ℕ) (slot : SlotPosition) (first : ℕ) : Type 0 where
  pub take : CanRemoveDirectory t slot.pair slot.id parent first
  pub is : path ≡ take.can.path ++ take.can.name ∷ []

abbrev pub CanRemoveFound : KeptThread → Path → PathLookup → Type 0
CanRemoveFound t path (found.File parent slot contents) = CanRemoveFile t path parent slot contents
CanRemoveFound t path (found.Directory parent slot first) = CanRemoveEmpty t path parent slot first
CanRemoveFound t path _ = ⊥

-- ---- results

-- The removal of the path is complete: the tree no longer has the entry, the other slots are in the right pairs, and the
-- entry's blocks are free. The root directory begins with the same pair.
pub record HasRemovedEntry (old : KeptThread) (path : Path) (new : KeptThread) : Type 0 where
  pub ready : IsRecoveredWritableImage new
  pub flying : HasSameBlocksInFlight old.map new.map
  pub root : KeepsRootPairIndex old new
  pub completed : (s : Session) (given : List ℕ) → s.tree ≡ disk_tree old.disk old.pairs → path_or_root given ≡ path
      → CompletesOperation old.disk old.pairs s (ops.Remove given) new.disk new.pairs

-- the removal didn't change the blocks of files and of pairs that it doesn't concern
abbrev pub RemovalKeepsUnrelatedBlocks : KeptThread → Path → KeptThread → Type 0
RemovalKeepsUnrelatedBlocks old path new = (s : Session) (given : List ℕ) → path_or_root given ≡ path → KeepsUnrelatedBlocks old.disk old.pairs s (ops.Remove given) new.disk new.pairs
