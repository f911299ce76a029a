-- An entry that is renamed, or moved into another directory.
use Rattle.std.specs.Prelude.{ℕ, ◌≡◌, ◌⊎◌, ◌<◌, ◌≤◌, ◌+◌, Bool, true, false, List, [], ◌∷◌, ◌++◌, length, None, Result, IfErr, IsErrOf, OnOk}
use Rattle.lfs_device.specs.declared.error.Error.{Error}
use Rattle.lfs_device.specs.declared.error.Error.TheVariants.{Io, NoMemory}
use Rattle.lfs_model.specs.crash.Frame.{KeepsUnrelatedBlocks}
use Rattle.lfs_model.specs.session.TreeEdits.{tree_renaming, without_prefix}
use Rattle.lfs_model.specs.session.History.{fault_count}
use Rattle.lfs_model.specs.session.InDirectory.{IsPositionOfName}
use Rattle.lfs_model.specs.format.Names.{Name}
use Rattle.lfs_model.specs.session.Operations as ops
use Rattle.lfs_model.specs.session.Session.{Session}
use Rattle.lfs_model.specs.format.Slots.{Branch, same_pair}
use Rattle.lfs_model.specs.session.Refusals.{path_or_root}
use Rattle.lfs_model.specs.format.Thread.{Pair, is_hard_tail}
use Rattle.lfs_model.specs.tree.Tree.{Path}
use Rattle.lfs_model.specs.tree.Profile.{IsWritableEntry}
use Rattle.lfs_model.specs.tree.Shown.{disk_tree, used_blocks}
use Rattle.lfs_model.specs.layers.Steps.{CompletesOperation, occurrence_count}
use Rattle.lfs_operations.specs.Dropping.{HasSameBlocksInFlight}
use Rattle.lfs_operations.specs.Editing.{CanEditIn, editable_slot}
use Rattle.lfs_operations.specs.Making.{HasFreeBlocks}
use Rattle.lfs_operations.specs.Ready.{IsLogContentDecodable, IsRecoveredWritableImage, IsWritableBeforeMapUpdate, KeepsRootPairIndex}
use Rattle.lfs_operations.specs.RenamingSlots.{IsRenameTargetPosition}
use Rattle.lfs_thread.specs.Kept.{KeptThread, ThreadView}
use Rattle.lfs_thread.specs.ThreadSteps.{thread_pair}
use Rattle.lfs_tree.specs.SlotChanges.{IsSlotOfPath}
use Rattle.lfs_lookup.specs.Entry.{IsStorageOfStruct}
use Rattle.lfs_lookup.specs.LookupPaths.{LeadsToPair}
use Rattle.lfs_tree.specs.declared.renames_at.RenameSource.{RenameSource}
use Rattle.lfs_lookup.specs.declared.entry.FileStorage.{FileStorage}
use Rattle.lfs_lookup.specs.declared.paths.PathLookup.{PathLookup}
use Rattle.lfs_lookup.specs.declared.paths.PathLookup.TheVariants as found
use Rattle.lfs_lookup.specs.declared.search.SlotPosition.{SlotPosition}

-- ---- what may be renamed

abbrev pub IsFoundSource : PathLookup → RenameSource → Type 0
IsFoundSource (found.Directory parent slot first) source = source ≡ record { slot = slot; first = parent }
IsFoundSource (found.File parent slot contents) source = source ≡ record { slot = slot; first = parent }
IsFoundSource _ source = ⊥

-- `source` has the slot of the path, and the index of its directory's first pair
pub record IsSourceAt (ps : List Pair) (path : Path) (source : RenameSource) : Type 0 where
  pub slot : IsSlotOfPath ps path source.slot
  pub first_is : slot.first ≡ source.first

-- The image may be changed, and two blocks are free. `source` has the slot of the entry at `from`, which may be renamed to
-- `name`, the last name of `to`. `to` isn't beneath `from`.
pub record CanMoveEntry (t : KeptThread) (from to : Path) (source : RenameSource) (name : Name) : Type 0 where
  pub old : CanEditIn t source.slot.pair source.slot.id
  pub old_is : from ≡ old.path ++ old.name ∷ []
  pub old_first : old.first ≡ source.first
  pub above : Path
  pub is : to ≡ above ++ name ∷ []
  pub first : ℕ
  pub on : LeadsToPair t.pairs above first
  pub not_beneath : without_prefix from to ≡ None
  pub fits : IsWritableEntry t.disk.profile t.disk.block_size t.disk.page (record (editable_slot old) { name = name })
  pub logged : (at : ℕ × ℕ) → IsLogContentDecodable t.disk at
  pub room : HasFreeBlocks 2 t.map

-- `place` is the slot at which the new name belongs or, with `replaces`, the replaced file's
pub record CanMoveEntryTo (replaces : Bool) (t : KeptThread) (from to : Path) (source : RenameSource) (place : SlotPosition) (name : Name) : Type 0 where
  pub can : CanMoveEntry t from to source name
  pub gone : List ℕ
  pub target : IsRenameTargetPosition replaces false t can.first name place.pair place.id gone

-- `to` has a file with these contents
pub record CanMoveOntoFile (t : KeptThread) (from to : Path) (source : RenameSource) (slot : SlotPosition) (contents : FileStorage) (name : Name) : Type 0 where
  pub onto : CanMoveEntryTo true t from to source slot name
  pub shows : IsStorageOfStruct contents onto.target.there.stands.slot.struct

-- `to` has a directory without entries; its only pair is the one of index `gone`
pub record CanMoveOntoDirectory (t : KeptThread) (from to : Path) (source : RenameSource) (slot : SlotPosition) (gone : ℕ) (name : Name) : Type 0 where
  pub can : CanMoveEntry t from to source name
  pub target : IsPositionOfName t.pairs can.first name slot.pair slot.id
  pub at : ℕ × ℕ
  pub branch : target.stands.slot.struct ≡ Branch at
  pub below : gone < length t.pairs
  pub there : same_pair (thread_pair t gone).at at ≡ true
  pub empty : (thread_pair t gone).content.slots ≡ []
  pub alone : is_hard_tail (thread_pair t gone).content.tail ≡ false

-- `to` has no entry, a file, or a directory without entries
abbrev pub CanMoveOntoFound : KeptThread → Path → Path → RenameSource → PathLookup → Name → Type 0
CanMoveOntoFound t from to source (found.Nothing parent place) name = CanMoveEntryTo false t from to source place name
CanMoveOntoFound t from to source (found.File parent slot contents) name = CanMoveOntoFile t from to source slot contents name
CanMoveOntoFound t from to source (found.Directory parent slot first) name = CanMoveOntoDirectory t from to source slot first name
CanMoveOntoFound t from to source _ name = ⊥

-- ---- results

-- the rename didn't change the blocks of files and of pairs that it doesn't concern
abbrev pub RenameKeepsUnrelatedBlocks : KeptThread → Path → Path → KeptThread → Type 0
RenameKeepsUnrelatedBlocks old from to new = (s : Session) (given to_given : List ℕ) → path_or_root given ≡ from → path_or_root to_given ≡ to → KeepsUnrelatedBlocks old.disk old.pairs s (ops.Rename given to_given) new.disk new.pairs

-- The rename of `from` to `to` is complete: the tree has the entry at `to`, the other slots are in the right pairs, and the
-- map's used blocks are the image's. The root directory begins with the same pair.
pub record HasMovedEntry (old : KeptThread) (from to : Path) (new : KeptThread) : Type 0 where
  pub ready : IsRecoveredWritableImage new
  pub flying : HasSameBlocksInFlight old.map new.map
  pub root : KeepsRootPairIndex old new
  pub completed : (s : Session) (given to_given : List ℕ) → s.tree ≡ disk_tree old.disk old.pairs → path_or_root given ≡ from → path_or_root to_given ≡ to
      → CompletesOperation old.disk old.pairs s (ops.Rename given to_given) new.disk new.pairs
  pub alone : RenameKeepsUnrelatedBlocks old from to new

-- The same, but the blocks `gone` of a replaced file's list are still marked as used.
pub record HasMovedReplacingFile (old : KeptThread) (from to : Path) (gone : List ℕ) (new : KeptThread) : Type 0 where
  pub ready : IsWritableBeforeMapUpdate new gone []
  pub once : (b : ℕ) → occurrence_count b (used_blocks new.disk new.pairs) + occurrence_count b gone ≤ 1
  pub shows : disk_tree new.disk new.pairs ≡ tree_renaming from to (disk_tree old.disk old.pairs)
  pub flying : HasSameBlocksInFlight old.map new.map
  pub root : KeepsRootPairIndex old new
  pub completed : (s : Session) (given to_given : List ℕ) → s.tree ≡ disk_tree old.disk old.pairs → path_or_root given ≡ from → path_or_root to_given ≡ to
      → CompletesOperation old.disk old.pairs s (ops.Rename given to_given) new.disk new.pairs
  pub alone : RenameKeepsUnrelatedBlocks old from to new

-- the result is `Io` exactly if a device call failed; without an error the thread hasn't failed
pub record WorksOrReportsIo {X : Type 0} (old new : ThreadView) (result : Result X Error) : Type 0 where
  pub works : OnOk result (new.failed ≡ false)
  pub errors : IfErr result (λ e. (e ≡ Io) ⊎ (e ≡ NoMemory))
  pub fault : IsErrOf result Io → fault_count old.kept.history < fault_count new.kept.history
  pub no_fault : ¬ IsErrOf result Io → fault_count new.kept.history ≡ fault_count old.kept.history
