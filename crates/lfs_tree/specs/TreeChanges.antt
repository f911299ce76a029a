-- What an operation finds at its path, and what it does to a thread.
use Rattle.std.specs.Prelude.{ℕ, ◌≡◌, Bool, true, false, List, [], ◌∷◌, ◌++◌, None, is_some, Result, IfErr, OnOk}
use Rattle.lfs_device.specs.declared.error.Error.{Error}
use Rattle.lfs_model.specs.declared.order.NameOrder.{NameOrder}
use Rattle.lfs_model.specs.format.Disk.{SameGeometry}
use Rattle.lfs_model.specs.session.History.{CallEvent, fault_count}
use Rattle.lfs_model.specs.session.InDirectory.{IsInsertionPosition}
use Rattle.lfs_model.specs.format.Names.{Name}
use Rattle.lfs_model.specs.session.Operations.{Operation}
use Rattle.lfs_model.specs.crash.PowerLoss.{SurvivesLossSince}
use Rattle.lfs_model.specs.session.Layout.{IsLayoutAfterRecovery}
use Rattle.lfs_model.specs.session.Recovery.{IsRecovered}
use Rattle.lfs_model.specs.session.Session.{OpenFilesByNumber, parents_refusal}
use Rattle.lfs_model.specs.format.Slots.{zero_gstate}
use Rattle.lfs_model.specs.format.Thread.{Pair, pairs_gstate}
use Rattle.lfs_model.specs.tree.Tree.{Path, Tree}
use Rattle.lfs_model.specs.session.TreeEdits.{last_name}
use Rattle.lfs_model.specs.tree.Profile.{IsWritable}
use Rattle.lfs_model.specs.tree.Shown.{disk_tree}
use Rattle.lfs_operations.specs.Ready.{KeepsRootPairIndex}
use Rattle.lfs_thread.specs.Kept.{KeptThread, ThreadView}
use Rattle.lfs_tree.specs.TreeCalls.{TreeCall, IsOperationCall, tree_after_call}
use Rattle.lfs_tree.specs.RootedThreads.{IsSoundWithRoot, uncached_state}
use Rattle.lfs_lookup.specs.LookupPaths.{LeadsToPair, IsResultOfPath}
use Rattle.lfs_tree.specs.TreeState.{IsOperationApplied, HasErrorCause, IsSoundState, KeepsOthersIfRecovered}
use Rattle.lfs_lookup.specs.declared.paths.PathLookup.{PathLookup}
use Rattle.lfs_lookup.specs.declared.paths.PathLookup.TheVariants as found
use Rattle.lfs_lookup.specs.declared.search.SlotPosition.{SlotPosition}

-- The image may be changed: it is in the writing profile, and has nothing to recover.
pub record CanChangeRecovered (t : ThreadView) (root : ℕ) : Type 0 where
  pub held : IsSoundWithRoot t root true
  pub settled : pairs_gstate t.kept.pairs ≡ zero_gstate

-- `target` is the result of the path's look-up, and `name` its last name
pub record IsLookupWithName (t : KeptThread) (path : Path) (target : PathLookup) (name : Name) : Type 0 where
  pub leads : IsResultOfPath t path target
  pub named : name ≡ last_name path

-- the path has no entry, and its parents are directories
pub record IsVacantPath (t : Tree) (path : Path) : Type 0 where
  pub parents : parents_refusal t [] path ≡ None
  pub nothing : is_some (t path) ≡ false

-- `name` is the last one of the path, and `spot` the slot at which it belongs
pub record IsInsertionSlot (order : NameOrder) (ps : List Pair) (path : Path) (name : Name) (spot : SlotPosition) : Type 0 where
  pub above : Path
  pub first : ℕ
  pub is : path ≡ above ++ name ∷ []
  pub on : LeadsToPair ps above first
  pub belongs : IsInsertionPosition order ps first name spot.pair spot.id

-- the look-up found no entry, but the slot at which the name belongs
abbrev pub is_nothing_found : PathLookup → Bool
is_nothing_found (found.Nothing parent place) = true
is_nothing_found _ = false

abbrev pub IsMissingNameSlot : PathLookup → SlotPosition → Type 0
IsMissingNameSlot (found.Nothing parent place) spot = place ≡ spot
IsMissingNameSlot _ spot = ⊥

-- the operation was applied
abbrev pub AppliesOperation : KeptThread → Operation → KeptThread → Type 0
AppliesOperation old op new = IsOperationApplied (uncached_state old true false) op (uncached_state new true false)

-- the operation was applied, before a worn pair is relocated
pub record AppliesBeforeRelocation (old : KeptThread) (op : Operation) (new : KeptThread) : Type 0 where
  pub applied : AppliesOperation old op new
  pub stays : (files : OpenFilesByNumber) → IsLayoutAfterRecovery old.disk old.pairs (record { tree = disk_tree old.disk old.pairs; files = files }) op new.disk new.pairs

-- the operation doesn't change the blocks that it doesn't concern
abbrev pub KeepsBlocksOutsideOperation : KeptThread → Operation → KeptThread → Type 0
KeepsBlocksOutsideOperation old op new = KeepsOthersIfRecovered (uncached_state old true false) op (uncached_state new true false)

-- the device has the same geometry, and had further calls
pub record IsLaterOnSameDevice (old new : KeptThread) : Type 0 where
  pub geometry : SameGeometry old.disk new.disk
  pub calls : List CallEvent
  pub called : new.history ≡ calls ++ old.history

-- the error is `Io` if a device call failed, and `NoMemory` if none did
abbrev pub HasThreadCause : KeptThread → KeptThread → Error → Type 0
HasThreadCause old new e = HasErrorCause (uncached_state old true false) (uncached_state new true true) e

-- a power loss during the call leaves the tree from before the call, or this one
abbrev pub PowerLossLeavesEither : KeptThread → KeptThread → Tree → Type 0
PowerLossLeavesEither old new after = SurvivesLossSince old.disk old.history new.history (disk_tree old.disk old.pairs) after

-- ---- promises

-- The image is accepted, in the writing profile, and has this tree, with nothing to recover. The root directory begins with the
-- same pair, and no device call failed.
pub record HasSoundImage (old : KeptThread) (tree : Tree) (new : KeptThread) : Type 0 where
  pub sound : IsSoundState (uncached_state new true false)
  pub fits : IsWritable new.disk new.pairs
  pub recovered : IsRecovered new.pairs
  pub root : KeepsRootPairIndex old new
  pub shows : disk_tree new.disk new.pairs ≡ tree
  pub no_fault : fault_count new.history ≡ fault_count old.history

-- The promises of a change of the image. At Ok the image has the tree from after the change. An error has its cause, and a
-- power loss leaves the tree from before or from after.
pub record ChangesTreeOrFails {X : Type 0} (old : ThreadView) (Done : KeptThread → Type 0) (after : Tree) (result : Result X Error) (new : ThreadView) : Type 0 where
  pub done : OnOk result (Done new.kept)
  pub works : OnOk result (new.failed ≡ false)
  pub stands : OnOk result (HasSoundImage old.kept after new.kept)
  pub called : IsLaterOnSameDevice old.kept new.kept
  pub errors : IfErr result (HasThreadCause old.kept new.kept)
  pub survives : PowerLossLeavesEither old.kept new.kept after

-- the call's operation was applied, and didn't change the blocks that it doesn't concern
pub record HasAppliedCall (old : KeptThread) (call : TreeCall) (new : KeptThread) : Type 0 where
  pub carries : (op : Operation) → IsOperationCall call op → AppliesBeforeRelocation old op new
  pub spares : (op : Operation) → IsOperationCall call op → KeepsBlocksOutsideOperation old op new

-- the promises of a call on a thread that has nothing to recover
abbrev pub AppliesOrFails : {X : Type 0} → ThreadView → TreeCall → Result X Error → ThreadView → Type 0
AppliesOrFails old call result new = ChangesTreeOrFails old (HasAppliedCall old.kept call) (tree_after_call call (disk_tree old.kept.disk old.kept.pairs)) result new
