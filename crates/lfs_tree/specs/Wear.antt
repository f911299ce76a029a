-- Wear leveling: a worn pair is relocated after an operation.
use Rattle.std.specs.Prelude.{ℕ, ◌≡◌, ◌⊎◌, ◌≤◌, List, ◌++◌, length, false, true, Option, Some, None, Result, Ok, Err, IfErr, IfSome, OnErr, OnOk}
use Rattle.lfs_device.specs.declared.error.Error.{Error}
use Rattle.lfs_model.specs.format.Disk.{SameGeometry}
use Rattle.lfs_model.specs.session.History.{CallEvent, LeftByLatestCall, fault_count}
use Rattle.lfs_model.specs.session.Moved.{IsOnePairRelocated}
use Rattle.lfs_model.specs.session.Recovery.{IsRecovered}
use Rattle.lfs_operations.specs.Wear.{HasDistinctPlanBlocks, IsRelocationPlanFor, RelocatesByPlan, KeepsTreeAndFiles}
use Rattle.lfs_operations.specs.declared.wear.RelocationPlan.{RelocationPlan}
use Rattle.lfs_tree.specs.TreeState.{HasErrorCause, IsFailedTree, IsSoundState, KeepsInFlight, PowerLossesLeaveEither, TreeState, kept_thread, visible_tree, tree_summary}

-- A plan to relocate a pair, made before an operation that allocates at most `room` blocks. It is None if the profile's
-- `pair_cycles` is 0.
pub record IsRelocationPlanned (t : TreeState) (room : ℕ) (given : Option RelocationPlan) : Type 0 where
  pub sound : IsSoundState t
  pub newest : LeftByLatestCall t.history t.disk.blocks
  pub plan : IfSome given (IsRelocationPlanFor (kept_thread t) room)
  pub none : t.disk.profile.pair_cycles ≡ 0 → given ≡ None

-- the image may be changed, and the plan's two blocks are different blocks of the device
pub record CanRelocateByPlan (t : TreeState) (plan : Option RelocationPlan) : Type 0 where
  pub works : t.failed ≡ false
  pub writable : t.writable ≡ true
  pub recovered : IsRecovered t.pairs
  pub blocks : IfSome plan (HasDistinctPlanBlocks t.map)

-- A worn pair was relocated by the plan. No more blocks are used than before, or than the plan's limit.
pub record HasRelocatedWornPair (old : TreeState) (plan : Option RelocationPlan) (new : TreeState) : Type 0 where
  pub given : RelocationPlan
  pub planned : plan ≡ Some given
  pub moved : IsOnePairRelocated old.disk old.pairs new.disk new.pairs
  pub writes : RelocatesByPlan (kept_thread old) given (kept_thread new)
  pub few : (length (tree_summary new).used ≤ length (tree_summary old).used) ⊎ (length (tree_summary new).used ≤ given.limit)

-- Nothing changed, or a worn pair was relocated by the plan. No device call failed. The image may be changed, and has the same
-- files.
pub record HasRelocatedAtMostOne (old : TreeState) (plan : Option RelocationPlan) (new : TreeState) : Type 0 where
  pub works : new.failed ≡ false
  pub sound : IsSoundState new
  pub writable : new.writable ≡ true
  pub geometry : SameGeometry old.disk new.disk
  pub calls : List CallEvent
  pub called : new.history ≡ calls ++ old.history
  pub no_fault : fault_count new.history ≡ fault_count old.history
  pub files : KeepsTreeAndFiles (kept_thread old) (kept_thread new)
  pub flight : KeepsInFlight old new
  pub spread : (kept_thread new ≡ kept_thread old) ⊎ HasRelocatedWornPair old plan new

-- The promises of a relocation after a change. The image has the same tree all along.
pub record RelocatesOrFails (old : TreeState) (plan : Option RelocationPlan) (result : Result (Unit {0}) Error) (new : TreeState) : Type 0 where
  pub newest : LeftByLatestCall old.history old.disk.blocks
  pub done : OnOk result (HasRelocatedAtMostOne old plan new)
  pub broken : OnErr result (IsFailedTree old new)
  pub errors : IfErr result (HasErrorCause old new)
  pub survives : PowerLossesLeaveEither old new (visible_tree old)

-- If the change itself failed, nothing is done. Otherwise a worn pair may be relocated.
abbrev pub RelocatesUnlessChangeFailed : TreeState → Option RelocationPlan → Result (Unit {0}) Error → Result (Unit {0}) Error → TreeState → Type 0
RelocatesUnlessChangeFailed old plan (Err e) result new = (result ≡ Err e) × (new ≡ old)
RelocatesUnlessChangeFailed old plan (Ok u) result new = RelocatesOrFails old plan result new
