-- A tree of files on a device, in contracts.
use Rattle.std.specs.Prelude.{ℕ, ◌≡◌, ◌≢◌, ◌⊎◌, ◌<◌, ◌≤◌, ◌+◌, Bool, true, false, List, [], ◌++◌, length, Result, IfErr, OnErr, OnOk}
use Rattle.lfs_device.specs.declared.error.Error.{Error}
use Rattle.lfs_device.specs.declared.error.Error.TheVariants.{Io, NoMemory, Corrupt}
use Rattle.lfs_model.specs.session.TreeEdits.{is_file}
use Rattle.lfs_model.specs.layers.BlockSets.{AreUsed, BlockStates, IsInFlight, in_flight_count}
use Rattle.lfs_model.specs.layers.Cache.{CachedBlocks}
use Rattle.lfs_model.specs.crash.Frame.{KeepsUnrelatedBlocks}
use Rattle.lfs_model.specs.declared.order.NameOrder.{NameOrder}
use Rattle.lfs_model.specs.declared.order.NameOrder.TheVariants.{LongerFirst, ShorterFirst}
use Rattle.lfs_model.specs.format.Disk.{Disk, disk_with_order, SameGeometry, disk_block, block_count}
use Rattle.lfs_model.specs.session.History.{CallEvent, OnlyReadsSince, fault_count, read_count, is_unprogrammed_byte}
use Rattle.lfs_model.specs.layers.Keeping.{vacates_path}
use Rattle.lfs_model.specs.session.Moved.{IsLayoutAfterRelocation}
use Rattle.lfs_model.specs.session.Operations.{Operation}
use Rattle.lfs_model.specs.crash.PowerLoss.{SurvivesLossSince}
use Rattle.lfs_model.specs.session.Recovery.{IsRecovered}
use Rattle.lfs_model.specs.session.Run.{IsUntouched, is_recover, renames_itself}
use Rattle.lfs_model.specs.session.Session.{OpenFilesByNumber, DiskSummary}
use Rattle.lfs_model.specs.format.Slots.{zero_gstate}
use Rattle.lfs_model.specs.session.Effects.{operation_effect}
use Rattle.lfs_model.specs.format.Thread.{Pair, pairs_gstate}
use Rattle.lfs_model.specs.tree.Tree.{Path, Tree}
use Rattle.lfs_model.specs.tree.View.{IsAccepted}
use Rattle.lfs_model.specs.tree.Profile.{IsWritable}
use Rattle.lfs_model.specs.tree.Shown.{disk_tree, used_blocks}
use Rattle.lfs_thread.specs.Kept.{KeptThread}
use Rattle.lfs_tree.specs.KeptFiles.{KeepsFileAt, KeepsListBytes, max_allocated_blocks}

-- The disk, all device calls so far, the metadata pairs, the state of each block, whether the image is in the writing profile,
-- whether the tree has failed, and which blocks are cached.
pub record TreeState : Type 0 where
  pub disk : Disk
  pub history : List CallEvent
  pub pairs : List Pair
  pub map : BlockStates
  pub writable : Bool
  pub failed : Bool
  pub cache : CachedBlocks

-- the state with an empty cache, to compare two states except for their caches
abbrev pub without_cache : TreeState → TreeState
without_cache t = record t { cache = [] }

abbrev pub kept_thread : TreeState → KeptThread
kept_thread t = record { disk = t.disk; history = t.history; pairs = t.pairs; map = t.map }

abbrev pub visible_tree : TreeState → Tree
visible_tree t = disk_tree t.disk t.pairs

abbrev pub tree_summary : TreeState → DiskSummary
tree_summary t = record {
  writable = t.writable;
  profile = t.disk.profile;
  block_size = t.disk.block_size;
  page = t.disk.page;
  block_count = block_count t.disk;
  used = used_blocks t.disk t.pairs;
  gstate = pairs_gstate t.pairs;
}

-- The disk is accepted with these pairs, `writable` says whether it is in the writing profile, and the map's used blocks are
-- the image's.
pub record IsSoundImage (t : TreeState) : Type 0 where
  pub accepted : IsAccepted t.disk t.pairs
  pub fits : t.writable ≡ true → IsWritable t.disk t.pairs
  pub is_kept : IsWritable t.disk t.pairs → t.writable ≡ true
  pub used : AreUsed t.map (used_blocks t.disk t.pairs)
  pub size : length t.map ≡ block_count t.disk

abbrev pub IsSoundState : TreeState → Type 0
IsSoundState t = IsSoundImage (without_cache t)

-- ---- calls that only read

-- The disk was only read, no device call failed, and nothing else has changed except the cached blocks. A tree that had failed
-- stays as it was.
pub record OnlyReadsTree (old new : TreeState) : Type 0 where
  pub same : new ≡ record old { history = new.history; cache = new.cache }
  pub failed : old.failed ≡ true → new ≡ old
  pub reads : OnlyReadsSince old.disk.blocks old.history new.history
  pub no_fault : fault_count new.history ≡ fault_count old.history

-- the tree has failed, and its disk was only read
pub record FailedByReading (old new : TreeState) : Type 0 where
  pub failed : new.failed ≡ true
  pub disk : new.disk ≡ old.disk
  pub reads : OnlyReadsSince old.disk.blocks old.history new.history

-- the error is `Io` if a device call failed, and `NoMemory` if none did
pub record HasErrorCause (old new : TreeState) (e : Error) : Type 0 where
  pub errors : (e ≡ Io) ⊎ (e ≡ NoMemory)
  pub fault : e ≡ Io → fault_count old.history < fault_count new.history
  pub no_fault : e ≢ Io → fault_count new.history ≡ fault_count old.history

-- the promises of a call that only reads
pub record ReadsTreeOrFails {X : Type 0} (old : TreeState) (result : Result X Error) (new : TreeState) : Type 0 where
  pub asked : OnOk result (OnlyReadsTree old new)
  pub broken : OnErr result (FailedByReading old new)
  pub errors : IfErr result (HasErrorCause old new)

-- The same of a mount, which also returns `Corrupt`, if the disk is accepted in neither order of names.
pub record HasMountCause (old new : TreeState) (e : Error) : Type 0 where
  pub errors : (e ≡ Io) ⊎ ((e ≡ NoMemory) ⊎ ((e ≡ Corrupt) × ((order : NameOrder) (ps : List Pair) → IsAccepted (disk_with_order order old.disk) ps → ⊥)))
  pub fault : e ≡ Io → fault_count old.history < fault_count new.history
  pub no_fault : e ≢ Io → fault_count new.history ≡ fault_count old.history

-- ---- calls that write

-- the tree has failed: nothing is known of the disk but its geometry
pub record IsFailedTree (old new : TreeState) : Type 0 where
  pub failed : new.failed ≡ true
  pub geometry : SameGeometry old.disk new.disk
  pub calls : List CallEvent
  pub called : new.history ≡ calls ++ old.history

-- the same blocks are in flight and keep their bytes, and their unprogrammed bytes stay unprogrammed
pub record KeepsInFlight (old new : TreeState) : Type 0 where
  pub stay : (b : ℕ) → IsInFlight old.map b → IsInFlight new.map b
  pub none_comes : (b : ℕ) → IsInFlight new.map b → IsInFlight old.map b
  pub bytes : (b : ℕ) → IsInFlight old.map b → disk_block new.disk b ≡ disk_block old.disk b
  pub unprogrammed_still : (b k : ℕ) → IsInFlight old.map b → is_unprogrammed_byte old.history b k ≡ true → is_unprogrammed_byte new.history b k ≡ true

-- a power loss during the call leaves the tree from before the call, or `after`
abbrev pub PowerLossesLeaveEither : TreeState → TreeState → Tree → Type 0
PowerLossesLeaveEither old new after = SurvivesLossSince old.disk old.history new.history (visible_tree old) after

-- The operation was applied, no device call failed, and a worn pair may have been relocated after it. It is so whatever files
-- are open.
pub record IsOperationAppliedWith (old : TreeState) (op : Operation) (new : TreeState) : Type 0 where
  pub works : new.failed ≡ false
  pub sound : IsSoundState new
  pub writable : new.writable ≡ true
  pub geometry : SameGeometry old.disk new.disk
  pub calls : List CallEvent
  pub called : new.history ≡ calls ++ old.history
  pub no_fault : fault_count new.history ≡ fault_count old.history
  pub fits : IsWritable new.disk new.pairs
  pub recovered : IsRecovered new.pairs
  pub shows : (around : DiskSummary) (files : OpenFilesByNumber) → visible_tree new ≡ (operation_effect around (record { tree = visible_tree old; files = files }) op).1.tree
  pub arranged : old.history ≢ [] → (files : OpenFilesByNumber) → IsLayoutAfterRelocation old.disk old.pairs (record { tree = visible_tree old; files = files }) op calls new.disk new.pairs
  pub itself : renames_itself op ≡ true → IsUntouched old.disk calls new.disk
  pub nothing_left : is_recover op ≡ true → IsRecovered old.pairs → IsUntouched old.disk calls new.disk
  pub flight : KeepsInFlight old new
  pub keeps : (path : Path) → is_file (visible_tree old path) ≡ true → vacates_path op path ≡ false → KeepsFileAt (kept_thread old) (kept_thread new) path
  pub lists : pairs_gstate old.pairs ≡ zero_gstate → KeepsListBytes old.disk old.pairs new.disk
  pub taken : length (tree_summary new).used ≤ length (tree_summary old).used + max_allocated_blocks op

abbrev pub IsOperationApplied : TreeState → Operation → TreeState → Type 0
IsOperationApplied old op new = IsOperationAppliedWith (without_cache old) op (without_cache new)

-- If nothing was to recover, the blocks of files keep their bytes, and so do the blocks of pairs that the operation doesn't
-- concern.
abbrev pub KeepsOthersIfRecovered : TreeState → Operation → TreeState → Type 0
KeepsOthersIfRecovered old op new = pairs_gstate old.pairs ≡ zero_gstate → (files : OpenFilesByNumber) → KeepsUnrelatedBlocks old.disk old.pairs (record { tree = visible_tree old; files = files }) op new.disk new.pairs

-- A tree mounted from the disk: it hasn't failed, the disk was read and never written, no device call failed, and no block is
-- in flight.
pub record IsMountedTree (disk : Disk) (history : List CallEvent) (t : TreeState) : Type 0 where
  pub works : t.failed ≡ false
  pub disk_is : t.disk ≡ disk
  pub called : read_count history < read_count t.history
  pub reads : OnlyReadsSince disk.blocks history t.history
  pub no_fault : fault_count t.history ≡ fault_count history
  pub sound : IsSoundState t
  pub none_in_flight : in_flight_count t.map ≡ 0

-- The device was mounted again, in the order of names that was found. If both orders fit, it is `LongerFirst`.
pub record IsRemountedTree (old new : TreeState) : Type 0 where
  pub mounted : IsMountedTree (disk_with_order new.disk.order old.disk) old.history new
  pub longer : new.disk.order ≡ ShorterFirst → (ps : List Pair) → IsAccepted (disk_with_order LongerFirst old.disk) ps → ⊥
