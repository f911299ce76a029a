-- The drop of orphans, the pairs that no path leads to, by a recovery.
use Rattle.std.specs.Prelude.{ℕ, ◌≡◌, ◌⊎◌, ◌<◌, ◌≤◌, ◌+◌, if◌then◌else◌, Bool, List, [], length, slice_index_or, Result, IfErr, IsErrOf, is_err, All}
use Rattle.std.specs.List.{flat_map}
use Rattle.lfs_device.specs.declared.error.Error.{Error}
use Rattle.lfs_device.specs.declared.error.Error.TheVariants.{Io, NoMemory}
use Rattle.lfs_model.specs.layers.BlockSets.{AreUsed}
use Rattle.lfs_model.specs.format.Disk.{block_count}
use Rattle.lfs_model.specs.session.History.{fault_count}
use Rattle.lfs_model.specs.session.Operations as ops
use Rattle.lfs_model.specs.session.Recovery.{AllReached}
use Rattle.lfs_model.specs.session.Session.{Session}
use Rattle.lfs_model.specs.format.Slots.{Gstate, Slot, zero_gstate}
use Rattle.lfs_model.specs.format.Thread.{Pair, pairs_blocks, pairs_gstate}
use Rattle.lfs_model.specs.tree.View.{IsAccepted}
use Rattle.lfs_model.specs.tree.Shown.{all_unmoved_slots, disk_tree, used_blocks}
use Rattle.lfs_model.specs.tree.Profile.{IsWritable}
use Rattle.lfs_model.specs.layers.StepResults.{AreUnreachedNumbers}
use Rattle.lfs_model.specs.layers.Steps.{SameSlots, CompletesOperation, occurrence_count, SameFileBlocks, HasNoMove, file_blocks, IsWritableChange}
use Rattle.lfs_model.specs.session.InDirectory.{all_slots}
use Rattle.lfs_thread.specs.Kept.{KeptThread, ThreadView}
use Rattle.lfs_thread.specs.ThreadSteps.{empty_anchor}
use Rattle.lfs_operations.specs.Dropping.{HasSameBlocksInFlight}
use Rattle.lfs_operations.specs.Ready.{IsWritableBeforeMapUpdate, KeepsRootPairIndex}

-- The image is accepted and may be written, and no move is pending. The map's used blocks are the image's. The pair indices
-- `numbers` are those of all orphans. A block has at least 1,024 bytes, as in each geometry.
pub record CanDropPairs (t : KeptThread) (numbers : List ℕ) : Type 0 where
  pub accepted : IsAccepted t.disk t.pairs
  pub writable : IsWritable t.disk t.pairs
  pub used : AreUsed t.map (used_blocks t.disk t.pairs)
  pub size : length t.map ≡ block_count t.disk
  pub large : 1024 ≤ t.disk.block_size
  pub none : HasNoMove (pairs_gstate t.pairs)
  pub reported : AreUnreachedNumbers t.pairs numbers

-- no move is pending, and a path leads to each directory
pub record CanClearSync (t : KeptThread) : Type 0 where
  pub accepted : IsAccepted t.disk t.pairs
  pub writable : IsWritable t.disk t.pairs
  pub none : HasNoMove (pairs_gstate t.pairs)
  pub reached : AllReached t.pairs

-- The result is `Io` exactly if a device call failed. After an error the thread has failed.
pub record ReportsRecovery {X : Type 0} (old new : ThreadView) (result : Result X Error) : Type 0 where
  pub failed : new.failed ≡ is_err result
  pub errors : IfErr result (λ e. (e ≡ Io) ⊎ (e ≡ NoMemory))
  pub fault : IsErrOf result Io → fault_count old.kept.history < fault_count new.kept.history
  pub no_fault : (IsErrOf result Io → ⊥) → fault_count new.kept.history ≡ fault_count old.kept.history

-- the slots and the tree are as they were, and the global state is zero
pub record IsSyncCleared (old new : KeptThread) : Type 0 where
  pub taken : IsWritableChange old.disk old.pairs new.disk new.pairs (λ t. t) (λ d. d)
  pub alike : SameSlots old.pairs new.pairs
  pub settled : pairs_gstate new.pairs ≡ zero_gstate
  pub map : new.map ≡ old.map
  pub files : All (λ s. SameFileBlocks old.disk new.disk s.struct) (all_unmoved_slots old.pairs)

-- the slots of the pairs of these indices, in turn
abbrev pub slots_of_pairs_at : List Pair → List ℕ → List Slot
slots_of_pairs_at ps numbers = flat_map (λ n. (slice_index_or ps n empty_anchor).content.slots) numbers

-- the blocks of the lists that these slots name
abbrev pub list_blocks_of_pairs : KeptThread → List ℕ → List ℕ
list_blocks_of_pairs t numbers = file_blocks t.disk (slots_of_pairs_at t.pairs numbers)

-- Nothing is left to recover, the tree is as it was, and the slots are in the right pairs. So a recovery is complete. The root
-- directory begins with the same pair. The pairs of these indices are dropped, their blocks are free, and no pair is new. The
-- lists of their slots are unchanged, and share no block with other lists. Their blocks are still used in the map.
pub record HasCompletedRecovery (old : KeptThread) (numbers : List ℕ) (new : KeptThread) : Type 0 where
  pub ready : IsWritableBeforeMapUpdate new (list_blocks_of_pairs old numbers) []
  pub stand : All (λ s. SameFileBlocks old.disk new.disk s.struct) (slots_of_pairs_at old.pairs numbers)
  pub lost : (b : ℕ) → occurrence_count b (list_blocks_of_pairs old numbers) + occurrence_count b (file_blocks new.disk (all_slots new.pairs)) ≡ occurrence_count b (file_blocks old.disk (all_slots old.pairs))
  pub once : (b : ℕ) → occurrence_count b (used_blocks new.disk new.pairs) + occurrence_count b (list_blocks_of_pairs old numbers) ≤ 1
  pub fewer : (b : ℕ) → occurrence_count b (pairs_blocks new.pairs) ≤ occurrence_count b (pairs_blocks old.pairs)
  pub flying : HasSameBlocksInFlight old.map new.map
  pub root : KeepsRootPairIndex old new
  pub shows : disk_tree new.disk new.pairs ≡ disk_tree old.disk old.pairs
  pub completed : (s : Session) → s.tree ≡ disk_tree old.disk old.pairs → CompletesOperation old.disk old.pairs s ops.Recover new.disk new.pairs

-- the global state after an orphan is dropped: zero after the last one
abbrev pub gstate_while_dropping : KeptThread → Bool → Gstate
gstate_while_dropping t is_last = if is_last then zero_gstate else pairs_gstate t.pairs
