-- The effect of a recovery on a thread.
use Rattle.std.specs.Prelude.{ℕ, ◌≡◌, ◌≤◌, true, false, length}
use Rattle.lfs_model.specs.session.TreeEdits.{is_file}
use Rattle.lfs_model.specs.layers.BlockSets.{AreUsed}
use Rattle.lfs_model.specs.format.Disk.{block_count}
use Rattle.lfs_model.specs.session.Operations as ops
use Rattle.lfs_model.specs.session.Session.{Session}
use Rattle.lfs_model.specs.format.Slots.{zero_gstate}
use Rattle.lfs_model.specs.format.Thread.{pairs_gstate}
use Rattle.lfs_model.specs.tree.Tree.{Path}
use Rattle.lfs_model.specs.tree.View.{IsAccepted}
use Rattle.lfs_model.specs.tree.Profile.{IsWritable}
use Rattle.lfs_model.specs.tree.Shown.{disk_tree, used_blocks}
use Rattle.lfs_model.specs.layers.Steps.{CompletesOperation, occurrence_count, HasNoMove}
use Rattle.lfs_operations.specs.Ready.{IsRecoveredWritableImage, KeepsRootPairIndex}
use Rattle.lfs_operations.specs.EndingMove.{KeepsRecoveryLayouts}
use Rattle.lfs_thread.specs.Kept.{KeptThread}
use Rattle.lfs_tree.specs.TreeChanges.{AppliesOperation}
use Rattle.lfs_tree.specs.RootedThreads.{uncached_state}
use Rattle.lfs_tree.specs.KeptFiles.{KeepsFileAt}
use Rattle.lfs_tree.specs.TreeState.{KeepsInFlight}

-- The image is accepted and may be written, no move is pending, and the map's used blocks are the image's.
pub record CanDropUnreached (t : KeptThread) : Type 0 where
  pub accepted : IsAccepted t.disk t.pairs
  pub writable : IsWritable t.disk t.pairs
  pub used : AreUsed t.map (used_blocks t.disk t.pairs)
  pub size : length t.map ≡ block_count t.disk
  pub none : HasNoMove (pairs_gstate t.pairs)

-- Nothing is left to recover, the tree and the files' lists are as they were, the root directory begins with the same pair, and
-- no further block is used.
pub record HasDroppedUnreached (old new : KeptThread) : Type 0 where
  pub ready : IsRecoveredWritableImage new
  pub root : KeepsRootPairIndex old new
  pub shows : disk_tree new.disk new.pairs ≡ disk_tree old.disk old.pairs
  pub completed : (s : Session) → s.tree ≡ disk_tree old.disk old.pairs → CompletesOperation old.disk old.pairs s ops.Recover new.disk new.pairs
  pub fewer : (b : ℕ) → occurrence_count b (used_blocks new.disk new.pairs) ≤ occurrence_count b (used_blocks old.disk old.pairs)
  pub keeps : (path : Path) → is_file (disk_tree old.disk old.pairs path) ≡ true → KeepsFileAt old new path
  pub flight : KeepsInFlight (uncached_state old true false) (uncached_state new true false)

-- The recovery is complete, and no device call failed. Slots that are laid out as after a further recovery are so as after one
-- of the old image, and no more blocks are used. So an operation on the new image is one on the old. If nothing was to recover,
-- no device call was made.
pub record HasRecovered (old new : KeptThread) : Type 0 where
  pub carries : AppliesOperation old ops.Recover new
  pub leads_on : KeepsRecoveryLayouts old new
  pub room : length (used_blocks new.disk new.pairs) ≤ length (used_blocks old.disk old.pairs)
  pub same : pairs_gstate old.pairs ≡ zero_gstate → new ≡ old
