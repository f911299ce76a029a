-- The end of a pending move by a recovery.
use Rattle.std.specs.Prelude.{ℕ, ◌≡◌, ◌<◌, ◌≤◌, ◌-◌, ◌&&◌, ◌==◌, ◌++◌, nat_lt, Bool, true, false, List, ◌∷◌, length}
use Rattle.lfs_model.specs.layers.BlockSets.{AreUsed}
use Rattle.lfs_model.specs.format.Disk.{Disk, block_count}
use Rattle.lfs_model.specs.session.Layout.{IsLayoutAfterOperation}
use Rattle.lfs_model.specs.session.Operations as ops
use Rattle.lfs_model.specs.session.Session.{Session}
use Rattle.lfs_model.specs.format.Slots.{Slot, is_superblock, same_pair}
use Rattle.lfs_model.specs.format.Thread.{Pair, pairs_gstate}
use Rattle.lfs_model.specs.tree.View.{IsAccepted}
use Rattle.lfs_model.specs.tree.Shown.{used_blocks}
use Rattle.lfs_model.specs.tree.Profile.{IsWritable}
use Rattle.lfs_model.specs.format.Slots.{set_move_kind}
use Rattle.lfs_model.specs.layers.Steps.{occurrence_count, HasNoMove, IsWritableChange}
use Rattle.lfs_thread.specs.Kept.{KeptThread}
use Rattle.lfs_thread.specs.ThreadSteps.{thread_pair}
use Rattle.lfs_operations.specs.Dropping.{HasSameBlocksInFlight}
use Rattle.lfs_operations.specs.Ready.{KeepsRootPairIndex}
use Rattle.lfs_operations.specs.Deltas.{tail_is_hard}

-- a move is pending, and names a slot of the pair at the index
pub record HasMovedSlot (t : KeptThread) (index : ℕ) : Type 0 where
  pub below : index < length t.pairs
  pub kind : (pairs_gstate t.pairs).kind ≡ set_move_kind
  pub same : same_pair (thread_pair t index).at (pairs_gstate t.pairs).pair ≡ true
  pub left : List Slot
  pub slot : Slot
  pub right : List Slot
  pub held : (thread_pair t index).content.slots ≡ left ++ slot ∷ right
  pub number : length left ≡ (pairs_gstate t.pairs).id
  pub other : is_superblock slot ≡ false

-- the pair has no other slot, and isn't the first of its directory
abbrev pub drops_pair_after_move : KeptThread → ℕ → Bool
drops_pair_after_move t index = nat_lt 0 index && (length (thread_pair t index).content.slots == 1 && tail_is_hard t (index - 1))

-- The image is accepted and may be written, and the map's used blocks are the image's.
pub record CanEndMove (t : KeptThread) : Type 0 where
  pub accepted : IsAccepted t.disk t.pairs
  pub writable : IsWritable t.disk t.pairs
  pub used : AreUsed t.map (used_blocks t.disk t.pairs)
  pub size : length t.map ≡ block_count t.disk

-- Any layout of the slots that a recovery of the new image may leave, a recovery of the old image may leave, too.
abbrev pub KeepsRecoveryLayouts : KeptThread → KeptThread → Type 0
KeepsRecoveryLayouts old new = (s : Session) (disk : Disk) (qs : List Pair) → IsLayoutAfterOperation new.disk new.pairs s ops.Recover disk qs → IsLayoutAfterOperation old.disk old.pairs s ops.Recover disk qs

-- No move is pending, and the image has the same tree, so pairs may be dropped now. The root directory begins with the same
-- pair. The map's used blocks are the image's, and it has no new ones.
pub record HasEndedMove (old new : KeptThread) : Type 0 where
  pub taken : IsWritableChange old.disk old.pairs new.disk new.pairs (λ t. t) (λ d. d)
  pub none : HasNoMove (pairs_gstate new.pairs)
  pub used : AreUsed new.map (used_blocks new.disk new.pairs)
  pub size : length new.map ≡ block_count new.disk
  pub fewer : (b : ℕ) → occurrence_count b (used_blocks new.disk new.pairs) ≤ occurrence_count b (used_blocks old.disk old.pairs)
  pub flying : HasSameBlocksInFlight old.map new.map
  pub root : KeepsRootPairIndex old new
  pub leads_on : KeepsRecoveryLayouts old new
