-- A slot that moves to another pair in two steps. First its copy is created there, and a move is set that names the old slot.
-- Then the old slot is deleted, and the move ends.
use Rattle.std.specs.Prelude.{Contains, ℕ, ◌≡◌, ◌≢◌, ◌⊎◌, Result, Err, IfErr, IsErrOf, ◌≤◌, ◌<◌, ◌-◌, ◌+◌, nat_lt, if◌then◌else◌, Bool, false, List, ◌∷◌, length}
use Rattle.std.specs.List.{AllByRecursion}
use Rattle.lfs_device.specs.declared.error.Error.{Error}
use Rattle.lfs_device.specs.declared.error.Error.TheVariants.{Io, NoMemory, NoSpace}
use Rattle.lfs_model.specs.layers.BlockSets.{IsFree}
use Rattle.lfs_model.specs.session.History.{CallEvent, fault_count}
use Rattle.lfs_model.specs.crash.PowerLoss.{SurvivesLossSince}
use Rattle.lfs_model.specs.tree.Tree.{Tree}
use Rattle.lfs_model.specs.layers.Changes.{ContentChange}
use Rattle.lfs_model.specs.format.Thread.{pairs_blocks}
use Rattle.lfs_model.specs.tree.Shown.{disk_tree}
use Rattle.lfs_thread.specs.Kept.{KeptThread, ThreadView}
use Rattle.lfs_thread.specs.ThreadDevice.{CleanLossLeaves}
use Rattle.lfs_thread.specs.ThreadSteps.{OnlyReadsThread, ChangesThreadBlocks, thread_pair}
use Rattle.lfs_operations.specs.Changing.{CanCommitOrSplit, HasTwoFreeBlocks, LeftByCommitOrSplit, AreCommittedOrSplit, OverfillsPair, AllocatesAtMostTwoBlocks, has_failed_after}
use Rattle.lfs_operations.specs.Removing.{drops_pair_after_removal}
use Rattle.lfs_operations.specs.MoveEnds.{CanEndMoveAt, move_ending_written_pair, HasEndedMoveAt}

-- the index of a pair after so many were inserted behind another one
abbrev pub pair_index_after_insertion : ℕ → ℕ → ℕ → ℕ
pair_index_after_insertion pair other fresh = if nat_lt pair other then pair else pair + fresh

-- after the first step the move can end at the old pair
pub record CanEndMoveAfterCopy (old : KeptThread) (old_pair old_id : ℕ) (goes : Bool) (new_pair : ℕ) (mid : KeptThread) : Type 0 where
  pub apart : old_pair ≢ new_pair
  pub grown : length old.pairs ≤ length mid.pairs
  pub can : CanEndMoveAt mid (pair_index_after_insertion old_pair new_pair (length mid.pairs - length old.pairs)) old_id goes
  pub at : (thread_pair mid (pair_index_after_insertion old_pair new_pair (length mid.pairs - length old.pairs))).at ≡ (thread_pair old old_pair).at

-- The changes can be committed to the new pair, and then the move can end at the old one.
pub record CanCopyAndEndMove (t : KeptThread) (old_pair old_id : ℕ) (goes : Bool) (new_pair : ℕ) (changes : List ContentChange) : Type 0 where
  pub turns : CanCommitOrSplit t new_pair changes
  pub ends : (mid : KeptThread) → AreCommittedOrSplit t new_pair changes mid → CanEndMoveAfterCopy t old_pair old_id goes new_pair mid

-- The changes were committed to the new pair, and then the move was ended. Pairs have at most two new blocks, which were free.
pub record IsMoveCopiedAndEnded (old : KeptThread) (old_pair old_id : ℕ) (goes : Bool) (new_pair : ℕ) (changes : List ContentChange) (new : KeptThread) : Type 0 where
  pub mid : KeptThread
  pub put : AreCommittedOrSplit old new_pair changes mid
  pub ended : HasEndedMoveAt mid (pair_index_after_insertion old_pair new_pair (length mid.pairs - length old.pairs)) old_id goes new
  pub blocks : AllocatesAtMostTwoBlocks old new

-- the pair that the second step writes: the old one, or the one before it if that is dropped with its slot
abbrev pub move_ending_pair : KeptThread → ℕ → ℕ → ℕ
move_ending_pair t pair first = move_ending_written_pair pair (drops_pair_after_removal t pair first)

-- If a power loss in the first step leaves a disk with one of two trees, and the first step leads to the second tree, then a
-- power loss in either step leaves one of them.
abbrev pub PowerLossKeepsEitherTree : KeptThread → ℕ → List ContentChange → KeptThread → Type 0
PowerLossKeepsEitherTree old new_pair changes new = (before after : Tree)
    → ((calls : List CallEvent) → CleanLossLeaves old.history calls (LeftByCommitOrSplit old new_pair changes) → SurvivesLossSince old.disk old.history calls before after)
    → ((mid : KeptThread) → AreCommittedOrSplit old new_pair changes mid → disk_tree mid.disk mid.pairs ≡ after) → SurvivesLossSince old.disk old.history new.history before after

-- The errors of an operation of several steps. The result is `Io` exactly if a device call failed. At `NoSpace` nothing was
-- changed, the result of the changes doesn't fit the pair, and fewer than two blocks are free. At any other error the thread
-- has failed, unless it was only read by then.
pub record ReportsAllocatingCommits {X : Type 0} (old new : ThreadView) (index : ℕ) (changes : List ContentChange) (result : Result X Error) : Type 0 where
  pub failed : (new.failed ≡ has_failed_after result) ⊎ ((new.failed ≡ false) × OnlyReadsThread old.kept new.kept)
  pub errors : IfErr result (λ e. (e ≡ Io) ⊎ ((e ≡ NoMemory) ⊎ (e ≡ NoSpace)))
  pub fault : IsErrOf result Io → fault_count old.kept.history < fault_count new.kept.history
  pub no_fault : ¬ IsErrOf result Io → fault_count new.kept.history ≡ fault_count old.kept.history
  pub unchanged : result ≡ Err NoSpace → OnlyReadsThread old.kept new.kept
  pub no_space : result ≡ Err NoSpace → HasTwoFreeBlocks old.kept.map → ⊥
  pub too_large : result ≡ Err NoSpace → OverfillsPair old.kept index changes

-- Only blocks of the two pairs, and at most two that were free, have changed.
pub record WritesPairsAndTwoFree (old : KeptThread) (one other : ℕ) (new : KeptThread) : Type 0 where
  pub fresh : List ℕ
  pub few : length fresh ≤ 2
  pub free : AllByRecursion (IsFree old.map) fresh
  pub writes : ChangesThreadBlocks ((thread_pair old other).at.0 ∷ (thread_pair old other).at.1 ∷ (thread_pair old one).at.0 ∷ (thread_pair old one).at.1 ∷ fresh) old new

-- Only blocks of pairs have changed, and blocks that were free.
pub record WritesThreadAndFree (old new : KeptThread) : Type 0 where
  pub blocks : List ℕ
  pub each : AllByRecursion (λ b. Contains (pairs_blocks old.pairs) b ⊎ IsFree old.map b) blocks
  pub writes : ChangesThreadBlocks blocks old new
