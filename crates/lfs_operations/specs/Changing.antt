-- A change of a pair, which is split if the result doesn't fit.
use Rattle.std.specs.Prelude.{Contains, ℕ, ◌≡◌, ◌≢◌, ◌⊎◌, ◌<◌, Bool, true, false, List, ◌∷◌, ◌++◌, Some, slice_set, Result, Ok, Err, IfErr, IsErrOf, ◌≤◌, length}
use Rattle.std.specs.List.{AllByRecursion}
use Rattle.lfs_device.specs.declared.error.Error.{Error}
use Rattle.lfs_device.specs.declared.error.Error.TheVariants.{Io, NoMemory, NoSpace}
use Rattle.lfs_model.specs.format.Blocks.{Blocks}
use Rattle.lfs_model.specs.layers.BlockSets.{BlockStates, IsFree}
use Rattle.lfs_model.specs.layers.BlockSets.BlockState.{InFlight}
use Rattle.lfs_model.specs.layers.Changes.{ContentChange}
use Rattle.lfs_model.specs.format.Content.{RawContent, content_at}
use Rattle.lfs_model.specs.format.Disk.{block_count}
use Rattle.lfs_model.specs.session.History.{fault_count}
use Rattle.lfs_model.specs.format.Slots.{PairContent, FitsInPair}
use Rattle.lfs_model.specs.format.Thread.{IsThread, pairs_blocks, addresses_blocks}
use Rattle.lfs_model.specs.layers.Cut.{AreSplittable}
use Rattle.lfs_pair.specs.Commits.{changed_pair_content}
use Rattle.lfs_pair.specs.Split.{KeepsOutsideBoth}
use Rattle.lfs_thread.specs.Kept.{KeptThread, ThreadView}
use Rattle.lfs_thread.specs.ThreadSteps.{thread_pair, complete_after, CanChangePair, RefusesChanges, SameGeometryAs, IsPairCommitted, LossLeavesPair, LossLeavesThreadSplit, OnlyReadsThread, OnlyReadsDevice, PartsFit, ChangesThreadBlocks, front_pair, back_pair, map_using, pairs_split}

-- ---- free blocks

pub record AreTwoFreeBlocks (sets : BlockStates) (fresh : ℕ × ℕ) : Type 0 where
  pub apart : fresh.0 ≢ fresh.1
  pub first : IsFree sets fresh.0
  pub second : IsFree sets fresh.1

abbrev pub HasTwoFreeBlocks : BlockStates → Type 0
HasTwoFreeBlocks sets = (fresh : ℕ × ℕ) × AreTwoFreeBlocks sets fresh

-- the map with these two blocks in flight
abbrev pub map_allocating_two : BlockStates → ℕ × ℕ → BlockStates
map_allocating_two sets fresh = slice_set (slice_set sets fresh.0 InFlight) fresh.1 InFlight

-- ---- the errors of an operation

-- whether the thread has failed after this result, and has to be mounted again
abbrev pub has_failed_after : {X : Type 0} → Result X Error → Bool
has_failed_after (Ok x) = false
has_failed_after (Err NoSpace) = false
has_failed_after (Err _) = true

-- The result is `Io` exactly if a device call failed. At `NoMemory` nothing was written. At `NoSpace` fewer than two blocks are
-- free, and nothing was changed.
pub record ReportsSpaceErrors {X : Type 0} (old new : KeptThread) (result : Result X Error) : Type 0 where
  pub errors : IfErr result (λ e. (e ≡ Io) ⊎ ((e ≡ NoMemory) ⊎ (e ≡ NoSpace)))
  pub fault : IsErrOf result Io → fault_count old.history < fault_count new.history
  pub no_fault : ¬ IsErrOf result Io → fault_count new.history ≡ fault_count old.history
  pub unwritten : result ≡ Err NoMemory → OnlyReadsDevice old new
  pub unchanged : result ≡ Err NoSpace → OnlyReadsThread old new
  pub no_space : result ≡ Err NoSpace → HasTwoFreeBlocks old.map → ⊥

-- Only the pair's blocks, and at most two that were free, have changed.
pub record WritesPairAndTwoFree (old : KeptThread) (index : ℕ) (new : KeptThread) : Type 0 where
  pub fresh : List ℕ
  pub few : length fresh ≤ 2
  pub free : AllByRecursion (IsFree old.map) fresh
  pub writes : ChangesThreadBlocks ((thread_pair old index).at.0 ∷ (thread_pair old index).at.1 ∷ fresh) old new

-- Only blocks of pairs have changed, and at most two that were free.
pub record WritesThreadAndTwoFree (old new : KeptThread) : Type 0 where
  pub fresh : List ℕ
  pub few : length fresh ≤ 2
  pub free : AllByRecursion (IsFree old.map) fresh
  pub writes : ChangesThreadBlocks (pairs_blocks old.pairs ++ fresh) old new

-- Only blocks of pairs have changed, and at most two that were free. Only those two may be new blocks of pairs.
pub record AllocatesAtMostTwoBlocks (old new : KeptThread) : Type 0 where
  pub written : WritesThreadAndTwoFree old new
  pub within : (b : ℕ) → Contains (pairs_blocks new.pairs) b → Contains (pairs_blocks old.pairs ++ written.fresh) b

-- ---- a pair is changed or split

-- There is a pair at the index. The result of the changes can be split in two, and has a tail that names the same pair as
-- before.
pub record CanCommitOrSplit (t : KeptThread) (index : ℕ) (changes : List ContentChange) : Type 0 where
  pub can : CanChangePair t index changes
  pub raw : RawContent
  pub made : changed_pair_content t.disk (thread_pair t index).at changes ≡ Some raw
  pub cut : AreSplittable t.disk.block_size t.disk.page raw.slots

-- There is a pair at the index. The result of the changes fits it, and has a tail that names the same pair as before.
pub record CanCommit (t : KeptThread) (index : ℕ) (changes : List ContentChange) : Type 0 where
  pub can : CanChangePair t index changes
  pub fits : (new : KeptThread) → RefusesChanges t index changes new → ⊥

-- The pair and a fresh one, in two blocks that were free, have the two parts of the result. Everything else is as it was.
pub record IsSplitInto (old : KeptThread) (index : ℕ) (fresh : ℕ × ℕ) (changes : List ContentChange) (new : KeptThread) : Type 0 where
  pub free : AreTwoFreeBlocks old.map fresh
  pub content : PairContent
  pub made : complete_after old index changes ≡ Some content
  pub cut : ℕ
  pub parts : PartsFit old index content cut fresh new.disk
  pub others : KeepsOutsideBoth (thread_pair old index).at fresh old.disk.blocks new.disk.blocks
  pub shape : SameGeometryAs old.disk new.disk
  pub pairs : new.pairs ≡ pairs_split old.pairs index (front_pair old index content cut fresh) (back_pair content cut fresh)
  pub thread : IsThread (content_at new.disk) (block_count new.disk) new.pairs
  pub map : new.map ≡ map_using (map_allocating_two old.map fresh) fresh
  pub writes : ChangesThreadBlocks (addresses_blocks (thread_pair old index).at fresh) old new

abbrev pub IsPairSplit : KeptThread → ℕ → List ContentChange → KeptThread → Type 0
IsPairSplit old index changes new = (fresh : ℕ × ℕ) × IsSplitInto old index fresh changes new

-- the result of the changes doesn't fit the pair
abbrev pub OverfillsPair : KeptThread → ℕ → List ContentChange → Type 0
OverfillsPair t index changes = (content : PairContent) × ((complete_after t index changes ≡ Some content) × (FitsInPair t.disk.block_size t.disk.page content → ⊥))

abbrev pub AreCommittedOrSplit : KeptThread → ℕ → List ContentChange → KeptThread → Type 0
AreCommittedOrSplit old index changes new = IsPairCommitted old index changes new ⊎ (OverfillsPair old index changes × IsPairSplit old index changes new)

-- what a power loss leaves of a split, and of either
abbrev pub LeftBySplit : KeptThread → ℕ → List ContentChange → Blocks → Type 0
LeftBySplit old index changes left = (fresh : ℕ × ℕ) × (AreTwoFreeBlocks old.map fresh × LossLeavesThreadSplit old index fresh changes left)

abbrev pub LeftByCommitOrSplit : KeptThread → ℕ → List ContentChange → Blocks → Type 0
LeftByCommitOrSplit old index changes left = LossLeavesPair old index changes left ⊎ (OverfillsPair old index changes × LeftBySplit old index changes left)

-- The errors of a step of an operation, and whether the thread has failed after it.
pub record ReportsAllocatingCommit {X : Type 0} (old new : ThreadView) (result : Result X Error) : Type 0 where
  pub failed : new.failed ≡ has_failed_after result
  pub reports : ReportsSpaceErrors old.kept new.kept result

-- The same of a step that splits the pair only if it has to: it returns `NoSpace` only if the result of the changes doesn't fit
-- the pair.
pub record ReportsCommitOrSplit {X : Type 0} (old new : ThreadView) (index : ℕ) (changes : List ContentChange) (result : Result X Error) : Type 0 where
  pub reports : ReportsAllocatingCommit old new result
  pub too_large : result ≡ Err NoSpace → OverfillsPair old.kept index changes

-- the pair was changed or dropped
abbrev pub IsPairChangedOrDropped : KeptThread → ℕ → KeptThread → Type 0
IsPairChangedOrDropped old index new = Contains new.pairs (thread_pair old index) → ⊥
