-- The blocks that an operation of several steps changes.
use Rattle.std.specs.Prelude.{Contains, ℕ, ◌⊎◌, ◌<◌, List, length}
use Rattle.std.specs.List.{AllByRecursion}
use Rattle.lfs_model.specs.layers.BlockSets.{IsFree}
use Rattle.lfs_thread.specs.Kept.{KeptThread}
use Rattle.lfs_thread.specs.ThreadSteps.{ChangesThreadBlocks, thread_pair}
use Rattle.lfs_operations.specs.Changing.{IsPairChangedOrDropped}
use Rattle.lfs_model.specs.format.Thread.{address_blocks}

-- the block is one of a pair that was changed or dropped
pub record IsBlockOfChangedPair (old new : KeptThread) (b : ℕ) : Type 0 where
  pub index : ℕ
  pub below : index < length old.pairs
  pub own : Contains (address_blocks (thread_pair old index).at) b
  pub alters : IsPairChangedOrDropped old index new

-- Only the blocks `bs`, blocks of pairs that were changed or dropped, and blocks that were free have changed.
pub record WritesChangedPairsOrFree (old : KeptThread) (bs : List ℕ) (new : KeptThread) : Type 0 where
  pub blocks : List ℕ
  pub each : AllByRecursion (λ b. Contains bs b ⊎ (IsBlockOfChangedPair old new b ⊎ IsFree old.map b)) blocks
  pub writes : ChangesThreadBlocks blocks old new
