-- The effect of a step on a thread's parts, and its results.
use Rattle.std.specs.Prelude.{ℕ, ◌≡◌, List, Result, Ok, OnOk}
use Rattle.lfs_device.specs.declared.device.BlockDevice.{Ghosts}
use Rattle.lfs_device.specs.declared.error.Error.{Error}
use Rattle.lfs_pair.specs.declared.commits.Outcome.{Outcome}
use Rattle.lfs_pair.specs.declared.commits.Outcome.TheVariants.{Done, Full}
use Rattle.lfs_pair.specs.Writing.{ChangesReadingFew}
use Rattle.lfs_thread.specs.declared.parts.ThreadParts.{ThreadParts}
use Rattle.lfs_thread.specs.Kept.{IsCacheCurrent, IsKept}

-- Only these blocks change, and the device is read at most `most` times. The parts still agree with the device, except the
-- headers, the map and the cache after an error. The order of the names stays.
pub record ChangesKeptParts {D X : Type 0} (g : Ghosts D) (most : ℕ) (bs : List ℕ) (old new : ThreadParts D) (result : Result X Error) : Type 0 where
  pub device : ChangesReadingFew g most bs old.device new.device
  pub kept : OnOk result (IsKept g new.device new.pairs.items new.map)
  pub current : OnOk result (IsCacheCurrent (g.blocks new.device) new.cache)
  pub order : new.order ≡ old.order

-- The claims that hold after a step that is done, and after one whose changes don't fit.
pub record EndsByOutcome (result : Result Outcome Error) (HoldsIfDone HoldsIfFull : Type 0) : Type 0 where
  pub done : result ≡ Ok Done → HoldsIfDone
  pub full : result ≡ Ok Full → HoldsIfFull
