-- The effects of a call on the map and the device, and its errors. `sets` and `later` are the map before and after, `old` and
-- `new` the device.
use Rattle.std.specs.Prelude.{ℕ, ◌≤◌, ◌+◌, List, Result, OnOk}
use Rattle.lfs_device.specs.DeviceCalls.{ReadsOnly, ReportsIoOrNoMemory, ReportsOnlyIo}
use Rattle.lfs_device.specs.declared.device.BlockDevice.{Ghosts}
use Rattle.lfs_device.specs.declared.error.Error.{Error}
use Rattle.lfs_model.specs.layers.BlockSets.{BlockStates}
use Rattle.lfs_model.specs.session.History.{read_count}
use Rattle.lfs_file.specs.ContentsCalls.{KeepsTakenBlocks, CallKeepsUsed}
use Rattle.lfs_file.specs.Hand.{KeepsUsedBlocks}
use Rattle.lfs_file.specs.TakenBlocks.{ChangesOnlyFree}

-- The device was only read, the only error is `Io`, and a call that succeeds costs at most `most` reads.
pub record ReadsAtMost {D X : Type 0} (g : Ghosts D) (old new : D) (most : ℕ) (result : Result X Error) : Type 0 where
  pub device : ReadsOnly g old new
  pub reports : ReportsOnlyIo g old new result
  pub few : OnOk result (read_count (g.history new) ≤ read_count (g.history old) + most)

-- Used blocks stay used and keep their bytes, and no other block becomes used. The errors are `Io` and `NoMemory`.
pub record WritesUnusedBlocks {D X : Type 0} (g : Ghosts D) (sets later : BlockStates) (old new : D) (result : Result X Error) : Type 0 where
  pub map : KeepsUsedBlocks sets later
  pub device : CallKeepsUsed g sets old new
  pub reports : ReportsIoOrNoMemory g old new result

-- Used blocks and those in flight stay as they are, except the `pending` ones, which are written. The errors are the same.
pub record WritesFreeOrUnwritten {D X : Type 0} (g : Ghosts D) (sets later : BlockStates) (pending : List ℕ) (old new : D) (result : Result X Error) : Type 0 where
  pub map : ChangesOnlyFree sets later
  pub device : KeepsTakenBlocks g sets pending old new
  pub reports : ReportsIoOrNoMemory g old new result
