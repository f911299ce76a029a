-- The errors of a thread's steps, and what they say of the device.
use Rattle.std.specs.Prelude.{ℕ, ◌≡◌, ◌≢◌, ◌<◌, ◌⊎◌, List, Result, Err, IfErr}
use Rattle.lfs_device.specs.declared.device.BlockDevice.{Ghosts}
use Rattle.lfs_device.specs.declared.error.Error.{Error}
use Rattle.lfs_device.specs.declared.error.Error.TheVariants.{Io, NoMemory}
use Rattle.lfs_device.specs.DeviceCalls.{ReadsOnly, ReportsFaults}
use Rattle.lfs_device.specs.DeviceDisk.{disk_of_blocks}
use Rattle.lfs_model.specs.format.Blocks.{Blocks, SameExceptBlocks}
use Rattle.lfs_model.specs.session.History.{CallEvent, AllCallsSince, HoldsAtLosses, OnlyReadsSince, fault_count}
use Rattle.lfs_model.specs.crash.Stops.{ErasesCleanly, LeftByLoss}

-- `Io` comes with a fault of the device, and any other result without one. At `NoMemory` nothing was written.
pub record ReportsWritingNothing {D X : Type 0} (g : Ghosts D) (old new : D) (result : Result X Error) : Type 0 where
  pub errors : IfErr result (λ e. (e ≡ Io) ⊎ (e ≡ NoMemory))
  pub faults : ReportsFaults g old new result
  pub unwritten : result ≡ Err NoMemory → ReadsOnly g old new

-- `Io` comes with a fault of the device, and any other result without one. At `NoMemory` only these blocks were written.
pub record ReportsKeepingOthers {D X : Type 0} (g : Ghosts D) (bs : List ℕ) (old new : D) (result : Result X Error) : Type 0 where
  pub errors : IfErr result (λ e. (e ≡ Io) ⊎ (e ≡ NoMemory))
  pub faults : ReportsFaults g old new result
  pub beside : result ≡ Err NoMemory → SameExceptBlocks bs (g.blocks old) (g.blocks new)

-- The device is returned with an error, and was only read. `Io` comes with a fault of the device, and any other error without
-- one.
pub record GivesDeviceBack {D : Type 0} (g : Ghosts D) (old back : D) (error : Error) : Type 0 where
  pub disk : disk_of_blocks (g.geometry back) (g.blocks back) ≡ disk_of_blocks (g.geometry old) (g.blocks old)
  pub reads : OnlyReadsSince (g.blocks old) (g.history old) (g.history back)
  pub fault : error ≡ Io → fault_count (g.history old) < fault_count (g.history back)
  pub no_fault : error ≢ Io → fault_count (g.history back) ≡ fault_count (g.history old)

-- a stop in any of the calls since the old history leaves blocks that satisfy P, if each erase was clean
abbrev pub CleanLossLeaves : List CallEvent → List CallEvent → (Blocks → Type 0) → Type 0
CleanLossLeaves old new P = AllCallsSince ErasesCleanly old new → HoldsAtLosses LeftByLoss old new P
