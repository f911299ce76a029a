-- What a function may guarantee about the device that it is given. `g` is the device as contracts
-- see it, and `old` and `new` are the device before and after the call. Each record joins facts
-- that always hold together.
use Rattle.std.specs.Prelude.{◌≡◌, ◌<◌, ◌⊎◌, ℕ, true, false, List, [], ◌∷◌, Result, IfErr, IsErrOf, OnOk}
use Rattle.lfs_device.specs.declared.device.BlockDevice.{Ghosts}
use Rattle.lfs_device.specs.declared.error.Error.{Error}
use Rattle.lfs_device.specs.declared.error.Error.TheVariants.{Io, NoMemory}
use Rattle.lfs_model.specs.format.Blocks.{SameExcept, SameExceptBlocks}
use Rattle.lfs_model.specs.session.History.{LossLeavesAtWorst, HoldsAtLosses, OnlyReadsSince, OthersStayUnprogrammed, call_event, fault_count}
use Rattle.lfs_model.specs.session.History.DeviceCall.{Read}

-- The device was only read. So its blocks are unchanged, also after a power loss during the call.
pub record ReadsOnly {D : Type 0} (g : Ghosts D) (old new : D) : Type 0 where
  pub same : g.blocks new ≡ g.blocks old
  pub geometry : g.geometry new ≡ g.geometry old
  pub reads : OnlyReadsSince (g.blocks old) (g.history old) (g.history new)

-- Only block `b` changes, and bytes of other blocks that were unprogrammed still are. A power loss
-- during the call leaves every other block unchanged.
pub record ChangesOneBlock {D : Type 0} (g : Ghosts D) (b : ℕ) (old new : D) : Type 0 where
  pub others : SameExcept b (g.blocks old) (g.blocks new)
  pub elsewhere : OthersStayUnprogrammed (b ∷ []) (g.history old) (g.history new)
  pub geometry : g.geometry new ≡ g.geometry old
  pub at_worst : HoldsAtLosses LossLeavesAtWorst (g.history old) (g.history new) (SameExcept b (g.blocks old))

-- Only the blocks `bs` change, and bytes of other blocks that were unprogrammed still are. A power
-- loss during the call leaves every other block unchanged.
pub record ChangesTheseBlocks {D : Type 0} (g : Ghosts D) (bs : List ℕ) (old new : D) : Type 0 where
  pub others : SameExceptBlocks bs (g.blocks old) (g.blocks new)
  pub elsewhere : OthersStayUnprogrammed bs (g.history old) (g.history new)
  pub geometry : g.geometry new ≡ g.geometry old
  pub at_worst : HoldsAtLosses LossLeavesAtWorst (g.history old) (g.history new) (SameExceptBlocks bs (g.blocks old))

-- The result is `Io` if and only if the device had a fault.
pub record ReportsFaults {D X : Type 0} (g : Ghosts D) (old new : D) (result : Result X Error) : Type 0 where
  pub fault : IsErrOf result Io → fault_count (g.history old) < fault_count (g.history new)
  pub no_fault : (IsErrOf result Io → ⊥) → fault_count (g.history new) ≡ fault_count (g.history old)

-- The result is `Io` if and only if the device had a fault, and there is no other error.
pub record ReportsOnlyIo {D X : Type 0} (g : Ghosts D) (old new : D) (result : Result X Error) : Type 0 where
  pub faults : ReportsFaults g old new result
  pub errors : IfErr result (λ e. e ≡ Io)

-- The result is `Io` if and only if the device had a fault, and the only other error is `NoMemory`.
pub record ReportsIoOrNoMemory {D X : Type 0} (g : Ghosts D) (old new : D) (result : Result X Error) : Type 0 where
  pub faults : ReportsFaults g old new result
  pub errors : IfErr result (λ e. (e ≡ Io) ⊎ (e ≡ NoMemory))

-- The device was only read, and the only error is `Io`.
pub record ReadsOnlyOrIo {D X : Type 0} (g : Ghosts D) (old new : D) (result : Result X Error) : Type 0 where
  pub device : ReadsOnly g old new
  pub reports : ReportsOnlyIo g old new result

-- The device was only read, and the only errors are `Io` and `NoMemory`.
pub record ReadsOnlyOrNoMemory {D X : Type 0} (g : Ghosts D) (old new : D) (result : Result X Error) : Type 0 where
  pub device : ReadsOnly g old new
  pub reports : ReportsIoOrNoMemory g old new result

-- The device is read once, and the read fails if the result is `Io`. It isn't read if the result is
-- `NoMemory`.
pub record ReadsOnce {D X : Type 0} (g : Ghosts D) (b off len : ℕ) (old new : D) (result : Result X Error) : Type 0 where
  pub ok : OnOk result (g.history new ≡ call_event (Read b off len) (g.blocks old) (g.blocks old) false ∷ g.history old)
  pub io : IsErrOf result Io → g.history new ≡ call_event (Read b off len) (g.blocks old) (g.blocks old) true ∷ g.history old
  pub no_memory : IsErrOf result NoMemory → g.history new ≡ g.history old
