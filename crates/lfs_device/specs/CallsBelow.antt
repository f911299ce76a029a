-- What a call of a device with a planned fault does to the device below it.
use Rattle.std.specs.Prelude.{◌≡◌, ℕ, Bool, true, false, Option, Some, None, ◌∷◌, List, [], take, Result, OnOk}
use Rattle.lfs_device.specs.declared.device.BlockDevice.{Ghosts}
use Rattle.lfs_device.specs.declared.error.Error.{Error}
use Rattle.lfs_device.specs.declared.fault.FaultExtent.{FaultExtent}
use Rattle.lfs_device.specs.declared.fault.FaultExtent.TheVariants.{Nothing, FirstBytes, AllButFirst, Whole}
use Rattle.lfs_model.specs.format.Blocks.{block_bytes}
use Rattle.lfs_model.specs.session.History.{DeviceCall, call_event, fault_count}
use Rattle.lfs_model.specs.session.History.DeviceCall.{Read, Program, Erase, Blank}

-- The device below has had this one call more, which failed if `failed` is true.
abbrev pub ForwardsCall : {D : Type 0} → Ghosts D → DeviceCall → Bool → D → D → Type 0
ForwardsCall g call failed old new = g.history new ≡ call_event call (g.blocks old) (g.blocks new) failed ∷ g.history old

-- The device below had no fault.
abbrev pub AddsNoFault : {D : Type 0} → Ghosts D → D → D → Type 0
AddsNoFault g old new = fault_count (g.history new) ≡ fault_count (g.history old)

-- The first bytes of a program are stored, as `bytes_stored_at_fault` says. Any other call leaves the
-- device below unchanged.
abbrev pub ForwardsPartialProgram : {D : Type 0} → Ghosts D → DeviceCall → D → D → Type 0
ForwardsPartialProgram g (Program b off bytes) old new = Unit {0}
ForwardsPartialProgram g (Read b off len) old new = new ≡ old
ForwardsPartialProgram g (Erase b) old new = new ≡ old
ForwardsPartialProgram g (Blank b off len) old new = new ≡ old

-- A part of an erase is done, as `EraseKeepsFirstBytes` says. Any other call leaves the device below
-- unchanged.
abbrev pub ForwardsPartialErase : {D : Type 0} → Ghosts D → DeviceCall → D → D → Type 0
ForwardsPartialErase g (Erase b) old new = Unit {0}
ForwardsPartialErase g (Read b off len) old new = new ≡ old
ForwardsPartialErase g (Program b off bytes) old new = new ≡ old
ForwardsPartialErase g (Blank b off len) old new = new ≡ old

-- A call that isn't due to fail is passed on, and fails only if the device below does. A call that
-- is due fails, after the planned part of it was done.
abbrev pub ForwardsUnlessFaulted : {D : Type 0} → Ghosts D → Option FaultExtent → DeviceCall → Bool → D → D → Type 0
ForwardsUnlessFaulted g None call failed old new = ForwardsCall g call failed old new
ForwardsUnlessFaulted g (Some Nothing) call failed old new = (failed ≡ true) × (new ≡ old)
ForwardsUnlessFaulted g (Some (FirstBytes k)) call failed old new = (failed ≡ true) × ForwardsPartialProgram g call old new
ForwardsUnlessFaulted g (Some (AllButFirst k)) call failed old new = (failed ≡ true) × ForwardsPartialErase g call old new
ForwardsUnlessFaulted g (Some Whole) call failed old new = (failed ≡ true) × (AddsNoFault g old new → ForwardsCall g call false old new)

-- `Fact` holds if the call is Ok, or if it failed after the device below completed it without a
-- fault.
pub record HoldsIfCallDone {D X : Type 0} (g : Ghosts D) (due : Option FaultExtent) (old new : D) (result : Result X Error) (Fact : Type 0) : Type 0 where
  pub ok : OnOk result Fact
  pub whole : due ≡ Some Whole → AddsNoFault g old new → Fact

-- The bytes of a program that are stored before it fails.
abbrev pub bytes_stored_at_fault : FaultExtent → List ℕ → List ℕ
bytes_stored_at_fault Nothing bytes = []
bytes_stored_at_fault (FirstBytes k) bytes = take k bytes
bytes_stored_at_fault (AllButFirst k) bytes = []
bytes_stored_at_fault Whole bytes = bytes

-- An erase that is due to be cut short leaves the first `k` bytes of the block unchanged, if the
-- device below had no fault.
abbrev pub EraseKeepsFirstBytes : {D : Type 0} → Ghosts D → Option FaultExtent → ℕ → D → D → Type 0
EraseKeepsFirstBytes g due b old new = (k : ℕ) → due ≡ Some (AllButFirst k) → AddsNoFault g old new → take k (block_bytes (g.blocks new) b) ≡ take k (block_bytes (g.blocks old) b)
