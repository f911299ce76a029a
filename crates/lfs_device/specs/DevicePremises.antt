-- The premises on a device below, under which the device above it meets the premises about calls.
use Rattle.std.specs.Prelude.{◌≡◌}
use Rattle.lfs_device.specs.declared.device.BlockDevice.{Ghosts}
use Rattle.lfs_model.specs.session.History.{fault_count}
use Rattle.lfs_model.specs.crash.Premises.{MeetsPowerLossPremises}

-- No call of the device failed, and every call meets the premises.
pub record IsReliableDevice {D : Type 0} (g : Ghosts D) (device : D) : Type 0 where
  pub no_fault : fault_count (g.history device) ≡ 0
  pub premises : MeetsPowerLossPremises (g.history device)

-- Every device of the type has had no failed call, and all its calls meet the premises.
abbrev pub AreReliableDevices : {D : Type 0} → Ghosts D → Type 0
AreReliableDevices {D} g = (device : D) → IsReliableDevice g device
