-- An image that breaks a rule isn't accepted.
use Rattle.std.proofs.Common.{◌≡◌, inl, true, List, Option, Some, None, is_some, refl}
use Rattle.lfs_device.specs.declared.error.Error.TheVariants as error
use Rattle.lfs_mount.proofs.Common.{Disk, disk_with_order, Pair, IsAccepted, Breaks, accepted_breaks_none, error_of_mount}
use Rattle.lfs_model.specs.declared.violations.Violation.{Violation}
use Rattle.lfs_model.specs.declared.order.NameOrder.{NameOrder}
use Rattle.lfs_model.proofs.BrokenRules.{thread_breaks_in_order}
use Rattle.lfs_thread.specs.MountErrors.{IsThreadViolation}
use Rattle.lfs_thread.specs.declared.mount_error.MountError.{MountError}
use Rattle.lfs_thread.specs.declared.mount_error.MountError.TheVariants as mount
use Rattle.lfs_mount.specs.TrueViolation.{ReportsActualViolation}

pub true_violation : (disk : Disk) (e : MountError) → ((violation : Violation) → e ≡ mount.Corrupt violation → Breaks disk violation) → ReportsActualViolation disk e
true_violation disk (mount.Corrupt violation) broken = broken violation refl
true_violation disk mount.Io broken = tt
true_violation disk mount.NoMemory broken = tt

pub none_accepted : (disk : Disk) (e : MountError) → ReportsActualViolation disk e → error_of_mount e ≡ error.Corrupt → (ps : List Pair) → IsAccepted disk ps → ⊥
none_accepted disk (mount.Corrupt violation) broken is ps a = accepted_breaks_none disk violation broken ps a
none_accepted disk mount.Io broken is ps a = absurd (cc)
none_accepted disk mount.NoMemory broken is ps a = absurd (cc)

-- a rule was found
pub found_broken : (disk : Disk) (o : Option Violation) → is_some o ≡ true → ((violation : Violation) → o ≡ Some violation → Breaks disk violation) → (ps : List Pair) → IsAccepted disk ps → ⊥
found_broken disk None some broken ps a = absurd (cc)
found_broken disk (Some violation) some broken ps a = accepted_breaks_none disk violation (broken violation refl) ps a

-- the thread is the same in each order of names
pub thread_violation : (order : NameOrder) (disk : Disk) (e : MountError) → IsThreadViolation disk e → ReportsActualViolation (disk_with_order order disk) e
thread_violation order disk (mount.Corrupt violation) broken = inl (thread_breaks_in_order order disk violation broken)
thread_violation order disk mount.Io broken = tt
thread_violation order disk mount.NoMemory broken = tt
