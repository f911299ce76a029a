-- Errors that a call passes on.
use Rattle.std.proofs.Common.{◌≡◌, Result, Ok, Err, ap, ◌∙◌, arith}
use Rattle.lfs_device.specs.declared.device.BlockDevice.{Ghosts}
use Rattle.lfs_device.specs.declared.error.Error.{Error}
use Rattle.lfs_device.specs.declared.error.Error.TheVariants.{Io}
use Rattle.lfs_pair.proofs.Common.{fault_count}
use Rattle.lfs_device.specs.DeviceCalls.{ReportsFaults}
use Rattle.lfs_pair.proofs.Following.{same_error}

err_same : {Y : Type 0} {e f : Error} → ◌≡◌ {A = Result Y Error} (Err e) (Err f) → e ≡ f
err_same same = cc

pub reports_ok : {D X : Type 0} {g : Ghosts D} {old new : D} {x : X} → fault_count (g.history new) ≡ fault_count (g.history old) → ReportsFaults {X = X} g old new (Ok x)
reports_ok same = record { fault = λ gives. absurd (cc); no_fault = λ other. same }

-- the same faults, behind calls without one
pub reports_on : {D X Y : Type 0} {g : Ghosts D} {old mid new : D} {r : Result X Error} {e f : Error} → r ≡ Err e → e ≡ f → fault_count (g.history mid) ≡ fault_count (g.history old) → ReportsFaults {X = Y} g mid new (Err f) → ReportsFaults g old new r
reports_on {Y = Y} {f = f} is from same reports = record {
  fault = λ gives. let io : f ≡ Io = same_error is from gives in let rose = reports.fault (ap Err io) in omega (arith, same, rose);
  no_fault = λ other. reports.no_fault (λ gives. other (is ∙ ap Err (from ∙ err_same {Y = Y} gives))) ∙ same;
}
