-- The effect of calls of a device in a row.
use Rattle.std.proofs.Common.{◌≡◌, ◌⊎◌, ◌∙◌, inl, inr, refl, sym, ap, Result, Ok, Err, arith}
use Rattle.lfs_mount.proofs.Common.{ReadsOnly, fault_count, OnlyReadsSince-trans, ReadsReportingFaults}
use Rattle.lfs_device.specs.declared.device.BlockDevice.{Ghosts}
use Rattle.lfs_device.specs.declared.error.Error.{Error}
use Rattle.lfs_device.specs.declared.error.Error.TheVariants as error
use Rattle.lfs_model.specs.declared.violations.Violation.{Violation}
use Rattle.lfs_model.proofs.Histories.{began}
use Rattle.lfs_thread.specs.MountErrors.{mount_error_for}
use Rattle.lfs_thread.specs.declared.mount_error.MountError.{MountError}
use Rattle.lfs_thread.specs.declared.mount_error.MountError.TheVariants.{Corrupt, Io}

-- an error that is passed on
pub same_error : {T E : Type 0} {r : Result T E} {x y e : E} → r ≡ Err x → x ≡ y → r ≡ Err e → y ≡ e
same_error was is gives = cc

pub err_same : {Y : Type 0} {a b : MountError} → ◌≡◌ {A = Result Y MountError} (Err a) (Err b) → a ≡ b
err_same e = cc

-- a violation comes of an error below
pub violation_of : (e : Error) (x v : Violation) → (e ≡ error.Corrupt) ⊎ (e ≡ error.NoMemory) → mount_error_for e x ≡ Corrupt v → (e ≡ error.Corrupt) × (x ≡ v)
violation_of e x v (inl is) same = (is, (let h : Corrupt x ≡ Corrupt v = sym (ap (λ y. mount_error_for y x) is) ∙ same in cc))
violation_of e x v (inr is) same = absurd (let h : mount_error_for error.NoMemory x ≡ Corrupt v = sym (ap (λ y. mount_error_for y x) is) ∙ same in cc)

module _ {D : Type 0} (g : Ghosts D) where
  pub not_read : (d : D) → ReadsOnly g d d
  not_read d = record { same = refl; geometry = refl; reads = began }

  pub read_on : {old mid new : D} → ReadsOnly g old mid → ReadsOnly g mid new → ReadsOnly g old new
  read_on first second = record {
    same = second.same ∙ first.same;
    geometry = second.geometry ∙ first.geometry;
    reads = OnlyReadsSince-trans first.reads second.reads first.same;
  }

  -- a call that succeeds has no fault
  pub quiet : {X : Type 0} {old new : D} {x : X} → ReadsReportingFaults g old new (Ok x) → fault_count (g.history new) ≡ fault_count (g.history old)
  quiet reading = reading.no_fault (λ is. absurd (cc))

  -- reads without a fault, and a result that isn't `Io`
  pub only_read : {X : Type 0} {old new : D} {r : Result X MountError} → ReadsOnly g old new → fault_count (g.history new) ≡ fault_count (g.history old) → (r ≡ Err Io → ⊥) → ReadsReportingFaults g old new r
  only_read reads same other = record { device = reads; fault = λ is. absurd (other is); no_fault = λ none. same }

  -- an error passed on behind calls without a fault
  pub passed_on : {X Y : Type 0} {old mid new : D} {r : Result X MountError} {e f : MountError} → r ≡ Err e → e ≡ f → ReadsOnly g old mid → fault_count (g.history mid) ≡ fault_count (g.history old)
      → ReadsReportingFaults {X = Y} g mid new (Err f) → ReadsReportingFaults g old new r
  passed_on {Y = Y} {f = f} is from before same reading = record {
    device = read_on before reading.device;
    fault = λ gives. let io : f ≡ Io = same_error is from gives in let rose = reading.fault (ap Err io) in omega (arith, same, rose);
    no_fault = λ other. reading.no_fault (λ gives. other (is ∙ ap Err (from ∙ err_same {Y = Y} gives))) ∙ same;
  }

  -- and success
  pub gone_on : {X Y : Type 0} {old mid new : D} {x : X} {y : Y} → ReadsReportingFaults g old mid (Ok x) → ReadsReportingFaults g mid new (Ok y) → ReadsReportingFaults g old new (Ok y)
  gone_on first second = record { device = read_on first.device second.device; fault = λ is. absurd (cc); no_fault = λ other. quiet second ∙ quiet first }
