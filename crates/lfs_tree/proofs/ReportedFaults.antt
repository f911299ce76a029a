-- The errors and the device calls of an operation, after calls that only read.
use Rattle.std.proofs.Common.{ℕ, ◌≡◌, ◌<◌, ◌⊎◌, inl, inr, ◌∙◌, List, ◌++◌, Result, Ok, Err, refl, sym, ap, subst, append_assoc, arith}
use Rattle.std.specs.Prelude.{IfErr, IsErrOf}
use Rattle.lfs_device.specs.declared.error.Error.{Error}
use Rattle.lfs_device.specs.declared.error.Error.TheVariants.{Io, NoMemory, NoSpace}
use Rattle.lfs_tree.proofs.Common.{Disk, block_count, CallEvent, OnlyReadsSince, fault_count, HasFreeBlocks, KeptThread, ThreadReportsErrors, OnlyReadsThread, ChangesThreadBlocks, IsLaterOnSameDevice, HasThreadCause}
use Rattle.lfs_operations.specs.Changing.{ReportsSpaceErrors}
use Rattle.lfs_tree.proofs.CarryRooms.{no_room}
use Rattle.lfs_tree.proofs.SameErrors.{same_error}
use Rattle.lfs_tree.proofs.Carried.{with_history}

pub called_by_reading : (a b : KeptThread) → OnlyReadsThread a b → IsLaterOnSameDevice a b
called_by_reading a b r = record {
  geometry = record { block_size = ap (λ (d : Disk). d.block_size) r.disk; page = ap (λ (d : Disk). d.page) r.disk; order = ap (λ (d : Disk). d.order) r.disk; profile = ap (λ (d : Disk). d.profile) r.disk; count = ap (λ (d : Disk). block_count d) r.disk };
  calls = r.reads.events;
  called = r.reads.extends;
}

pub called_by_writing : (a : KeptThread) (h : List CallEvent) (c : KeptThread) (bs : List ℕ) → OnlyReadsSince a.disk.blocks a.history h → ChangesThreadBlocks bs (with_history a h) c → IsLaterOnSameDevice a c
called_by_writing a h c bs reads w = record {
  geometry = record { block_size = w.shape.block_size; page = w.shape.page; order = w.shape.order; profile = w.shape.profile; count = w.shape.count };
  calls = w.at_worst.events ++ reads.events;
  called = w.at_worst.extends ∙ ap (λ z. w.at_worst.events ++ z) reads.extends ∙ sym (append_assoc w.at_worst.events reads.events a.history);
}

-- the errors of steps
pub record ReportsFaultsSince {X : Type 0} (old new : List CallEvent) (result : Result X Error) : Type 0 where
  pub errors : IfErr result (λ e. (e ≡ Io) ⊎ (e ≡ NoMemory))
  pub fault : IsErrOf result Io → fault_count old < fault_count new
  pub no_fault : ¬ IsErrOf result Io → fault_count new ≡ fault_count old

pub reported_by_reading : {X : Type 0} (a b : KeptThread) (result : Result X Error) → ThreadReportsErrors a b result → ReportsFaultsSince a.history b.history result
reported_by_reading a b result t = record { errors = t.errors; fault = t.fault; no_fault = t.no_fault }

-- there was room, so it never returns NoSpace
pub reported_with_room : {X : Type 0} (old new : KeptThread) (result : Result X Error) → HasFreeBlocks 2 old.map → ReportsSpaceErrors old new result → ReportsFaultsSince old.history new.history result
reported_with_room {X} old new result room t = record { errors = go result refl t.errors; fault = t.fault; no_fault = t.no_fault }
  where
    go : (r : Result X Error) → result ≡ r → IfErr r (λ e. (e ≡ Io) ⊎ ((e ≡ NoMemory) ⊎ (e ≡ NoSpace))) → IfErr r (λ e. (e ≡ Io) ⊎ (e ≡ NoMemory))
    go (Ok x) is k = tt
    go (Err e) is (inl io) = inl io
    go (Err e) is (inr (inl none)) = inr none
    go (Err e) is (inr (inr space)) = absurd (no_room old.map room (t.no_space (is ∙ ap Err space)))

pub reports_error : {X : Type 0} (a c : KeptThread) (h : List CallEvent) (result : Result X Error) (e : Error) → fault_count h ≡ fault_count a.history → ReportsFaultsSince h c.history result → result ≡ Err e → HasThreadCause a c e
reports_error {X} a c h result e same t is = record {
  errors = subst (λ (r : Result X Error). IfErr r (λ e. (e ≡ Io) ⊎ (e ≡ NoMemory))) is t.errors;
  fault = λ io. let k = t.fault (is ∙ ap Err io) in omega (arith, k, same);
  no_fault = λ other. t.no_fault (λ io. other (same_error e Io (sym is ∙ io))) ∙ same;
}
