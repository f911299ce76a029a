-- The errors of a mkdir, from those of its steps.
use Rattle.lfs_operations.proofs.Common.{ℕ, ◌≡◌, ◌⊎◌, inl, inr, List, Result, Ok, Err, arith, refl, sym, ap, subst, ◌∙◌, BlockStates, fault_count, KeptThread, ThreadView, ThreadReportsKeepingOthers, IfErr, is_err, Error, Io, NoMemory, NoSpace, ReportsAllocatingCommit, has_failed_after, ReportsDirectoryCreation, err_from_is_err_and}
use Rattle.lfs_operations.proofs.Putting.{not_both, with_map, same_err}
use Rattle.std.proofs.Common.{IsErrAnd}

-- the answer is the error that was given
pub given_error : {Y : Type 0} {e : Error} (given : Result Y Error) → IsErrAnd given (λ x. x ≡ e) → given ≡ Err e
given_error given h = let p = err_from_is_err_and given h in p.1 ∙ ap Err p.2

-- the same answer, passed on
pub reported_again : {X Y : Type 0} {bs : List ℕ} {old new : KeptThread} {e : Error} {result : Result X Error} (given : Result Y Error) → result ≡ Err e → IsErrAnd given (λ x. x ≡ e) → ThreadReportsKeepingOthers bs old new result
    → ThreadReportsKeepingOthers bs old new given
reported_again {e = e} {result = result} given is passed reported = record {
  errors = subst (λ r. IfErr r (λ x. (x ≡ Io) ⊎ (x ≡ NoMemory))) (sym same) (subst (λ r. IfErr r (λ x. (x ≡ Io) ⊎ (x ≡ NoMemory))) is reported.errors);
  fault = λ io. reported.fault (is ∙ ap Err (same_err e Io given same io));
  no_fault = λ other. reported.no_fault (λ io. other (same ∙ ap Err (same_err e Io result is io)));
  beside = λ none. reported.beside (is ∙ ap Err (same_err e NoMemory given same none));
}
  where
    same : given ≡ Err e
    same = given_error given passed

-- the first step failed, for which blocks were taken
pub reports_first : {X Y : Type 0} {old new : ThreadView} {s : KeptThread} {sets : BlockStates} {bs : List ℕ} {e : Error} {result : Result X Error} (given : Result Y Error) → s ≡ with_map old.kept sets → result ≡ Err e → IsErrAnd given (λ x. x ≡ e)
    → new.failed ≡ is_err result → ThreadReportsKeepingOthers bs s new.kept result → ReportsDirectoryCreation old new given
reports_first {old = old} {new = new} {bs = bs} given taken is passed failed reported =
    let r = subst (λ (s : KeptThread). ThreadReportsKeepingOthers bs s new.kept given) taken (reported_again given is passed reported) in
    record { failed = failed ∙ ap is_err is ∙ sym (ap is_err (given_error given passed)); errors = r.errors; fault = r.fault; no_fault = r.no_fault }

-- a step's answer, passed on with another value
pub makes_again : {X Y : Type 0} {old new : ThreadView} {e : Error} {result : Result X Error} (given : Result Y Error) → result ≡ Err e → IsErrAnd given (λ x. x ≡ e) → ReportsDirectoryCreation old new result → ReportsDirectoryCreation old new given
makes_again {e = e} {result = result} given is passed reported = record {
  failed = reported.failed ∙ ap is_err is ∙ sym (ap is_err same);
  errors = subst (λ r. IfErr r (λ x. (x ≡ Io) ⊎ (x ≡ NoMemory))) (sym same) (subst (λ r. IfErr r (λ x. (x ≡ Io) ⊎ (x ≡ NoMemory))) is reported.errors);
  fault = λ io. reported.fault (is ∙ ap Err (same_err e Io given same io));
  no_fault = λ other. reported.no_fault (λ io. other (same ∙ ap Err (same_err e Io result is io)));
}
  where
    same : given ≡ Err e
    same = given_error given passed

pub makes_done : {X Y : Type 0} (old new : ThreadView) (x : X) (y : Y) (result : Result X Error) → result ≡ Ok x → ReportsDirectoryCreation old new result → ReportsDirectoryCreation old new (Ok y)
makes_done old new x y result is reported = record {
  failed = reported.failed ∙ ap is_err is;
  errors = tt;
  fault = λ io. absurd (cc);
  no_fault = λ other. reported.no_fault (not_both result x Io is);
}

-- the errors of the second step, never `NoSpace`
pub reports_second : {X : Type 0} (old mid new : ThreadView) (result : Result X Error) → fault_count mid.kept.history ≡ fault_count old.kept.history → (result ≡ Err NoSpace → ⊥) → ReportsAllocatingCommit mid new result → ReportsDirectoryCreation old new result
reports_second {X = X} old mid new result same room reported = record {
  failed = reported.failed ∙ failing result room reported.reports.errors;
  errors = narrow result room reported.reports.errors;
  fault = λ io. (let k = reported.reports.fault io in omega (arith, k, same));
  no_fault = λ other. reported.reports.no_fault other ∙ same;
}
  where
    narrow : (r : Result X Error) → (r ≡ Err NoSpace → ⊥) → IfErr r (λ e. (e ≡ Io) ⊎ ((e ≡ NoMemory) ⊎ (e ≡ NoSpace))) → IfErr r (λ e. (e ≡ Io) ⊎ (e ≡ NoMemory))
    narrow (Ok x) n h = h
    narrow (Err e) n (inl h) = inl h
    narrow (Err e) n (inr (inl h)) = inr h
    narrow (Err e) n (inr (inr h)) = absurd (n (ap Err h))

    failing : (r : Result X Error) → (r ≡ Err NoSpace → ⊥) → IfErr r (λ e. (e ≡ Io) ⊎ ((e ≡ NoMemory) ⊎ (e ≡ NoSpace))) → has_failed_after r ≡ is_err r
    failing (Ok x) n h = refl
    failing (Err e) n (inl h) = ap (λ (k : Error). has_failed_after {X = X} (Err k)) h
    failing (Err e) n (inr (inl h)) = ap (λ (k : Error). has_failed_after {X = X} (Err k)) h
    failing (Err e) n (inr (inr h)) = absurd (n (ap Err h))
