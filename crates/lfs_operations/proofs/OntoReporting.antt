-- The errors of the steps of a rename over a directory, the blocks that they write, and what a power loss in them leaves.
use Rattle.lfs_operations.proofs.Common.{ℕ, ◌≡◌, ◌<◌, inl, false, List, Result, Ok, sym, ap, subst, ◌∙◌, fault_count, ContentChange, ThreadView, Error, has_failed_after, ReportsAllocatingCommits, ReportsCommit, ReportsReadCommit, ReportsReadCommits, ⊎_elim}

pub over_from : {X : Type 0} (old new : ThreadView) (result : Result X Error) → ReportsReadCommit old new result → ReportsReadCommits old new result
over_from old new result h = record { failed = h.failed; errors = h.reported.errors; fault = h.reported.fault; no_fault = h.reported.no_fault }

pub over_then : {X Y : Type 0} (old mid new : ThreadView) (a : X) (first : Result X Error) (second : Result Y Error) → first ≡ Ok a → ReportsReadCommit old mid first → ReportsCommit mid new second → ReportsReadCommits old new second
over_then old mid new a first second ok one two =
    let same : fault_count mid.kept.history ≡ fault_count old.kept.history = one.reported.no_fault (λ io. absurd (let z = sym ok ∙ io in cc)) in
    record {
      failed = inl two.failed;
      errors = two.reported.errors;
      fault = λ io. subst (λ n. n < fault_count new.kept.history) same (two.reported.fault io);
      no_fault = λ other. two.reported.no_fault other ∙ same;
    }

-- ---- across pairs

pub works_after : {X : Type 0} {old new : ThreadView} {index : ℕ} {changes : List ContentChange} {r : Result X Error} {x : X} → ReportsAllocatingCommits old new index changes r → r ≡ Ok x → new.failed ≡ false
works_after h is = ⊎_elim (λ e. e ∙ ap has_failed_after is) (λ e. e.0) h.failed
