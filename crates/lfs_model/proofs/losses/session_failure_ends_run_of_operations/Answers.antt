use Rattle.std.proofs.Common.{[], ◌∷◌, None, refl}
use Rattle.std.specs.Prelude.{codes}
use Rattle.lfs_model.specs.session.Operations as ops
use Rattle.lfs_model.proofs.Common.{fresh_state, HasFailed}
use Rattle.lfs_model.specs.examples.Runs.{failed_state}
use Rattle.lfs_model.specs.crash.Performed.{FailsDuringRun}
use Rattle.lfs_model.proofs.FreshSession.{surviving}
use Rattle.lfs_model.proofs.AskedStep.{asked}
use Rattle.lfs_model.proofs.losses.session_failure_ends_run_of_operations.Goals as goal

cut : FailsDuringRun fresh_state (ops.Stat (codes "/") ∷ ops.Mkdir (codes "/d") ∷ ops.UsedCount ∷ []) failed_state
cut = record {
  done = ops.Stat (codes "/") ∷ [];
  next = ops.Mkdir (codes "/d");
  others = ops.UsedCount ∷ [];
  are = refl;
  replies = ops.StatIs None ∷ [];
  at = fresh_state;
  performed = (fresh_state, (asked, refl));
  fails = record {
    failed = refl;
    geometry = record { block_size = refl; page = refl; order = refl; profile = refl; count = refl };
    calls = [];
    called = refl;
    asks = λ s e f. absurd (cc);
    itself = λ e. absurd (cc);
    unwritten = λ none. (refl, (refl, refl));
    remounted = λ e. absurd (cc);
    reads = λ e. absurd (cc);
    silent = λ e. absurd (cc);
  };
  survives_loss = surviving (ops.Mkdir (codes "/d")) HasFailed;
  few = λ s e ps a calls is looks. absurd (cc);
}

pub returns-clause-second : goal.returns-clause-second
returns-clause-second c = cut

pub returns-clause-goes_on : goal.returns-clause-goes_on
returns-clause-goes_on c = λ h. absurd (let e = h.fails.failed in cc)
