use Rattle.std.proofs.Common.{[], None, refl, subst}
use Rattle.std.specs.Prelude.{codes}
use Rattle.lfs_model.specs.declared.order.NameOrder.TheVariants.{LongerFirst}
use Rattle.lfs_model.specs.session.Operations as ops
use Rattle.lfs_model.specs.session.Operations.{Failed}
use Rattle.lfs_model.proofs.Common.{disk_with_order, IsAccepted, HasFailed, Healthy, mounted_session, SystemState, Tree, IsStep, SurvivesPowerLoss, small_image, fresh_state}
use Rattle.lfs_model.specs.examples.Runs.{failed_state}
use Rattle.lfs_model.proofs.AskedStep.{turn}
use Rattle.lfs_model.proofs.Example.{fresh}
use Rattle.lfs_model.proofs.Fresh.{accepted, shows}
use Rattle.lfs_model.proofs.FreshSession.{around, pairs, surviving}
use Rattle.lfs_model.proofs.SessionSteps.{tree_step}
use Rattle.lfs_model.proofs.StepsMade.{remounted_step}
use Rattle.lfs_model.specs.crash.Lives.{IsTurn, answered, failed}
use Rattle.lfs_model.proofs.lives.session_lives_on_after_error.Goals as goal

asked : IsTurn fresh_state (answered (ops.Stat (codes "/")) (ops.StatIs None) fresh_state)
asked = record { ends = tree_step fresh_state fresh_state _ _ turn; survives_loss = surviving (ops.Stat (codes "/")) (Healthy (mounted_session _)) }

fails : IsTurn fresh_state (failed (ops.Mkdir (codes "/d")) failed_state)
fails = record {
  ends = record {
    failed = refl;
    geometry = record { block_size = refl; page = refl; order = refl; profile = refl; count = refl };
    calls = [];
    called = refl;
    asks = λ s e f. absurd (cc);
    itself = λ e. absurd (cc);
    unwritten = λ none. (refl, (refl, refl));
    remounted = λ e. absurd (cc);
    reads = λ e. absurd (cc);
    silent = λ e. absurd (cc);
  };
  survives_loss = surviving (ops.Mkdir (codes "/d")) HasFailed;
}

pub returns-clause-asked : goal.returns-clause-asked
returns-clause-asked c = (asked, refl)

pub returns-clause-ended : goal.returns-clause-ended
returns-clause-ended c = (asked, (fails, refl))

-- a session that has failed isn't healthy, so nothing is said of a stop
none_stopped : (op : ops.Operation) (to : SystemState) → SurvivesPowerLoss failed_state op to
none_stopped op to = record { stops = λ s ps a work. absurd (let k = work.healthy in cc); stands = λ s ps a work clean. absurd (let k = work.healthy in cc) }

refused : IsTurn failed_state (answered (ops.Stat (codes "/")) (ops.Refused Failed) failed_state)
refused = record {
  ends = record {
    answered = record { around = around; shown = None; surrounds = λ s e. absurd (cc); shows = λ e. absurd (cc); answers = refl };
    agrees = tt;
    geometry = record { block_size = refl; page = refl; order = refl; profile = refl; count = refl };
    calls = [];
    called = refl;
    refused = λ e. (refl, (refl, refl));
    remounted = λ e. absurd (cc);
    failed = λ e f. refl;
    effect_on_disk = λ e. absurd (cc);
  };
  survives_loss = none_stopped (ops.Stat (codes "/")) failed_state;
}

fits_longer : IsAccepted (disk_with_order LongerFirst small_image) pairs
fits_longer = accepted (disk_with_order LongerFirst small_image) (record { geometry = fresh.geometry; content = fresh.content; first = fresh.first })

works_again : IsStep failed_state ops.Remount ops.Done (record fresh_state { disk = disk_with_order LongerFirst small_image })
works_again =
    subst (λ (tree : Tree). IsStep failed_state ops.Remount ops.Done (record { disk = disk_with_order LongerFirst small_image; calls = []; state = Healthy (mounted_session tree) })) (shows small_image)
    (remounted_step small_image LongerFirst pairs around HasFailed [] [] (λ s e. absurd (cc)) fits_longer (λ e. absurd (cc)) (refl, refl) tt)

pub returns-clause-again : goal.returns-clause-again
returns-clause-again c = (refused, (record { ends = tree_step failed_state _ ops.Remount ops.Done works_again; survives_loss = none_stopped ops.Remount _ }, refl))
