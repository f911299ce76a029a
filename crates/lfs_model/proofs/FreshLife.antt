-- A life of one turn on a fresh disk, for examples: a stat of the root.
use Rattle.std.proofs.Common.{[], ◌∷◌, None, refl, sym}
use Rattle.std.specs.Prelude.{codes}
use Rattle.lfs_model.specs.session.Operations as ops
use Rattle.lfs_model.specs.crash.RepeatedPowerLoss.{MeetsCrashSafetyPremises}
use Rattle.lfs_model.proofs.Common.{Healthy, HealthyHasDiskTree, empty_tree, mounted_session, small_image, fresh_state}
use Rattle.lfs_model.proofs.AskedStep.{turn}
use Rattle.lfs_model.proofs.Fresh.{shows}
use Rattle.lfs_model.proofs.SessionSteps.{tree_step}
use Rattle.lfs_model.proofs.FreshSession.{pairs, are_accepted, in_profile, surviving}
use Rattle.lfs_model.specs.crash.Lives.{IsLife, answered}

pub lived : IsLife fresh_state (answered (ops.Stat (codes "/")) (ops.StatIs None) fresh_state ∷ []) fresh_state
lived = (record { ends = tree_step fresh_state fresh_state _ _ turn; survives_loss = surviving (ops.Stat (codes "/")) (Healthy (mounted_session empty_tree)) }, refl)

pub agrees : HealthyHasDiskTree fresh_state.disk fresh_state.state
agrees = (pairs, (are_accepted, sym (shows small_image)))

pub premises : MeetsCrashSafetyPremises fresh_state fresh_state
premises = record { agrees = record { session = mounted_session empty_tree; healthy = refl; shows = agrees }; profile = in_profile; cleanly = record { events = []; extends = refl; each = tt } }
