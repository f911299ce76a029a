use Rattle.std.proofs.Common.{refl, sym}
use Rattle.lfs_model.proofs.Common.{empty_tree, mounted_session, small_image, fresh_state}
use Rattle.lfs_model.proofs.Fresh.{shows}
use Rattle.lfs_model.proofs.Example.{fresh}
use Rattle.lfs_model.proofs.FreshSession.{pairs, are_accepted}
use Rattle.lfs_model.proofs.AskedStep.{turn}
use Rattle.lfs_model.proofs.Kept.{session_shows}
use Rattle.lfs_model.proofs.runs.applied_operations_determine_session.Goals as goal

pub returns-clause-fresh : goal.returns-clause-fresh
returns-clause-fresh c = record { from = fresh_state; fresh = fresh; mounts = refl; session_steps = (fresh_state, (turn, refl)) }

pub returns-clause-shown : goal.returns-clause-shown
returns-clause-shown c = record { session = mounted_session empty_tree; healthy = refl; shows = (pairs, (are_accepted, sym (shows small_image))) }

pub returns-clause-failed : goal.returns-clause-failed
returns-clause-failed c = λ h. absurd (let e = h.healthy in cc)

pub returns-clause-kept : goal.returns-clause-kept
returns-clause-kept c = session_shows fresh_state fresh_state _ _ (returns-clause-shown c) (fresh_state, (turn, refl))

pub returns-clause-lost : goal.returns-clause-lost
returns-clause-lost c = λ h. returns-clause-failed c h.shows
