use Rattle.lfs_model.proofs.LivedOn.{life_matches}
use Rattle.lfs_model.proofs.FreshLife.{agrees, lived}
use Rattle.std.proofs.Common.{◌≡◌, Option, Some, None, ap}
use Rattle.lfs_model.specs.session.Operations as ops
use Rattle.lfs_model.proofs.Common.{SessionHealth, fresh_state}
use Rattle.lfs_model.proofs.lives.fresh_session_agrees_with_its_disk.Goals as goal

pub returns-clause-matches : goal.returns-clause-matches
returns-clause-matches c = life_matches fresh_state _ fresh_state agrees lived

pub returns-clause-not_answered : goal.returns-clause-not_answered
returns-clause-not_answered c = λ h. absurd (let e : Some (ops.StatIs None) ≡ Some (ops.StatIs (Some 5)) = ap (λ (z : Option ops.Reply × SessionHealth). z.0) h.0.answers in cc)
