-- An operation that wasn't refused passed its checks.
use Rattle.std.proofs.Common.{not, ◌≡◌, Bool, true, false, cond, Option, Some, None, refl, sym, ap, subst, ◌∙◌}
use Rattle.lfs_model.proofs.Common.{same_Some, Operation, Reply, Refusal, Session, DiskSummary, operation_effect, operation_refusal, unless_refused, SessionHealth, Healthy, is_remount, nonremount_result, remount_result, SystemState, EffectRelation, IsStepWith, IsTreeStep, is_refusal, refuse_if, IsWritable, IsFreshDisk, empty_tree, mounted_session}
use Rattle.lfs_model.specs.session.Operations as ops
use Rattle.lfs_model.specs.session.Operations.{ReadOnly}
use Rattle.lfs_model.proofs.SessionSteps.{IsHealthy, true_from, session_step_is_healthy}
use Rattle.lfs_model.proofs.Kept.{fresh_begins, turn_keeps, profile_stays}
use Rattle.lfs_model.specs.crash.Lives.{Turn, IsLife, all_answered}
use Rattle.lfs_model.specs.crash.LifeHeadline.{WorksAllAlong}
use Rattle.lfs_model.specs.crash.LifeTrees.{HasWritableDiskTree}
use Rattle.lfs_model.proofs.LivedOn.{life_matches}
use Rattle.lfs_model.proofs.TreesLeft.{any_summary}
use Rattle.lfs_model.proofs.Common.{HealthyHasDiskTree}
use Rattle.std.proofs.Common.{List}
use Rattle.lfs_model.specs.session.Accepted.{IsAcceptedStep}

pub accepted_step : {E : EffectRelation} (from to : SystemState) (op : Operation) (reply : Reply) (s : Session) → from.state ≡ Healthy s → is_remount op ≡ false → is_refusal reply ≡ false → IsStepWith E from op reply to → IsAcceptedStep from s op reply to
accepted_step from to op reply s healthy other accepted step =
    go (operation_refusal step.answered.around s op) refl
    (sym (ap (λ state. nonremount_result step.answered.around state op) healthy) ∙ sym (ap (λ b. cond b (remount_result step.answered.shown) (nonremount_result step.answered.around from.state op)) other) ∙ step.answered.answers)
  where
    go : (r : Option Refusal) → operation_refusal step.answered.around s op ≡ r → ◌≡◌ {A = Option Reply × SessionHealth} (Some (unless_refused r s (operation_effect step.answered.around s op)).0, Healthy (unless_refused r s (operation_effect step.answered.around s op)).1) (Some reply, to.state) → IsAcceptedStep from s op reply to
    go (Some error) is e =
        let k = same_Some _ reply (ap (λ (z : Option Reply × SessionHealth). z.0) e) in
        absurd (let l : true ≡ false = ap is_refusal k ∙ accepted in cc)
    go None is e = record {
      around = step.answered.around;
      surrounds = step.answered.surrounds s healthy;
      passed = is;
      replied = sym (same_Some (operation_effect step.answered.around s op).0 reply (ap (λ (z : Option Reply × SessionHealth). z.0) e));
      after = sym (ap (λ (z : Option Reply × SessionHealth). z.1) e);
    }

-- ---- where the premises about the session hold

pub fresh_may : (at : SystemState) → IsFreshDisk at.disk → at.state ≡ Healthy (mounted_session empty_tree) → HasWritableDiskTree at
fresh_may at fresh mounts =
    let both = fresh_begins at fresh mounts in
    record { agrees = both.0; profile = (both.1.pairs, (both.1.accepted, both.1.writable)) }

writes : (around : DiskSummary) → refuse_if (not around.writable) ReadOnly ≡ None → around.writable ≡ true
writes around = go around.writable
  where
    go : (b : Bool) → refuse_if (not b) ReadOnly ≡ None → b ≡ true
    go true e = refl
    go false e = absurd (cc)

-- a recovery that isn't refused shows that the image may be written
pub recovered_may : (from to : SystemState) (s : Session) → from.state ≡ Healthy s → IsTreeStep from ops.Recover ops.Done to → HasWritableDiskTree to
recovered_may from to s works step =
    let healthy = subst IsHealthy (sym works) tt in
    let a = accepted_step from to ops.Recover ops.Done s works refl refl step in
    record {
      agrees = true_from to (session_step_is_healthy from to ops.Recover ops.Done step healthy) step.agrees;
      profile = turn_keeps IsWritable profile_stays from to ops.Recover ops.Done step healthy (a.surrounds.0, (a.surrounds.1.0, a.surrounds.1.1.writable.0 (writes a.around a.passed)));
    }

-- they stay
pub life_may : (from : SystemState) (turns : List Turn) (to : SystemState) → HasWritableDiskTree from → IsLife from turns to → all_answered turns ≡ true → HasWritableDiskTree to
life_may from turns to may lived all =
    let m = life_matches from turns to (subst (HealthyHasDiskTree from.disk) (sym may.agrees.healthy) may.agrees.shows) lived in
    let w : WorksAllAlong from turns may.agrees.session = record { begins = may.agrees.healthy; answered = all } in
    record { agrees = (m.works _ (m.defined may.agrees.session w any_summary)).shows; profile = m.profile may.agrees.session w may.profile }
