-- A session works after calls that were answered.
use Rattle.std.proofs.Common.{inl, inr, ◌≡◌, Bool, true, false, cond, List, [], ◌∷◌, Option, Some, None, Ok, refl, sym, ap, subst, ◌∙◌}
use Rattle.lfs_lookup.specs.RefusalErrors as refusals
use Rattle.lfs_model.specs.tree.Tree.{Tree}
use Rattle.lfs_model.specs.session.Operations as ops
use Rattle.lfs_model.specs.session.Operations.{Operation, Refusal, Reply}
use Rattle.lfs_model.specs.session.State.{SessionHealth, is_remount, nonremount_result, remount_result}
use Rattle.lfs_model.specs.session.Run.{IsStep}
use Rattle.lfs_fs.specs.SessionView.{SessionView, system_state}
use Rattle.lfs_volume.specs.Calls.{Call}
use Rattle.lfs_volume.specs.SessionCalls.{AreTreePreservingCalls, MayChangeTreeOnce, IsAcceptedCall}
use Rattle.lfs_volume.specs.Volume.{VolumeView}
use Rattle.lfs_volume.specs.VolumeCalls.{IsVolumeReply, IsSessionCallSequence, IsVolumeCall}
use Rattle.lfs_volume.proofs.Steps.{answered, refusal_step}

accepted_works : (a b : SessionView) (op : Operation) → IsAcceptedCall a op b → a.tree.failed ≡ false → b.tree.failed ≡ false
accepted_works a b op one works = (answered a op one.reply b one.other works one.call.answers).works

quiet_works : (a b : SessionView) (xs : List Operation) → AreTreePreservingCalls a xs b → a.tree.failed ≡ false → b.tree.failed ≡ false
quiet_works a b [] same works = subst (λ (h : SessionView). h.tree.failed ≡ false) same works
quiet_works a b (x ∷ xs) (next, (one, same, rest)) works = quiet_works next b xs rest (accepted_works a next x one works)

steps_work : (a b : SessionView) (xs : List Operation) → MayChangeTreeOnce a xs b → a.tree.failed ≡ false → b.tree.failed ≡ false
steps_work a b xs (inl quiet) works = quiet_works a b xs quiet works
steps_work a b xs (inr c) works = quiet_works c.second b c.after c.rest (accepted_works c.first c.second c.change c.changed (quiet_works a c.first c.before c.quiet works))

-- no remount is refused
pub no_remount : (a b : SessionView) (op : Operation) (error : Refusal) → IsStep (system_state a) op (ops.Refused error) (system_state b) → is_remount op ≡ false
no_remount a b op error step = go (is_remount op) refl
  where
    done_or_none : (shown : Option Tree) → remount_result shown ≡ (Some (ops.Refused error), (system_state b).state) → false ≡ true
    done_or_none None e = (let k = ap (λ (z : Option Reply × SessionHealth). z.0) e in cc)
    done_or_none (Some tree) e = (let k = ap (λ (z : Option Reply × SessionHealth). z.0) e in cc)

    go : (r : Bool) → is_remount op ≡ r → is_remount op ≡ false
    go false e = e
    go true e =
        let h : remount_result step.answered.shown ≡ (Some (ops.Refused error), (system_state b).state) = sym (ap (λ r. cond r (remount_result step.answered.shown) (nonremount_result step.answered.around (system_state a).state op)) e) ∙ step.answered.answers in
        absurd (let z = done_or_none step.answered.shown h in cc)

part_works : (a b : SessionView) (xs : List Operation) → IsSessionCallSequence a xs b → a.tree.failed ≡ false → b.tree.failed ≡ false
part_works a b xs (inl steps) works = steps_work a b xs steps works
part_works a b xs (inr (e, (is, k))) works =
    let step = refusal_step k.at k.next e b is k.ends.answers in
    (answered k.at k.next (ops.Refused (refusals.error_refusal e)) b (no_remount k.at b k.next (refusals.error_refusal e) step) (quiet_works a k.at k.before k.quiet works) step).works

pub replied_works : (old new : VolumeView) (call : Call) (reply : Reply) → old.session.tree.failed ≡ false → IsVolumeCall old call (Ok reply) new → new.session.tree.failed ≡ false
replied_works old new call reply works is = go (is.works works)
  where
    go : IsVolumeReply old call reply new → new.session.tree.failed ≡ false
    go r = part_works old.session new.session r.operations r.session_part works
