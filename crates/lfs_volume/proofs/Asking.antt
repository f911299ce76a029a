-- Calls of a volume that ask the session for no more than whether it works.
use Rattle.std.proofs.Common.{inl, ℕ, ◌≡◌, Bool, true, false, cond, [], ◌∷◌, Option, Some, Result, Ok, Err, refl, sym, ap, subst, ◌∙◌}
use Rattle.std.specs.Prelude.{is_err, is_none, unwrap_or}
use Rattle.std.specs.Option.{option_map}
use Rattle.lfs_device.specs.declared.error.Error.{Error}
use Rattle.lfs_device.specs.declared.error.Error.TheVariants.{Failed}
use Rattle.lfs_lookup.specs.RefusalErrors as refusals
use Rattle.lfs_model.specs.session.Operations as ops
use Rattle.lfs_model.specs.session.Operations.{BadFile, Reply}
use Rattle.lfs_model.specs.session.Session.{DiskSummary, refuse_if}
use Rattle.lfs_fs.specs.CallEffects.{IsCall}
use Rattle.lfs_fs.specs.SessionView.{SessionView, viewed_session}
use Rattle.lfs_volume.specs.declared.handles.Handle.{Handle}
use Rattle.lfs_volume.specs.Calls.{Call, Tell, call_result, unless_refused}
use Rattle.lfs_volume.specs.SessionCalls.{AreTreePreservingCalls, error_result}
use Rattle.lfs_volume.specs.Volume.{Volume, VolumeView, entry_at, volume_of}
use Rattle.lfs_volume.specs.VolumeCalls.{IsVolumeReply, DiffersOnlyByLoads, IsWorkingSession}
use Rattle.lfs_volume.proofs.Steps.{done, healthy_view}
use Rattle.lfs_volume.proofs.Saving.{count_not_refused, one_quiet}

-- ---- whether the session works

-- it does where it answers
pub works_if_answered : (h : SessionView) (n : ℕ) → IsCall h ops.UsedCount (Ok (ops.Count n)) h → IsWorkingSession h
works_if_answered h n call = (go h.tree.failed refl, (n, call))
  where
    go : (b : Bool) → h.tree.failed ≡ b → h.tree.failed ≡ false
    go false e = e
    go true e = absurd (let k = call.ends.failed e refl in cc)

-- and has failed where it doesn't
pub failed_if_not : (h : SessionView) (e : Error) → IsCall h ops.UsedCount (error_result e) h → (e ≡ Failed) × (h.tree.failed ≡ true)
failed_if_not h e call = go h.tree.failed refl
  where
    unanswered : (b : Bool) → refusals.is_refusal e ≡ b → h.tree.failed ≡ false → is_err {T = Reply} {E = Error} (cond b (Ok (ops.Refused (refusals.error_refusal e))) (Err e)) ≡ false → ⊥
    unanswered true is works none = count_not_refused e h h works call is
    unanswered false is works none = absurd (cc)

    refused : (b : Bool) → refusals.is_refusal e ≡ b → cond b (Ok (ops.Refused (refusals.error_refusal e))) (Err e) ≡ Ok (ops.Refused ops.Failed) → e ≡ Failed
    refused true is k = sym (refusals.error_survives_refusal e is) ∙ ap error_of k
      where
        error_of : Result Reply Error → Error
        error_of (Ok (ops.Refused r)) = refusals.refusal_error r
        error_of _ = Failed
    refused false is k = absurd (cc)

    go : (b : Bool) → h.tree.failed ≡ b → (e ≡ Failed) × (h.tree.failed ≡ true)
    go true f = (refused (refusals.is_refusal e) refl (call.ends.failed f refl), f)
    go false f = absurd (unanswered (refusals.is_refusal e) refl f (call.ends.answered (viewed_session h) (healthy_view h f) refl))

-- ---- the relation of a call

pub same_volume : (v : Volume) → DiffersOnlyByLoads v v
same_volume v = record { tree = refl; handles = refl; count = refl; none = λ i e. e; some = λ i n e. (n, (e, inl refl)) }

-- a call that asks for no more
pub asked_call : (old new : VolumeView) (call : Call) (reply : Reply) → IsWorkingSession old.session → new.session ≡ old.session → ((around : DiskSummary) → around.profile ≡ old.session.tree.disk.profile → call_result around (volume_of old) call ≡ (reply, volume_of new)) → IsVolumeReply old call reply new
asked_call old new call reply (works, (n, asked)) same is =
    let d = done old.session ops.UsedCount (ops.Count n) old.session refl works refl asked.answers in
    let result = is d.around d.surrounds.profile in
    record {
      around = d.around;
      at = old.session;
      pairs = d.pairs;
      accepted = d.accepted;
      surrounds = d.surrounds;
      shows = refl;
      before = [];
      reached = refl;
      reply_is = ap (λ (z : Reply × Volume). z.0) result;
      next = subst (λ z. DiffersOnlyByLoads z (volume_of new)) (sym (ap (λ (z : Reply × Volume). z.1) result)) (same_volume (volume_of new));
      operations = ops.UsedCount ∷ [];
      session_part = inl (inl (subst (λ z. AreTreePreservingCalls old.session (ops.UsedCount ∷ []) z) (sym same)
          (one_quiet old.session old.session ops.UsedCount (record { reply = ops.Count n; accepted = refl; call = asked; other = refl }) refl)));
    }

-- ---- a position

tell_is : (v : VolumeView) (handle : ℕ) (o : Option Handle) (around : DiskSummary) → entry_at v.handles handle ≡ o →
    call_result around (volume_of v) (Tell handle) ≡ unless_refused (refuse_if (is_none o) BadFile) (volume_of v) (ops.Count (unwrap_or (option_map (λ h. h.position) o) 0), volume_of v)
tell_is v handle o around e = ap (λ x. unless_refused (refuse_if (is_none x) BadFile) (volume_of v) (ops.Count (unwrap_or (option_map (λ (h : Handle). h.position) x) 0), volume_of v)) e

pub tell_found : (v : VolumeView) (handle : ℕ) (h : Handle) → IsWorkingSession v.session × (entry_at v.handles handle ≡ Some h) → IsVolumeReply v (Tell handle) (ops.Count h.position) v
tell_found v handle h (working, found) = asked_call v v (Tell handle) (ops.Count h.position) working refl (λ around same. tell_is v handle (Some h) around found)
