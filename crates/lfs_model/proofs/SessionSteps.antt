-- Runs of a session: joined, parted, and from a fresh disk.
use Rattle.std.proofs.Common.{ℕ, ◌≡◌, Bool, true, false, cond, List, [], ◌∷◌, ◌++◌, Option, Some, None, is_none, refl, sym, ap, subst, ◌∙◌}
use Rattle.lfs_model.proofs.Common.{same_Some, Disk, block_count, content_at, disk_tree, Operation, Reply, Refusal, Session, DiskSummary, FileReader, file_reader, file_numbered, refuse_if, operation_result, unless_refused, read_effect, operation_refusal, SessionHealth, HasFailed, Healthy, is_remount, nonremount_result, remount_result, mounted_session, IsFreshDisk, fresh_pair, empty_tree, HasDiskTree, read_reply, SystemState, ShowsTree, HealthyHasDiskTree, EffectRelation, IsStep, IsStepWith, IsTreeStep, AreSteps}
use Rattle.lfs_model.specs.session.Operations as ops
use Rattle.lfs_model.specs.session.Operations.{BadFile}
use Rattle.lfs_model.specs.session.Headline.{is_query, IsReplyAfterMount, IsReaderReply, IsRunOfConcatenation}
use Rattle.lfs_model.specs.session.Run.{IsReply}
use Rattle.lfs_model.proofs.Uniqueness.{one_thread}
use Rattle.lfs_model.proofs.Fresh.{accepted, shows}

-- ---- joined and parted

pub session_steps_joined : (operations more : List Operation) (replies others : List Reply) (a b c : SystemState) → AreSteps a operations replies b → AreSteps b more others c →
    AreSteps a (operations ++ more) (replies ++ others) c
session_steps_joined [] more [] others a b c e h = subst (λ m. AreSteps m more others c) (sym e) h
session_steps_joined [] more (reply ∷ replies) others a b c e h = absurd e
session_steps_joined (op ∷ operations) more [] others a b c e h = absurd e
session_steps_joined (op ∷ operations) more (reply ∷ replies) others a b c (next, (turn, rest)) h =
    (next, (turn, session_steps_joined operations more replies others next b c rest h))

pub session_steps_parted : (operations more : List Operation) (replies : List Reply) (a c : SystemState) → AreSteps a (operations ++ more) replies c → IsRunOfConcatenation operations more replies a c
session_steps_parted [] more replies a c h = record { between = a; front = []; back = replies; joined = refl; first = refl; second = h }
session_steps_parted (op ∷ operations) more [] a c h = absurd h
session_steps_parted (op ∷ operations) more (reply ∷ replies) a c (next, (turn, rest)) =
    let p = session_steps_parted operations more replies next c rest in
    record { between = p.between; front = reply ∷ p.front; back = p.back; joined = ap (λ z. reply ∷ z) p.joined; first = (next, (turn, p.first)); second = p.second }

-- ---- one that says where slots are is one that doesn't

pub tree_step : (from to : SystemState) (op : Operation) (reply : Reply) → IsStep from op reply to → IsTreeStep from op reply to
tree_step from to op reply step = record {
  answered = step.answered;
  agrees = step.agrees;
  geometry = step.geometry;
  calls = step.calls;
  called = step.called;
  refused = step.refused;
  remounted = step.remounted;
  failed = step.failed;
  effect_on_disk = λ accepted s healthy ps qs a b. (step.effect_on_disk accepted s healthy ps qs a b).effect;
}

-- ---- health

abbrev pub IsHealthy : SessionHealth → Type 0
IsHealthy HasFailed = ⊥
IsHealthy (Healthy session) = Unit {0}

pub session_step_is_healthy : {E : EffectRelation} (from to : SystemState) (op : Operation) (reply : Reply) → IsStepWith E from op reply to → IsHealthy from.state → IsHealthy to.state
session_step_is_healthy from to op reply turn h = go (is_remount op) (from.state) h turn.answered.shown turn.answered.answers
  where
    remounts : (shown : Option _) → remount_result shown ≡ (Some reply, to.state) → IsHealthy to.state
    remounts None e = absurd (let k = ap (λ (z : Option Reply × SessionHealth). z.0) e in cc)
    remounts (Some tree) e = subst IsHealthy (ap (λ (z : Option Reply × SessionHealth). z.1) e) tt

    go : (b : Bool) (state : SessionHealth) → IsHealthy state → (shown : Option _) → cond b (remount_result shown) (nonremount_result turn.answered.around state op) ≡ (Some reply, to.state) → IsHealthy to.state
    go true state k shown e = remounts shown e
    go false HasFailed k shown e = absurd k
    go false (Healthy s) k shown e = subst IsHealthy (ap (λ (z : Option Reply × SessionHealth). z.1) e) tt

pub session_steps_are_healthy : (operations : List Operation) (replies : List Reply) (from to : SystemState) → AreSteps from operations replies to → IsHealthy from.state → IsHealthy to.state
session_steps_are_healthy [] [] from to e h = subst (λ (m : SystemState). IsHealthy m.state) e h
session_steps_are_healthy [] (reply ∷ replies) from to e h = absurd e
session_steps_are_healthy (op ∷ operations) [] from to e h = absurd e
session_steps_are_healthy (op ∷ operations) (reply ∷ replies) from to (next, (turn, rest)) h =
    session_steps_are_healthy operations replies next to rest (session_step_is_healthy from next op reply turn h)

pub session_steps_agree : (operations : List Operation) (replies : List Reply) (from to : SystemState) → AreSteps from operations replies to → HealthyHasDiskTree from.disk from.state → HealthyHasDiskTree to.disk to.state
session_steps_agree [] [] from to e h = subst (λ (m : SystemState). HealthyHasDiskTree m.disk m.state) e h
session_steps_agree [] (reply ∷ replies) from to e h = absurd e
session_steps_agree (op ∷ operations) [] from to e h = absurd e
session_steps_agree (op ∷ operations) (reply ∷ replies) from to (next, (turn, rest)) h = session_steps_agree operations replies next to rest turn.agrees

-- ---- from a fresh disk

pub true_from : (at : SystemState) → IsHealthy at.state → HealthyHasDiskTree at.disk at.state → HasDiskTree at
true_from at h a = go at.state refl h a
  where
    go : (state : SessionHealth) → at.state ≡ state → IsHealthy state → HealthyHasDiskTree at.disk state → HasDiskTree at
    go HasFailed e k b = absurd k
    go (Healthy s) e k b = record { session = s; healthy = e; shows = b }

pub fresh_agrees : (disk : Disk) → IsFreshDisk disk → ShowsTree disk (Some empty_tree)
fresh_agrees disk fresh = (fresh_pair disk ∷ [], (accepted disk fresh, sym (shows disk)))

-- ---- questions

same_reply : (r : Option Refusal) (s t : Session) (x y : Reply × Session) → x.0 ≡ y.0 → (unless_refused r s x).0 ≡ (unless_refused r t y).0
same_reply None s t x y e = e
same_reply (Some error) s t x y e = refl

-- the answer doesn't depend on open files
of_tree : (around : DiskSummary) (s : Session) (op : Operation) → is_query op ≡ true → (operation_result around s op).0 ≡ (operation_result around (mounted_session s.tree) op).0
of_tree around s (ops.ListAll path) e = same_reply (operation_refusal around s (ops.ListAll path)) s (mounted_session s.tree) _ _ refl
of_tree around s (ops.Stat path) e = same_reply (operation_refusal around s (ops.Stat path)) s (mounted_session s.tree) _ _ refl
of_tree around s (ops.GetAttr path kind) e = same_reply (operation_refusal around s (ops.GetAttr path kind)) s (mounted_session s.tree) _ _ refl
of_tree around s ops.AskGstate e = refl
of_tree around s (ops.IsUsed block) e = same_reply (operation_refusal around s (ops.IsUsed block)) s (mounted_session s.tree) _ _ refl
of_tree around s ops.UsedCount e = refl
of_tree around s _ e = absurd (cc)

pub not_remount : (op : Operation) → is_query op ≡ true → is_remount op ≡ false
not_remount ops.Remount e = absurd (cc)
not_remount _ e = refl

pub question_answered : (from to : SystemState) (op : Operation) (reply : Reply) → HasDiskTree from → is_query op ≡ true → IsReply from.disk to.disk.order from.state op reply to.state → IsReplyAfterMount from op reply
question_answered from to op reply known asks a =
    let s = a.surrounds known.session known.healthy in
    let t = known.shows in
    record {
      pairs = s.0;
      accepted = s.1.0;
      around = a.around;
      surrounds = s.1.1;
      is = is_answer a.around (sym (ap (λ b. cond b (remount_result a.shown) (nonremount_result a.around from.state op)) (not_remount op asks)) ∙ a.answers)
          ∙ of_tree a.around known.session op asks
          ∙ ap (λ z. (operation_result a.around (mounted_session z) op).0) (t.1.1 ∙ ap (disk_tree from.disk) (one_thread (content_at from.disk) (block_count from.disk) t.0 s.0 t.1.0.thread s.1.0.thread));
    }
  where
    is_answer : (around : DiskSummary) → nonremount_result around from.state op ≡ (Some reply, to.state) → reply ≡ (operation_result around known.session op).0
    is_answer around e =
        let k : Some (operation_result around known.session op).0 ≡ Some reply = ap (λ (z : Option Reply × SessionHealth). z.0) (sym (ap (λ state. nonremount_result around state op) known.healthy) ∙ e) in
        sym (same_Some (operation_result around known.session op).0 reply k)

reader_reply : (around : DiskSummary) (s : Session) (fd count : ℕ) → (operation_result around s (ops.Read fd count)).0 ≡ read_reply s.tree (file_reader (file_numbered s.files fd)) count
reader_reply around s fd count = go (file_reader (file_numbered s.files fd))
  where
    go : (r : Option FileReader) → (unless_refused (refuse_if (is_none r) BadFile) s (read_effect s fd count r)).0 ≡ read_reply s.tree r count
    go None = refl
    go (Some r) = refl

-- What an open reader gives is what the disk's tree has there.
pub reader_answered : (from to : SystemState) (fd count : ℕ) (reply : Reply) → HasDiskTree from → IsReply from.disk to.disk.order from.state (ops.Read fd count) reply to.state → IsReaderReply from fd count reply
reader_answered from to fd count reply known a =
    let t = known.shows in
    record {
      pairs = t.0;
      accepted = t.1.0;
      session = known.session;
      healthy = known.healthy;
      is = sym (same_Some (operation_result a.around known.session (ops.Read fd count)).0 reply (ap (λ (z : Option Reply × SessionHealth). z.0) (sym (ap (λ state. nonremount_result a.around state (ops.Read fd count)) known.healthy) ∙ a.answers)))
          ∙ reader_reply a.around known.session fd count
          ∙ ap (λ z. read_reply z (file_reader (file_numbered known.session.files fd)) count) t.1.1;
    }
