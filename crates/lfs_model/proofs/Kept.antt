-- What runs of a session keep: the session that the accepted operations define, the writing profile, and nothing to recover.
use Rattle.std.proofs.Common.{◌≡◌, Bool, true, false, cond, List, [], ◌∷◌, Option, Some, None, refl, sym, ap, subst, ◌∙◌}
use Rattle.lfs_model.proofs.Common.{same_Some, Disk, block_count, disk_with_order, content_at, Pair, Tree, IsAccepted, IsWritable, disk_tree, CallEvent, Operation, Reply, Refusal, Session, DiskSummary, operation_result, operation_effect, unless_refused, operation_refusal, SessionHealth, HasFailed, Healthy, is_remount, remount_result, nonremount_result, mounted_session, IsFreshDisk, fresh_pair, empty_tree, IsRecovered, SystemState, ShowsTree, HealthyHasDiskTree, is_refusal, EffectRelation, IsDiskEffect, IsStepWith, IsTreeStep, AreSteps, HasDiskTree, IsJustMounted}
use Rattle.lfs_model.specs.session.Operations as ops
use Rattle.lfs_model.specs.session.Headline.{LeadsFromFresh, session_after, session_after_all, IsRecoveredDisk, SessionMatchesDisk}
use Rattle.lfs_model.proofs.Uniqueness.{one_thread}
use Rattle.lfs_model.proofs.OtherOrder.{same_tree}
use Rattle.lfs_model.proofs.Fresh.{accepted, writable}
use Rattle.lfs_model.proofs.SessionSteps.{IsHealthy, tree_step, session_step_is_healthy, session_steps_are_healthy, session_steps_agree, true_from, fresh_agrees, question_answered, reader_answered}
use Rattle.lfs_model.proofs.StepsMade.{no_refusal}

-- ---- what the accepted operations define

-- what an operation makes of a session doesn't depend on the disk
same_effect : (around other : DiskSummary) (s : Session) (op : Operation) → (operation_effect around s op).1 ≡ (operation_effect other s op).1
same_effect around other s (ops.Open path flags) = refl
same_effect around other s (ops.Read fd count) = refl
same_effect around other s (ops.Write fd bytes) = refl
same_effect around other s (ops.Seek fd position) = refl
same_effect around other s (ops.Truncate fd size) = refl
same_effect around other s (ops.Sync fd) = refl
same_effect around other s (ops.Close fd) = refl
same_effect around other s (ops.Mkdir path) = refl
same_effect around other s (ops.Remove path) = refl
same_effect around other s (ops.Rename old new) = refl
same_effect around other s (ops.SetAttr path kind bytes) = refl
same_effect around other s (ops.RemoveAttr path kind) = refl
same_effect around other s _ = refl

-- the trees of two accepted threads of a disk
pub one_tree : (disk : Disk) (t u : Tree) → ShowsTree disk (Some t) → ShowsTree disk (Some u) → t ≡ u
one_tree disk t u (ps, (a, e)) (qs, (b, f)) = e ∙ ap (disk_tree disk) (one_thread (content_at disk) (block_count disk) ps qs a.thread b.thread) ∙ sym f

pub defined_next : {E : EffectRelation} (around : DiskSummary) (from to : SystemState) (op : Operation) (reply : Reply) (s : Session) → from.state ≡ Healthy s → HealthyHasDiskTree from.disk from.state → IsStepWith E from op reply to →
    to.state ≡ Healthy (session_after around s op reply)
defined_next around from to op reply s healthy agrees turn =
    go (is_remount op) refl (sym (ap (λ z. cond (is_remount op) (remount_result turn.answered.shown) (nonremount_result turn.answered.around z op)) healthy) ∙ turn.answered.answers)
  where
    effect : Session
    effect = (operation_effect around s op).1

    refused : (a : DiskSummary) (r : Option Refusal) → (unless_refused r s (operation_effect a s op)).0 ≡ reply → (unless_refused r s (operation_effect a s op)).1 ≡ cond (is_refusal reply) s (operation_effect around s op).1
    refused a None e = same_effect a around s op ∙ sym (ap (λ b. cond b s effect) (no_refusal a s op)) ∙ ap (λ r. cond (is_refusal r) s effect) e
    refused a (Some error) e = ap (λ r. cond (is_refusal r) s effect) e

    remount : (shown : Option Tree) → ShowsTree (disk_with_order to.disk.order from.disk) shown → remount_result shown ≡ (Some reply, to.state) → to.state ≡ Healthy (cond (is_refusal reply) s (mounted_session s.tree))
    remount None h e = absurd (let k = ap (λ (z : Option Reply × SessionHealth). z.0) e in cc)
    remount (Some tree) h e =
        let done = same_Some ops.Done reply (ap (λ (z : Option Reply × SessionHealth). z.0) e) in
        let same = same_tree to.disk.order from.disk tree s.tree h (subst (HealthyHasDiskTree from.disk) healthy agrees) in
        sym (ap (λ (z : Option Reply × SessionHealth). z.1) e) ∙ ap (λ t. Healthy (mounted_session t)) same ∙ ap (λ r. Healthy (cond (is_refusal r) s (mounted_session s.tree))) done

    go : (b : Bool) → is_remount op ≡ b → cond b (remount_result turn.answered.shown) (nonremount_result turn.answered.around (Healthy s) op) ≡ (Some reply, to.state) →
        to.state ≡ Healthy (cond (is_refusal reply) s (cond b (mounted_session s.tree) (operation_effect around s op).1))
    go true is e = remount turn.answered.shown (turn.answered.shows is) e
    go false is e =
        let a = turn.answered.around in
        let k = same_Some (operation_result a s op).0 reply (ap (λ (z : Option Reply × SessionHealth). z.0) e) in
        sym (ap (λ (z : Option Reply × SessionHealth). z.1) e) ∙ ap Healthy (refused a (operation_refusal a s op) k)

pub defined : (around : DiskSummary) (operations : List Operation) (replies : List Reply) (from to : SystemState) (s : Session) → from.state ≡ Healthy s → HealthyHasDiskTree from.disk from.state →
    AreSteps from operations replies to → to.state ≡ Healthy (session_after_all around s operations replies)
defined around [] [] from to s h agrees e = sym (ap (λ (m : SystemState). m.state) e) ∙ h
defined around [] (reply ∷ replies) from to s h agrees e = absurd e
defined around (op ∷ operations) [] from to s h agrees e = absurd e
defined around (op ∷ operations) (reply ∷ replies) from to s h agrees (next, (turn, rest)) =
    defined around operations replies next to (session_after around s op reply) (defined_next around from next op reply s h agrees turn) turn.agrees rest

-- ---- what holds of the disk's pairs

-- the disk is accepted, and its pairs have Q
abbrev pub ArePairs : (Disk → List Pair → Type 0) → Disk → Type 0
ArePairs Q disk = (ps : List Pair) × (IsAccepted disk ps × Q disk ps)

-- each operation that is applied keeps it
abbrev pub StaysCarried : (Disk → List Pair → Type 0) → Type 0
StaysCarried Q = (disk new : Disk) (ps qs : List Pair) (s : Session) (op : Operation) (calls : List CallEvent) → IsDiskEffect disk ps s op calls new qs → Q disk ps → Q new qs

pub turn_keeps : (Q : Disk → List Pair → Type 0) → StaysCarried Q → (from to : SystemState) (op : Operation) (reply : Reply) → IsTreeStep from op reply to → IsHealthy from.state → ArePairs Q from.disk →
    ArePairs Q to.disk
turn_keeps Q carries from to op reply turn h (ps, (ok, q)) = go (is_refusal reply) refl from.state refl h
  where
    known : HasDiskTree to
    known = true_from to (session_step_is_healthy from to op reply turn h) turn.agrees

    go : (b : Bool) → is_refusal reply ≡ b → (state : SessionHealth) → from.state ≡ state → IsHealthy state → ArePairs Q to.disk
    go true is state e k = subst (ArePairs Q) (sym (turn.refused is).0) (ps, (ok, q))
    go false is HasFailed e k = absurd k
    go false is (Healthy s) e k =
        let shown = known.shows in
        (shown.0, (shown.1.0, carries from.disk to.disk ps shown.0 s op turn.calls (turn.effect_on_disk is s e ps shown.0 ok shown.1.0) q))

pub session_steps_keep : (Q : Disk → List Pair → Type 0) → StaysCarried Q → (operations : List Operation) (replies : List Reply) (from to : SystemState) → AreSteps from operations replies to → IsHealthy from.state →
    ArePairs Q from.disk → ArePairs Q to.disk
session_steps_keep Q carries [] [] from to e h q = subst (λ (m : SystemState). ArePairs Q m.disk) e q
session_steps_keep Q carries [] (reply ∷ replies) from to e h q = absurd e
session_steps_keep Q carries (op ∷ operations) [] from to e h q = absurd e
session_steps_keep Q carries (op ∷ operations) (reply ∷ replies) from to (next, (turn, rest)) h q =
    session_steps_keep Q carries operations replies next to rest (session_step_is_healthy from next op reply turn h) (turn_keeps Q carries from next op reply (tree_step from next op reply turn) h q)

pub profile_stays : StaysCarried IsWritable
profile_stays disk new ps qs s op calls c h = c.profile h

abbrev WritableRecovered : Disk → List Pair → Type 0
WritableRecovered disk ps = IsWritable disk ps × IsRecovered ps

-- ---- the headline

pub session_shows : (from at : SystemState) (operations : List Operation) (replies : List Reply) → HasDiskTree from → AreSteps from operations replies at → SessionMatchesDisk from operations replies at
session_shows from at operations replies known session_steps = record {
  answers = session_steps;
  shows = here;
  defined = λ around s healthy. defined around operations replies from at s healthy agrees session_steps;
  questions = λ to op reply asks turn. question_answered at to op reply here asks turn.answered;
  readers = λ to fd count reply turn. reader_answered at to fd count reply here turn.answered;
  profile = session_steps_keep IsWritable profile_stays operations replies from at session_steps healthy;
  settled = settled;
}
  where
    agrees : HealthyHasDiskTree from.disk from.state
    agrees = subst (HealthyHasDiskTree from.disk) (sym known.healthy) known.shows

    healthy : IsHealthy from.state
    healthy = subst IsHealthy (sym known.healthy) tt

    here : HasDiskTree at
    here = true_from at (session_steps_are_healthy operations replies from at session_steps healthy) (session_steps_agree operations replies from at session_steps agrees)

    settled : IsRecoveredDisk from.disk → IsRecoveredDisk at.disk
    settled was =
        let end = session_steps_keep WritableRecovered (λ disk new ps qs s op calls k q. (k.profile q.0, k.stays q.1)) operations replies from at session_steps healthy (was.pairs, (was.accepted, (was.writable, was.recovered))) in
        record { pairs = end.0; accepted = end.1.0; writable = end.1.1.0; recovered = end.1.1.1 }

-- ---- where it begins

-- on a fresh disk
pub fresh_begins : (from : SystemState) → IsFreshDisk from.disk → from.state ≡ Healthy (mounted_session empty_tree) → HasDiskTree from × IsRecoveredDisk from.disk
fresh_begins from fresh mounts =
    let ok = accepted from.disk fresh in (
      record { session = mounted_session empty_tree; healthy = mounts; shows = fresh_agrees from.disk fresh },
      record { pairs = fresh_pair from.disk ∷ []; accepted = ok; writable = writable from.disk fresh; recovered = record { gstate = refl; reached = ok.reached refl } },
    )

-- with a mount
pub mount_begins : (disk : Disk) (at : SystemState) → IsJustMounted disk at → HasDiskTree at
mount_begins disk at m = record { session = mounted_session m.tree; healthy = m.healthy; shows = subst (λ d. ShowsTree d (Some m.tree)) (sym m.on) m.shows }

-- a remount is a mount, also of a session that had failed
pub remount_mounts : {E : EffectRelation} (from to : SystemState) → IsStepWith E from ops.Remount ops.Done to → IsJustMounted to.disk to
remount_mounts from to turn = go turn.answered.shown turn.answered.answers
  where
    go : (shown : Option Tree) → remount_result shown ≡ (Some ops.Done, to.state) → IsJustMounted to.disk to
    go None e = absurd (let k = ap (λ (z : Option Reply × SessionHealth). z.0) e in cc)
    go (Some tree) e =
        let healthy = sym (ap (λ (z : Option Reply × SessionHealth). z.1) e) in
        record { on = refl; tree = tree; shows = subst (HealthyHasDiskTree to.disk) healthy turn.agrees; healthy = healthy }

-- ---- from a fresh disk

fresh_shows : (operations : List Operation) (replies : List Reply) (at : SystemState) (c : LeadsFromFresh operations replies at) → SessionMatchesDisk c.from operations replies at
fresh_shows operations replies at c = session_shows c.from at operations replies (fresh_begins c.from c.fresh c.mounts).0 c.session_steps

pub fresh_true : (operations : List Operation) (replies : List Reply) (at : SystemState) → LeadsFromFresh operations replies at → HasDiskTree at
fresh_true operations replies at c = (fresh_shows operations replies at c).shows

pub fresh_defined : (operations : List Operation) (replies : List Reply) (at : SystemState) (around : DiskSummary) → LeadsFromFresh operations replies at →
    at.state ≡ Healthy (session_after_all around (mounted_session empty_tree) operations replies)
fresh_defined operations replies at around c = (fresh_shows operations replies at c).defined around (mounted_session empty_tree) c.mounts

pub fresh_settled : (operations : List Operation) (replies : List Reply) (at : SystemState) → LeadsFromFresh operations replies at → IsRecoveredDisk at.disk
fresh_settled operations replies at c = (fresh_shows operations replies at c).settled (fresh_begins c.from c.fresh c.mounts).1
