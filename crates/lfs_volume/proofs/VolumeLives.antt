-- The calls of a session within a volume's call, as turns of the session's life.
use Rattle.std.proofs.Common.{inl, inr, ◌≡◌, ◌&&◌, ◌||◌, Bool, true, false, cond, map, List, [], ◌∷◌, ◌++◌, Option, Some, Result, Ok, Err, refl, sym, ap, ap₂, subst, ◌∙◌, append_assoc}
use Rattle.std.specs.Prelude.{◌⊎◌}
use Rattle.std.proofs.lemmas.List.{append-nil, map-append}
use Rattle.lfs_device.specs.declared.error.Error.{Error}
use Rattle.lfs_lookup.specs.RefusalErrors as refusals
use Rattle.lfs_tree.specs.TreeState.{visible_tree}
use Rattle.lfs_model.specs.format.Disk.{Disk, disk_with_order}
use Rattle.lfs_model.specs.tree.Tree.{Tree}
use Rattle.lfs_model.specs.session.Operations as ops
use Rattle.lfs_model.specs.session.Operations.{Operation, Reply}
use Rattle.lfs_model.specs.session.Session.{DiskSummary, Session}
use Rattle.lfs_model.specs.session.State.{HasFailed, Healthy, is_remount}
use Rattle.lfs_model.specs.session.Effects.{operation_result}
use Rattle.lfs_model.specs.session.Run.{HealthyHasDiskTree, SystemState}
use Rattle.lfs_model.specs.crash.Lives.{Turn, IsLife, IsLifeOfRun, IsRunInTurns, all_answered, answered, failed, only_last_may_fail, is_last}
use Rattle.lfs_model.specs.crash.LifeHeadline.{LifeMatchesDisk}
use Rattle.lfs_model.specs.crash.RepeatedPowerLoss.{LossInLife, LossInOperation, MeetsCrashSafetyPremises}
use Rattle.lfs_model.proofs.JoinedLives.{lives_joined}
use Rattle.lfs_model.proofs.LivedOn.{life_agrees, life_matches}
use Rattle.lfs_model.proofs.LivesSurvived.{life_is_safe, life_survives}
use Rattle.lfs_model.proofs.RunTurns.{answered_last, none_inside}
use Rattle.lfs_model.proofs.Surviving.{same_surroundings}
use Rattle.lfs_fs.specs.CallEffects.{IsCall}
use Rattle.lfs_fs.specs.SessionView.{SessionView, system_state, viewed_session}
use Rattle.lfs_fs.specs.Turns.{IsCrashSafeRun}
use Rattle.lfs_fs.proofs.SessionTurns.{call_turn}
use Rattle.lfs_volume.specs.Calls.{Call}
use Rattle.lfs_volume.specs.SessionCalls.{AreTreePreservingCalls, MayChangeTreeOnce, EndsAtErrorOperation, FailsInCalls, IsAcceptedCall}
use Rattle.lfs_volume.specs.Stops.{LossLeavesEitherTree}
use Rattle.lfs_volume.specs.Volume.{VolumeView}
use Rattle.lfs_volume.specs.VolumeCalls.{IsVolumeReply, IsSessionCallSequence, IsVolumeCall, IsHealthyVolumeCall}
use Rattle.lfs_volume.proofs.Steps.{IsAnswered, healthy_view, refusal_step, same_session}
use Rattle.lfs_volume.proofs.Steps as definitions
use Rattle.lfs_volume.proofs.Working.{no_remount}

-- ---- calls that were answered

-- the session replied, maybe by a refusal
record IsAnsweredCall (old : SessionView) (op : Operation) (new : SessionView) : Type 0 where
  reply : Reply
  call : IsCall old op (Ok reply) new
  other : is_remount op ≡ false

answered_one : (old new : SessionView) (op : Operation) → IsAcceptedCall old op new → IsAnsweredCall old op new
answered_one old new op one = record { reply = one.reply; call = one.call; other = one.other }

-- the calls were answered one after another, and each left such a tree
abbrev AreAnswered : (Tree → Type 0) → SessionView → List Operation → SessionView → Type 0
AreAnswered P old [] new = old ≡ new
AreAnswered P old (op ∷ operations) new = (next : SessionView) × (IsAnsweredCall old op next × (P (visible_tree next.tree) × AreAnswered P next operations new))

quiet_answered : (P : Tree → Type 0) (old : SessionView) (operations : List Operation) (new : SessionView) → P (visible_tree old.tree) → AreTreePreservingCalls old operations new → AreAnswered P old operations new
quiet_answered P old [] new p h = h
quiet_answered P old (op ∷ operations) new p (next, (one, same, rest)) =
    let q : P (visible_tree next.tree) = subst P (sym same) p in
    (next, (answered_one old next op one, (q, quiet_answered P next operations new q rest)))

answered_joined : (P : Tree → Type 0) (a : SessionView) (xs : List Operation) (b : SessionView) (ys : List Operation) (c : SessionView) → AreAnswered P a xs b → AreAnswered P b ys c → AreAnswered P a (xs ++ ys) c
answered_joined P a [] b ys c h k = subst (λ z. AreAnswered P z ys c) (sym h) k
answered_joined P a (op ∷ xs) b ys c (next, (one, (p, rest))) k = (next, (one, (p, answered_joined P next xs b ys c rest k)))

quiet_tree : (old : SessionView) (operations : List Operation) (new : SessionView) → AreTreePreservingCalls old operations new → visible_tree new.tree ≡ visible_tree old.tree
quiet_tree old [] new h = ap (λ (z : SessionView). visible_tree z.tree) (sym h)
quiet_tree old (op ∷ operations) new (next, (one, same, rest)) = quiet_tree next operations new rest ∙ same

abbrev IsEither : Tree → Tree → Tree → Type 0
IsEither before after tree = (tree ≡ before) ⊎ (tree ≡ after)

steps_answered_all : (old new : SessionView) (operations : List Operation) → MayChangeTreeOnce old operations new → AreAnswered (IsEither (visible_tree old.tree) (visible_tree new.tree)) old operations new
steps_answered_all old new operations (inl quiet) = quiet_answered (IsEither (visible_tree old.tree) (visible_tree new.tree)) old operations new (inl refl) quiet
steps_answered_all old new operations (inr c) = subst (λ z. AreAnswered either old z new) (sym c.are) (answered_joined either old c.before c.first (c.change ∷ c.after) new (quiet_answered either old c.before c.first (inl refl) c.quiet) rest)
  where
    either : Tree → Type 0
    either = IsEither (visible_tree old.tree) (visible_tree new.tree)

    changed : either (visible_tree c.second.tree)
    changed = inr (sym (quiet_tree c.second c.after new c.rest))

    rest : AreAnswered either c.first (c.change ∷ c.after) new
    rest = (c.second, (answered_one c.first c.second c.change c.changed, (changed, quiet_answered either c.second c.after new changed c.rest)))

-- what the session did where it replied: it accepted all, or refused the last one
part_answered : (old new : SessionView) (operations : List Operation) → IsSessionCallSequence old operations new → (xs : List Operation) × AreAnswered (IsEither (visible_tree old.tree) (visible_tree new.tree)) old xs new
part_answered old new operations (inl steps) = (operations, steps_answered_all old new operations steps)
part_answered old new operations (inr (e, (is, k))) = (
  k.before ++ k.next ∷ [],
  answered_joined either old k.before k.at (k.next ∷ []) new (quiet_answered either old k.before k.at (inl refl) k.quiet) (new, (one, (inr refl, refl))),
)
  where
    either : Tree → Type 0
    either = IsEither (visible_tree old.tree) (visible_tree new.tree)

    one : IsAnsweredCall k.at k.next new
    one = record {
      reply = ops.Refused (refusals.error_refusal e);
      call = subst (λ b. IsCall k.at k.next (cond b (Ok (ops.Refused (refusals.error_refusal e))) (Err e)) new) is k.ends;
      other = no_remount k.at new k.next (refusals.error_refusal e) (refusal_step k.at k.next e new is k.ends.answers);
    }

-- ---- their turns

abbrev turns_of : (P : Tree → Type 0) (old : SessionView) (operations : List Operation) (new : SessionView) → AreAnswered P old operations new → List Turn
turns_of P old [] new h = []
turns_of P old (op ∷ operations) new (next, (one, (p, rest))) = answered op one.reply (system_state next) ∷ turns_of P next operations new rest

abbrev replies_of : (P : Tree → Type 0) (old : SessionView) (operations : List Operation) (new : SessionView) → AreAnswered P old operations new → List Reply
replies_of P old [] new h = []
replies_of P old (op ∷ operations) new (next, (one, (p, rest))) = one.reply ∷ replies_of P next operations new rest

abbrev op_of : Turn → Operation
op_of turn = turn.op

abbrev reply_of : Turn → Option Reply
reply_of turn = turn.reply

-- a life in which each operation was answered
record IsAnsweredLife (from : SystemState) (turns : List Turn) (operations : List Operation) (replies : List Reply) (to : SystemState) : Type 0 where
  lived : IsLife from turns to
  did : map op_of turns ≡ operations
  replied : map reply_of turns ≡ map Some replies
  all : all_answered turns ≡ true

accepted_lived : (P : Tree → Type 0) (old : SessionView) (operations : List Operation) (new : SessionView) (h : AreAnswered P old operations new) →
    IsAnsweredLife (system_state old) (turns_of P old operations new h) operations (replies_of P old operations new h) (system_state new)
accepted_lived P old [] new h = record { lived = ap system_state h; did = refl; replied = refl; all = refl }
accepted_lived P old (op ∷ operations) new (next, (one, (p, rest))) =
    let r = accepted_lived P next operations new rest in
    record {
      lived = (call_turn old op (Ok one.reply) next one.call, r.lived);
      did = ap (λ (xs : List Operation). op ∷ xs) r.did;
      replied = ap (λ (xs : List (Option Reply)). Some one.reply ∷ xs) r.replied;
      all = r.all;
    }

abbrev EitherOf : SessionView → SessionView → Tree → Type 0
EitherOf old new = IsEither (visible_tree old.tree) (visible_tree new.tree)

steps_answered : (old new : SessionView) (operations : List Operation) (steps : MayChangeTreeOnce old operations new) →
    let h = steps_answered_all old new operations steps in
    IsAnsweredLife (system_state old) (turns_of (EitherOf old new) old operations new h) operations (replies_of (EitherOf old new) old operations new h) (system_state new)
steps_answered old new operations steps = accepted_lived (EitherOf old new) old operations new (steps_answered_all old new operations steps)

life_of_run : (from : SystemState) (turns : List Turn) (operations : List Operation) (replies : List Reply) (to : SystemState) → IsAnsweredLife from turns operations replies to → IsLifeOfRun from operations replies to
life_of_run from turns operations replies to r = record { turns = turns; lived = r.lived; did = r.did; replied = r.replied }

pub steps_live : (old new : SessionView) (operations : List Operation) → MayChangeTreeOnce old operations new → (replies : List Reply) × IsLifeOfRun (system_state old) operations replies (system_state new)
steps_live old new operations steps = (_, life_of_run _ _ _ _ _ (steps_answered old new operations steps))

pub steps_match : (from : SystemState) (turns : List Turn) (old new : SessionView) (operations : List Operation) → HealthyHasDiskTree from.disk from.state → IsLife from turns (system_state old) → MayChangeTreeOnce old operations new →
    (replies : List Reply) × ((life : IsLifeOfRun (system_state old) operations replies (system_state new)) × LifeMatchesDisk from (turns ++ life.turns) (system_state new))
steps_match from turns old new operations known lived steps =
    let r = steps_live old new operations steps in
    (r.0, (r.1, life_matches from (turns ++ r.1.turns) (system_state new) known (lives_joined turns r.1.turns from (system_state old) (system_state new) lived r.1.lived)))

pub steps_survive : (old new : SessionView) (operations : List Operation) → MayChangeTreeOnce old operations new → MeetsCrashSafetyPremises (system_state old) (system_state new) → IsCrashSafeRun (system_state old) operations (system_state new)
steps_survive old new operations steps may =
    let turns = turns_of (EitherOf old new) old operations new (steps_answered_all old new operations steps) in
    let r = steps_answered old new operations steps in
    record {
      turns = turns;
      run = record { lived = r.lived; ends = answered_last turns r.all; others = []; did = sym r.did ∙ sym (append-nil (map op_of turns)); whole = λ all. refl };
      safe = life_is_safe (system_state old) turns (system_state new) r.lived (none_inside (system_state old) turns (answered_last turns r.all)) may;
    }

-- ---- calls of which the last one failed

both_true : (a b : Bool) → (a && b) ≡ true → (a ≡ true) × (b ≡ true)
both_true true b e = (refl, e)
both_true false b e = absurd (cc)

ends_last : (turns : List Turn) (op : Operation) (to : SystemState) → all_answered turns ≡ true → only_last_may_fail (turns ++ failed op to ∷ []) ≡ true
ends_last [] op to all = refl
ends_last (turn ∷ turns) op to all =
    let both = both_true _ _ all in
    ap (λ b. (b || is_last (turns ++ failed op to ∷ [])) && only_last_may_fail (turns ++ failed op to ∷ [])) both.0 ∙ ends_last turns op to both.1

never_all : (turns : List Turn) (op : Operation) (to : SystemState) → all_answered (turns ++ failed op to ∷ []) ≡ true → ⊥
never_all [] op to all = absurd (cc)
never_all (turn ∷ turns) op to all = never_all turns op to (both_true _ _ all).1

pub steps_fail : (e : Error) (old new : SessionView) (operations : List Operation) → EndsAtErrorOperation e old operations new → refusals.is_refusal e ≡ false → (turns : List Turn) × IsRunInTurns (system_state old) operations turns (system_state new)
steps_fail e old new operations k is = (
  turns ++ failed k.next (system_state new) ∷ [],
  record {
    lived = lives_joined turns (failed k.next (system_state new) ∷ []) (system_state old) (system_state k.at) (system_state new) r.lived (call_turn k.at k.next (Err e) new call, refl);
    ends = ends_last turns k.next (system_state new) r.all;
    others = k.others;
    did = k.are ∙ ap (λ (xs : List Operation). xs ++ k.next ∷ k.others) (sym r.did) ∙ sym (append_assoc (map op_of turns) (k.next ∷ []) k.others)
        ∙ ap (λ (xs : List Operation). xs ++ k.others) (sym (map-append op_of turns (failed k.next (system_state new) ∷ [])));
    whole = λ all. absurd (never_all turns k.next (system_state new) all);
  },
)
  where
    call : IsCall k.at k.next (Err e) new
    call = subst (λ b. IsCall k.at k.next (cond b (Ok (ops.Refused (refusals.error_refusal e))) (Err e)) new) is k.ends

    accepted : AreAnswered (EitherOf old k.at) old k.before k.at
    accepted = steps_answered_all old k.at k.before (inl k.quiet)

    turns : List Turn
    turns = turns_of (EitherOf old k.at) old k.before k.at accepted

    r : IsAnsweredLife (system_state old) turns k.before (replies_of (EitherOf old k.at) old k.before k.at accepted) (system_state k.at)
    r = accepted_lived (EitherOf old k.at) old k.before k.at accepted

-- ---- a stop in one call

works_if_healthy : (h : SessionView) (s : Session) → (system_state h).state ≡ Healthy s → h.tree.failed ≡ false
works_if_healthy h s e = go h.tree.failed refl e
  where
    go : (b : Bool) → h.tree.failed ≡ b → cond b HasFailed (Healthy (viewed_session h)) ≡ Healthy s → h.tree.failed ≡ false
    go true f k = absurd (cc)
    go false f k = f

viewed_if_healthy : (h : SessionView) (s : Session) → (system_state h).state ≡ Healthy s → s ≡ viewed_session h
viewed_if_healthy h s e = same_session s (viewed_session h) (sym e ∙ healthy_view h (works_if_healthy h s e))

-- the disk has one summary, so the tree is the one from before or the one from after
in_call : (at : SessionView) (op : Operation) (next : SessionView) → IsAnsweredCall at op next → (to : SystemState) (left : Disk) (tree : Tree) → LossInOperation (system_state at) op to left tree → EitherOf at next tree
in_call at op next one to left tree loss = go loss.either
  where
    same : loss.session ≡ viewed_session at
    same = viewed_if_healthy at loss.session loss.work.healthy

    d : IsAnswered at op one.reply next
    d = definitions.answered at op one.reply next one.other (works_if_healthy at loss.session loss.work.healthy) one.call.answers

    around : loss.around ≡ d.around
    around = same_surroundings at.tree.disk loss.pairs d.pairs loss.around d.around loss.work.accepted d.accepted loss.work.surrounds d.surrounds

    go : (tree ≡ loss.session.tree) ⊎ (tree ≡ (operation_result loss.around loss.session op).1.tree) → EitherOf at next tree
    go (inl e) = inl (e ∙ ap (λ (s : Session). s.tree) same)
    go (inr e) = inr (e ∙ ap₂ (λ (a : DiskSummary) (s : Session). (operation_result a s op).1.tree) around same ∙ ap (λ (z : Reply × Session). z.1.tree) d.is)

-- ---- a stop in several

module _ (P : Tree → Type 0) (left : Disk) (tree : Tree) where
  one_of : (at next : SessionView) → P (visible_tree at.tree) → P (visible_tree next.tree) → EitherOf at next tree → P tree
  one_of at next p q (inl e) = subst P (sym e) p
  one_of at next p q (inr e) = subst P (sym e) q

  in_turn : (at : SystemState) (turns : List Turn) (old : SessionView) (operations : List Operation) (new : SessionView) → P (visible_tree old.tree) → (h : AreAnswered P old operations new) (cut : Turn) (others : List Turn)
      → turns_of P old operations new h ≡ turns ++ cut ∷ others → IsLife (system_state old) turns at → LossInOperation at cut.op cut.to left tree → P tree
  in_turn at [] old [] new p h cut others are lived loss = absurd (cc)
  in_turn at (turn ∷ turns) old [] new p h cut others are lived loss = absurd (cc)
  in_turn at [] old (op ∷ operations) new p (next, (one, (q, rest))) cut others are lived loss =
      let is : answered op one.reply (system_state next) ≡ cut = ap (λ (xs : List Turn). head_or cut xs) are in
      let here : LossInOperation (system_state old) cut.op cut.to left tree = subst (λ z. LossInOperation z cut.op cut.to left tree) (sym lived) loss in
      one_of old next p q (in_call old op next one cut.to left tree (subst (λ z. LossInOperation (system_state old) z cut.to left tree) (sym (ap op_of is)) here))
    where
      head_or : Turn → List Turn → Turn
      head_or other [] = other
      head_or other (x ∷ xs) = x
  in_turn at (turn ∷ turns) old (op ∷ operations) new p (next, (one, (q, rest))) cut others are (first, lived) loss =
      let is : answered op one.reply (system_state next) ≡ turn = ap (λ (xs : List Turn). head_or turn xs) are in
      in_turn at turns next operations new q rest cut others (ap tail_of are) (subst (λ (z : Turn). IsLife z.to turns at) (sym is) lived) loss
    where
      head_or : Turn → List Turn → Turn
      head_or other [] = other
      head_or other (x ∷ xs) = x

      tail_of : List Turn → List Turn
      tail_of [] = []
      tail_of (x ∷ xs) = xs

in_life : (old new : SessionView) (operations : List Operation) (h : AreAnswered (EitherOf old new) old operations new) (left : Disk) (tree : Tree) →
    LossInLife (system_state old) (turns_of (EitherOf old new) old operations new h) (system_state new) left tree → EitherOf old new tree
in_life old new operations h left tree (inl loss) = in_turn (EitherOf old new) left tree loss.at loss.done old operations new (inl refl) h loss.cut loss.others loss.are loss.lived loss.loss
in_life old new operations h left tree (inr loss) = inr (loss.is ∙ ap (λ (s : Session). s.tree) (viewed_if_healthy new loss.session loss.healthy))

stop_in_answered : (old new : SessionView) (operations : List Operation) → AreAnswered (EitherOf old new) old operations new → LossLeavesEitherTree old new
stop_in_answered old new operations h may left stop =
    let turns = turns_of (EitherOf old new) old operations new h in
    let r = accepted_lived (EitherOf old new) old operations new h in
    let s = life_survives (system_state old) turns (system_state new) left r.lived (none_inside (system_state old) turns (answered_last turns r.all)) may stop in
    record { order = s.order; tree = s.tree; is = in_life old new operations h (disk_with_order s.order left) s.tree s.cut; safe = s.safe }

pub stop_leaves : (old new : SessionView) (operations : List Operation) → MayChangeTreeOnce old operations new → LossLeavesEitherTree old new
stop_leaves old new operations steps = stop_in_answered old new operations (steps_answered_all old new operations steps)

-- ---- a call of a volume

pub stop_in_reply : (old new : VolumeView) (call : Call) (reply : Reply) → old.session.tree.failed ≡ false → IsVolumeCall old call (Ok reply) new → LossLeavesEitherTree old.session new.session
stop_in_reply old new call reply works is = go (is.works works)
  where
    go : IsVolumeReply old call reply new → LossLeavesEitherTree old.session new.session
    go r = (let part = part_answered old.session new.session r.operations r.session_part in stop_in_answered old.session new.session part.0 part.1)

answered_life : (old new : SessionView) (operations : List Operation) → AreAnswered (EitherOf old new) old operations new → (turns : List Turn) × IsLife (system_state old) turns (system_state new)
answered_life old new operations h = (turns_of (EitherOf old new) old operations new h, (accepted_lived (EitherOf old new) old operations new h).lived)

-- calls that were answered, and then one that ended in an error
failed_life : (e : Error) (old new : SessionView) → FailsInCalls e old new → (turns : List Turn) × IsLife (system_state old) turns (system_state new)
failed_life e old new (not, (operations, k)) = (let r = steps_fail e old new operations k not in (r.0, r.1.lived))

working_life : (old new : VolumeView) (call : Call) (r : Result Reply Error) → IsHealthyVolumeCall old call r new → (turns : List Turn) × IsLife (system_state old.session) turns (system_state new.session)
working_life old new call (Ok reply) r = (let part = part_answered old.session new.session r.operations r.session_part in answered_life old.session new.session part.0 part.1)
working_life old new call (Err e) (inl (none, wants)) = answered_life old.session new.session wants.operations (quiet_answered (EitherOf old.session new.session) old.session wants.operations new.session (inl refl) wants.calls)
working_life old new call (Err e) (inr fails) = failed_life e old.session new.session fails

pub call_lives : (old new : VolumeView) (call : Call) (r : Result Reply Error) → IsVolumeCall old call r new → (turns : List Turn) × IsLife (system_state old.session) turns (system_state new.session)
call_lives old new call r is = go old.session.tree.failed refl
  where
    go : (b : Bool) → old.session.tree.failed ≡ b → (turns : List Turn) × IsLife (system_state old.session) turns (system_state new.session)
    go true failed = ([], ap (λ (v : VolumeView). system_state v.session) (sym (is.failed failed).1))
    go false works = working_life old new call r (is.works works)

pub call_shows : (old new : VolumeView) (call : Call) (r : Result Reply Error) → IsVolumeCall old call r new → HealthyHasDiskTree old.session.tree.disk (system_state old.session).state → HealthyHasDiskTree new.session.tree.disk (system_state new.session).state
call_shows old new call r is known = (let life = call_lives old new call r is in life_agrees life.0 (system_state old.session) (system_state new.session) life.1 known)
