-- What a loss of power anywhere in a life leaves, also where errors ended some turns and remounts followed. So it is for any number of
-- losses.
use Rattle.std.proofs.Common.{◌≡◌, ◌⊎◌, inl, inr, Bool, true, false, cond, List, [], ◌∷◌, ◌++◌, Option, Some, None, refl, sym, ap, subst, ◌∙◌}
use Rattle.std.specs.Prelude.{Any}
use Rattle.lfs_model.proofs.Common.{recursion_from_All, same_Some, append_cancel_right, Blocks, Disk, SameGeometry, disk_with_order, Tree, disk_tree, Operation, Reply, SessionHealth, HasFailed, is_remount, operation_result, nonremount_result, remount_result, SystemState, HealthyHasDiskTree, IsTreeStep, is_refusal, LeftByLoss, ErasesCleanly, FailsLikeLoss, HasEitherTree, with_blocks, IsJustMounted, KeepsTree, CallEvent, AllCallsSince, IsRead}
use Rattle.lfs_model.specs.session.Operations as ops
use Rattle.lfs_model.specs.session.Operations.{Failed}
use Rattle.lfs_model.specs.session.History.{OnlyReadsSince}
use Rattle.lfs_model.specs.declared.order.NameOrder.{NameOrder}
use Rattle.lfs_model.specs.crash.Failure.{OperationFails}
use Rattle.lfs_model.specs.crash.Lives.{Turn, EndsWith, IsTurn, IsLife, FailLikeLossBeforeLast}
use Rattle.lfs_model.specs.crash.RepeatedPowerLoss.{LeftInCall, LeftBetween, LossInLife, SurvivesLossInLife, LeftByLosses, SurvivesLosses, MeetsCrashSafetyPremises, CrashSafe}
use Rattle.lfs_model.proofs.Histories.{AllCallsSince-until, AllCallsSince-behind, AllCallsSince-weaker, LeftByLoss-read}
use Rattle.lfs_model.proofs.Performing.{IsAny}
use Rattle.lfs_model.proofs.Sites.{among_from}
use Rattle.lfs_model.proofs.Survived.{IsEither, IsSurvivedWith, around_of, at_work, either_part, safe_with, same_blocks, shape_in_order, start_may, stopped_has}
use Rattle.lfs_model.proofs.LivedOn.{turn_since, life_since}
use Rattle.lfs_model.proofs.CutTurns.{NoRemount, in_first, in_none, later, further}

-- ---- a stop in one of two parts

-- in the later part, with the names in the order that they have then
record IsInLater (Still : Type 0) (next to : SystemState) (left : Disk) : Type 0 where
  order : NameOrder
  kept : Still → order ≡ left.order
  stop : LeftBetween next to (disk_with_order order left)

split : (Still : Type 0) (from next to : SystemState) (left : Disk) → AllCallsSince IsAny from.calls next.calls → AllCallsSince IsAny next.calls to.calls → SameGeometry (disk_with_order next.disk.order from.disk) next.disk →
    (Still → next.disk.order ≡ from.disk.order) → LeftBetween from to left → LeftBetween from next left ⊎ IsInLater Still next to left
split Still from next to left first second geometry same stop = go stop
  where
    in_part : (blocks : Blocks) → left ≡ with_blocks blocks from.disk → IsEither from next to blocks → LeftBetween from next left ⊎ IsInLater Still next to left
    in_part blocks e (inl k) = inl (inr (inl (blocks, (e, k))))
    in_part blocks e (inr k) = inr (record {
      order = next.disk.order;
      kept = λ still. same still ∙ sym (ap (λ (disk : Disk). disk.order) e);
      stop = inr (inl (blocks, (ap (disk_with_order next.disk.order) e ∙ same_blocks (disk_with_order next.disk.order from.disk) next.disk blocks geometry, k)));
    })

    go : LeftBetween from to left → LeftBetween from next left ⊎ IsInLater Still next to left
    go (inl e) = inl (inl e)
    go (inr (inl (blocks, (e, since)))) = in_part blocks e (either_part from next to blocks first second since)
    go (inr (inr (e, fails))) = inr (record { order = left.order; kept = λ still. refl; stop = inr (inr (e, AllCallsSince-behind fails first second)) })

-- ---- what the turns after a turn survive

-- of a session that works
abbrev Works : List Turn → Type 0
Works turns = (from to : SystemState) (left : Disk) → IsLife from turns to → FailLikeLossBeforeLast from turns → MeetsCrashSafetyPremises from to → LeftBetween from to left → IsSurvivedWith (LossInLife from turns to) (NoRemount turns) left

-- the disk is as it was when the session had failed, or power was lost later
abbrev IsAsFailed : SystemState → List Turn → SystemState → Tree → Disk → Tree → Type 0
IsAsFailed from turns to tree disk t = ((disk ≡ from.disk) × (t ≡ tree)) ⊎ LossInLife from turns to disk t

-- of a session that has failed, over a disk that keeps that tree
abbrev HasStopped : List Turn → Type 0
HasStopped turns = (from to : SystemState) (left : Disk) (tree : Tree) → from.state ≡ HasFailed → KeepsTree tree from.disk → IsLife from turns to → FailLikeLossBeforeLast from turns → AllCallsSince ErasesCleanly from.calls to.calls
    → LeftBetween from to left → IsSurvivedWith (IsAsFailed from turns to tree) (NoRemount turns) left

-- ---- no turn

still : (from to : SystemState) (left : Disk) → from ≡ to → LeftBetween from to left → left ≡ from.disk
still from to left same stop = go stop
  where
    none_called : (blocks : Blocks) → LeftInCall from.calls to.calls blocks → ⊥
    none_called blocks since =
        among_from (λ e. LeftByLoss e blocks) [] (subst (λ es. Any (λ e. LeftByLoss e blocks) es)
        (append_cancel_right since.events [] from.calls (sym since.extends ∙ sym (ap (λ (m : SystemState). m.calls) same))) since.stopped)

    go : LeftBetween from to left → left ≡ from.disk
    go (inl e) = e
    go (inr (inl (blocks, (e, since)))) = absurd (none_called blocks since)
    go (inr (inr (e, fails))) = e ∙ sym (ap (λ (m : SystemState). m.disk) same)

works_none : Works []
works_none from to left same few may stop = in_none from to left same may.agrees may.profile stop

stopped_none : HasStopped []
stopped_none from to left tree failed safe same few cleanly stop =
    let e = still from to left same stop in
    record { order = left.order; stays = λ none. refl; tree = tree; cut = inl (e, refl); safe = subst (KeepsTree tree) (sym e) safe }

-- ---- a turn of a session that works

-- an error ended it, and others follow
failed_turn : (turn : Turn) (turns : List Turn) → HasStopped turns → (from to : SystemState) (left : Disk) → IsTurn from turn → OperationFails from turn.op turn.to → IsLife turn.to turns to → FailLikeLossBeforeLast turn.to turns
    → AllCallsSince FailsLikeLoss from.calls turn.to.calls → MeetsCrashSafetyPremises from to → LeftBetween from to left → IsSurvivedWith (LossInLife from (turn ∷ turns) to) (NoRemount (turn ∷ turns)) left
failed_turn turn turns stopped from to left one fails rest few like may stop = by_part (split (is_remount turn.op ≡ false) from turn.to to left first second (shape_in_order false from.disk turn.to.disk fails.geometry) (λ other. fails.geometry.order) stop)
  where
    first : AllCallsSince IsAny from.calls turn.to.calls
    first = turn_since turn.reply turn.op from turn.to one.ends

    second : AllCallsSince IsAny turn.to.calls to.calls
    second = life_since turns turn.to to rest

    cleanly : AllCallsSince ErasesCleanly from.calls turn.to.calls
    cleanly = AllCallsSince-until may.cleanly first second

    k : HasEitherTree turn.to.disk may.agrees.session.tree (operation_result (around_of from.disk may.profile.0) may.agrees.session turn.op).1.tree
    k = one.survives_loss.stands may.agrees.session may.profile.0 (around_of from.disk may.profile.0) (at_work from may.agrees may.profile) cleanly like

    -- power was lost when the session had failed, and the disk was as the turn left it
    as_left : (disk : Disk) (tree : Tree) → (disk ≡ turn.to.disk) × (tree ≡ disk_tree turn.to.disk k.pairs) → LossInLife from (turn ∷ turns) to disk tree
    as_left disk tree (e, t) = inl (record {
      done = [];
      cut = turn;
      others = turns;
      are = refl;
      at = from;
      lived = refl;
      turn = one;
      loss = record {
        stop = inr (inr (e, like));
        session = may.agrees.session;
        pairs = may.profile.0;
        around = around_of from.disk may.profile.0;
        work = at_work from may.agrees may.profile;
        either = subst (λ z. (z ≡ may.agrees.session.tree) ⊎ (z ≡ (operation_result (around_of from.disk may.profile.0) may.agrees.session turn.op).1.tree)) (sym t) k.tree;
      };
    })

    cut_later : (disk : Disk) (tree : Tree) → IsAsFailed turn.to turns to (disk_tree turn.to.disk k.pairs) disk tree → LossInLife from (turn ∷ turns) to disk tree
    cut_later disk tree (inl h) = as_left disk tree h
    cut_later disk tree (inr h) = later from to turn turns disk tree one h

    by_part : LeftBetween from turn.to left ⊎ IsInLater (is_remount turn.op ≡ false) turn.to to left → IsSurvivedWith (LossInLife from (turn ∷ turns) to) (NoRemount (turn ∷ turns)) left
    by_part (inl h) = in_first from to turn turns left one rest may.agrees may.profile cleanly h
    by_part (inr p) =
        let r = stopped turn.to to (disk_with_order p.order left) (disk_tree turn.to.disk k.pairs) fails.failed (safe_with turn.to.disk k.pairs k.accepted k.writable) rest few
        (AllCallsSince-behind may.cleanly first second) p.stop in
        record { order = r.order; stays = λ none. r.stays none.1 ∙ p.kept none.0; tree = r.tree; cut = cut_later (disk_with_order r.order left) r.tree r.cut; safe = r.safe }

works_turn : (turn : Turn) (turns : List Turn) → Works turns → HasStopped turns → Works (turn ∷ turns)
works_turn turn turns works stopped from to left (one, rest) (like, few) may stop = go turn.reply refl one.ends
  where
    Here : Type 0
    Here = IsSurvivedWith (LossInLife from (turn ∷ turns) to) (NoRemount (turn ∷ turns)) left

    -- an error ended it, and it is the last one
    last : turns ≡ [] → Here
    last none =
        let end : turn.to ≡ to = subst (λ ts. IsLife turn.to ts to) none rest in
        in_first from to turn turns left one rest may.agrees may.profile (subst (λ (m : SystemState). AllCallsSince ErasesCleanly from.calls m.calls) (sym end) may.cleanly) (subst (λ m. LeftBetween from m left) (sym end) stop)

    by_others : (ts : List Turn) → turns ≡ ts → turn.reply ≡ None → OperationFails from turn.op turn.to → Here
    by_others [] same is fails = last same
    by_others (t ∷ ts) same is fails = failed_turn turn turns stopped from to left one fails rest few (like is (λ none. absurd (let k = sym same ∙ none in cc))) may stop

    go : (reply : Option Reply) → turn.reply ≡ reply → EndsWith reply from turn.op turn.to → Here
    go (Some reply) is step = further from to turn turns reply left one step rest (λ may left stop. works turn.to to left rest few may stop) may stop
    go None is fails = by_others turns refl is fails

-- ---- a turn of a session that has failed

-- without a remount nothing is done
record IsQuiet (from next : SystemState) : Type 0 where
  disk : next.disk ≡ from.disk
  calls : next.calls ≡ from.calls
  state : next.state ≡ HasFailed

quiet : (reply : Option Reply) (op : Operation) (from next : SystemState) → from.state ≡ HasFailed → is_remount op ≡ false → EndsWith reply from op next → IsQuiet from next
quiet None op from next failed other fails =
    let silent = fails.silent failed other in
    record { disk = silent.0; calls = fails.called ∙ ap (λ (calls : List CallEvent). calls ++ from.calls) silent.1; state = fails.failed }
quiet (Some reply) op from next failed other step =
    let a = step.answered in
    let e : ◌≡◌ {A = Option Reply × SessionHealth} (Some (ops.Refused Failed), HasFailed) (Some reply, next.state) =
    sym (ap (λ state. nonremount_result a.around state op) failed) ∙ sym (ap (λ b. cond b (remount_result a.shown) (nonremount_result a.around from.state op)) other) ∙ a.answers in
    let refused = sym (same_Some (ops.Refused Failed) reply (ap (λ (z : Option Reply × SessionHealth). z.0) e)) in
    record {
      disk = (step.refused (ap is_refusal refused)).0;
      calls = step.called ∙ ap (λ (calls : List CallEvent). calls ++ from.calls) (step.failed other failed);
      state = sym (ap (λ (z : Option Reply × SessionHealth). z.1) e);
    }

left_by_same : (from next to : SystemState) (left : Disk) → IsQuiet from next → LeftBetween from to left → LeftBetween next to left
left_by_same from next to left q (inl e) = inl (e ∙ sym q.disk)
left_by_same from next to left q (inr (inl (blocks, (e, since)))) = inr (inl (blocks, (e ∙ ap (with_blocks blocks) (sym q.disk), subst (λ (calls : List CallEvent). LeftInCall calls to.calls blocks) (sym q.calls) since)))
left_by_same from next to left q (inr (inr (e, fails))) = inr (inr (e, subst (λ (calls : List CallEvent). AllCallsSince FailsLikeLoss calls to.calls) (sym q.calls) fails))

-- a remount that ends well is a mount
remounted : (from next : SystemState) (op : Operation) (reply : Reply) → is_remount op ≡ true → IsTreeStep from op reply next → IsJustMounted next.disk next
remounted from next op reply is step = go step.answered.shown (sym (ap (λ b. cond b (remount_result step.answered.shown) (nonremount_result step.answered.around from.state op)) is) ∙ step.answered.answers)
  where
    go : (shown : Option Tree) → remount_result shown ≡ (Some reply, next.state) → IsJustMounted next.disk next
    go None e = absurd (let k = ap (λ (z : Option Reply × SessionHealth). z.0) e in cc)
    go (Some tree) e =
        let healthy = sym (ap (λ (z : Option Reply × SessionHealth). z.1) e) in
        record { on = refl; tree = tree; shows = subst (HealthyHasDiskTree next.disk) healthy step.agrees; healthy = healthy }

-- what is left during it is what was there, with its names in the old order
left_by_reads : (from next : SystemState) (left : Disk) → OnlyReadsSince from.disk.blocks from.calls next.calls → disk_with_order from.disk.order next.disk ≡ from.disk → LeftBetween from next left → disk_with_order from.disk.order left ≡ from.disk
left_by_reads from next left reads same (inl e) = ap (disk_with_order from.disk.order) e
left_by_reads from next left reads same (inr (inl (blocks, (e, since)))) =
    ap (disk_with_order from.disk.order) e
    ∙ ap (λ (bs : Blocks). with_blocks bs from.disk) (stopped_has (λ bs. bs ≡ from.disk.blocks) from.calls next.calls blocks
    (AllCallsSince-weaker (λ e (r : IsRead from.disk.blocks e) disk l. LeftByLoss-read e disk r.reads l ∙ r.before) reads) since)
left_by_reads from next left reads same (inr (inr (e, fails))) = ap (disk_with_order from.disk.order) e ∙ same

stopped_turn : (turn : Turn) (turns : List Turn) → Works turns → HasStopped turns → HasStopped (turn ∷ turns)
stopped_turn turn turns works stopped from to left tree failed safe (one, rest) (like, few) cleanly stop = by_op (is_remount turn.op) refl
  where
    Here : Type 0
    Here = IsSurvivedWith (IsAsFailed from (turn ∷ turns) to tree) (NoRemount (turn ∷ turns)) left

    first : AllCallsSince IsAny from.calls turn.to.calls
    first = turn_since turn.reply turn.op from turn.to one.ends

    second : AllCallsSince IsAny turn.to.calls to.calls
    second = life_since turns turn.to to rest

    cleanly_later : AllCallsSince ErasesCleanly turn.to.calls to.calls
    cleanly_later = AllCallsSince-behind cleanly first second

    cut_later : (disk : Disk) (t : Tree) → turn.to.disk ≡ from.disk → IsAsFailed turn.to turns to tree disk t → IsAsFailed from (turn ∷ turns) to tree disk t
    cut_later disk t d (inl h) = inl (h.0 ∙ d, h.1)
    cut_later disk t d (inr h) = inr (later from to turn turns disk t one h)

    -- the session is still failed
    goes_on : turn.to.disk ≡ from.disk → turn.to.state ≡ HasFailed → (p : IsInLater (is_remount turn.op ≡ false) turn.to to left) → Here
    goes_on d state p =
        let r = stopped turn.to to (disk_with_order p.order left) tree state (subst (KeepsTree tree) (sym d) safe) rest few cleanly_later p.stop in
        record { order = r.order; stays = λ none. r.stays none.1 ∙ p.kept none.0; tree = r.tree; cut = cut_later (disk_with_order r.order left) r.tree d r.cut; safe = r.safe }

    -- the session works again
    begins_again : turn.to.disk ≡ disk_with_order turn.to.disk.order from.disk → IsJustMounted turn.to.disk turn.to → (p : IsInLater (is_remount turn.op ≡ false) turn.to to left) → Here
    begins_again d mounts p =
        let may = start_may tree from.disk.order from.disk turn.to safe d mounts in
        let r = works turn.to to (disk_with_order p.order left) rest few (record { agrees = may.0; profile = may.1; cleanly = cleanly_later }) p.stop in
        record { order = r.order; stays = λ none. r.stays none.1 ∙ p.kept none.0; tree = r.tree; cut = inr (later from to turn turns (disk_with_order r.order left) r.tree one r.cut); safe = r.safe }

    in_remount : is_remount turn.op ≡ true → disk_with_order from.disk.order left ≡ from.disk → Here
    in_remount is e = record { order = from.disk.order; stays = λ none. absurd (let k = sym is ∙ none.0 in cc); tree = tree; cut = inl (e, refl); safe = subst (KeepsTree tree) (sym e) safe }

    by_part : is_remount turn.op ≡ true → (reply : Option Reply) → EndsWith reply from turn.op turn.to → LeftBetween from turn.to left ⊎ IsInLater (is_remount turn.op ≡ false) turn.to to left → Here
    by_part is None ends (inl h) = in_remount is (left_by_reads from turn.to left (record { events = ends.calls; extends = ends.called; each = ends.reads is }) (ap (disk_with_order from.disk.order) (ends.remounted is).0) h)
    by_part is None ends (inr p) = goes_on (ends.remounted is).0 ends.failed p
    by_part is (Some reply) ends (inl h) = in_remount is (left_by_reads from turn.to left (record { events = ends.calls; extends = ends.called; each = (ends.remounted is).reads }) (ap (disk_with_order from.disk.order) (ends.remounted is).untouched.0) h)
    by_part is (Some reply) ends (inr p) = begins_again (ends.remounted is).untouched.0 (remounted from turn.to turn.op reply is ends) p

    shape : (reply : Option Reply) → EndsWith reply from turn.op turn.to → SameGeometry (disk_with_order turn.to.disk.order from.disk) turn.to.disk
    shape None ends = shape_in_order false from.disk turn.to.disk ends.geometry
    shape (Some reply) ends = shape_in_order (is_remount turn.op) from.disk turn.to.disk ends.geometry

    by_op : (b : Bool) → is_remount turn.op ≡ b → Here
    by_op true is = by_part is turn.reply one.ends (split (is_remount turn.op ≡ false) from turn.to to left first second (shape turn.reply one.ends) (λ other. absurd (let k = sym is ∙ other in cc)) stop)
    by_op false other =
        let q = quiet turn.reply turn.op from turn.to failed other one.ends in
        goes_on q.disk q.state (record { order = left.order; kept = λ same. refl; stop = left_by_same from turn.to to left q stop })

-- ---- the life

record Both (turns : List Turn) : Type 0 where
  works : Works turns
  stopped : HasStopped turns

both : (turns : List Turn) → Both turns
both [] = record { works = works_none; stopped = stopped_none }
both (turn ∷ turns) = let rest = both turns in record { works = works_turn turn turns rest.works rest.stopped; stopped = stopped_turn turn turns rest.works rest.stopped }

pub life_survives : (from : SystemState) (turns : List Turn) (to : SystemState) (left : Disk) → IsLife from turns to → FailLikeLossBeforeLast from turns → MeetsCrashSafetyPremises from to → LeftBetween from to left → SurvivesLossInLife from turns to left
life_survives from turns to left lived few may stop =
    let s = (both turns).works from to left lived few may stop in
    record { order = s.order; stays = λ none. s.stays (recursion_from_All (λ turn. is_remount turn.op ≡ false) turns none); tree = s.tree; cut = s.cut; safe = s.safe }

-- ---- any number of losses

pub again_survived : (order : NameOrder) (disk : Disk) (tree : Tree) (lefts : List Disk) → KeepsTree tree (disk_with_order order disk) → (losses : LeftByLosses disk lefts) → SurvivesLosses disk lefts losses
again_survived order disk tree [] safe losses = tt
again_survived order disk tree (left ∷ others) safe (o, more) = (one, again_survived one.order left one.tree others one.safe more)
  where
    one : SurvivesLossInLife o.begin o.turns o.to left
    one =
        let may = start_may tree order disk o.begin safe o.same o.mounts in
        life_survives o.begin o.turns o.to left o.lived o.failed (record { agrees = may.0; profile = may.1; cleanly = o.cleanly }) o.stop

pub life_is_safe : (from : SystemState) (turns : List Turn) (to : SystemState) → IsLife from turns to → FailLikeLossBeforeLast from turns → MeetsCrashSafetyPremises from to → CrashSafe from turns to
life_is_safe from turns to lived few may = record {
  lived = lived;
  once = λ left stop. life_survives from turns to left lived few may stop;
  again = λ left lefts stop losses. let k = life_survives from turns to left lived few may stop in again_survived k.order left k.tree lefts k.safe losses;
}
