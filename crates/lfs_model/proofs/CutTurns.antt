-- A loss of power in the first turn of a life, and in a later one.
use Rattle.std.proofs.Common.{◌≡◌, inl, inr, false, List, [], ◌∷◌, refl, sym, ap, subst, ◌∙◌}
use Rattle.std.specs.Prelude.{Any}
use Rattle.lfs_model.proofs.Common.{append_cancel_right, Blocks, Disk, disk_with_order, Tree, IsWritable, IsWritableDisk, disk_tree, Reply, is_remount, SystemState, IsTreeStep, HasDiskTree, LeftByLoss, ErasesCleanly, with_blocks, KeepsTree, AllCallsSince}
use Rattle.lfs_model.proofs.Counts.{Each}
use Rattle.lfs_model.specs.declared.order.NameOrder.{NameOrder}
use Rattle.lfs_model.specs.crash.Lives.{Turn, IsTurn, IsLife}
use Rattle.lfs_model.specs.crash.RepeatedPowerLoss.{LeftInCall, LeftBetween, LossInLife, MeetsCrashSafetyPremises}
use Rattle.lfs_model.proofs.Histories.{AllCallsSince-until, AllCallsSince-behind}
use Rattle.lfs_model.proofs.Sites.{among_from}
use Rattle.lfs_model.proofs.SessionSteps.{IsHealthy, true_from, session_step_is_healthy}
use Rattle.lfs_model.proofs.Kept.{one_tree, turn_keeps, profile_stays}
use Rattle.lfs_model.proofs.Performing.{IsAny}
use Rattle.lfs_model.proofs.Survived.{IsEither, IsSurvivedWith, around_of, at_work, either_part, order_stays, safe_with, same_blocks, shape_in_order, stop_leaves}
use Rattle.lfs_model.proofs.LivedOn.{turn_since, life_since}

abbrev pub NoRemount : List Turn → Type 0
NoRemount turns = Each (λ turn. is_remount turn.op ≡ false) turns

-- in the first turn
pub in_first : (from to : SystemState) (turn : Turn) (turns : List Turn) (left : Disk) → IsTurn from turn → IsLife turn.to turns to → HasDiskTree from → IsWritableDisk from.disk →
    AllCallsSince ErasesCleanly from.calls turn.to.calls → LeftBetween from turn.to left → IsSurvivedWith (LossInLife from (turn ∷ turns) to) (NoRemount (turn ∷ turns)) left
in_first from to turn turns left one rest agrees profile cleanly stop =
    let work = at_work from agrees profile in
    let k = stop_leaves from turn.to turn.op agrees.session profile.0 (around_of from.disk profile.0) left agrees work one.survives_loss cleanly stop in
    record {
      order = left.order;
      stays = λ none. refl;
      tree = disk_tree left k.pairs;
      cut = inl (record {
        done = [];
        cut = turn;
        others = turns;
        are = refl;
        at = from;
        lived = refl;
        turn = one;
        loss = record { stop = stop; session = agrees.session; pairs = profile.0; around = around_of from.disk profile.0; work = work; either = k.tree };
      });
      safe = safe_with left k.pairs k.accepted k.writable;
    }

-- before any turn
pub in_none : (from to : SystemState) (left : Disk) → from ≡ to → HasDiskTree from → IsWritableDisk from.disk → LeftBetween from to left → IsSurvivedWith (LossInLife from [] to) (NoRemount []) left
in_none from to left same agrees profile stop =
    let work = at_work from agrees profile in
    let k = still stop in
    record {
      order = left.order;
      stays = λ none. refl;
      tree = agrees.session.tree;
      cut = inr (record { stays = k ∙ ap (λ (m : SystemState). m.disk) same; session = agrees.session; healthy = sym (ap (λ (m : SystemState). m.state) same) ∙ agrees.healthy; is = refl });
      safe = subst (λ d. KeepsTree agrees.session.tree d) (sym k)
          (subst (λ t. KeepsTree t from.disk) (one_tree from.disk (disk_tree from.disk profile.0) agrees.session.tree (profile.0, (profile.1.0, refl)) agrees.shows) (safe_with from.disk profile.0 profile.1.0 profile.1.1));
    }
  where
    none_called : (blocks : Blocks) → LeftInCall from.calls to.calls blocks → ⊥
    none_called blocks since =
        among_from (λ e. LeftByLoss e blocks) [] (subst (λ es. Any (λ e. LeftByLoss e blocks) es)
        (append_cancel_right since.events [] from.calls (sym since.extends ∙ sym (ap (λ (m : SystemState). m.calls) same))) since.stopped)

    still : LeftBetween from to left → left ≡ from.disk
    still (inl e) = e
    still (inr (inl (blocks, (e, since)))) = absurd (none_called blocks since)
    still (inr (inr (e, fails))) = e ∙ sym (ap (λ (m : SystemState). m.disk) same)

-- one more turn in front of a life in which power was lost
pub later : (from to : SystemState) (turn : Turn) (turns : List Turn) (left : Disk) (tree : Tree) → IsTurn from turn → LossInLife turn.to turns to left tree → LossInLife from (turn ∷ turns) to left tree
later from to turn turns left tree one (inl h) = inl (record {
  done = turn ∷ h.done;
  cut = h.cut;
  others = h.others;
  are = ap (λ ts. turn ∷ ts) h.are;
  at = h.at;
  lived = (one, h.lived);
  turn = h.turn;
  loss = h.loss;
})
later from to turn turns left tree one (inr h) = inr h

-- an answered turn in front of others that are survived
pub further : (from to : SystemState) (turn : Turn) (turns : List Turn) (reply : Reply) (left : Disk) → IsTurn from turn → IsTreeStep from turn.op reply turn.to → IsLife turn.to turns to →
    (MeetsCrashSafetyPremises turn.to to → (left : Disk) → LeftBetween turn.to to left → IsSurvivedWith (LossInLife turn.to turns to) (NoRemount turns) left) → MeetsCrashSafetyPremises from to → LeftBetween from to left →
    IsSurvivedWith (LossInLife from (turn ∷ turns) to) (NoRemount (turn ∷ turns)) left
further from to turn turns reply left one step rest last may stop = go stop
  where
    Here : Type 0
    Here = IsSurvivedWith (LossInLife from (turn ∷ turns) to) (NoRemount (turn ∷ turns)) left

    first : AllCallsSince IsAny from.calls turn.to.calls
    first = turn_since turn.reply turn.op from turn.to one.ends

    second : AllCallsSince IsAny turn.to.calls to.calls
    second = life_since turns turn.to to rest

    healthy : IsHealthy from.state
    healthy = subst IsHealthy (sym may.agrees.healthy) tt

    may_later : MeetsCrashSafetyPremises turn.to to
    may_later = record {
      agrees = true_from turn.to (session_step_is_healthy from turn.to turn.op reply step healthy) step.agrees;
      profile = turn_keeps IsWritable profile_stays from turn.to turn.op reply step healthy may.profile;
      cleanly = AllCallsSince-behind may.cleanly first second;
    }

    here : LeftBetween from turn.to left → Here
    here k = in_first from to turn turns left one rest may.agrees may.profile (AllCallsSince-until may.cleanly first second) k

    -- with its names in the order that they have then
    there : (order : NameOrder) → (is_remount turn.op ≡ false → order ≡ left.order) → LeftBetween turn.to to (disk_with_order order left) → Here
    there order kept k =
        let s = last may_later (disk_with_order order left) k in
        record { order = s.order; stays = λ none. s.stays none.1 ∙ kept none.0; tree = s.tree; cut = later from to turn turns (disk_with_order s.order left) s.tree one s.cut; safe = s.safe }

    in_part : (blocks : Blocks) → left ≡ with_blocks blocks from.disk → IsEither from turn.to to blocks → Here
    in_part blocks e (inl k) = here (inr (inl (blocks, (e, k))))
    in_part blocks e (inr k) = there turn.to.disk.order
        (λ other. order_stays (is_remount turn.op) from.disk turn.to.disk step.geometry other ∙ sym (ap (λ (disk : Disk). disk.order) e))
        (inr (inl (
          blocks,
          (
            ap (disk_with_order turn.to.disk.order) e ∙ same_blocks (disk_with_order turn.to.disk.order from.disk) turn.to.disk blocks (shape_in_order (is_remount turn.op) from.disk turn.to.disk step.geometry),
            k,
          ),
        )))

    go : LeftBetween from to left → Here
    go (inl e) = here (inl e)
    go (inr (inl (blocks, (e, since)))) = in_part blocks e (either_part from turn.to to blocks first second since)
    go (inr (inr (e, fails))) = there left.order (λ other. refl) (inr (inr (e, AllCallsSince-behind fails first second)))
