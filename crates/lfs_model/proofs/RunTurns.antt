-- Runs as lives, and what the turns that were answered leave open.
use Rattle.std.proofs.Common.{◌≡◌, inl, inr, true, false, ◌&&◌, ◌||◌, map, List, [], ◌∷◌, ◌++◌, Option, Some, None, is_some, refl, sym, ap, ◌∙◌, append_assoc, append-nil}
use Rattle.std.proofs.lemmas.List.{map-append}
use Rattle.lfs_model.proofs.Common.{Operation, Reply, SystemState, ArePerformed, IsRun, accepted_operation, and_parts}
use Rattle.lfs_model.specs.crash.Lives.{Turn, IsTurn, FailLikeLossBeforeLast, IsLifeOfRun, IsRunInTurns, answered, failed, all_answered, only_last_may_fail, is_last}
use Rattle.lfs_model.proofs.JoinedLives.{lives_joined}
use Rattle.lfs_model.proofs.SessionSteps.{tree_step}

record IsAnsweredRun (from : SystemState) (operations : List Operation) (replies : List Reply) (to : SystemState) : Type 0 where
  run : IsLifeOfRun from operations replies to
  all : all_answered run.turns ≡ true

in_turns : (before : Option Operation) (operations : List Operation) (replies : List Reply) (from to : SystemState) → ArePerformed before from operations replies to → IsAnsweredRun from operations replies to
in_turns before [] [] from to same = record { run = record { turns = []; lived = same; did = refl; replied = refl }; all = refl }
in_turns before [] (reply ∷ replies) from to h = absurd h
in_turns before (op ∷ operations) [] from to h = absurd h
in_turns before (op ∷ operations) (reply ∷ replies) from to (next, (one, others)) =
    let rest = in_turns (accepted_operation op reply) operations replies next to others in
    record {
      run = record {
        turns = answered op reply next ∷ rest.run.turns;
        lived = (record { ends = tree_step from next op reply one.turn; survives_loss = one.survives_loss }, rest.run.lived);
        did = ap (λ (ops : List Operation). op ∷ ops) rest.run.did;
        replied = ap (λ (rs : List (Option Reply)). Some reply ∷ rs) rest.run.replied;
      };
      all = rest.all;
    }

pub performed_lived : (before : Option Operation) (operations : List Operation) (replies : List Reply) (from to : SystemState) → ArePerformed before from operations replies to → IsLifeOfRun from operations replies to
performed_lived before operations replies from to h = (in_turns before operations replies from to h).run

-- ---- where errors ended turns

-- a turn that an error ended is the last one
pub only : (turns : List Turn) (r : Option Reply) → r ≡ None → ((is_some r || is_last turns) && only_last_may_fail turns) ≡ true → turns ≡ []
only [] r is last = refl
only (turn ∷ turns) r is last = absurd (let k : false ≡ true = sym (ap (λ r. (is_some r || false) && only_last_may_fail (turn ∷ turns)) is) ∙ last in cc)

-- so of those inside nothing is to be supposed
pub none_inside : (from : SystemState) (turns : List Turn) → only_last_may_fail turns ≡ true → FailLikeLossBeforeLast from turns
none_inside from [] last = tt
none_inside from (turn ∷ turns) last = ((λ is some. absurd (some (only turns turn.reply is last))), none_inside turn.to turns (and_parts _ _ last).1)

pub answered_last : (turns : List Turn) → all_answered turns ≡ true → only_last_may_fail turns ≡ true
answered_last [] all = refl
answered_last (turn ∷ turns) all =
    let both = and_parts _ _ all in
    ap (λ b. (b || is_last turns) && only_last_may_fail turns) both.0 ∙ answered_last turns both.1

-- ---- a run, also one that an error ends

abbrev op_of : Turn → Operation
op_of turn = turn.op

ends_last : (turns : List Turn) (op : Operation) (to : SystemState) → all_answered turns ≡ true → only_last_may_fail (turns ++ failed op to ∷ []) ≡ true
ends_last [] op to all = refl
ends_last (turn ∷ turns) op to all =
    let both = and_parts _ _ all in
    ap (λ b. (b || is_last (turns ++ failed op to ∷ [])) && only_last_may_fail (turns ++ failed op to ∷ [])) both.0 ∙ ends_last turns op to both.1

never_all : (turns : List Turn) (op : Operation) (to : SystemState) → all_answered (turns ++ failed op to ∷ []) ≡ true → ⊥
never_all [] op to all = absurd (cc)
never_all (turn ∷ turns) op to all = never_all turns op to (and_parts _ _ all).1

pub run_in_turns : (from : SystemState) (operations : List Operation) (to : SystemState) → IsRun from operations to → (turns : List Turn) × IsRunInTurns from operations turns to
run_in_turns from operations to (inl (replies, h)) =
    let r = in_turns None operations replies from to h in
    (r.run.turns, record { lived = r.run.lived; ends = answered_last r.run.turns r.all; others = []; did = sym r.run.did ∙ sym (append-nil (map op_of r.run.turns)); whole = λ all. refl })
run_in_turns from operations to (inr short) =
    let r = in_turns None short.done short.replies from short.at short.performed in
    let cut : IsTurn short.at (failed short.next to) = record { ends = short.fails; survives_loss = short.survives_loss } in (
      r.run.turns ++ failed short.next to ∷ [],
      record {
        lived = lives_joined r.run.turns (failed short.next to ∷ []) from short.at to r.run.lived (cut, refl);
        ends = ends_last r.run.turns short.next to r.all;
        others = short.others;
        did = short.are ∙ ap (λ (ops : List Operation). ops ++ short.next ∷ short.others) (sym r.run.did) ∙ sym (append_assoc (map op_of r.run.turns) (short.next ∷ []) short.others)
            ∙ ap (λ (ops : List Operation). ops ++ short.others) (sym (map-append op_of r.run.turns (failed short.next to ∷ [])));
        whole = λ all. absurd (never_all r.run.turns short.next to all);
      },
    )
