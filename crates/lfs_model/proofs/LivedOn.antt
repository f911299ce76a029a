-- What a life makes of a session.
use Rattle.std.proofs.Common.{◌≡◌, true, false, ◌&&◌, List, [], ◌∷◌, Option, Some, None, is_some, refl, sym, ap, subst, ◌∙◌}
use Rattle.lfs_model.proofs.Common.{Disk, Pair, IsWritable, AllCallsSince, Operation, Reply, Session, DiskSummary, Healthy, IsRecovered, SystemState, HealthyHasDiskTree, EffectRelation, IsStepWith, HasDiskTree, and_parts}
use Rattle.lfs_model.specs.session.Headline.{IsRecoveredDisk, session_after}
use Rattle.lfs_model.proofs.Histories.{began, goes_on_by}
use Rattle.lfs_model.proofs.Performing.{IsAny, calls_since}
use Rattle.lfs_model.proofs.SessionSteps.{IsHealthy, session_step_is_healthy, true_from, question_answered, reader_answered}
use Rattle.lfs_model.proofs.Kept.{ArePairs, StaysCarried, defined_next, turn_keeps, profile_stays}
use Rattle.lfs_model.specs.crash.Lives.{Turn, EndsWith, IsLife, all_answered}
use Rattle.lfs_model.specs.crash.LifeHeadline.{session_after_turn, session_after_turns, AnswersAsDisk, AreAnswers, IsExpectedReply, LifeMatchesDisk, WorksAllAlong}

-- ---- one turn

pub turn_agrees : (reply : Option Reply) (op : Operation) (from to : SystemState) → EndsWith reply from op to → HealthyHasDiskTree to.disk to.state
turn_agrees None op from to fails = subst (HealthyHasDiskTree to.disk) (sym fails.failed) tt
turn_agrees (Some reply) op from to step = step.agrees

pub turn_since : (reply : Option Reply) (op : Operation) (from to : SystemState) → EndsWith reply from op to → AllCallsSince IsAny from.calls to.calls
turn_since None op from to fails = calls_since from.calls to.calls fails.calls fails.called
turn_since (Some reply) op from to step = calls_since from.calls to.calls step.calls step.called

turn_answer : (reply : Option Reply) (op : Operation) (from to : SystemState) → EndsWith reply from op to → IsExpectedReply reply from op to
turn_answer None op from to fails = fails.failed
turn_answer (Some reply) op from to step = step.answered

-- what an answered one defines
pub step_defined : {E : EffectRelation} (around : DiskSummary) (op : Operation) (reply : Reply) (from to : SystemState) (s : Session) → from.state ≡ Healthy s → HealthyHasDiskTree from.disk from.state → IsStepWith E from op reply to → to.state ≡ Healthy (session_after around s op reply)
step_defined around op reply from to s healthy agrees step = defined_next around from to op reply s healthy agrees step

-- ---- a life

pub life_since : (turns : List Turn) (from to : SystemState) → IsLife from turns to → AllCallsSince IsAny from.calls to.calls
life_since [] from to same = subst (λ (m : SystemState). AllCallsSince IsAny from.calls m.calls) same began
life_since (turn ∷ turns) from to (one, rest) = goes_on_by (turn_since turn.reply turn.op from turn.to one.ends) (life_since turns turn.to to rest)

pub life_agrees : (turns : List Turn) (from to : SystemState) → IsLife from turns to → HealthyHasDiskTree from.disk from.state → HealthyHasDiskTree to.disk to.state
life_agrees [] from to same agrees = subst (λ (m : SystemState). HealthyHasDiskTree m.disk m.state) same agrees
life_agrees (turn ∷ turns) from to (one, rest) agrees = life_agrees turns turn.to to rest (turn_agrees turn.reply turn.op from turn.to one.ends)

pub life_answers : (turns : List Turn) (from to : SystemState) → IsLife from turns to → AreAnswers from turns to
life_answers [] from to same = same
life_answers (turn ∷ turns) from to (one, rest) = (turn_answer turn.reply turn.op from turn.to one.ends, life_answers turns turn.to to rest)

-- where all turns were answered
pub life_defined : (around : DiskSummary) (turns : List Turn) (from to : SystemState) (s : Session) → all_answered turns ≡ true → from.state ≡ Healthy s → HealthyHasDiskTree from.disk from.state → IsLife from turns to →
    to.state ≡ Healthy (session_after_turns around s turns)
life_defined around [] from to s all healthy agrees same = sym (ap (λ (m : SystemState). m.state) same) ∙ healthy
life_defined around (turn ∷ turns) from to s all healthy agrees (one, rest) =
    go turn.reply refl one.ends (λ healthy agrees. life_defined around turns turn.to to (session_after_turn around s turn) (and_parts _ _ all).1 healthy agrees rest)
  where
    go : (reply : Option Reply) → turn.reply ≡ reply → EndsWith reply from turn.op turn.to
        → (turn.to.state ≡ Healthy (session_after_turn around s turn) → HealthyHasDiskTree turn.to.disk turn.to.state → to.state ≡ Healthy (session_after_turns around (session_after_turn around s turn) turns))
        → to.state ≡ Healthy (session_after_turns around (session_after_turn around s turn) turns)
    go None is fails later = absurd (let k : false ≡ true = sym (ap (λ r. is_some r && all_answered turns) is) ∙ all in cc)
    go (Some reply) is step later = later
        (step_defined around turn.op reply from turn.to s healthy agrees step ∙ ap (λ (r : Option Reply). Healthy (session_after_turn around s (record { op = turn.op; reply = r; to = turn.to }))) (sym is))
        step.agrees

pub life_keeps : (Q : Disk → List Pair → Type 0) → StaysCarried Q → (turns : List Turn) (from to : SystemState) → all_answered turns ≡ true → IsLife from turns to → IsHealthy from.state → ArePairs Q from.disk → ArePairs Q to.disk
life_keeps Q carries [] from to all same healthy q = subst (λ (m : SystemState). ArePairs Q m.disk) same q
life_keeps Q carries (turn ∷ turns) from to all (one, rest) healthy q =
    go turn.reply refl one.ends (λ healthy q. life_keeps Q carries turns turn.to to (and_parts _ _ all).1 rest healthy q)
  where
    go : (reply : Option Reply) → turn.reply ≡ reply → EndsWith reply from turn.op turn.to → (IsHealthy turn.to.state → ArePairs Q turn.to.disk → ArePairs Q to.disk) → ArePairs Q to.disk
    go None is fails later = absurd (let k : false ≡ true = sym (ap (λ r. is_some r && all_answered turns) is) ∙ all in cc)
    go (Some reply) is step later = later (session_step_is_healthy from turn.to turn.op reply step healthy) (turn_keeps Q carries from turn.to turn.op reply step healthy q)

-- ---- the headline

pub answers_as_disk : (at : SystemState) → HasDiskTree at → AnswersAsDisk at
answers_as_disk at here = record {
  shows = here;
  questions = λ to op reply asks step. question_answered at to op reply here asks step;
  readers = λ to fd count reply step. reader_answered at to fd count reply here step;
}

abbrev WritableRecovered : Disk → List Pair → Type 0
WritableRecovered disk ps = IsWritable disk ps × IsRecovered ps

pub life_matches : (from : SystemState) (turns : List Turn) (at : SystemState) → HealthyHasDiskTree from.disk from.state → IsLife from turns at → LifeMatchesDisk from turns at
life_matches from turns at agrees lived = record {
  answers = life_answers turns from at lived;
  works = λ s works. answers_as_disk at (true_from at (subst IsHealthy (sym works) tt) (life_agrees turns from at lived agrees));
  defined = λ s w around. life_defined around turns from at s w.answered w.begins agrees lived;
  profile = λ s w was. life_keeps IsWritable profile_stays turns from at w.answered lived (subst IsHealthy (sym w.begins) tt) was;
  settled = settled;
}
  where
    settled : (s : Session) → WorksAllAlong from turns s → IsRecoveredDisk from.disk → IsRecoveredDisk at.disk
    settled s w was =
        let end = life_keeps WritableRecovered (λ disk new ps qs s op calls k q. (k.profile q.0, k.stays q.1)) turns from at w.answered lived (subst IsHealthy (sym w.begins) tt) (was.pairs, (was.accepted, (was.writable, was.recovered))) in
        record { pairs = end.0; accepted = end.1.0; writable = end.1.1.0; recovered = end.1.1.1 }
