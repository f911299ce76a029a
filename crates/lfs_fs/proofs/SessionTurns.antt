-- Calls and runs of a session as turns of its life.
use Rattle.std.proofs.Common.{◌≡◌, ◌∙◌, ◌++◌, List, [], ◌∷◌, Option, None, Result, Ok, Err, inl, refl}
use Rattle.lfs_device.specs.declared.error.Error.{Error}
use Rattle.lfs_fs.proofs.Common.{Blocks, Disk, CallEvent, IsRead, Operation, SystemState, IsCall, SessionView, StepsOrFails, system_state}
use Rattle.lfs_model.specs.session.Operations as ops
use Rattle.lfs_model.specs.crash.Performed.{IsPerformed, IsRun}
use Rattle.lfs_model.specs.crash.Lives.{Turn, EndsWith, IsTurn, IsLife}
use Rattle.lfs_model.specs.crash.RepeatedPowerLoss.{LeftInCall, MeetsCrashSafetyPremises}
use Rattle.lfs_model.specs.crash.ReadBounds.{accepted_operation}
use Rattle.lfs_model.specs.crash.LifeTrees.{HasWritableDiskTree}
use Rattle.lfs_model.proofs.Histories.{AllCallsSince-weaker, LeftByLoss-read}
use Rattle.lfs_model.proofs.Survived.{stopped_has}
use Rattle.lfs_model.proofs.JoinedLives.{lives_joined}
use Rattle.lfs_model.proofs.LivesSurvived.{life_is_safe}
use Rattle.lfs_model.proofs.RunTurns.{none_inside, run_in_turns}
use Rattle.lfs_model.proofs.SessionSteps.{tree_step}
use Rattle.lfs_fs.specs.ReadOnly.{IsWritableSession}
use Rattle.lfs_fs.specs.SessionView.{BeginsByMount}
use Rattle.lfs_fs.specs.Turns.{IsCrashSafeRun, reply_if_ok, turn_of}
use Rattle.lfs_fs.proofs.Running.{call_performed, warm_behind}

call_ends : (old : SessionView) (op : Operation) (r : Result ops.Reply Error) (new : SessionView) → StepsOrFails old op r new → EndsWith (reply_if_ok r) (system_state old) op (system_state new)
call_ends old op (Ok reply) new step = tree_step (system_state old) (system_state new) op reply step
call_ends old op (Err e) new fails = fails.fails

pub call_turn : (old : SessionView) (op : Operation) (r : Result ops.Reply Error) (new : SessionView) → IsCall old op r new → IsTurn (system_state old) (turn_of op r (system_state new))
call_turn old op r new call = record { ends = call_ends old op r new call.answers; survives_loss = call.survives_loss }

pub call_further : (from : SystemState) (turns : List Turn) (a b : SessionView) (op : Operation) (r : Result ops.Reply Error) → IsLife from turns (system_state a) → IsCall a op r b → IsLife from (turns ++ turn_of op r (system_state b) ∷ []) (system_state b)
call_further from turns a b op r lived call = lives_joined turns (turn_of op r (system_state b) ∷ []) from (system_state a) (system_state b) lived (call_turn a op r b call, refl)

-- ---- runs

pub run_is_safe : (from : SystemState) (operations : List Operation) (to : SystemState) → IsRun from operations to → MeetsCrashSafetyPremises from to → IsCrashSafeRun from operations to
run_is_safe from operations to run may =
    let r = run_in_turns from operations to run in
    record { turns = r.0; run = r.1; safe = life_is_safe from r.0 to r.1.lived (none_inside from r.0 r.1.ends) may }

-- a call alone, and a call behind another
pub first_performed : (old : SessionView) (op : Operation) (reply : ops.Reply) (new : SessionView) → IsCall old op (Ok reply) new → IsPerformed None (system_state old) op reply (system_state new)
first_performed old op reply new call = call_performed None old op reply new tt call

pub next_performed : (a b c : SessionView) (op next : Operation) (reply answer : ops.Reply) → IsCall a op (Ok reply) b → IsCall b next (Ok answer) c → IsPerformed (accepted_operation op reply) (system_state b) next answer (system_state c)
next_performed a b c op next reply answer first second = call_performed (accepted_operation op reply) b next answer c (warm_behind a op reply b first) second

-- ---- where lives begin

-- a mount only reads, so a stop in it leaves the disk as it was
pub stopped_mount : (disk : Disk) (history : List CallEvent) (h : SessionView) (blocks : Blocks) → BeginsByMount disk history h → LeftInCall history h.tree.history blocks → blocks ≡ disk.blocks
stopped_mount disk history h blocks begins since =
    stopped_has (λ bs. bs ≡ disk.blocks) history h.tree.history blocks (AllCallsSince-weaker (λ e (r : IsRead disk.blocks e) left l. LeftByLoss-read e left r.reads l ∙ r.before) begins.reads) since

pub writable_may : (h : SessionView) → IsWritableSession h → HasWritableDiskTree (system_state h)
writable_may h may = record { agrees = may.agrees; profile = may.profile }
