-- What is supposed of a device's calls: one call more, and the calls since some older history.
use Rattle.std.proofs.Common.{◌≡◌, Bool, true, false, List, [], ◌∷◌, ◌++◌, sym, subst, refl}
use Rattle.lfs_model.proofs.Common.{All-head, Blocks, DeviceCall, Read, Program, Erase, Blank, CallEvent, call_event, AllCalls, AllCallsSince, CallConforms, CallsConform, power_loss_may_leave, erases_cleanly, MeetsPowerLossPremises}
use Rattle.lfs_model.proofs.Conformance.{conforming_stops}
use Rattle.lfs_model.proofs.Stopped.{stops_before}

-- one call meets them
pub record Meets (call : DeviceCall) (has_failed : Bool) (before after : Blocks) : Type 0 where
  pub erases : erases_cleanly call has_failed before after
  pub failed : has_failed ≡ true → power_loss_may_leave call before after

pub premises_begin : MeetsPowerLossPremises []
premises_begin = record { erases = tt; failed = tt }

pub premises_next : {call : DeviceCall} {failed : Bool} {before after : Blocks} {older later : List CallEvent} → later ≡ call_event call before after failed ∷ older
    → Meets call failed before after → MeetsPowerLossPremises older → MeetsPowerLossPremises later
premises_next is here so_far = subst MeetsPowerLossPremises (sym is) (record { erases = (here.erases, so_far.erases); failed = (here.failed, so_far.failed) })

-- the newest call of such a history
pub premises_newest : {call : DeviceCall} {failed : Bool} {before after : Blocks} {older later : List CallEvent} → later ≡ call_event call before after failed ∷ older
    → MeetsPowerLossPremises later → Meets call failed before after
premises_newest is all = let both = subst MeetsPowerLossPremises is all in record { erases = both.erases.0; failed = both.failed.0 }

-- a call that failed with nothing done
pub meets_nothing : (call : DeviceCall) (blocks : Blocks) → Meets call true blocks blocks
meets_nothing call blocks = record { erases = cleanly call; failed = λ is. stops_before call blocks }
  where
    cleanly : (call : DeviceCall) → erases_cleanly call true blocks blocks
    cleanly (Read block off len) = tt
    cleanly (Program block off bytes) = tt
    cleanly (Erase block) = tt
    cleanly (Blank block off len) = tt

-- a call that failed with all done
pub meets_whole : {call : DeviceCall} {before after : Blocks} {older later : List CallEvent} → later ≡ call_event call before after false ∷ older → CallsConform later → MeetsPowerLossPremises later
    → Meets call true before after
meets_whole {call} {before} {after} {older} is conforms all =
    let done = All-head CallConforms (call_event call before after false) older (subst CallsConform is conforms) in
    record { erases = cleanly call; failed = λ failed. conforming_stops (call_event call before after false) done refl (premises_newest is all).erases }
  where
    cleanly : (call : DeviceCall) → erases_cleanly call true before after
    cleanly (Read block off len) = tt
    cleanly (Program block off bytes) = tt
    cleanly (Erase block) = tt
    cleanly (Blank block off len) = tt

part : (P : CallEvent → Type 0) (events old : List CallEvent) → AllCalls P (events ++ old) → AllCalls P events
part P [] old all = tt
part P (e ∷ events) old all = (all.0, part P events old all.1)

-- what is so of each call is so of those since some older history
pub since_of_each : {P : CallEvent → Type 0} {old new : List CallEvent} (events : List CallEvent) → new ≡ events ++ old → AllCalls P new → AllCallsSince P old new
since_of_each {P} {old} events is all = record { events = events; extends = is; each = part P events old (subst (AllCalls P) is all) }
