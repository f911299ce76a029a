-- The calls of a device that are planned to fail, and how much of each is done before it fails.
use Rattle.std.specs.Prelude.{ℕ, ◌+◌, Bool, true, false, not, ◌&&◌, ◌||◌, ◌==◌, nat_le, nat_lt, if◌then◌else◌, Option, Some, None, is_some, List, [], ◌∷◌}
use Rattle.lfs_device.specs.declared.fault.CountedCalls.{CountedCalls}
use Rattle.lfs_device.specs.declared.fault.CountedCalls.TheVariants.{Any, Read, Program, Erase}
use Rattle.lfs_device.specs.declared.fault.FaultExtent.{FaultExtent}
use Rattle.lfs_device.specs.declared.fault.FaultExtent.TheVariants.{Nothing, FirstBytes, AllButFirst, Whole}
use Rattle.lfs_device.specs.declared.fault.PlannedFault.{PlannedFault}
use Rattle.lfs_model.specs.session.History.DeviceCall.{Read as Read', Program as Program', Erase as Erase', Blank as Blank'}
use Rattle.lfs_model.specs.session.History.{DeviceCall, CallEvent, read_count, program_count, erase_count}

-- The number of calls so far that a planned fault counts.
abbrev pub call_count : CountedCalls → List CallEvent → ℕ
call_count Any history = read_count history + program_count history + erase_count history
call_count Read history = read_count history
call_count Program history = program_count history
call_count Erase history = erase_count history

-- Whether a planned fault counts the call. A blank check is never counted.
abbrev pub is_counted : CountedCalls → DeviceCall → Bool
is_counted Any (Blank' block off len) = false
is_counted Any call = true
is_counted Read (Read' block off len) = true
is_counted Program (Program' block off bytes) = true
is_counted Erase (Erase' block) = true
is_counted which call = false

-- Whether block `b` is the bad block, which can't be written.
abbrev pub is_bad_block : Option ℕ → ℕ → Bool
is_bad_block None b = false
is_bad_block (Some bad) b = bad == b

-- Whether the call is an erase or a program of the bad block.
abbrev pub is_bad_call : Option ℕ → DeviceCall → Bool
is_bad_call bad (Program' block off bytes) = is_bad_block bad block
is_bad_call bad (Erase' block) = is_bad_block bad block
is_bad_call bad call = false

-- Whether the call is counted, and is the one planned to fail by its number.
abbrev pub is_nth_call : Bool → CountedCalls → ℕ → List CallEvent → Bool
is_nth_call counted which nth older = counted && call_count which older + 1 == nth

-- Whether the planned call is past, and every later call fails too.
abbrev pub has_stopped : CountedCalls → ℕ → Bool → List CallEvent → Bool
has_stopped which nth stops older = stops && nat_lt 0 nth && nat_le nth (call_count which older)

-- How much is done of a call that fails by its number, or None if it isn't due to fail by its
-- number.
abbrev pub nth_call_extent : PlannedFault → Bool → List CallEvent → Option FaultExtent
nth_call_extent fault counted older =
    if is_nth_call counted fault.which fault.nth older then Some fault.extent else
    (if has_stopped fault.which fault.nth fault.stops older then Some Nothing else None)

-- The extent of a call that fails by its number. For any other call it is Nothing if the call
-- writes the bad block, and None if it doesn't.
abbrev pub extent_with_bad_block : Bool → Option FaultExtent → Option FaultExtent
extent_with_bad_block bad (Some extent) = Some extent
extent_with_bad_block bad None = if bad then Some Nothing else None

-- How much is done of the call before it fails, or None if it isn't due to fail.
abbrev pub extent_if_planned : PlannedFault → DeviceCall → List CallEvent → Option FaultExtent
extent_if_planned fault call older = extent_with_bad_block (is_bad_call fault.bad_block call) (nth_call_extent fault (is_counted fault.which call) older)

-- Whether the next call is due to fail.
abbrev pub is_to_fail : PlannedFault → DeviceCall → List CallEvent → Bool
is_to_fail fault call older = is_some (extent_if_planned fault call older)

-- Whether the call is done in part.
abbrev pub is_partial_extent : FaultExtent → Bool
is_partial_extent Nothing = false
is_partial_extent (FirstBytes k) = true
is_partial_extent (AllButFirst k) = true
is_partial_extent Whole = false

-- Whether every call that was due to fail failed.
abbrev pub planned_calls_failed : PlannedFault → List CallEvent → Bool
planned_calls_failed fault [] = true
planned_calls_failed fault (e ∷ older) = (not (is_to_fail fault e.call older) || e.failed) && planned_calls_failed fault older

-- The number of calls that failed without being due to.
abbrev pub unplanned_faults : PlannedFault → List CallEvent → ℕ
unplanned_faults fault [] = 0
unplanned_faults fault (e ∷ older) = unplanned_faults fault older + (if e.failed && not (is_to_fail fault e.call older) then 1 else 0)
