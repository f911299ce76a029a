-- One more call of a device with a fault.
use Rattle.std.proofs.Common.{◌≡◌, ◌+◌, ◌≤◌, ℕ, arith, Bool, true, false, not, ◌&&◌, ◌||◌, ◌==◌, nat_le, nat_lt, length, cond, Option, Some, None, List, ◌∷◌, refl, sym, ◌∙◌, ap}
use Rattle.std.specs.Prelude.{is_some, is_err, OnOk, Result, Ok, Err}
use Rattle.lfs_device.specs.declared.device.BlockDevice.{Ghosts}
use Rattle.lfs_device.specs.declared.error.Error.{Error}
use Rattle.lfs_device.specs.declared.fault.FaultExtent.{FaultExtent}
use Rattle.lfs_device.specs.declared.fault.FaultExtent.TheVariants.{Nothing, FirstBytes, AllButFirst, Whole}
use Rattle.lfs_device.specs.declared.fault.PlannedFault.{PlannedFault}
use Rattle.lfs_model.specs.format.Blocks.{Blocks}
use Rattle.lfs_model.specs.session.History.{DeviceCall, Read, Program, Erase, Blank, CallEvent, call_event, fault_count, is_unprogrammed_byte, unprogrammed_after}
use Rattle.lfs_device.specs.Fault.{is_to_fail, extent_if_planned, planned_calls_failed, unplanned_faults}
use Rattle.lfs_device.specs.CallsBelow.{ForwardsUnlessFaulted}

fails_if_due : {D : Type 0} (g : Ghosts D) (o : Option FaultExtent) (call : DeviceCall) (failed : Bool) (old new : D) → ForwardsUnlessFaulted g o call failed old new → is_some o ≡ true → failed ≡ true
fails_if_due g None call failed old new carried is = absurd (cc)
fails_if_due g (Some Nothing) call failed old new carried is = carried.0
fails_if_due g (Some (FirstBytes k)) call failed old new carried is = carried.0
fails_if_due g (Some (AllButFirst k)) call failed old new carried is = carried.0
fails_if_due g (Some Whole) call failed old new carried is = carried.0

pub planned_calls_failed-call : {D : Type 0} {call : DeviceCall} {failed : Bool} {before after : Blocks} {older later : List CallEvent} (g : Ghosts D) (fault : PlannedFault) (old new : D)
    → ForwardsUnlessFaulted g (extent_if_planned fault call older) call failed old new → later ≡ call_event call before after failed ∷ older
    → planned_calls_failed fault older ≡ true → planned_calls_failed fault later ≡ true
planned_calls_failed-call {call = call} {failed = failed} {older = older} g fault old new carried is so_far =
    ap (planned_calls_failed fault) is
    ∙ ap (λ rest. (not (is_to_fail fault call older) || failed) && rest) so_far
    ∙ here (is_to_fail fault call older) failed (λ to_fail. fails_if_due g (extent_if_planned fault call older) call failed old new carried to_fail)
  where
    here : (to_fail failed : Bool) → (to_fail ≡ true → failed ≡ true) → ((not to_fail || failed) && true) ≡ true
    here true true of = refl
    here true false of = of refl
    here false failed of = refl

-- how many faults a call adds that wasn't to fail
adds_undue : {D : Type 0} (g : Ghosts D) (o : Option FaultExtent) (call : DeviceCall) (failed : Bool) (old new : D) → ForwardsUnlessFaulted g o call failed old new
    → fault_count (g.history old) ≤ fault_count (g.history new) → fault_count (g.history old) + cond (failed && not (is_some o)) 1 0 ≤ fault_count (g.history new)
adds_undue g None call true old new carried grow = let more : fault_count (g.history new) ≡ fault_count (g.history old) + 1 = ap fault_count carried in omega (arith, more)
adds_undue g None call false old new carried grow = omega (arith, grow)
adds_undue g (Some extent) call true old new carried grow = omega (arith, grow)
adds_undue g (Some extent) call false old new carried grow = omega (arith, grow)

pub unplanned_faults-call : {D : Type 0} {call : DeviceCall} {failed : Bool} {before after : Blocks} {older later : List CallEvent} (g : Ghosts D) (fault : PlannedFault) (old new : D)
    → ForwardsUnlessFaulted g (extent_if_planned fault call older) call failed old new → later ≡ call_event call before after failed ∷ older → fault_count (g.history old) ≤ fault_count (g.history new)
    → unplanned_faults fault older ≤ fault_count (g.history old) → unplanned_faults fault later ≤ fault_count (g.history new)
unplanned_faults-call {call = call} {failed = failed} {older = older} {later = later} g fault old new carried is grow so_far =
    let u = unplanned_faults fault in
    let adds : u later ≡ u older + cond (failed && not (is_some (extent_if_planned fault call older))) 1 0 = ap u is in
    let more = adds_undue g (extent_if_planned fault call older) call failed old new carried grow in
    omega (arith, adds, more, so_far)

-- what is unprogrammed above is so below
pub below-call : {call : DeviceCall} {failed : Bool} {before after : Blocks} {older later : List CallEvent} (old new : List CallEvent) → later ≡ call_event call before after failed ∷ older
    → ((b k : ℕ) → is_unprogrammed_byte older b k ≡ true → is_unprogrammed_byte old b k ≡ true)
    → ((b k : ℕ) → unprogrammed_after call failed b k (is_unprogrammed_byte old b k) ≡ true → is_unprogrammed_byte new b k ≡ true)
    → (b k : ℕ) → is_unprogrammed_byte later b k ≡ true → is_unprogrammed_byte new b k ≡ true
below-call {call} {failed} {older = older} old new is below keeps b k was =
    keeps b k (more call (is_unprogrammed_byte older b k) (is_unprogrammed_byte old b k) (below b k) (sym (ap (λ (h : List CallEvent). is_unprogrammed_byte h b k) is) ∙ was))
  where
    both : (t x y : Bool) → (x ≡ true → y ≡ true) → (x && t) ≡ true → (y && t) ≡ true
    both t true y of here = ap (λ v. v && t) (of refl) ∙ here
    both t false y of here = absurd (cc)

    either : (t f x y : Bool) → (x ≡ true → y ≡ true) → cond t f x ≡ true → cond t f y ≡ true
    either true f x y of here = here
    either false f x y of here = of here

    more : (call : DeviceCall) (x y : Bool) → (x ≡ true → y ≡ true) → unprogrammed_after call failed b k x ≡ true → unprogrammed_after call failed b k y ≡ true
    more (Read at off len) x y of here = of here
    more (Program at off bytes) x y of here = both (not (b == at && nat_le off k && nat_lt k (off + length bytes))) x y of here
    more (Erase at) x y of here = either (b == at) (not failed) x y of here
    more (Blank at off len) x y of here = either (not failed && (b == at && nat_le off k && nat_lt k (off + len))) true x y of here

-- what a call did that succeeded
pub done_at_ok : {A : Type 0} (result : Result (Unit {0}) Error) → OnOk result A → is_err result ≡ false → A
done_at_ok (Ok u) done ok = done
done_at_ok (Err e) done ok = absurd (cc)
