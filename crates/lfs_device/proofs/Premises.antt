-- One more call meets what is supposed of a device's calls.
use Rattle.std.proofs.Common.{◌≡◌, ℕ, Bool, true, false, cond, length, Option, Some, None, List, ◌∷◌, inl, inr, refl, sym, subst, ◌∙◌}
use Rattle.std.proofs.Math.Logic.{∥∥₁_map}
use Rattle.lfs_model.specs.format.Blocks.{Blocks, block_bytes}
use Rattle.lfs_model.specs.session.History.{DeviceCall, Read, Program, Erase, Blank, CallEvent, call_event}
use Rattle.lfs_model.specs.crash.Conformance.{CallsConform}
use Rattle.lfs_model.specs.crash.Premises.{MeetsPowerLossPremises}
use Rattle.lfs_model.specs.crash.Stops.{MayEraseLeave}
use Rattle.lfs_model.proofs.Premises.{Meets, meets_nothing, meets_whole, premises_newest, premises_next}
use Rattle.lfs_model.proofs.RepeatedBytes.{no_log-repeated}
use Rattle.lfs_device.specs.declared.device.BlockDevice.{Ghosts}
use Rattle.lfs_device.specs.declared.fault.FaultExtent.{FaultExtent}
use Rattle.lfs_device.specs.declared.fault.FaultExtent.TheVariants.{Nothing, FirstBytes, AllButFirst, Whole}
use Rattle.lfs_device.specs.declared.fault.PlannedFault.{PlannedFault}
use Rattle.lfs_device.specs.declared.ram.Erased.{Erased}
use Rattle.lfs_device.specs.declared.ram.Erased.TheVariants.{Fill, Keep}
use Rattle.lfs_device.specs.CallsBelow.{ForwardsUnlessFaulted}
use Rattle.lfs_device.specs.Erased.{FillIsByte, erased_bytes}
use Rattle.lfs_device.specs.Fault.{is_counted, is_bad_call, extent_if_planned, extent_with_bad_block, is_partial_extent, is_nth_call, has_stopped}
use Rattle.lfs_device.specs.DevicePremises.{AreReliableDevices}

-- ---- a history

pub premises_after : {call : DeviceCall} {failed : Bool} {before after : Blocks} {older later : List CallEvent} → later ≡ call_event call before after failed ∷ older
    → Meets call failed before after → ∥ MeetsPowerLossPremises older ∥₁ → ∥ MeetsPowerLossPremises later ∥₁
premises_after is here so_far = ∥∥₁_map so_far (premises_next is here)

-- ---- a device in memory

pub meets_read : (block off len : ℕ) (before after : Blocks) → Meets (Read block off len) false before after
meets_read block off len before after = record { erases = tt; failed = λ is. absurd (cc) }

pub meets_program : (block off : ℕ) (bytes : List ℕ) (before after : Blocks) → Meets (Program block off bytes) false before after
meets_program block off bytes before after = record { erases = tt; failed = λ is. absurd (cc) }

pub meets_blank : (block off len : ℕ) (before after : Blocks) → Meets (Blank block off len) false before after
meets_blank block off len before after = record { erases = tt; failed = λ is. absurd (cc) }

left_by_erased : (erased : Erased) (block : List ℕ) → FillIsByte erased → MayEraseLeave block (erased_bytes erased block)
left_by_erased (Fill byte) block small = inr (no_log-repeated (length block) byte small)
left_by_erased Keep block any = inl refl

pub meets_erase : (erased : Erased) (block : ℕ) (before after : Blocks) → FillIsByte erased → block_bytes after block ≡ erased_bytes erased (block_bytes before block) → Meets (Erase block) false before after
meets_erase erased block before after small is = record {
  erases = subst (MayEraseLeave (block_bytes before block)) (sym is) (left_by_erased erased (block_bytes before block) small);
  failed = λ failed. absurd (cc);
}

-- ---- a device with a fault

abbrev tears : Option FaultExtent → Bool
tears None = false
tears (Some extent) = is_partial_extent extent

tears_none : (fault : PlannedFault) (call : DeviceCall) (older : List CallEvent) → is_partial_extent fault.extent ≡ false → tears (extent_if_planned fault call older) ≡ false
tears_none fault call older untorn =
    either (is_nth_call (is_counted fault.which call) fault.which fault.nth older) (has_stopped fault.which fault.nth fault.stops older) (is_bad_call fault.bad_block call)
  where
    either : (a b bad : Bool) → tears (extent_with_bad_block bad (cond a (Some fault.extent) (cond b (Some Nothing) None))) ≡ false
    either true b bad = untorn
    either false true bad = refl
    either false false true = refl
    either false false false = refl

meets_carried : {D : Type 0} (g : Ghosts D) (o : Option FaultExtent) (call : DeviceCall) (failed : Bool) (old new : D) → tears o ≡ false → ForwardsUnlessFaulted g o call failed old new
    → CallsConform (g.history new) → AreReliableDevices g → Meets call failed (g.blocks old) (g.blocks new)
meets_carried g None call failed old new untorn carried conforms reliable = premises_newest carried (reliable new).premises
meets_carried g (Some Nothing) call failed old new untorn carried conforms reliable = rw (carried.0, carried.1) (meets_nothing call (g.blocks old))
meets_carried g (Some (FirstBytes k)) call failed old new untorn carried conforms reliable = absurd (cc)
meets_carried g (Some (AllButFirst k)) call failed old new untorn carried conforms reliable = absurd (cc)
meets_carried g (Some Whole) call failed old new untorn carried conforms reliable =
    rw carried.0 (meets_whole (carried.1 ((reliable new).no_fault ∙ sym (reliable old).no_fault)) conforms (reliable new).premises)

pub premises_call : {D : Type 0} {call : DeviceCall} {failed : Bool} {older later : List CallEvent} (g : Ghosts D) (fault : PlannedFault) (old new : D)
    → is_partial_extent fault.extent ≡ false → ForwardsUnlessFaulted g (extent_if_planned fault call older) call failed old new → later ≡ call_event call (g.blocks old) (g.blocks new) failed ∷ older
    → CallsConform (g.history new) → AreReliableDevices g → ∥ MeetsPowerLossPremises older ∥₁ → ∥ MeetsPowerLossPremises later ∥₁
premises_call {call = call} {failed = failed} {older = older} g fault old new untorn carried is conforms reliable so_far =
    premises_after is (meets_carried g (extent_if_planned fault call older) call failed old new (tears_none fault call older untorn) carried conforms reliable) so_far
