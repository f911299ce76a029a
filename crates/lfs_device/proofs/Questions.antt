-- A question of a device with a fault whether bytes are blank, which the device below answered.
use Rattle.std.proofs.Common.{◌≡◌, ◌≤◌, ◌⊎◌, inl, inr, ℕ, arith, Bool, true, false, Option, Some, None, List, ◌∷◌, refl, sym, ◌∙◌, ap, subst}
use Rattle.std.specs.Prelude.{Result, Ok, Err, IfErr, drop, is_none}
use Rattle.lfs_device.specs.declared.device.BlockDevice.{Ghosts}
use Rattle.lfs_device.specs.declared.error.Error.{Error}
use Rattle.lfs_device.specs.declared.error.Error.TheVariants.{Io}
use Rattle.lfs_device.specs.declared.fault.CountedCalls.{CountedCalls}
use Rattle.lfs_device.specs.declared.fault.CountedCalls.TheVariants.{Any, Read, Program, Erase}
use Rattle.lfs_device.specs.declared.fault.FaultExtent.{FaultExtent}
use Rattle.lfs_device.specs.declared.fault.PlannedFault.{PlannedFault}
use Rattle.lfs_model.specs.format.Blocks.{Blocks}
use Rattle.lfs_model.specs.session.History.{DeviceCall, Blank, CallEvent, call_event, history_with_outcome, fault_count, read_count, program_count, erase_count, is_unprogrammed_byte, LeftByLatestCall}
use Rattle.lfs_model.specs.crash.Conformance.{CallsConform}
use Rattle.lfs_model.specs.crash.Premises.{MeetsPowerLossPremises}
use Rattle.lfs_model.proofs.Conformance.{conforms_blank, conforms_next}
use Rattle.lfs_device.specs.BlockCalls.{AsksIfBlank}
use Rattle.lfs_device.specs.CallsBelow.{ForwardsCall, ForwardsUnlessFaulted}
use Rattle.lfs_device.specs.DevicePremises.{AreReliableDevices}
use Rattle.lfs_device.specs.Fault.{extent_if_planned, planned_calls_failed, is_counted, is_partial_extent, nth_call_extent, unplanned_faults}
use Rattle.lfs_device.proofs.Faults.{planned_calls_failed-call, unplanned_faults-call, below-call}
use Rattle.lfs_device.proofs.Newest.{newest_call}
use Rattle.lfs_device.proofs.Premises.{premises_call}

-- the history behind the question, of one that begins with the question as if it had failed
abbrev pub answered_history : List CallEvent → Blocks → Result Bool Error → List CallEvent
answered_history begun after (Ok true) = history_with_outcome begun after false
answered_history begun after (Ok false) = drop 1 begun
answered_history begun after (Err error) = history_with_outcome begun after true

-- it isn't counted, so it isn't due where the device hasn't stopped
uncounted : (which : CountedCalls) (block off len : ℕ) → is_counted which (Blank block off len) ≡ false
uncounted Any block off len = refl
uncounted Read block off len = refl
uncounted Program block off len = refl
uncounted Erase block off len = refl

pub not_due : (fault : PlannedFault) (block off len : ℕ) (older : List CallEvent) → is_none (nth_call_extent fault false older) ≡ true → extent_if_planned fault (Blank block off len) older ≡ None
not_due fault block off len older none = rw (uncounted fault.which block off len, without (nth_call_extent fault false older) none) refl
  where
    without : (o : Option FaultExtent) → is_none o ≡ true → o ≡ None
    without None e = refl
    without (Some extent) e = absurd (cc)

-- Neither device has a call more, or both have the same one.
abbrev pub HasPassed : {D : Type 0} → Ghosts D → DeviceCall → List CallEvent → List CallEvent → D → D → Type 0
HasPassed g call older later old new =
    ((later ≡ older) × (g.history new ≡ g.history old))
    ⊎ ((failed : Bool) × ((later ≡ call_event call (g.blocks old) (g.blocks new) failed ∷ older) × ForwardsCall g call failed old new))

pub has_passed : {D : Type 0} (g : Ghosts D) (block off len : ℕ) (older : List CallEvent) (old new : D) (r : Result Bool Error)
    → AsksIfBlank block off len (g.blocks old) (g.blocks new) (g.history old) (g.history new) r → IfErr r (λ e. e ≡ Io)
    → HasPassed g (Blank block off len) older (answered_history (call_event (Blank block off len) (g.blocks old) (g.blocks old) true ∷ older) (g.blocks new) r) old new
has_passed g block off len older old new (Ok true) asks error = inr (false, (refl, asks.yes refl))
has_passed g block off len older old new (Ok false) asks error = inl (refl, asks.no refl)
has_passed g block off len older old new (Err e) asks error = inr (true, (refl, asks.failed (ap Err error)))

-- what the device above adds

pub asks_above : (block off len : ℕ) (before after : Blocks) (older : List CallEvent) (r : Result Bool Error)
    → AsksIfBlank block off len before after older (answered_history (call_event (Blank block off len) before before true ∷ older) after r) r
asks_above block off len before after older (Ok true) = record { yes = λ e. refl; no = λ e. absurd (cc); failed = λ e. absurd (cc) }
asks_above block off len before after older (Ok false) = record { yes = λ e. absurd (cc); no = λ e. refl; failed = λ e. absurd (cc) }
asks_above block off len before after older (Err e) = record { yes = λ e. absurd (cc); no = λ e. absurd (cc); failed = λ e. refl }

module _ {D : Type 0} (g : Ghosts D) (block off len : ℕ) (older later : List CallEvent) (old new : D) (passed : HasPassed g (Blank block off len) older later old new) (same : g.blocks new ≡ g.blocks old) where
  abbrev call : DeviceCall
  call = Blank block off len

  pub counts_stay : (read_count later ≡ read_count older) × ((program_count later ≡ program_count older) × (erase_count later ≡ erase_count older))
  counts_stay = go passed
    where
      go : HasPassed g call older later old new → (read_count later ≡ read_count older) × ((program_count later ≡ program_count older) × (erase_count later ≡ erase_count older))
      go (inl (e, f)) = (ap read_count e, (ap program_count e, ap erase_count e))
      go (inr (failed, (e, f))) =
          let reads : read_count later ≡ read_count (call_event call (g.blocks old) (g.blocks new) failed ∷ older) = ap read_count e in
          let programs : program_count later ≡ program_count (call_event call (g.blocks old) (g.blocks new) failed ∷ older) = ap program_count e in
          let erases : erase_count later ≡ erase_count (call_event call (g.blocks old) (g.blocks new) failed ∷ older) = ap erase_count e in
          (omega (arith, reads), (omega (arith, programs), omega (arith, erases)))

  pub newest_stays : LeftByLatestCall older (g.blocks old) → LeftByLatestCall later (g.blocks new)
  newest_stays so_far = go passed
    where
      go : HasPassed g call older later old new → LeftByLatestCall later (g.blocks new)
      go (inl (e, f)) = subst (λ h. LeftByLatestCall h (g.blocks new)) (sym e) (subst (LeftByLatestCall older) (sym same) so_far)
      go (inr (failed, (e, f))) = newest_call call (g.blocks old) (g.blocks new) (g.blocks new) failed older later e refl

  pub conforms_still : CallsConform older → CallsConform later
  conforms_still so_far = go passed
    where
      go : HasPassed g call older later old new → CallsConform later
      go (inl (e, f)) = subst CallsConform (sym e) so_far
      go (inr (failed, (e, f))) = conforms_next e (conforms_blank block off len (g.blocks old) (g.blocks new) failed same) so_far

  pub below_still : ((b k : ℕ) → is_unprogrammed_byte older b k ≡ true → is_unprogrammed_byte (g.history old) b k ≡ true) → (b k : ℕ) → is_unprogrammed_byte later b k ≡ true → is_unprogrammed_byte (g.history new) b k ≡ true
  below_still below = go passed
    where
      go : HasPassed g call older later old new → (b k : ℕ) → is_unprogrammed_byte later b k ≡ true → is_unprogrammed_byte (g.history new) b k ≡ true
      go (inl (e, f)) b k was = ap (λ (h : List CallEvent). is_unprogrammed_byte h b k) f ∙ below b k (sym (ap (λ (h : List CallEvent). is_unprogrammed_byte h b k) e) ∙ was)
      go (inr (failed, (e, f))) b k was = below-call (g.history old) (g.history new) e below (λ b k was. ap (λ (h : List CallEvent). is_unprogrammed_byte h b k) f ∙ was) b k was

  module _ (fault : PlannedFault) (none : extent_if_planned fault (Blank block off len) older ≡ None) where
    carried : (failed : Bool) → ForwardsCall g call failed old new → ForwardsUnlessFaulted g (extent_if_planned fault call older) call failed old new
    carried failed f = subst (λ o. ForwardsUnlessFaulted g o call failed old new) (sym none) f

    pub due_failed_still : planned_calls_failed fault older ≡ true → planned_calls_failed fault later ≡ true
    due_failed_still so_far = go passed
      where
        go : HasPassed g call older later old new → planned_calls_failed fault later ≡ true
        go (inl (e, f)) = ap (planned_calls_failed fault) e ∙ so_far
        go (inr (failed, (e, f))) = planned_calls_failed-call g fault old new (carried failed f) e so_far

    pub undue_faults_still : unplanned_faults fault older ≤ fault_count (g.history old) → unplanned_faults fault later ≤ fault_count (g.history new)
    undue_faults_still so_far = go passed
      where
        grows : (failed : Bool) → fault_count (g.history old) ≤ fault_count (call_event call (g.blocks old) (g.blocks new) failed ∷ g.history old)
        grows true = omega arith
        grows false = omega arith

        go : HasPassed g call older later old new → unplanned_faults fault later ≤ fault_count (g.history new)
        go (inl (e, f)) = let a : unplanned_faults fault later ≡ unplanned_faults fault older = ap (unplanned_faults fault) e in let b : fault_count (g.history new) ≡ fault_count (g.history old) = ap fault_count f in omega (arith, a, b, so_far)
        go (inr (failed, (e, f))) = unplanned_faults-call g fault old new (carried failed f) e (subst (λ h. fault_count (g.history old) ≤ fault_count h) (sym f) (grows failed)) so_far

    pub premises_still : is_partial_extent fault.extent ≡ false → CallsConform (g.history new) → AreReliableDevices g → ∥ MeetsPowerLossPremises older ∥₁ → ∥ MeetsPowerLossPremises later ∥₁
    premises_still untorn conforms reliable so_far = go passed
      where
        go : HasPassed g call older later old new → ∥ MeetsPowerLossPremises later ∥₁
        go (inl (e, f)) = subst (λ h. ∥ MeetsPowerLossPremises h ∥₁) (sym e) so_far
        go (inr (failed, (e, f))) = premises_call g fault old new untorn (carried failed f) e conforms reliable so_far
