use Rattle.std.proofs.Common.{rules, ◌≡◌, ◌∙◌, ◌-◌, ◌^◌, ◌∷◌, true, false, min, is_none, None, sym, ap, subst}
use Rattle.lfs_model.specs.session.History.{call_event}
use Rattle.lfs_model.specs.session.History.DeviceCall.{Blank}
use Rattle.lfs_device.specs.Fault.{extent_if_planned, nth_call_extent}
use Rattle.lfs_device.proofs.Questions.{HasPassed, answered_history, below_still, conforms_still, counts_stay, due_failed_still, has_passed, newest_stays, not_due, premises_still, undue_faults_still}
use Rattle.lfs_device.proofs.fault.FaultDeviceBlockDevice.is_unprogrammed.Goals as goal

events : (g : _) (c : goal.After-with_ghost_history-self g) → c.with_ghost_history-self.result.events
    ≡ answered_history (call_event (Blank c.args.block c.args.off c.args.len) (g.D.BlockDevice.blocks c.args.self.now.inner) (g.D.BlockDevice.blocks c.args.self.now.inner) true ∷ c.args.self.now.trace.events)
    (g.D.BlockDevice.blocks c.is_unprogrammed-answer.new.self) c.is_unprogrammed-answer.result
events g c = c.with_ghost_history-self.ensures ∙ ap (λ h. answered_history h (g.D.BlockDevice.blocks c.is_unprogrammed-answer.new.self) c.is_unprogrammed-answer.result) c.with_ghost_history-begun.ensures

passed : (g : _) (c : goal.After-with_ghost_history-self g) → HasPassed g.D.BlockDevice (Blank c.args.block c.args.off c.args.len) c.args.self.now.trace.events c.with_ghost_history-self.result.events c.args.self.now.inner c.is_unprogrammed-answer.new.self
passed g c = subst (λ h. HasPassed g.D.BlockDevice (Blank c.args.block c.args.off c.args.len) c.args.self.now.trace.events h c.args.self.now.inner c.is_unprogrammed-answer.new.self) (sym (events g c))
    (has_passed g.D.BlockDevice c.args.block c.args.off c.args.len c.args.self.now.trace.events c.args.self.now.inner c.is_unprogrammed-answer.new.self c.is_unprogrammed-answer.result c.is_unprogrammed-answer.ensures.asks c.is_unprogrammed-answer.ensures.error)

stopped_not : (g : _) (c : goal.After-with_ghost_history-self g) → is_none (nth_call_extent c.args.self.now.fault false c.args.self.now.trace.events) ≡ true
stopped_not g c = search rules

none : (g : _) (c : goal.After-with_ghost_history-self g) → extent_if_planned c.args.self.now.fault (Blank c.args.block c.args.off c.args.len) c.args.self.now.trace.events ≡ None
none g c = not_due c.args.self.now.fault c.args.block c.args.off c.args.len c.args.self.now.trace.events (stopped_not g c)

pub invariant_of-self-clause-due_failed : goal.invariant_of-self-clause-due_failed
invariant_of-self-clause-due_failed g c = due_failed_still g.D.BlockDevice c.args.block c.args.off c.args.len _ _ c.args.self.now.inner c.is_unprogrammed-answer.new.self (passed g c) c.is_unprogrammed-answer.ensures.same c.args.self.now.fault (none g c) c.args.self.now.due_failed

pub invariant_of-self-clause-undue_faults : goal.invariant_of-self-clause-undue_faults
invariant_of-self-clause-undue_faults g c = undue_faults_still g.D.BlockDevice c.args.block c.args.off c.args.len _ _ c.args.self.now.inner c.is_unprogrammed-answer.new.self (passed g c) c.is_unprogrammed-answer.ensures.same c.args.self.now.fault (none g c) c.args.self.now.undue_faults

pub invariant_of-self-clause-reads_counted : goal.invariant_of-self-clause-reads_counted
invariant_of-self-clause-reads_counted g c = c.args.self.now.reads_counted ∙ ap (λ n. min n (2 ^ 64 - 1)) (sym (counts_stay g.D.BlockDevice c.args.block c.args.off c.args.len _ _ c.args.self.now.inner c.is_unprogrammed-answer.new.self (passed g c) c.is_unprogrammed-answer.ensures.same).0)

pub invariant_of-self-clause-programs_counted : goal.invariant_of-self-clause-programs_counted
invariant_of-self-clause-programs_counted g c = c.args.self.now.programs_counted ∙ ap (λ n. min n (2 ^ 64 - 1)) (sym (counts_stay g.D.BlockDevice c.args.block c.args.off c.args.len _ _ c.args.self.now.inner c.is_unprogrammed-answer.new.self (passed g c) c.is_unprogrammed-answer.ensures.same).1.0)

pub invariant_of-self-clause-erases_counted : goal.invariant_of-self-clause-erases_counted
invariant_of-self-clause-erases_counted g c = c.args.self.now.erases_counted ∙ ap (λ n. min n (2 ^ 64 - 1)) (sym (counts_stay g.D.BlockDevice c.args.block c.args.off c.args.len _ _ c.args.self.now.inner c.is_unprogrammed-answer.new.self (passed g c) c.is_unprogrammed-answer.ensures.same).1.1)

pub invariant_of-self-clause-newest : goal.invariant_of-self-clause-newest
invariant_of-self-clause-newest g c = newest_stays g.D.BlockDevice c.args.block c.args.off c.args.len _ _ c.args.self.now.inner c.is_unprogrammed-answer.new.self (passed g c) c.is_unprogrammed-answer.ensures.same c.args.self.now.newest

pub invariant_of-self-clause-conforms : goal.invariant_of-self-clause-conforms
invariant_of-self-clause-conforms g c = conforms_still g.D.BlockDevice c.args.block c.args.off c.args.len _ _ c.args.self.now.inner c.is_unprogrammed-answer.new.self (passed g c) c.is_unprogrammed-answer.ensures.same c.args.self.now.conforms

pub invariant_of-self-clause-below : goal.invariant_of-self-clause-below
invariant_of-self-clause-below g c = below_still g.D.BlockDevice c.args.block c.args.off c.args.len _ _ c.args.self.now.inner c.is_unprogrammed-answer.new.self (passed g c) c.is_unprogrammed-answer.ensures.same c.args.self.now.below

pub invariant_of-self-clause-premises : goal.invariant_of-self-clause-premises
invariant_of-self-clause-premises g c = λ tears reliable.
    premises_still g.D.BlockDevice c.args.block c.args.off c.args.len _ _ c.args.self.now.inner c.is_unprogrammed-answer.new.self (passed g c) c.is_unprogrammed-answer.ensures.same c.args.self.now.fault (none g c)
    (c.args.self.now.untorn tears) (g.met.D.BlockDevice.conforms c.is_unprogrammed-answer.new.self) reliable (c.args.self.now.premises tears reliable)
