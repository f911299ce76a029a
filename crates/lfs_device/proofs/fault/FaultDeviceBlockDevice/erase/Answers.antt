use Rattle.std.proofs.Common.{rules, ◌≡◌, ◌∷◌, is_err}
use Rattle.lfs_model.specs.session.History.{call_event}
use Rattle.lfs_model.specs.session.History.DeviceCall.{Erase}
use Rattle.lfs_model.proofs.Conformance.{conforms_erase, conforms_next}
use Rattle.lfs_device.specs.Fault.{extent_if_planned}
use Rattle.lfs_device.specs.CallsBelow.{ForwardsUnlessFaulted}
use Rattle.lfs_device.proofs.Faults.{planned_calls_failed-call, unplanned_faults-call, below-call}
use Rattle.lfs_device.proofs.Premises.{premises_call}
use Rattle.lfs_device.proofs.fault.FaultDeviceBlockDevice.erase.Goals as goal

carried : (g : _) (c : goal.After-with_ghost_history-self g) → ForwardsUnlessFaulted g.D.BlockDevice (extent_if_planned c.args.self.now.fault (Erase c.args.block) c.args.self.now.trace.events)
    (Erase c.args.block) (is_err c.erase_as_planned-outcome.result) c.args.self.now.inner c.erase_as_planned-outcome.new.device
carried g c = search rules

newest : (g : _) (c : goal.After-with_ghost_history-self g) → c.with_ghost_history-self.result.events
    ≡ call_event (Erase c.args.block) (g.D.BlockDevice.blocks c.args.self.now.inner) (g.D.BlockDevice.blocks c.erase_as_planned-outcome.new.device) (is_err c.erase_as_planned-outcome.result) ∷ c.args.self.now.trace.events
newest g c = search rules

pub invariant_of-self-clause-due_failed : goal.invariant_of-self-clause-due_failed
invariant_of-self-clause-due_failed g c = planned_calls_failed-call g.D.BlockDevice c.args.self.now.fault c.args.self.now.inner c.erase_as_planned-outcome.new.device (carried g c) (newest g c) c.args.self.now.due_failed

pub invariant_of-self-clause-below : goal.invariant_of-self-clause-below
invariant_of-self-clause-below g c = below-call (g.D.BlockDevice.history c.args.self.now.inner) (g.D.BlockDevice.history c.erase_as_planned-outcome.new.device) (newest g c) c.args.self.now.below (c.erase_as_planned-outcome.ensures.block.keeps)

pub invariant_of-self-clause-conforms : goal.invariant_of-self-clause-conforms
invariant_of-self-clause-conforms g c = conforms_next (newest g c) (conforms_erase _ _ _ _ c.erase_as_planned-outcome.ensures.block.others) c.args.self.now.conforms

pub invariant_of-self-clause-premises : goal.invariant_of-self-clause-premises
invariant_of-self-clause-premises g c = λ tears reliable.
    let new = c.erase_as_planned-outcome.new.device in
    premises_call g.D.BlockDevice c.args.self.now.fault c.args.self.now.inner new (c.args.self.now.untorn tears) (carried g c) (newest g c)
    (g.met.D.BlockDevice.conforms new) reliable (c.args.self.now.premises tears reliable)

pub invariant_of-self-clause-undue_faults : goal.invariant_of-self-clause-undue_faults
invariant_of-self-clause-undue_faults g c =
    unplanned_faults-call g.D.BlockDevice c.args.self.now.fault c.args.self.now.inner c.erase_as_planned-outcome.new.device (carried g c) (newest g c)
    c.erase_as_planned-outcome.ensures.block.faults c.args.self.now.undue_faults
