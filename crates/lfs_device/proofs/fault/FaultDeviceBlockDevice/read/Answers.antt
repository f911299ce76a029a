use Rattle.std.proofs.Common.{rules, ◌≡◌, ◌∙◌, ◌∷◌, length, is_err}
use Rattle.lfs_model.specs.session.History.{call_event}
use Rattle.lfs_model.specs.session.History.DeviceCall.{Read}
use Rattle.lfs_model.proofs.Histories.{is_unprogrammed_byte-read_count}
use Rattle.lfs_model.proofs.Conformance.{conforms_read, conforms_next}
use Rattle.lfs_device.specs.Fault.{extent_if_planned}
use Rattle.lfs_device.specs.CallsBelow.{ForwardsUnlessFaulted}
use Rattle.lfs_device.proofs.Faults.{planned_calls_failed-call, unplanned_faults-call, below-call}
use Rattle.lfs_device.proofs.Premises.{premises_call}
use Rattle.lfs_device.proofs.fault.FaultDeviceBlockDevice.read.Goals as goal

carried : (g : _) (c : goal.After-with_ghost_history-self g) → ForwardsUnlessFaulted g.D.BlockDevice (extent_if_planned c.args.self.now.fault (Read c.args.block c.args.off (length c.args.buf.now)) c.args.self.now.trace.events)
    (Read c.args.block c.args.off (length c.args.buf.now)) (is_err c.read_as_planned-outcome.result) c.args.self.now.inner c.read_as_planned-outcome.new.device
carried g c = search rules

newest : (g : _) (c : goal.After-with_ghost_history-self g) → c.with_ghost_history-self.result.events
    ≡ call_event (Read c.args.block c.args.off (length c.args.buf.now)) (g.D.BlockDevice.blocks c.args.self.now.inner) (g.D.BlockDevice.blocks c.read_as_planned-outcome.new.device) (is_err c.read_as_planned-outcome.result) ∷ c.args.self.now.trace.events
newest g c = search rules

pub invariant_of-self-clause-due_failed : goal.invariant_of-self-clause-due_failed
invariant_of-self-clause-due_failed g c = planned_calls_failed-call g.D.BlockDevice c.args.self.now.fault c.args.self.now.inner c.read_as_planned-outcome.new.device (carried g c) (newest g c) c.args.self.now.due_failed

pub invariant_of-self-clause-below : goal.invariant_of-self-clause-below
invariant_of-self-clause-below g c = below-call (g.D.BlockDevice.history c.args.self.now.inner) (g.D.BlockDevice.history c.read_as_planned-outcome.new.device) (newest g c) c.args.self.now.below (λ b k was. is_unprogrammed_byte-read_count b k c.read_as_planned-outcome.ensures.device.reads ∙ was)

pub invariant_of-self-clause-conforms : goal.invariant_of-self-clause-conforms
invariant_of-self-clause-conforms g c = conforms_next (newest g c) (conforms_read _ _ _ _ _ _ c.read_as_planned-outcome.ensures.device.same) c.args.self.now.conforms

pub invariant_of-self-clause-premises : goal.invariant_of-self-clause-premises
invariant_of-self-clause-premises g c = λ tears reliable.
    let new = c.read_as_planned-outcome.new.device in
    premises_call g.D.BlockDevice c.args.self.now.fault c.args.self.now.inner new (c.args.self.now.untorn tears) (carried g c) (newest g c)
    (g.met.D.BlockDevice.conforms new) reliable (c.args.self.now.premises tears reliable)

pub invariant_of-self-clause-undue_faults : goal.invariant_of-self-clause-undue_faults
invariant_of-self-clause-undue_faults g c =
    unplanned_faults-call g.D.BlockDevice c.args.self.now.fault c.args.self.now.inner c.read_as_planned-outcome.new.device (carried g c) (newest g c)
    c.read_as_planned-outcome.ensures.faults c.args.self.now.undue_faults
