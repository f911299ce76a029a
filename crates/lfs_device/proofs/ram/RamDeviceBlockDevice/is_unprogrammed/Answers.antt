use Rattle.std.proofs.Common.{refl}
use Rattle.lfs_model.proofs.Conformance.{conforms_blank, conforms_next}
use Rattle.lfs_device.proofs.Premises.{meets_blank, premises_after}
use Rattle.lfs_device.proofs.ram.RamDeviceBlockDevice.is_unprogrammed.Goals as goal

pub invariant_of-self-clause-conforms : goal.invariant_of-self-clause-conforms
invariant_of-self-clause-conforms c = conforms_next c.with_ghost_history-self.ensures (conforms_blank _ _ _ _ _ _ refl) c.args.self.now.conforms

pub invariant_of-self-clause-premises : goal.invariant_of-self-clause-premises
invariant_of-self-clause-premises c = premises_after c.with_ghost_history-self.ensures (meets_blank _ _ _ _ _) c.args.self.now.premises
