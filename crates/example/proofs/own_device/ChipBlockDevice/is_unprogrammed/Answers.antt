use Rattle.std.proofs.Common.{refl}
use Rattle.lfs_model.proofs.Conformance.{conforms_blank, conforms_next}
use Rattle.example.proofs.own_device.ChipBlockDevice.is_unprogrammed.Goals as goal

pub invariant_of-self-clause-conforms : goal.invariant_of-self-clause-conforms
invariant_of-self-clause-conforms c = conforms_next c.with_ghost_history-self.ensures (conforms_blank _ _ _ _ _ _ refl) c.args.self.now.conforms
