use Rattle.lfs_model.proofs.Truncated.{premises_hold}
use Rattle.lfs_device.specs.FaultDevice.{fault_history}
use Rattle.lfs_device.proofs.fault.FaultDevice.lemma_premises_hold.Goals as goal

pub returns : goal.returns
returns g c = λ tears reliable. premises_hold (fault_history c.args.self.now) (c.args.self.now.premises tears reliable)
