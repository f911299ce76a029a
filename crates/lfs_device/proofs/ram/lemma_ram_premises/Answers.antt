use Rattle.lfs_model.proofs.Truncated.{premises_hold}
use Rattle.lfs_device.specs.RamDevice.{ram_history}
use Rattle.lfs_device.proofs.ram.lemma_ram_premises.Goals as goal

pub returns : goal.returns
returns c = λ device. record { no_fault = device.no_fault; premises = premises_hold (ram_history device) device.premises }
