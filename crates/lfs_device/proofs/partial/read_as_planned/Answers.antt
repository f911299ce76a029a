use Rattle.lfs_device.proofs.CallLaws.{ReadsOnly-read}
use Rattle.lfs_device.proofs.partial.read_as_planned.Goals as goal

pub returns-in-None-clause-device : goal.returns-in-None-clause-device
returns-in-None-clause-device g c = ReadsOnly-read g.D.BlockDevice c.read.ensures.history c.read.ensures.same c.read.ensures.geometry

pub returns-in-Some-Whole-clause-device : goal.returns-in-Some-Whole-clause-device
returns-in-Some-Whole-clause-device g c = ReadsOnly-read g.D.BlockDevice c.read-in-Some-Whole.ensures.history c.read-in-Some-Whole.ensures.same c.read-in-Some-Whole.ensures.geometry
