use Rattle.lfs_pair.proofs.Calls.{reads_one}
use Rattle.lfs_pair.proofs.programs.read_four_bytes.Goals as goal

pub returns-in_err-read-clause-device : goal.returns-in_err-read-clause-device
returns-in_err-read-clause-device g c = reads_one c.read.ensures.same c.read.ensures.geometry c.read.ensures.history

pub returns-clause-device : goal.returns-clause-device
returns-clause-device g c = reads_one c.read.ensures.same c.read.ensures.geometry c.read.ensures.history
