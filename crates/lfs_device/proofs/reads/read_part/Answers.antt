use Rattle.std.proofs.Common.{refl}
use Rattle.lfs_model.proofs.Histories.{began, OnlyReadsSince-read}
use Rattle.lfs_device.proofs.reads.read_part.Goals as goal

pub returns-in_err-read-clause-device : goal.returns-in_err-read-clause-device
returns-in_err-read-clause-device g c = record {
  same = c.read.ensures.same;
  geometry = c.read.ensures.geometry;
  reads = OnlyReadsSince-read began c.read.ensures.history refl c.read.ensures.same;
}

pub returns-clause-device : goal.returns-clause-device
returns-clause-device g c = record {
  same = c.read.ensures.same;
  geometry = c.read.ensures.geometry;
  reads = OnlyReadsSince-read began c.read.ensures.history refl c.read.ensures.same;
}
