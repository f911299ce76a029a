use Rattle.std.proofs.Common.{rules}
use Rattle.lfs_file.proofs.Called.{read_once}
use Rattle.lfs_file.proofs.read.read_into_range.Goals as goal

pub returns-in_err-read-clause-reading : goal.returns-in_err-read-clause-reading
returns-in_err-read-clause-reading g c = record {
  device = read_once g.D.BlockDevice c.read.ensures.history c.read.ensures.same c.read.ensures.geometry;
  reports = search rules;
}

pub returns-clause-reading : goal.returns-clause-reading
returns-clause-reading g c = record {
  device = read_once g.D.BlockDevice c.read.ensures.history c.read.ensures.same c.read.ensures.geometry;
  reports = search rules;
}
