use Rattle.std.proofs.Common.{rules}
use Rattle.lfs_device.specs.DeviceCalls.{ReportsOnlyIo}
use Rattle.lfs_file.proofs.ContentsCalled.{read_once}
use Rattle.lfs_file.proofs.block_copies.read_from_block.Goals as goal

pub returns-in_err-read-clause-reading : goal.returns-in_err-read-clause-reading
returns-in_err-read-clause-reading g c =
    let reports : ReportsOnlyIo g.D.BlockDevice c.args.dev.now c.read.new.self c.from_residual.result = search rules in
    record { device = read_once g.D.BlockDevice c.read.ensures.history c.read.ensures.same c.read.ensures.geometry; reports = reports }

pub returns-clause-reading : goal.returns-clause-reading
returns-clause-reading g c = record { device = read_once g.D.BlockDevice c.read.ensures.history c.read.ensures.same c.read.ensures.geometry; reports = search rules }
