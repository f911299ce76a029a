use Rattle.std.proofs.Common.{◌≡◌, ◌⊎◌, rules}
use Rattle.std.specs.Prelude.{IfErr}
use Rattle.lfs_file.proofs.Common.{ReportsFaults}
use Rattle.lfs_device.specs.declared.error.Error.TheVariants.{Corrupt, Io}
use Rattle.lfs_file.proofs.Called.{read_once}
use Rattle.lfs_file.proofs.read.read_block_pointer.Goals as goal

pub returns-in_err-read-clause-reading : goal.returns-in_err-read-clause-reading
returns-in_err-read-clause-reading g c =
    let faults : ReportsFaults g.D.BlockDevice c.args.dev.now c.read.new.self c.from_residual.result = search rules in
    let errors : IfErr c.from_residual.result (λ e. (e ≡ Io) ⊎ (e ≡ Corrupt)) = search rules in
    record { device = read_once g.D.BlockDevice c.read.ensures.history c.read.ensures.same c.read.ensures.geometry; faults = faults; errors = errors }

pub returns-clause-reading : goal.returns-clause-reading
returns-clause-reading g c = record {
  device = read_once g.D.BlockDevice c.read.ensures.history c.read.ensures.same c.read.ensures.geometry;
  faults = search rules;
  errors = tt;
}
