use Rattle.lfs_volume.proofs.Steps.{passed_err}
use Rattle.lfs_volume.proofs.Saving.{ends_at_open, ends_at_seek, opened_at, seek_not_refused}
use Rattle.lfs_volume.proofs.saves.open_writer_at.Goals as goal

pub returns-in_err-fd-clause-ended : goal.returns-in_err-fd-clause-ended
returns-in_err-fd-clause-ended g c =
    passed_err c.from_residual.result _ _ c.from_residual.ensures.1 (λ idle. ends_at_open c.args.session.now c.open.new.self c.args.path.now c.args.from _ c.in_err-fd.ensures)

pub returns-in_err-fd-clause-refused : goal.returns-in_err-fd-clause-refused
returns-in_err-fd-clause-refused g c =
    passed_err c.from_residual.result _ _ c.from_residual.ensures.1 (λ idle small is. c.in_err-fd.ensures)

pub returns-in_err-seek-clause-ended : goal.returns-in_err-seek-clause-ended
returns-in_err-seek-clause-ended g c =
    passed_err c.from_residual-in_err-seek.result _ _ c.from_residual-in_err-seek.ensures.1
    (λ idle. ends_at_seek c.args.session.now c.open.new.self c.seek.new.self c.args.path.now c.args.from c.in_ok-fd.fd _ idle c.in_ok-fd.ensures c.in_err-seek.ensures)

pub returns-in_err-seek-clause-refused : goal.returns-in_err-seek-clause-refused
returns-in_err-seek-clause-refused g c =
    passed_err c.from_residual-in_err-seek.result _ _ c.from_residual-in_err-seek.ensures.1
    (λ idle small is. absurd (seek_not_refused c.args.session.now c.open.new.self c.seek.new.self c.args.path.now c.args.from c.in_ok-fd.fd _ idle small c.in_ok-fd.ensures c.in_err-seek.ensures is))

pub returns-clause-opened : goal.returns-clause-opened
returns-clause-opened g c idle = opened_at c.args.session.now c.open.new.self c.seek.new.self c.args.path.now c.args.from c.in_ok-fd.fd idle c.in_ok-fd.ensures c.in_ok-seek.ensures
