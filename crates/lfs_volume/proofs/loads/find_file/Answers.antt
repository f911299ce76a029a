use Rattle.lfs_fs.specs.FlagsView.{flags_view}
use Rattle.lfs_volume.proofs.Finding.{close_answers, file_found, size_answers}
use Rattle.lfs_volume.proofs.Steps.{passed_err}
use Rattle.lfs_volume.proofs.loads.find_file.Goals as goal

pub returns-in_err-fd-clause-ended : goal.returns-in_err-fd-clause-ended
returns-in_err-fd-clause-ended g c = passed_err c.from_residual.result _ _ c.from_residual.ensures.1 (λ idle uncut. c.in_err-fd.ensures)

pub returns-in_err-size-clause-ended : goal.returns-in_err-size-clause-ended
returns-in_err-size-clause-ended g c =
    passed_err c.from_residual-in_err-size.result _ _ c.from_residual-in_err-size.ensures.1
    (λ idle uncut. absurd (size_answers c.args.session.now c.open.new.self c.args.path.now (flags_view c.args.flags) c.in_ok-fd.fd idle c.in_ok-fd.ensures uncut _ c.in_err-size.ensures))

pub returns-in_err-close-clause-ended : goal.returns-in_err-close-clause-ended
returns-in_err-close-clause-ended g c =
    passed_err c.from_residual-in_err-close.result _ _ c.from_residual-in_err-close.ensures.1
    (λ idle uncut. absurd (close_answers c.args.session.now c.open.new.self c.args.path.now (flags_view c.args.flags) c.in_ok-fd.fd idle c.in_ok-fd.ensures uncut _ c.close.new.self c.in_err-close.ensures))

pub returns-clause-found : goal.returns-clause-found
returns-clause-found g c idle uncut =
    file_found c.args.session.now c.open.new.self c.args.path.now (flags_view c.args.flags) c.in_ok-fd.fd idle c.in_ok-fd.ensures uncut c.in_ok-size.size c.close.new.self c.in_ok-size.ensures c.in_ok-close.ensures
