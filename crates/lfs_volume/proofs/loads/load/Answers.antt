use Rattle.lfs_volume.proofs.Steps.{passed_err}
use Rattle.lfs_volume.proofs.Loading.{close_not_refused, load_fails_at_close, load_fails_at_open, load_fails_at_read, load_refused, loaded, read_not_refused, size_not_refused}
use Rattle.lfs_volume.proofs.loads.load.Goals as goal

pub returns-in_err-fd-clause-refused : goal.returns-in_err-fd-clause-refused
returns-in_err-fd-clause-refused g c = passed_err c.from_residual.result _ _ c.from_residual.ensures.1 (λ idle. load_refused _ c.args.session.now c.open.new.self c.args.path.now idle c.in_err-fd.ensures)

pub returns-in_err-size-clause-refused : goal.returns-in_err-size-clause-refused
returns-in_err-size-clause-refused g c =
    passed_err c.from_residual-in_err-size.result _ _ c.from_residual-in_err-size.ensures.1 (λ idle is. absurd (size_not_refused _ c.args.session.now c.open.new.self c.args.path.now c.in_ok-fd.fd idle c.in_ok-fd.ensures c.in_err-size.ensures))

pub returns-in_err-bytes-clause-refused : goal.returns-in_err-bytes-clause-refused
returns-in_err-bytes-clause-refused g c =
    passed_err c.from_residual-in_err-bytes.result _ _ c.from_residual-in_err-bytes.ensures.1
    (λ idle is. absurd (read_not_refused _ c.args.session.now c.open.new.self c.read_bytes.new.session c.args.path.now c.in_ok-fd.fd c.in_ok-size.size idle c.in_ok-fd.ensures c.in_err-bytes.ensures is))

pub returns-in_err-close-clause-refused : goal.returns-in_err-close-clause-refused
returns-in_err-close-clause-refused g c =
    passed_err c.from_residual-in_err-close.result _ _ c.from_residual-in_err-close.ensures.1
    (λ idle is. absurd (close_not_refused _ c.args.session.now c.open.new.self c.read_bytes.new.session c.close.new.self c.args.path.now c.in_ok-bytes.bytes.items c.in_ok-fd.fd c.in_ok-size.size idle c.in_ok-fd.ensures c.in_ok-bytes.ensures c.in_err-close.ensures is))

pub returns-clause-loaded : goal.returns-clause-loaded
returns-clause-loaded g c idle =
    loaded c.args.session.now c.open.new.self c.read_bytes.new.session c.close.new.self c.args.path.now c.in_ok-bytes.bytes.items c.in_ok-fd.fd c.in_ok-size.size idle c.in_ok-fd.ensures c.in_ok-size.ensures c.in_ok-bytes.ensures c.in_ok-close.ensures

pub returns-in_err-fd-clause-failed : goal.returns-in_err-fd-clause-failed
returns-in_err-fd-clause-failed g c = passed_err c.from_residual.result _ _ c.from_residual.ensures.1 (λ idle leads. load_fails_at_open _ c.args.session.now c.open.new.self c.args.path.now idle leads c.in_err-fd.ensures)

pub returns-in_err-size-clause-failed : goal.returns-in_err-size-clause-failed
returns-in_err-size-clause-failed g c =
    passed_err c.from_residual-in_err-size.result _ _ c.from_residual-in_err-size.ensures.1 (λ idle leads. absurd (size_not_refused _ c.args.session.now c.open.new.self c.args.path.now c.in_ok-fd.fd idle c.in_ok-fd.ensures c.in_err-size.ensures))

pub returns-in_err-bytes-clause-failed : goal.returns-in_err-bytes-clause-failed
returns-in_err-bytes-clause-failed g c =
    passed_err c.from_residual-in_err-bytes.result _ _ c.from_residual-in_err-bytes.ensures.1
    (λ idle leads. load_fails_at_read _ c.args.session.now c.open.new.self c.read_bytes.new.session c.args.path.now c.in_ok-fd.fd c.in_ok-size.size idle c.in_ok-fd.ensures c.in_err-bytes.ensures)

pub returns-in_err-close-clause-failed : goal.returns-in_err-close-clause-failed
returns-in_err-close-clause-failed g c =
    passed_err c.from_residual-in_err-close.result _ _ c.from_residual-in_err-close.ensures.1
    (λ idle leads. load_fails_at_close _ c.args.session.now c.open.new.self c.read_bytes.new.session c.close.new.self c.args.path.now c.in_ok-bytes.bytes.items c.in_ok-fd.fd c.in_ok-size.size idle c.in_ok-fd.ensures c.in_ok-bytes.ensures c.in_err-close.ensures)
