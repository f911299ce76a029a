use Rattle.std.proofs.Common.{sym}
use Rattle.lfs_volume.proofs.Steps.{passed_err}
use Rattle.lfs_volume.proofs.NodesByNumber.{stored_read}
use Rattle.lfs_volume.proofs.nodes.stored_bytes.Goals as goal

pub returns-in_err-bytes-in-Some-clause-failed : goal.returns-in_err-bytes-in-Some-clause-failed
returns-in_err-bytes-in-Some-clause-failed g c =
    passed_err c.from_residual.result _ _ c.from_residual.ensures.1 (λ idle sound. c.in_err-bytes-in-Some.ensures.failed idle (sound.leads c.in-Some.path.now (sym c.in-Some.ensures)))

pub returns-in_ok-bytes-in-Some-clause-are : goal.returns-in_ok-bytes-in-Some-clause-are
returns-in_ok-bytes-in-Some-clause-are g c idle =
    stored_read c.args.session.now c.load.new.session c.args.node.now c.in-Some.path.now c.in_ok-bytes-in-Some.bytes.items c.in-Some.ensures (c.in_ok-bytes-in-Some.ensures.loaded idle)
