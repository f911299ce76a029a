use Rattle.std.proofs.Common.{subst}
use Rattle.lfs_fs.specs.CallEffects.{IsCall}
use Rattle.lfs_fs.specs.Replies.{reply_from}
use Rattle.lfs_model.specs.session.Operations as ops
use Rattle.lfs_volume.proofs.loads.read_bytes.Goals as goal

pub returns-in-Some : goal.returns-in-Some
returns-in-Some g c =
    subst (λ n. IsCall c.args.session.now (ops.Read c.args.fd n) (reply_from (λ v. ops.Bytes v.items) c.read_into_vec.result) c.read_into_vec.new.session) c.in-Some.ensures c.read_into_vec.ensures
