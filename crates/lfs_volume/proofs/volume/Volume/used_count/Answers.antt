use Rattle.std.proofs.Common.{refl, subst}
use Rattle.lfs_fs.specs.Replies.{reply_from}
use Rattle.lfs_model.specs.session.Operations as ops
use Rattle.lfs_volume.specs.Volume.{VolumeView}
use Rattle.lfs_volume.specs.VolumeCalls.{IsSessionCall}
use Rattle.lfs_volume.proofs.SessionOperations.{performed_call}
use Rattle.lfs_volume.proofs.volume.Volume.used_count.Goals as goal

pub returns : goal.returns
returns g c =
    let start : VolumeView = record { session = c.self.inside.session; nodes = c.self.inside.nodes.items; handles = c.self.inside.handles.items } in
    subst (λ v. IsSessionCall v ops.UsedCount (reply_from ops.Count c.used_count.result) v) c.self.view_is (performed_call start start ops.UsedCount (reply_from ops.Count c.used_count.result) refl c.self.invariant c.used_count.ensures refl refl)
