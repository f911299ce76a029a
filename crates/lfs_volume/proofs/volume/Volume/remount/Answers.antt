use Rattle.std.proofs.Common.{subst}
use Rattle.lfs_fs.specs.Replies.{reply_from}
use Rattle.lfs_model.specs.session.Operations as ops
use Rattle.lfs_volume.specs.Volume.{VolumeView}
use Rattle.lfs_volume.specs.VolumeCalls.{IsVolumeRemount}
use Rattle.lfs_volume.proofs.Soundness.{remounted, remounted_sound}
use Rattle.lfs_volume.proofs.volume.Volume.remount.Goals as goal

pub returns : goal.returns
returns g c =
    let old : VolumeView = record { session = c.self.inside.session; nodes = c.self.inside.nodes.items; handles = c.self.inside.handles.items } in
    let new : VolumeView = record { session = c.remount.new.self; nodes = c.clear-2.new.self.items; handles = c.clear.new.self.items } in
    subst (λ v. IsVolumeRemount v (reply_from (λ _. ops.Done) c.remount.result) new) c.self.view_is (remounted old new (reply_from (λ _. ops.Done) c.remount.result) c.remount.ensures c.clear-2.ensures.items c.clear.ensures.items)

pub invariant_of-self : goal.invariant_of-self
invariant_of-self g c =
    let old : VolumeView = record { session = c.self.inside.session; nodes = c.self.inside.nodes.items; handles = c.self.inside.handles.items } in
    let new : VolumeView = record { session = c.remount.new.self; nodes = c.clear-2.new.self.items; handles = c.clear.new.self.items } in
    remounted_sound old new (reply_from (λ _. ops.Done) c.remount.result) c.remount.ensures c.clear-2.ensures.items c.clear.ensures.items
