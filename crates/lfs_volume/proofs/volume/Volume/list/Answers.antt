use Rattle.std.proofs.Common.{refl, subst, map}
use Rattle.lfs_lookup.specs.Finds.{listed_item_view}
use Rattle.lfs_fs.specs.Replies.{reply_from}
use Rattle.lfs_model.specs.session.Operations as ops
use Rattle.lfs_volume.specs.Volume.{VolumeView}
use Rattle.lfs_volume.specs.VolumeCalls.{IsSessionCall}
use Rattle.lfs_volume.proofs.SessionOperations.{performed_call}
use Rattle.lfs_volume.proofs.TreesKept.{performed_keeps}
use Rattle.lfs_volume.proofs.volume.Volume.list.Goals as goal

pub returns : goal.returns
returns g c =
    let start : VolumeView = record { session = c.self.inside.session; nodes = c.self.inside.nodes.items; handles = c.self.inside.handles.items } in
    let new : VolumeView = record { session = c.list.new.self; nodes = c.self.inside.nodes.items; handles = c.self.inside.handles.items } in
    subst (λ v. IsSessionCall v (ops.ListAll c.args.path.now) (reply_from (λ items. ops.Items (map listed_item_view items.items)) c.list.result) new) c.self.view_is (performed_call start new (ops.ListAll c.args.path.now) (reply_from (λ items. ops.Items (map listed_item_view items.items)) c.list.result) refl c.self.invariant c.list.ensures refl refl)

pub invariant_of-self : goal.invariant_of-self
invariant_of-self g c =
    let start : VolumeView = record { session = c.self.inside.session; nodes = c.self.inside.nodes.items; handles = c.self.inside.handles.items } in
    let new : VolumeView = record { session = c.list.new.self; nodes = c.self.inside.nodes.items; handles = c.self.inside.handles.items } in
    performed_keeps start new (ops.ListAll c.args.path.now) (reply_from (λ items. ops.Items (map listed_item_view items.items)) c.list.result) refl c.self.invariant c.list.ensures refl refl
