use Rattle.std.proofs.Common.{refl, sym, subst, ◌≡◌, ◌∙◌, true}
use Rattle.lfs_fs.specs.Replies.{reply_from}
use Rattle.lfs_model.specs.format.Names.{same_name}
use Rattle.lfs_model.specs.session.Operations as ops
use Rattle.lfs_volume.specs.Calls.{Perform}
use Rattle.lfs_volume.specs.Volume.{VolumeView}
use Rattle.lfs_volume.specs.VolumeCalls.{IsVolumeCall}
use Rattle.lfs_volume.proofs.PathMoves.{renamed_to_itself, sound_to_itself}
use Rattle.lfs_volume.proofs.SessionOperations.{operation_call, operation_keeps}
use Rattle.lfs_volume.proofs.volume.Volume.rename.Goals as goal

pub returns-then-is_same_path : goal.returns-then-is_same_path
returns-then-is_same_path g c =
    let start : VolumeView = record { session = c.self.inside.session; nodes = c.self.inside.nodes.items; handles = c.self.inside.handles.items } in
    let new : VolumeView = record { session = c.rename.new.self; nodes = c.self.inside.nodes.items; handles = c.self.inside.handles.items } in
    let op = ops.Rename c.args.from.now c.args.to.now in
    let same : same_name c.args.from.now c.args.to.now ≡ true = sym c.is_same_path.ensures ∙ c.if-is_same_path.true in
    subst (λ v. IsVolumeCall v (Perform op) (reply_from (λ _. ops.Done) c.rename.result) new) c.self.view_is
    (operation_call start new (Perform op) op (reply_from (λ _. ops.Done) c.rename.result) refl c.rename.ensures refl refl c.self.invariant (λ sound.
    renamed_to_itself start new c.args.from.now c.args.to.now sound same refl refl c.rename.result c.rename.ensures))

pub invariant_of-self : goal.invariant_of-self
invariant_of-self g c =
    let start : VolumeView = record { session = c.self.inside.session; nodes = c.self.inside.nodes.items; handles = c.self.inside.handles.items } in
    let new : VolumeView = record { session = c.rename.new.self; nodes = c.self.inside.nodes.items; handles = c.self.inside.handles.items } in
    let same : same_name c.args.from.now c.args.to.now ≡ true = sym c.is_same_path.ensures ∙ c.if-is_same_path.true in
    operation_keeps start new (ops.Rename c.args.from.now c.args.to.now) (reply_from (λ _. ops.Done) c.rename.result) refl c.rename.ensures c.self.invariant (λ sound.
    sound_to_itself start new c.args.from.now c.args.to.now sound same refl refl c.rename.result c.rename.ensures)
