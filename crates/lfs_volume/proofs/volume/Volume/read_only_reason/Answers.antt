use Rattle.std.proofs.Common.{refl, subst}
use Rattle.std.specs.Prelude.{IfOk}
use Rattle.lfs_fs.specs.ReadOnly.{IsReadOnlyReason}
use Rattle.lfs_volume.specs.Volume.{VolumeView}
use Rattle.lfs_volume.proofs.Reading.{read_keeps}
use Rattle.lfs_volume.proofs.volume.Volume.read_only_reason.Goals as goal

pub invariant_of-self : goal.invariant_of-self
invariant_of-self g c =
    let start : VolumeView = record { session = c.self.inside.session; nodes = c.self.inside.nodes.items; handles = c.self.inside.handles.items } in
    let new : VolumeView = record { session = c.read_only_reason.new.self; nodes = c.self.inside.nodes.items; handles = c.self.inside.handles.items } in
    read_keeps c.read_only_reason.result start new c.read_only_reason.ensures.read c.read_only_reason.ensures.failed (refl, refl) c.self.invariant

pub returns-clause-is : goal.returns-clause-is
returns-clause-is g c = subst (λ (v : VolumeView). IfOk c.read_only_reason.result (IsReadOnlyReason v.session)) c.self.view_is c.read_only_reason.ensures.is
