use Rattle.std.proofs.Common.{refl, ap, ◌∙◌, cond, List, Option, None}
use Rattle.std.specs.Prelude.{slice_set}
use Rattle.lfs_volume.specs.declared.handles.Handle.{Handle}
use Rattle.lfs_volume.specs.Calls.{named}
use Rattle.lfs_volume.specs.Volume.{VolumeView}
use Rattle.lfs_volume.proofs.Soundness.{sound_dropped}
use Rattle.lfs_volume.proofs.volume.Volume.drop_handle.Goals as goal

pub invariant_of-self : goal.invariant_of-self
invariant_of-self g c works =
    let start : VolumeView = record { session = c.self.inside.session; nodes = c.self.inside.nodes.items; handles = c.self.inside.handles.items } in
    let new : VolumeView = record { session = c.self.inside.session; nodes = c.drop_unreferenced_node.new.nodes.items; handles = c.free_entry_at.new.entries.items } in
    sound_dropped start new c.args.handle c.args.found (c.self.invariant works) (record {
      session = refl;
      handles = c.free_entry_at.ensures;
      nodes = c.drop_unreferenced_node.ensures ∙ ap (λ (hs : List (Option Handle)). cond (named hs c.args.found.node) start.nodes (slice_set start.nodes c.args.found.node None)) c.deref.ensures.value;
    })
