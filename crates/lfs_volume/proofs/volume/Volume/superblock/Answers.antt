use Rattle.std.proofs.Common.{refl}
use Rattle.lfs_volume.specs.Volume.{VolumeView}
use Rattle.lfs_volume.proofs.Reading.{read_keeps}
use Rattle.lfs_volume.proofs.volume.Volume.superblock.Goals as goal

pub invariant_of-self : goal.invariant_of-self
invariant_of-self g c =
    let start : VolumeView = record { session = c.self.inside.session; nodes = c.self.inside.nodes.items; handles = c.self.inside.handles.items } in
    let new : VolumeView = record { session = c.superblock.new.self; nodes = c.self.inside.nodes.items; handles = c.self.inside.handles.items } in
    read_keeps c.superblock.result start new c.superblock.ensures.read c.superblock.ensures.failed (refl, refl) c.self.invariant
