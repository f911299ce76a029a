use Rattle.std.proofs.Common.{refl}
use Rattle.lfs_volume.proofs.Soundness.{empty_sound}
use Rattle.lfs_volume.proofs.examples.sound_handles_name_existing_nodes.Goals as goal

pub returns-clause-empty : goal.returns-clause-empty
returns-clause-empty c = empty_sound

pub returns-clause-handle : goal.returns-clause-handle
returns-clause-handle c h g sound = absurd (let k = sound.named 0 g refl in cc)

pub returns-clause-size : goal.returns-clause-size
returns-clause-size c h path size other sound = other (sound.sized refl)

pub returns-clause-dirty_range : goal.returns-clause-dirty_range
returns-clause-dirty_range c h path size dirty_range sound = absurd (let k = sound.unchanged refl in cc)
