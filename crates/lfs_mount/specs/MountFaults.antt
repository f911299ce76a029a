-- The errors of a mount, as a session returns them.
use Rattle.std.specs.Prelude.{◌≡◌, ◌⊎◌}
use Rattle.lfs_device.specs.declared.error.Error.{Error}
use Rattle.lfs_device.specs.declared.error.Error.TheVariants.{Corrupt, Io, NoMemory}

abbrev pub MountMayReport : Error → Type 0
MountMayReport e = (e ≡ Io) ⊎ (e ≡ Corrupt) ⊎ (e ≡ NoMemory)
