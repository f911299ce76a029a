-- The disk of a device.
use Rattle.lfs_device.specs.declared.geometry.Geometry.{Geometry}
use Rattle.lfs_model.specs.format.Blocks.{Blocks}
use Rattle.lfs_model.specs.format.Disk.{Disk, longer_first_disk}
use Rattle.lfs_model.specs.declared.limits.Profile.{Profile}

-- The disk with these blocks, in the geometry of a device.
abbrev pub disk_of_blocks : Geometry → Blocks → Disk
disk_of_blocks geometry blocks = longer_first_disk geometry.block_size geometry.page geometry.profile blocks

-- The disk with another profile.
abbrev pub disk_with_profile : Profile → Disk → Disk
disk_with_profile profile disk = record disk { profile = profile }
