-- The bytes are those of the volume's image.
use Rattle.littlefs_c.proofs.volumes.copy_image_range.Goals as goal

pub returns-clause-copied : goal.returns-clause-copied
returns-clause-copied c = record { bytes = c.image_of_volume.result.now; image = c.image_of_volume.ensures; takes = c.copy_from_offset.ensures.count; copied = c.copy_from_offset.ensures.copied }
