use Rattle.littlefs_c.proofs.Images.{holds, made_so}
use Rattle.littlefs_c.proofs.image.new_image_device.Goals as goal

pub returns-clause-ok : goal.returns-clause-ok
returns-clause-ok c =
    holds c.args.block_size c.args.page c.args.profile c.args.image.now c.in_ok-from_slice.field-0.items c.in_ok-geometry.geometry c.from_bytes.result c.in_ok-geometry.ensures.ok c.in_ok-from_slice.ensures.items
    (made_so c.in_ok-from_slice.field-0.items c.in_ok-geometry.geometry _ _ _ c.from_bytes.result c.from_bytes.ensures.made) c.from_bytes.ensures.no_call
