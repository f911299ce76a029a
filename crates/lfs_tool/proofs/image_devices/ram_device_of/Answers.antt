use Rattle.std.proofs.Common.{arith, refl}
use Rattle.lfs_tool.proofs.Images.{image_fits}
use Rattle.lfs_tool.proofs.image_devices.ram_device_of.Goals as goal

pub returns-then-len-gt-IMAGE_MAX-clause-err : goal.returns-then-len-gt-IMAGE_MAX-clause-err
returns-then-len-gt-IMAGE_MAX-clause-err c =
    let len = c.len.ensures in
    let more = c.if-len-gt-IMAGE_MAX.true in
    (refl, λ is. (let short = image_fits c.args.layout.block_size c.args.layout.page c.args.image.items is in omega (arith, len, more, short)))
