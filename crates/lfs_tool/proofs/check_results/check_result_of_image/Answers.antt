use Rattle.std.proofs.Common.{◌<◌, arith, length}
use Rattle.lfs_tool.proofs.Checks.{no_image}
use Rattle.lfs_tool.proofs.check_results.check_result_of_image.Goals as goal

pub returns-then-len-gt-IMAGE_MAX-clause-checked : goal.returns-then-len-gt-IMAGE_MAX-clause-checked
returns-then-len-gt-IMAGE_MAX-clause-checked c =
    let items = c.args.image.items in
    let layout = c.args.layout in
    let len = c.len.ensures in
    let again = c.len-then-len-gt-IMAGE_MAX.ensures in
    let more = c.if-len-gt-IMAGE_MAX.true in
    let long : 268435456 < length items = omega (arith, len, more) in
    let none = no_image layout.block_size layout.page items long in
    c.refused_check_result.ensures layout items (λ is. absurd (none is)) (λ short. absurd (omega (arith, long, short))) (λ is. ((λ short. absurd (omega (arith, long, short))), none)) (c.of-given.ensures items (omega (arith, again)))

pub check_image_bytes-requires : goal.check_image_bytes-requires
check_image_bytes-requires c =
    let len = c.len.ensures in
    let fits = c.if-len-gt-IMAGE_MAX.false in
    omega (arith, len, fits)
