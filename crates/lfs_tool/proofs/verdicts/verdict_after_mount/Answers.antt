use Rattle.std.proofs.Common.{ap, subst, sym}
use Rattle.std.specs.Prelude.{IfOk}
use Rattle.lfs_tool.proofs.Common.{disk_with_order, Disk, IsDiskVerdict}
use Rattle.lfs_model.specs.declared.order.NameOrder.TheVariants.{LongerFirst, ShorterFirst}
use Rattle.lfs_model.specs.layers.Violations.{Breaks}
use Rattle.lfs_tool.proofs.FoundOrders.{in_either, in_longer, in_shorter}
use Rattle.lfs_tool.proofs.verdicts.verdict_after_mount.Goals as goal

pub accepted_image_verdict-requires : goal.accepted_image_verdict-requires
accepted_image_verdict-requires c =
    let found = c.in-None-None in
    in_either c.requires.0 c.args.thread c.args.findings c.requires.1 found.is-0 found.is-1

pub accepted_image_verdict-requires-in-None-Some : goal.accepted_image_verdict-requires-in-None-Some
accepted_image_verdict-requires-in-None-Some c =
    let found = c.in-None-Some in
    in_longer c.requires.0 c.args.thread c.args.findings c.requires.1 _ found.is-0 found.is-1

pub accepted_image_verdict-requires-in-Some-None : goal.accepted_image_verdict-requires-in-Some-None
accepted_image_verdict-requires-in-Some-None c =
    let found = c.in-Some-None in
    in_shorter c.requires.0 c.args.thread c.args.findings c.requires.1 _ found.is-0 found.is-1

pub refused_image_verdict-requires-clause-longer : goal.refused_image_verdict-requires-clause-longer
refused_image_verdict-requires-clause-longer c =
    let found = c.in-Some-Some in
    let same = ap (disk_with_order LongerFirst) c.into_device.ensures.disk in
    subst (λ (d : Disk). Breaks (disk_with_order LongerFirst d) found.longer) (sym same) (c.requires.1.broken LongerFirst found.longer found.is-0)

pub refused_image_verdict-requires-clause-shorter : goal.refused_image_verdict-requires-clause-shorter
refused_image_verdict-requires-clause-shorter c =
    let found = c.in-Some-Some in
    let same = ap (disk_with_order LongerFirst) c.into_device.ensures.disk in
    subst (λ (d : Disk). Breaks (disk_with_order ShorterFirst d) found.shorter) (sym same) (c.requires.1.broken ShorterFirst found.shorter found.is-1)

pub returns-in-Some-Some-clause-verdict : goal.returns-in-Some-Some-clause-verdict
returns-in-Some-Some-clause-verdict c = subst (λ (d : Disk). IfOk c.refused_image_verdict.result (IsDiskVerdict d)) (ap (disk_with_order LongerFirst) c.into_device.ensures.disk) c.refused_image_verdict.ensures.verdict
