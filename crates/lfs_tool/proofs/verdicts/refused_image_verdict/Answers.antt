use Rattle.std.proofs.Common.{◌≡◌, ◌∙◌, subst, sym}
use Rattle.lfs_device.specs.DeviceDisk.{disk_of_blocks}
use Rattle.lfs_tool.proofs.Common.{ram_blocks, ram_geometry}
use Rattle.lfs_tool.proofs.FoundOrders.{in_neither, in_some_order}
use Rattle.lfs_tool.specs.Verdict.{BreaksInSomeOrder}
use Rattle.lfs_tool.proofs.verdicts.refused_image_verdict.Goals as goal

pub returns-clause-verdict : goal.returns-clause-verdict
returns-clause-verdict c =
    let disk = disk_of_blocks (ram_geometry c.args.device) (ram_blocks c.args.device) in (
      in_neither disk c.args.longer c.args.shorter c.requires.longer c.requires.shorter,
      subst (BreaksInSomeOrder disk) (sym c.in_ok-rule.ensures.rule) (in_some_order disk c.reported_rule.result c.args.longer c.args.shorter c.reported_rule.ensures c.requires.longer c.requires.shorter),
    )
