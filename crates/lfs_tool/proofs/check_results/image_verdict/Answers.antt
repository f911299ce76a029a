use Rattle.std.proofs.Common.{subst}
use Rattle.lfs_tool.proofs.Common.{IsDiskVerdict, Disk}
use Rattle.lfs_tool.proofs.check_results.image_verdict.Goals as goal

pub returns-in_ok-verdict-in-Ok-clause-judged : goal.returns-in_ok-verdict-in-Ok-clause-judged
returns-in_ok-verdict-in-Ok-clause-judged c =
    let v = c.in_ok-verdict-in-Ok in
    (c.in-Ok.ensures.image, subst (λ (d : Disk). IsDiskVerdict d v.verdict) c.in-Ok.ensures.disk v.ensures.verdict)
