use Rattle.std.proofs.Common.{◌≡◌, drop}
use Rattle.lfs_fs.proofs.Common.{first_refusal}
use Rattle.lfs_fs.proofs.check_order.find_first_refusal.Given as goal

abbrev pub invariant-loop-check : goal.invariant-loop-check
invariant-loop-check l = first_refusal l.checks ≡ first_refusal (drop l.check-index l.checks)
