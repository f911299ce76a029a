use Rattle.std.proofs.Common.{◌≡◌, length}
use Rattle.lfs_operations.proofs.wear.find_relocation_target.Given as goal

abbrev pub invariant-loop-step : goal.invariant-loop-step
invariant-loop-step g l = l.count ≡ length l.thread.kept.pairs
