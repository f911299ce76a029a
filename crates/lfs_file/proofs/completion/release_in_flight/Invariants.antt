use Rattle.std.proofs.Common.{◌≤◌, ◌<◌, ◌-◌, ℕ}
use Rattle.lfs_file.proofs.Common.{IsInFlight, KeepsUsedBlocks}
use Rattle.lfs_file.proofs.completion.release_in_flight.Given as goal

abbrev pub invariant-abandoning : goal.invariant-abandoning
invariant-abandoning l = record {
  within : l.block ≤ l.block_count;
  gone : (b : ℕ) → b < l.block → ¬ (IsInFlight l.map b);
  kept : KeepsUsedBlocks l.fn.map l.map;
}

abbrev pub decreases-abandoning : goal.decreases-abandoning
decreases-abandoning l = l.block_count - l.block
