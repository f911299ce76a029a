use Rattle.std.proofs.Common.{◌≡◌, ◌≤◌, Some, drop, length}
use Rattle.lfs_tool.proofs.Fractions.{bytes_of_tenths}
use Rattle.lfs_tool.proofs.numbers.bytes_of_fraction.Given as goal

abbrev pub invariant-loop-at : goal.invariant-loop-at
invariant-loop-at l = record {
  within : l.at ≤ length l.digits;
  small : l.bytes ≤ l.unit;
  same : bytes_of_tenths l.unit (drop l.at l.digits) ≡ Some l.bytes;
}

abbrev pub decreases-loop-at : goal.decreases-loop-at
decreases-loop-at l = l.at
