use Rattle.std.proofs.Common.{◌≡◌, length, take, ◌≤◌}
use Rattle.lfs_tool.proofs.Common.{Appends}
use Rattle.lfs_tool.proofs.stream.write_bytes.Given as goal

abbrev pub invariant-loop : goal.invariant-loop
invariant-loop g l = record {
  within : l.at ≤ length l.bytes;
  same : l.out.fault ≡ l.initial.out.fault;
  written : Appends (g.W.Write.contents l.initial.out.inner) (g.W.Write.contents l.out.inner) (take l.at l.bytes);
}
