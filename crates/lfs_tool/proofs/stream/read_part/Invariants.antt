use Rattle.std.proofs.Common.{◌≡◌}
use Rattle.lfs_tool.proofs.Common.{Keeps}
use Rattle.lfs_tool.proofs.stream.read_part.Given as goal

abbrev pub invariant-loop : goal.invariant-loop
invariant-loop g l = record {
  kept : Keeps (g.R.Read.remaining l.initial.image.inner) (g.R.Read.remaining l.image.inner);
  same : l.image.fault ≡ l.initial.image.fault;
}
