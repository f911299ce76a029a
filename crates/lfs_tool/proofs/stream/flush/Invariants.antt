use Rattle.std.proofs.Common.{◌≡◌}
use Rattle.lfs_tool.proofs.Common.{Keeps}
use Rattle.lfs_tool.proofs.stream.flush.Given as goal

abbrev pub invariant-loop : goal.invariant-loop
invariant-loop g l = record {
  kept : Keeps (g.W.Write.contents l.initial.out.inner) (g.W.Write.contents l.out.inner);
  shown : l.out.has_shown ≡ l.initial.out.has_shown;
  same : l.out.fault ≡ l.initial.out.fault;
}
