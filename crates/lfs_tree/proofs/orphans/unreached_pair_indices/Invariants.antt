use Rattle.std.proofs.Common.{◌≡◌, ◌≤◌, length}
use Rattle.lfs_tree.proofs.Scanned.{IsScanning}
use Rattle.lfs_tree.proofs.orphans.unreached_pair_indices.Given as goal

abbrev pub invariant-loop-index : goal.invariant-loop-index
invariant-loop-index g l = record {
  end : l.index-end ≡ length l.fn.thread.kept.pairs;
  low : l.fn.root ≤ l.index;
  within : l.index ≤ l.index-end;
  scanning : IsScanning l.fn.thread.kept.pairs l.fn.root l.index l.numbers.items l.is_reached;
}
