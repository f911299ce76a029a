use Rattle.std.proofs.Common.{◌≡◌, ◌<◌, ◌+◌, ◌-◌, length, drop}
use Rattle.lfs_lookup.proofs.Common.{joined_pair_count, LastHasNoHardTail, joined_pairs}
use Rattle.lfs_lookup.proofs.search.directory_end.Given as goal

abbrev pub invariant-loop-next : goal.invariant-loop-next
invariant-loop-next g l = record {
  below : l.pair < length l.fn.thread.kept.pairs;
  count : l.count ≡ length l.fn.thread.kept.pairs;
  run : l.pair + joined_pair_count (drop l.pair l.fn.thread.kept.pairs) ≡ l.fn.first + joined_pair_count (drop l.fn.first l.fn.thread.kept.pairs);
  soft : LastHasNoHardTail (joined_pairs (drop l.pair l.fn.thread.kept.pairs)) → LastHasNoHardTail (joined_pairs (drop l.fn.first l.fn.thread.kept.pairs));
}

abbrev pub decreases-loop-next : goal.decreases-loop-next
decreases-loop-next g l = length l.fn.thread.kept.pairs - l.pair
