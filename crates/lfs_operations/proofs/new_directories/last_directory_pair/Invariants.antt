use Rattle.lfs_operations.proofs.Common.{◌≡◌, ◌<◌, ◌+◌, ◌-◌, length, drop, joined_pair_count}
use Rattle.lfs_operations.proofs.new_directories.last_directory_pair.Given as goal

abbrev pub invariant-loop-next : goal.invariant-loop-next
invariant-loop-next g l = record {
  below : l.last < length l.fn.thread.kept.pairs;
  is : l.last + joined_pair_count (drop l.last l.fn.thread.kept.pairs) ≡ l.index + joined_pair_count (drop l.index l.fn.thread.kept.pairs);
}

abbrev pub decreases-loop-next : goal.decreases-loop-next
decreases-loop-next g l = length l.fn.thread.kept.pairs - l.last
