use Rattle.std.proofs.Common.{◌≡◌, ◌<◌, ◌≤◌, ◌+◌, ◌-◌, length, drop, false, get_or}
use Rattle.lfs_lookup.proofs.Common.{fault_count, read_count, joined_pair_count, OnlyReadsThread, empty_anchor, joined_pairs, IsNameAbsentFrom}
use Rattle.lfs_lookup.proofs.RecentBlocks.{HasBrought}
use Rattle.lfs_lookup.proofs.ShownAlong.{LeadsFromFresh}
use Rattle.lfs_lookup.proofs.search.linear_search_name.Given as goal

abbrev pub invariant-loop-id : goal.invariant-loop-id
invariant-loop-id g l = record {
  only : OnlyReadsThread l.fn.thread.kept l.thread.kept;
  no_fault : fault_count l.thread.kept.history ≡ fault_count l.fn.thread.kept.history;
  works : l.thread.failed ≡ false;
  few : read_count l.thread.kept.history + joined_pair_count (drop l.pair l.fn.thread.kept.pairs) ≤ read_count l.fn.thread.kept.history + joined_pair_count (drop l.fn.first l.fn.thread.kept.pairs);
  along : HasBrought (joined_pairs (drop l.fn.first l.fn.thread.kept.pairs)) (joined_pairs (drop l.pair l.fn.thread.kept.pairs)) l.fn.thread l.thread;
  from : l.fn.first ≤ l.pair;
  below : l.pair < length l.fn.thread.kept.pairs;
  reached : LeadsFromFresh l.fn.thread.kept.pairs l.fn.first l.pair (get_or l.fn.thread.kept.pairs l.pair empty_anchor);
  absent : IsNameAbsentFrom l.fn.moved l.pair (drop l.pair l.fn.thread.kept.pairs) l.fn.name → IsNameAbsentFrom l.fn.moved l.fn.first (drop l.fn.first l.fn.thread.kept.pairs) l.fn.name;
}

abbrev pub decreases-loop-id : goal.decreases-loop-id
decreases-loop-id g l = length l.fn.thread.kept.pairs - l.pair
