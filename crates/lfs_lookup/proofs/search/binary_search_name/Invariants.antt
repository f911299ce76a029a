use Rattle.std.proofs.Common.{◌<◌, ◌≤◌, ◌+◌, ◌-◌, ◌^◌, length, drop}
use Rattle.lfs_lookup.proofs.Common.{read_count, joined_pair_count, EachPairHasSlot, halving_count, joined_pairs}
use Rattle.lfs_lookup.proofs.Halved.{IsHigh, IsLow}
use Rattle.lfs_lookup.proofs.HalvedReads.{HasHalved, HasLoaded}
use Rattle.lfs_lookup.proofs.Reading.{HasRead}
use Rattle.lfs_lookup.proofs.search.binary_search_name.Given as goal

abbrev pub invariant-loop-low : goal.invariant-loop-low
invariant-loop-low g l = record {
  read : HasRead l.fn.thread l.thread;
  from : l.fn.first ≤ l.low;
  meets : l.low ≤ l.high;
  end : l.high ≤ l.fn.first + joined_pair_count (drop l.fn.first l.fn.thread.kept.pairs);
  within : l.high ≤ length l.fn.thread.kept.pairs;
  fits : l.high < 2 ^ 64;
  few : read_count l.thread.kept.history + (l.high - l.low) ≤ read_count l.fn.thread.kept.history + joined_pair_count (drop l.fn.first l.fn.thread.kept.pairs);
  halves : EachPairHasSlot (joined_pairs (drop l.fn.first l.fn.thread.kept.pairs))
      → HasHalved (halving_count (joined_pair_count (drop l.fn.first l.fn.thread.kept.pairs))) (read_count l.fn.thread.kept.history) (read_count l.thread.kept.history) (l.high - l.low);
  loaded : HasLoaded (joined_pairs (drop l.fn.first l.fn.thread.kept.pairs)) l.fn.first l.low l.high l.fn.thread l.thread;
  lesser : IsLow l.fn.thread.kept.disk.order (joined_pairs (drop l.fn.first l.fn.thread.kept.pairs)) l.fn.first l.fn.name l.spot.pair l.spot.id l.low;
  greater : IsHigh l.fn.thread.kept.disk.order (joined_pairs (drop l.fn.first l.fn.thread.kept.pairs)) l.fn.first l.fn.name l.high;
}

abbrev pub decreases-loop-low : goal.decreases-loop-low
decreases-loop-low g l = l.high - l.low
