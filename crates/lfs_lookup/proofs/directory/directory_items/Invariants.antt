use Rattle.std.proofs.Common.{◌≡◌, ◌<◌, ◌≤◌, ◌+◌, ◌-◌, ◌++◌, IfSome, Some, drop, length}
use Rattle.lfs_lookup.proofs.Common.{option_map_or, read_count, items_view, joined_pairs, hard_tail_count_from, hard_tail_chain_from, directory_entries_from}
use Rattle.lfs_lookup.proofs.Reading.{HasRead}
use Rattle.lfs_lookup.proofs.RecentBlocks.{HasKept}
use Rattle.lfs_lookup.proofs.directory.directory_items.Given as goal

abbrev pub invariant-loop-pair : goal.invariant-loop-pair
invariant-loop-pair g l = record {
  read : HasRead l.fn.thread l.thread;
  few : read_count l.thread.kept.history + hard_tail_count_from l.fn.thread.kept.pairs l.pair ≤ read_count l.fn.thread.kept.history + hard_tail_count_from l.fn.thread.kept.pairs (Some l.first);
  along : HasKept (joined_pairs (drop l.first l.fn.thread.kept.pairs)) (hard_tail_chain_from l.fn.thread.kept.pairs l.pair) l.fn.thread l.thread;
  below : IfSome l.pair (λ pair. pair < length l.fn.thread.kept.pairs);
  items : items_view l.items.items ++ directory_entries_from l.fn.thread.kept.pairs l.pair ≡ directory_entries_from l.fn.thread.kept.pairs (Some l.first);
}

abbrev pub decreases-loop-pair : goal.decreases-loop-pair
decreases-loop-pair g l = option_map_or (λ pair. length l.fn.thread.kept.pairs - pair) l.pair 0
