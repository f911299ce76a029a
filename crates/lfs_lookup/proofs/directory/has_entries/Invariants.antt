use Rattle.std.proofs.Common.{◌≡◌, ◌<◌, ◌≤◌, ◌+◌, ◌-◌, IfSome, length}
use Rattle.lfs_lookup.proofs.Common.{option_map_or, read_count, hard_tail_count_from, directory_entries_from}
use Rattle.lfs_lookup.proofs.Reading.{HasRead}
use Rattle.lfs_lookup.proofs.directory.has_entries.Given as goal

abbrev pub invariant-loop-pair : goal.invariant-loop-pair
invariant-loop-pair g l = record {
  read : HasRead l.fn.thread l.thread;
  few : read_count l.thread.kept.history + hard_tail_count_from l.fn.thread.kept.pairs l.pair ≤ read_count l.fn.thread.kept.history + hard_tail_count_from l.fn.thread.kept.pairs l.fn.from;
  below : IfSome l.pair (λ pair. pair < length l.fn.thread.kept.pairs);
  none_before : directory_entries_from l.fn.thread.kept.pairs l.pair ≡ directory_entries_from l.fn.thread.kept.pairs l.fn.from;
}

abbrev pub decreases-loop-pair : goal.decreases-loop-pair
decreases-loop-pair g l = option_map_or (λ pair. length l.fn.thread.kept.pairs - pair) l.pair 0
