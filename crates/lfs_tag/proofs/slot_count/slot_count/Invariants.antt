use Rattle.std.proofs.Common.{◌≡◌, ◌+◌, ◌<◌, length, max}
use Rattle.lfs_tag.proofs.Common.{block_entries, count_after}
use Rattle.lfs_tag.proofs.slot_count.slot_count.Given as goal

abbrev pub invariant-loop-entry : goal.invariant-loop-entry
invariant-loop-entry l = record {
  same : count_after l.count l.entry-iterator ≡ count_after 0 (block_entries l.log);
  room : max l.count 1024 + length l.entry-iterator < 17408;
}
