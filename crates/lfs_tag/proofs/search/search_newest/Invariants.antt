use Rattle.std.proofs.Common.{◌≡◌, ◌+◌, ◌<◌, ◌^◌, length, reverse}
use Rattle.lfs_tag.proofs.Common.{found_in_entries, searched_count}
use Rattle.lfs_tag.proofs.search.search_newest.Given as goal

abbrev pub invariant-loop-entry : goal.invariant-loop-entry
invariant-loop-entry l = record {
  found : found_in_entries (reverse l.entries) l.kind l.id ≡ found_in_entries (reverse l.initial.entries) l.kind l.initial.id;
  looks : l.looks + searched_count (reverse l.entries) l.kind l.id ≡ searched_count (reverse l.initial.entries) l.kind l.initial.id;
  small : l.id + length l.entries < 2 ^ 63;
  few : l.looks + length l.entries < 2 ^ 64;
}

abbrev pub decreases-loop-entry : goal.decreases-loop-entry
decreases-loop-entry l = length l.entries
