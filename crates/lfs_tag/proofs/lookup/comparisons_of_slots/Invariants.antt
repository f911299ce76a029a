use Rattle.std.proofs.Common.{◌≡◌, []}
use Rattle.lfs_tag.proofs.Common.{block_entries, comparisons_after}
use Rattle.lfs_tag.proofs.lookup.comparisons_of_slots.Given as goal

abbrev pub invariant-loop-entry : goal.invariant-loop-entry
invariant-loop-entry l = comparisons_after l.order l.name l.ranks.items l.entry-iterator ≡ comparisons_after l.order l.name [] (block_entries l.log)
