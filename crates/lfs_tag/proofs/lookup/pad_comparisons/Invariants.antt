use Rattle.std.proofs.Common.{◌≡◌, ◌+◌, ◌-◌, ◌≤◌, ◌++◌, length, replicate, max}
use Rattle.lfs_tag.specs.declared.lookup.NameComparison.TheVariants.{NoneOrLess}
use Rattle.lfs_tag.proofs.lookup.pad_comparisons.Given as goal

abbrev pub invariant-loop-ranks : goal.invariant-loop-ranks
invariant-loop-ranks l = record {
  longer : length l.initial.ranks.items ≤ length l.ranks.items;
  within : length l.ranks.items ≤ max (length l.initial.ranks.items) (l.id + 1);
  filled : l.ranks.items ≡ l.initial.ranks.items ++ replicate (length l.ranks.items - length l.initial.ranks.items) NoneOrLess;
}

abbrev pub decreases-loop-ranks : goal.decreases-loop-ranks
decreases-loop-ranks l = l.id + 1 - length l.ranks.items
