use Rattle.std.proofs.Common.{◌≡◌, ◌≤◌, false, length, take}
use Rattle.lfs_thread.proofs.Common.{AllByRecursion, address_of_array, same_pair}
use Rattle.lfs_thread.proofs.pair_numbers.number_at_address.Given as goal

abbrev pub invariant-loop-index : goal.invariant-loop-index
invariant-loop-index g l = record {
  end : l.index-end ≡ length l.fn.thread.kept.pairs;
  within : l.index ≤ l.index-end;
  none : AllByRecursion (λ p. same_pair p.at (address_of_array l.fn.at) ≡ false) (take l.index l.fn.thread.kept.pairs);
}
