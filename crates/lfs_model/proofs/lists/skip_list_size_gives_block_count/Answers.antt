use Rattle.std.proofs.Common.{refl, arith}
use Rattle.lfs_model.proofs.lists.skip_list_size_gives_block_count.Goals as goal

pub returns-clause-blocks : goal.returns-clause-blocks
unfolding lib.Count.count_trailing_zeros
returns-clause-blocks c = refl

pub returns-clause-pointers : goal.returns-clause-pointers
unfolding lib.Count.count_trailing_zeros
returns-clause-pointers c = refl

pub returns-clause-capacities : goal.returns-clause-capacities
unfolding lib.Count.count_trailing_zeros
returns-clause-capacities c = refl

pub returns-clause-inline : goal.returns-clause-inline
unfolding lib.Count.count_trailing_zeros
returns-clause-inline c = refl

pub returns-clause-places : goal.returns-clause-places
unfolding lib.Count.count_trailing_zeros
returns-clause-places c = (
  record { from = omega arith; below = omega arith; at = refl },
  record { from = omega arith; below = omega arith; at = refl },
  record { from = omega arith; below = omega arith; at = refl },
  record { from = omega arith; below = omega arith; at = refl },
  record { from = omega arith; below = omega arith; at = refl },
)
