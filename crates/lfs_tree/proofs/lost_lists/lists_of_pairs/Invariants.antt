use Rattle.std.proofs.Common.{◌≡◌, take}
use Rattle.lfs_tree.proofs.Common.{slots_of_pairs_at, slots_lists, HasRead}
use Rattle.lfs_tree.proofs.lost_lists.lists_of_pairs.Given as goal

abbrev pub invariant-loop-number : goal.invariant-loop-number
invariant-loop-number g l = record {
  lists : l.lists.items ≡ slots_lists (slots_of_pairs_at l.fn.thread.kept.pairs (take l.number-index l.fn.numbers));
  read : HasRead l.fn.thread l.thread;
}
