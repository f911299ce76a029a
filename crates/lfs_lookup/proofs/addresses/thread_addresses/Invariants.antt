use Rattle.std.proofs.Common.{◌≡◌, take}
use Rattle.lfs_lookup.proofs.Common.{pairs_addresses}
use Rattle.lfs_lookup.proofs.addresses.thread_addresses.Given as goal

abbrev pub invariant-loop-index : goal.invariant-loop-index
invariant-loop-index g l = l.addresses ≡ pairs_addresses (take l.index l.fn.thread.kept.pairs)
