use Rattle.std.proofs.Common.{◌≡◌, ◌+◌, drop, length}
use Rattle.std.specs.Option.{option_map}
use Rattle.lfs_mount.proofs.Common.{first_filled}
use Rattle.lfs_mount.proofs.superblock_chain.first_nonempty_pair.Given as goal

abbrev pub invariant-loop-index : goal.invariant-loop-index
invariant-loop-index l = record {
  end : l.index-end ≡ length l.pairs;
  ahead : first_filled l.pairs ≡ option_map (λ k. l.index + k) (first_filled (drop l.index l.pairs));
}
