use Rattle.std.proofs.Common.{Bool, ◌≡◌, ◌++◌, drop, subst, true}
use Rattle.lfs_mount.proofs.Common.{directory_start_addresses_of}
use Rattle.lfs_mount.proofs.Begins.{next_apart}
use Rattle.lfs_mount.proofs.members.directory_start_addresses.Goals as goal

pub add-requires : goal.add-requires
add-requires c =
    next_apart c.loop-pair.places c.args.pairs.now c.loop-pair.pair-index c.pair-item.result c.loop-pair-test.true c.pair-item.is
    (subst (λ (b : Bool). c.loop-pair.places ++ directory_start_addresses_of b (drop c.loop-pair.pair-index c.args.pairs.now) ≡ directory_start_addresses_of true c.args.pairs.now) c.if-begins.true c.loop-pair.invariant)
    c.requires
