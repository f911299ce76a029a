use Rattle.std.proofs.Common.{◌≡◌, ◌++◌, drop, true}
use Rattle.lfs_mount.proofs.Common.{directory_start_addresses_of}
use Rattle.lfs_mount.proofs.members.directory_start_addresses.Given as goal

abbrev pub invariant-loop-pair : goal.invariant-loop-pair
invariant-loop-pair l = l.places ++ directory_start_addresses_of l.begins (drop l.pair-index l.pairs) ≡ directory_start_addresses_of true l.pairs
