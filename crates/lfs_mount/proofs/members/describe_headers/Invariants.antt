use Rattle.std.proofs.Common.{◌≡◌, ◌++◌, nat_eq, length, drop, true}
use Rattle.lfs_mount.proofs.Common.{move_view, header_descriptions}
use Rattle.lfs_mount.proofs.members.describe_headers.Given as goal

abbrev pub invariant-loop-pair : goal.invariant-loop-pair
invariant-loop-pair l = l.members.items ++ header_descriptions (move_view l.state) (nat_eq (length l.members.items) 0) (drop l.pair-index l.pairs) ≡ header_descriptions (move_view l.state) true l.pairs
