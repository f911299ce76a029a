use Rattle.std.proofs.Common.{◌≡◌, drop, map}
use Rattle.lfs_mount.proofs.Common.{address_of_array, header_address, is_among_addresses}
use Rattle.lfs_mount.proofs.moves.has_pair_at.Given as goal

-- none of those so far is at the address
abbrev pub invariant-loop-pair : goal.invariant-loop-pair
invariant-loop-pair l = is_among_addresses (address_of_array l.address) (map header_address l.pairs) ≡ is_among_addresses (address_of_array l.address) (map header_address (drop l.pair-index l.pairs))
