use Rattle.std.proofs.Common.{◌≡◌, drop}
use Rattle.lfs_tag.proofs.Common.{first_wanted_slot}
use Rattle.lfs_tag.proofs.lookup.first_wanted.Given as goal

abbrev pub invariant-loop-id : goal.invariant-loop-id
invariant-loop-id l = first_wanted_slot l.same l.skip l.id (drop l.id l.ranks) ≡ first_wanted_slot l.same l.skip 0 l.ranks
