use Rattle.std.proofs.Common.{◌≡◌, drop, map}
use Rattle.std.specs.Prelude.{is_some}
use Rattle.lfs_model.specs.format.Content.{decoded_slots}
use Rattle.lfs_pair.proofs.Common.{slot_view}
use Rattle.lfs_pair.proofs.pair.are_slots_complete.Given as goal

abbrev pub invariant-loop-slot : goal.invariant-loop-slot
invariant-loop-slot l = is_some (decoded_slots (map slot_view (drop l.slot-index l.slots))) ≡ is_some (decoded_slots (map slot_view l.slots))
