use Rattle.std.proofs.Common.{ℕ, List, ◌≡◌, ◌<◌, Some, All, map, slice_index_or}
use Rattle.std.specs.Prelude.{MatchOption}
use Rattle.lfs_lookup.proofs.Common.{decoded_slots, IsWritableSlot, Slot, address_of_array, slot_view, SomeSlotBreaksProfile, HasSuperblockStruct}
use Rattle.lfs_lookup.proofs.profile.breach_of_slots.Given as goal

abbrev pub invariant-loop-id : goal.invariant-loop-id
invariant-loop-id l = (all : List Slot) → decoded_slots (map slot_view l.slots) ≡ Some all → All HasSuperblockStruct all →
    MatchOption l.found ((k : ℕ) (d : Slot) → k < l.id → IsWritableSlot l.geometry.profile l.geometry.block_size l.geometry.page (slice_index_or all k d))
    (SomeSlotBreaksProfile l.geometry.profile l.geometry.block_size l.geometry.page (address_of_array l.pair) all)
