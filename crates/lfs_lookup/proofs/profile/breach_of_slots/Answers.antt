use Rattle.std.proofs.Common.{ℕ, ◌+◌, ◌<◌, length, slice_index_or, arith}
use Rattle.std.specs.Prelude.{All}
use Rattle.lfs_lookup.proofs.Common.{slice_get-get_or, IsWritableSlot, Slot, address_of_array, slot_view, SomeSlotBreaksProfile}
use Rattle.lfs_model.specs.declared.breaches.ProfileBreach.{ProfileBreach}
use Rattle.lfs_lookup.specs.ProfileChecks.{SlotBreaksProfile}
use Rattle.lfs_lookup.proofs.Profiled.{complete_count, complete_there, fits_next, no_slot, told, weaker}
use Rattle.lfs_lookup.proofs.profile.breach_of_slots.Goals as goal

pub breach_of_slot-requires : goal.breach_of_slot-requires
breach_of_slot-requires c =
    let s = c.requires.0 in
    let n = complete_count slot_view c.args.slots.now s c.requires.1.0 in (
      slice_index_or s c.loop-id.id no_slot,
      (
        complete_there slot_view c.args.slots.now s c.loop-id.id c.index-slots-id.result no_slot c.requires.1.0 c.loop-id-test.true c.index-slots-id.is,
        c.requires.1.1 c.loop-id.id no_slot (omega (arith, n, c.loop-id-test.true)),
      ),
    )

pub loop-id-preserved : goal.loop-id-preserved
loop-id-preserved c all is shaped =
    let n = complete_count slot_view c.args.slots.now all is in
    let id = c.loop-id.id in
    let s = slice_index_or all id no_slot in
    let there = complete_there slot_view c.args.slots.now all id c.index-slots-id.result no_slot is c.loop-id-test.true c.index-slots-id.is in
    let l : id < length all = omega (arith, n, c.loop-id-test.true) in
    let profile = c.args.geometry.now.profile in
    let size = c.args.geometry.now.block_size in
    let page = c.args.geometry.now.page in
    let at = address_of_array c.args.pair in
    let Fits : Slot → Type 0 = IsWritableSlot profile size page in
    let Some : ProfileBreach → Type 0 = SomeSlotBreaksProfile profile size page at all in
    told ((k : ℕ) (d : Slot) → k < id → Fits (slice_index_or all k d)) (Fits s) ((k : ℕ) (d : Slot) → k < id + 1 → Fits (slice_index_or all k d)) Some c.loop-id.found c.breach_of_slot.result c.breach_to_report-found.result
    c.breach_to_report-found.ensures.none c.breach_to_report-found.ensures.either (c.loop-id.invariant all is shaped)
    (weaker (Fits s) (Fits s) (SlotBreaksProfile profile size page at id s) Some c.breach_of_slot.result (c.breach_of_slot.ensures s there (shaped id no_slot l)) (λ h. h) (λ b h. (id, (s, (slice_get-get_or all id no_slot l, h)))))
    (fits_next profile size page all id l)

pub returns : goal.returns
returns c all is shaped =
    let n = complete_count slot_view c.args.slots.now all is in
    let profile = c.args.geometry.now.profile in
    let size = c.args.geometry.now.block_size in
    let page = c.args.geometry.now.page in
    let Fits : Slot → Type 0 = IsWritableSlot profile size page in
    let Some : ProfileBreach → Type 0 = SomeSlotBreaksProfile profile size page (address_of_array c.args.pair) all in
    weaker ((k : ℕ) (d : Slot) → k < c.loop-id.id → Fits (slice_index_or all k d)) (All Fits all) Some Some c.loop-id.found (c.loop-id.invariant all is shaped)
    (λ each k d l. each k d (omega (arith, n, l, c.loop-id-test.false))) (λ b h. h)
