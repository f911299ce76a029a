use Rattle.std.proofs.Common.{ap, ◌∙◌, refl, arith, List, Some}
use Rattle.lfs_tag.specs.declared.content.Slot.{Slot}
use Rattle.lfs_tag.proofs.Common.{RawSlot, slot_changed_at, part_view}
use Rattle.lfs_tag.proofs.Places.{changed_is}
use Rattle.lfs_tag.proofs.content.set_slot_name.Goals as goal

pub returns : goal.returns
returns c =
    let x : Slot = c.index_mut-slot.result.now in
    let y : Slot = record x { name = Some c.args.part } in
    let f : RawSlot → RawSlot = λ s. record s { name = Some (part_view c.args.part) } in
    changed_is f c.pad_slots.new.slots.items c.args.id x y (omega (arith, c.in_ok-pad_slots.ensures.long)) c.index_mut-slot.ensures.value refl
    ∙ ap (λ (xs : List RawSlot). slot_changed_at f xs c.args.id) c.in_ok-pad_slots.ensures.filled
