use Rattle.std.proofs.Common.{refl, arith, Some}
use Rattle.lfs_tag.specs.declared.content.Slot.{Slot}
use Rattle.lfs_tag.proofs.Common.{part_view}
use Rattle.lfs_tag.proofs.Places.{changed_is}
use Rattle.lfs_tag.proofs.content.set_slot_struct.Goals as goal

pub returns : goal.returns
returns c =
    let x : Slot = c.index_mut-slot.result.now in
    let y : Slot = record x { structure = Some c.args.part } in
    changed_is (λ s. record s { struct = Some (part_view c.args.part) }) c.args.slots.now.items c.args.id x y (omega arith) c.index_mut-slot.ensures.value refl
