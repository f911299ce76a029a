use Rattle.lfs_lookup.proofs.Common.{slot_view}
use Rattle.lfs_lookup.proofs.ItemsShown.{parts_at}
use Rattle.lfs_lookup.proofs.items.items_of_slots.Goals as goal

pub push_slot_item-requires : goal.push_slot_item-requires
push_slot_item-requires c = parts_at slot_view c.args.slots.now c.loop-slot.slot-index c.slot-item.result c.requires c.loop-slot-test.true c.slot-item.is
