use Rattle.lfs_tree.proofs.Common.{slot_view}
use Rattle.lfs_lookup.proofs.ItemsShown.{parts_at}
use Rattle.lfs_tree.proofs.lost_lists.push_slot_lists.Goals as goal

pub list_of_file-requires : goal.list_of_file-requires
list_of_file-requires c = parts_at slot_view c.args.slots.now c.loop-slot.slot-index c.slot-item.result c.requires c.loop-slot-test.true c.slot-item.is
