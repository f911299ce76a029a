use Rattle.lfs_lookup.proofs.Common.{slot_view}
use Rattle.lfs_lookup.proofs.ItemsShown.{map_remove}
use Rattle.lfs_lookup.proofs.items.remove_moved_slot.Goals as goal

pub returns-then-id-len : goal.returns-then-id-len
returns-then-id-len c = rw (c.remove.ensures.items, c.in-Some.is) (map_remove slot_view c.args.slots.now.items c.in-Some.id)
