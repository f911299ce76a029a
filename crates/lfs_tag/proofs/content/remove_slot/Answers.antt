use Rattle.lfs_tag.proofs.Common.{slot_view}
use Rattle.lfs_tag.proofs.Places.{map-remove}
use Rattle.lfs_tag.proofs.content.remove_slot.Goals as goal

pub returns : goal.returns
returns c = rw c.remove.ensures.items (map-remove slot_view c.args.slots.now.items c.args.id)
