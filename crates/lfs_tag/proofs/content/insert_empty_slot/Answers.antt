use Rattle.lfs_tag.proofs.Common.{slot_view}
use Rattle.lfs_tag.proofs.Places.{map-insert}
use Rattle.lfs_tag.proofs.content.insert_empty_slot.Goals as goal

pub returns : goal.returns
returns c = rw (c.in_ok-insert.ensures.items, ← c.empty_slot.ensures) (map-insert slot_view c.args.slots.now.items c.args.id c.empty_slot.result)
