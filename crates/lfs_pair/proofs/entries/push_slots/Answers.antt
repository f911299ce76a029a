use Rattle.std.proofs.Common.{arith}
use Rattle.lfs_pair.proofs.Common.{slot_view}
use Rattle.lfs_pair.proofs.Pushed.{slots_more, parts_at}
use Rattle.lfs_pair.proofs.entries.push_slots.Goals as goal

pub push_slot-requires-clause-parts : goal.push_slot-requires-clause-parts
push_slot-requires-clause-parts c = parts_at slot_view c.args.slots.now c.loop-slot.slot-index c.slot-item.result c.requires.parts (omega arith) c.slot-item.is

pub loop-slot-preserved : goal.loop-slot-preserved
loop-slot-preserved c = record {
  id = omega arith;
  builder = slots_more slot_view c.args.slots.now c.loop-slot.slot-index c.slot-item.result c.loop-slot.id c.args.builder.now c.loop-slot.builder c.push_slot.new.builder (omega arith) c.slot-item.is c.loop-slot.invariant.id c.loop-slot.invariant.builder c.push_slot.ensures;
}
