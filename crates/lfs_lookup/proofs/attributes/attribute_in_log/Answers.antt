use Rattle.std.proofs.Common.{◌+◌, ◌∙◌, ap}
use Rattle.lfs_lookup.proofs.Common.{slot_of_id, slot_bytes, completed_parts, logged}
use Rattle.lfs_model.specs.layers.Lookup.{bytes_at}
use Rattle.lfs_lookup.proofs.AttributeAtSlots.{attribute_if_slot, short_in, short_result}
use Rattle.lfs_lookup.proofs.BytesAtSlots.{raw_slot}
use Rattle.lfs_lookup.proofs.attributes.attribute_in_log.Goals as goal

pub returns-clause-short : goal.returns-clause-short
returns-clause-short c =
    let (content, is) = c.requires in
    let sound = logged c.args.log.now is.raw is.bytes is.log in
    let held = c.get.ensures.held is.raw is.log ∙ ap (λ k. bytes_at is.raw.slots (0x300 + k) c.args.id) c.from.ensures in
    short_result c.get.result (slot_bytes (0x300 + c.args.kind) (slot_of_id is.raw.slots c.args.id)) held (short_in is.raw.slots c.args.id c.args.kind c.ranges.kind.fits sound.slots)

pub returns-clause-is : goal.returns-clause-is
returns-clause-is c content slot is at =
    c.get.ensures.held is.raw is.log ∙ ap (λ k. bytes_at is.raw.slots (0x300 + k) c.args.id) c.from.ensures
    ∙ attribute_if_slot (slot_of_id is.raw.slots c.args.id) slot c.args.kind c.ranges.kind.fits (raw_slot is.raw.slots content.slots c.args.id slot (completed_parts is.raw content is.complete).slots at)
