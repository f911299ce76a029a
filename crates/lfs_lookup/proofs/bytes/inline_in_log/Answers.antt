use Rattle.std.proofs.Common.{◌∙◌}
use Rattle.lfs_lookup.proofs.Common.{slot_of_id, completed_parts}
use Rattle.lfs_lookup.proofs.BytesAtSlots.{inline_held, raw_slot}
use Rattle.lfs_lookup.proofs.bytes.inline_in_log.Goals as goal

pub returns : goal.returns
returns c content slot bytes is at e =
    c.get.ensures.held is.raw is.log
    ∙ inline_held (slot_of_id is.raw.slots c.args.id) slot bytes (raw_slot is.raw.slots content.slots c.args.id slot (completed_parts is.raw content is.complete).slots at) e
