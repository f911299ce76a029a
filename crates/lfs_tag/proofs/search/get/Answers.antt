use Rattle.std.proofs.Common.{◌∙◌, ap}
use Rattle.lfs_tag.proofs.Common.{bytes_if_type, slot_of_id}
use Rattle.lfs_tag.proofs.Searches.{bytes_of_part, found_in_log}
use Rattle.lfs_tag.proofs.search.get.Goals as goal

pub returns-clause-held : goal.returns-clause-held
returns-clause-held c = λ t is.
    c.matching_bytes.ensures ∙ ap (bytes_if_type c.args.kind) (c.newest_of_slot.ensures.found ∙ found_in_log c.args.log.now t c.args.kind c.args.id is)
    ∙ bytes_of_part c.args.kind (slot_of_id t.slots c.args.id)
