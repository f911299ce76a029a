use Rattle.std.proofs.Common.{◌∙◌}
use Rattle.lfs_tag.proofs.Searches.{found_in_log}
use Rattle.lfs_tag.proofs.search.struct_of_slot.Goals as goal

pub returns-clause-held : goal.returns-clause-held
returns-clause-held c = λ t is. c.newest_of_slot.ensures.found ∙ found_in_log c.args.log.now t 0x200 c.args.id is
