use Rattle.std.proofs.Common.{◌∙◌}
use Rattle.lfs_lookup.proofs.AttributeAtSlots.{short_copy}
use Rattle.lfs_lookup.proofs.attributes.copy_log_attribute.Goals as goal

pub returns-clause-short : goal.returns-clause-short
returns-clause-short c = short_copy c.attribute_in_log.result c.in_ok-found.found c.in_ok-found.ensures c.attribute_in_log.ensures.short

pub returns-clause-is : goal.returns-clause-is
returns-clause-is c content slot is at = c.in_ok-found.ensures ∙ c.attribute_in_log.ensures.is content slot is at
