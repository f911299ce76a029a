use Rattle.std.proofs.Common.{ap, sym, subst, ◌∙◌}
use Rattle.lfs_tag.proofs.Common.{block_entries, IsNameLookup, lookup_of_comparisons}
use Rattle.lfs_tag.proofs.Ranks.{ranked, lookup_is}
use Rattle.lfs_tag.proofs.lookup.find.Goals as goal

pub returns-then-comparisons_of_slots : goal.returns-then-comparisons_of_slots
returns-then-comparisons_of_slots c = λ t is small.
    let order = c.args.order in
    let name = c.args.name.now in
    let ranks = c.comparisons_of_slots.ensures c.if-comparisons_of_slots.true ∙ ranked order name (block_entries c.args.log.now) t is in
    let found = c.find_by_comparisons.ensures ∙ ap (lookup_of_comparisons c.args.skip) (c.deref.ensures.0 ∙ ranks) in
    subst (IsNameLookup order name c.args.skip t.slots) (sym found) (lookup_is order name c.args.skip t.slots)

pub returns-else-comparisons_of_slots : goal.returns-else-comparisons_of_slots
returns-else-comparisons_of_slots c = λ t is small.
    subst (IsNameLookup c.args.order c.args.name.now c.args.skip t.slots) (sym (c.find_by_ids.ensures t is)) (lookup_is c.args.order c.args.name.now c.args.skip t.slots)
