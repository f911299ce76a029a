use Rattle.std.proofs.Common.{arith, length, reverse, ap}
use Rattle.std.proofs.lemmas.List.{length-reverse}
use Rattle.lfs_tag.proofs.Searches.{looks_within}
use Rattle.lfs_tag.proofs.search.newest_of_slot.Goals as goal

pub returns-clause-bound : goal.returns-clause-bound
returns-clause-bound c =
    let es = reverse c.entries.result in
    omega (arith, c.add.ensures, c.search_newest-found.ensures.looks, looks_within es c.args.kind c.from.result, length-reverse c.entries.result, ap length c.entries.ensures.value)
