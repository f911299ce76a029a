use Rattle.lfs_lookup.proofs.EmptyFirst.{entries_from, finds_from, reads_from}
use Rattle.lfs_lookup.proofs.search.find_name.Goals as goal

pub binary_search_name-requires-clause-entries : goal.binary_search_name-requires-clause-entries
binary_search_name-requires-clause-entries g c = entries_from c.args.thread.now.kept c.args.first c.first_searched_pair-start.result c.first_searched_pair-start.ensures c.requires.entries

pub returns-clause-answer : goal.returns-clause-answer
returns-clause-answer g c = finds_from c.args.thread.now.kept c.args.first c.first_searched_pair-start.result c.args.name.now c.binary_search_name.result c.first_searched_pair-start.ensures c.binary_search_name.ensures.answer

pub returns-clause-reads : goal.returns-clause-reads
returns-clause-reads g c = reads_from c.args.thread.now c.binary_search_name.new.thread c.binary_search_name.result c.args.first c.first_searched_pair-start.result c.first_searched_pair-start.ensures c.binary_search_name.ensures.reads
