use Rattle.lfs_lookup.proofs.Common.{err_from_is_err_and}
use Rattle.lfs_lookup.proofs.RecentBlocks.{loads_one, on_any, on_err}
use Rattle.lfs_lookup.proofs.directory.pair_items.Goals as goal

pub returns-in_err-load_pair-clause-loads : goal.returns-in_err-load_pair-clause-loads
returns-in_err-load_pair-clause-loads g c =
    let p = err_from_is_err_and c.from_residual.result c.from_residual.ensures.1 in
    loads_one c.args.thread.now c.load_pair.new.self c.args.index c.from_residual.result c.load_pair.ensures.no_call (on_err c.from_residual.result p.0 _ p.1)

pub returns-clause-loads : goal.returns-clause-loads
returns-clause-loads g c = loads_one c.args.thread.now c.load_pair.new.self c.args.index c.items_in_log.result c.load_pair.ensures.no_call (on_any c.items_in_log.result _ c.in_ok-load_pair.ensures.recent)
