use Rattle.std.proofs.Common.{ap, arith, length}
use Rattle.lfs_tree.proofs.Common.{slice_get_within, root_begins}
use Rattle.lfs_tree.proofs.orphans.find_unreached_pairs.Goals as goal

pub unreached_pair_indices-requires-clause-few : goal.unreached_pair_indices-requires-clause-few
unreached_pair_indices-requires-clause-few g c =
    let root = root_begins c.args.thread.now.kept.disk c.args.thread.now.kept.pairs c.requires.accepted in
    let l = slice_get_within c.args.thread.now.kept.pairs _ root.pair root.there in
    let e = c.requires.root in
    let s = ap length c.mark_reached_directories.ensures.reading.only.pairs in
    omega (arith, l, e, s)
