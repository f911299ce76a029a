use Rattle.std.proofs.Common.{arith, refl}
use Rattle.lfs_tree.proofs.Common.{sum_by-append, err_from_is_err_and, directory_pair_count, ancestor_paths, answered, answers, both, further, passed}
use Rattle.lfs_tree.proofs.RenamePaths.{few_since}
use Rattle.lfs_tree.proofs.Shifted.{rests_still, target_back}
use Rattle.lfs_tree.proofs.rename_paths.find_rename_targets.Goals as goal

pub find_at_path-requires-2 : goal.find_at_path-requires-2
find_at_path-requires-2 g c = rests_still c.args.thread.now c.find_at_path.new.thread c.args.root c.requires c.find_at_path.ensures.reading.only c.find_at_path.ensures.reading.works

pub returns-in_err-entry-clause-few : goal.returns-in_err-entry-clause-few
returns-in_err-entry-clause-few g c =
    let one = c.find_at_path.ensures.few in
    let s = sum_by-append (directory_pair_count c.args.thread.now.kept.pairs) (ancestor_paths c.args.from.now) (ancestor_paths c.args.to.now) in
    omega (arith, one, s)

pub returns-in_err-target-clause-few : goal.returns-in_err-target-clause-few
returns-in_err-target-clause-few g c =
    let one = c.find_at_path.ensures.few in
    let two = few_since c.args.thread.now.kept c.find_at_path.new.thread.kept (ancestor_paths c.args.to.now) _ c.find_at_path.ensures.reading.only c.find_at_path-2.ensures.few in
    let s = sum_by-append (directory_pair_count c.args.thread.now.kept.pairs) (ancestor_paths c.args.from.now) (ancestor_paths c.args.to.now) in
    omega (arith, one, two, s)

pub returns-in_err-target-clause-reading : goal.returns-in_err-target-clause-reading
returns-in_err-target-clause-reading g c =
    let p = err_from_is_err_and c.from_residual-in_err-target.result c.from_residual-in_err-target.ensures.1 in
    passed _ _ c.find_at_path-2.result c.from_residual-in_err-target.result _ p.0 c.in_err-target.was p.1 p.2
    (further _ _ _ c.find_at_path-2.result (answered _ _ c.find_at_path.result c.in_ok-entry.entry c.in_ok-entry.was c.find_at_path.ensures.reading) c.find_at_path-2.ensures.reading)

pub returns-clause-targets : goal.returns-clause-targets
returns-clause-targets g c = record {
  settled = c.requires.settled;
  entry = c.in_ok-entry.ensures.target.leads;
  target = (target_back c.args.thread.now.kept c.find_at_path.new.thread.kept c.args.to.now c.in_ok-target.target.found c.in_ok-target.target.name.now c.find_at_path.ensures.reading.only c.in_ok-target.ensures.target).leads;
}

pub returns-clause-few : goal.returns-clause-few
returns-clause-few g c =
    let one = c.find_at_path.ensures.few in
    let two = few_since c.args.thread.now.kept c.find_at_path.new.thread.kept (ancestor_paths c.args.to.now) _ c.find_at_path.ensures.reading.only c.find_at_path-2.ensures.few in
    let s = sum_by-append (directory_pair_count c.args.thread.now.kept.pairs) (ancestor_paths c.args.from.now) (ancestor_paths c.args.to.now) in
    omega (arith, one, two, s)

pub returns-clause-reading : goal.returns-clause-reading
returns-clause-reading g c =
    answers _ _ _ _ refl (both _ _ _ (answered _ _ c.find_at_path.result c.in_ok-entry.entry c.in_ok-entry.was c.find_at_path.ensures.reading)
    (answered _ _ c.find_at_path-2.result c.in_ok-target.target c.in_ok-target.was c.find_at_path-2.ensures.reading))
