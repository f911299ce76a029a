use Rattle.std.proofs.Common.{◌∙◌, sym, rules}
use Rattle.lfs_tree.proofs.Common.{err_from_is_err_and}
use Rattle.lfs_tree.proofs.CarryFreed.{shape_geometry, writes_then}
use Rattle.lfs_tree.proofs.LostLists.{can_free_lists}
use Rattle.lfs_tree.proofs.Recovered.{end_survives, freed, reading_survives, reports_given, reports_steps, reports_then, reports_work}
use Rattle.lfs_tree.proofs.lost_recovery.drop_with_lists.Goals as goal

pub returns-in_err-drop_unreached_pairs-clause-reports : goal.returns-in_err-drop_unreached_pairs-clause-reports
returns-in_err-drop_unreached_pairs-clause-reports g c = record {
  works = search rules;
  no_fault = search rules;
  errors = (
      let p = err_from_is_err_and c.from_residual.result c.from_residual.ensures.1 in
      reports_given c.args.thread.now.kept c.drop_unreached_pairs.new.thread.kept c.from_residual.result _ p.0 p.1 p.2 (reports_steps c.args.thread.now c.drop_unreached_pairs.new.thread c.drop_unreached_pairs.result _ c.in_err-drop_unreached_pairs.was c.drop_unreached_pairs.ensures.errors)
      );
}

pub free_lists-requires : goal.free_lists-requires
free_lists-requires g c =
    let old = c.args.thread.now.kept in
    let mid = c.drop_unreached_pairs.new.thread.kept in
    record {
      works = search rules;
      can = can_free_lists old c.args.numbers.now mid c.requires.can.can.accepted c.requires.can.can.none (shape_geometry old mid c.drop_unreached_pairs.ensures.device.shape) c.in_ok-drop_unreached_pairs.ensures.recovered c.args.lists.now c.requires.lists;
    }

pub returns-in_err-free_lists-clause-reports : goal.returns-in_err-free_lists-clause-reports
returns-in_err-free_lists-clause-reports g c = record {
  works = search rules;
  no_fault = search rules;
  errors = (
      let p = err_from_is_err_and c.from_residual-in_err-free_lists.result c.from_residual-in_err-free_lists.ensures.1 in
      let quiet = c.drop_unreached_pairs.ensures.errors.no_fault (λ io. let z = sym c.in_ok-drop_unreached_pairs.was ∙ io in absurd (cc)) in
      reports_given c.args.thread.now.kept c.free_lists.new.thread.kept c.from_residual-in_err-free_lists.result _ p.0 p.1 p.2
      (reports_then c.args.thread.now.kept c.drop_unreached_pairs.new.thread.kept c.free_lists.new.thread.kept _ quiet
      (reports_work c.drop_unreached_pairs.new.thread.kept c.free_lists.new.thread.kept c.free_lists.result _ c.in_err-free_lists.was c.free_lists.ensures.reports))
      );
}

pub returns-in_err-free_lists-clause-device : goal.returns-in_err-free_lists-clause-device
returns-in_err-free_lists-clause-device g c = writes_then _ _ _ _ c.drop_unreached_pairs.ensures.device c.free_lists.ensures.only

pub returns-in_err-free_lists-clause-survives : goal.returns-in_err-free_lists-clause-survives
returns-in_err-free_lists-clause-survives g c =
    let mid = c.drop_unreached_pairs.new.thread.kept in
    let done = c.in_ok-drop_unreached_pairs.ensures.recovered in
    let reads = c.free_lists.ensures.only.reads in
    end_survives c.args.thread.now.kept mid c.free_lists.new.thread.kept.history c.drop_unreached_pairs.ensures.device done.shows reads.events reads.extends c.drop_unreached_pairs.ensures.survives
    (reading_survives mid c.free_lists.new.thread.kept.history done.ready.accepted done.ready.writable reads)

pub returns-clause-dropped : goal.returns-clause-dropped
returns-clause-dropped g c =
    freed c.args.thread.now.kept c.drop_unreached_pairs.new.thread.kept c.free_lists.new.thread.kept c.args.numbers.now c.requires.can.can.accepted c.requires.can.can.used c.requires.can.can.none c.in_ok-drop_unreached_pairs.ensures.recovered c.drop_unreached_pairs.ensures.device
    c.free_lists.ensures.only c.in_ok-free_lists.ensures.ready c.in_ok-free_lists.ensures.flying

pub returns-clause-reports : goal.returns-clause-reports
returns-clause-reports g c = record {
  works = search rules;
  no_fault = (
      c.free_lists.ensures.reports.no_fault (λ io. let z = sym c.in_ok-free_lists.was ∙ io in absurd (cc))
      ∙ c.drop_unreached_pairs.ensures.errors.no_fault (λ io. let z = sym c.in_ok-drop_unreached_pairs.was ∙ io in absurd (cc))
      );
  errors = search rules;
}

pub returns-clause-device : goal.returns-clause-device
returns-clause-device g c = writes_then _ _ _ _ c.drop_unreached_pairs.ensures.device c.free_lists.ensures.only

pub returns-clause-survives : goal.returns-clause-survives
returns-clause-survives g c =
    let mid = c.drop_unreached_pairs.new.thread.kept in
    let done = c.in_ok-drop_unreached_pairs.ensures.recovered in
    let reads = c.free_lists.ensures.only.reads in
    end_survives c.args.thread.now.kept mid c.free_lists.new.thread.kept.history c.drop_unreached_pairs.ensures.device done.shows reads.events reads.extends c.drop_unreached_pairs.ensures.survives
    (reading_survives mid c.free_lists.new.thread.kept.history done.ready.accepted done.ready.writable reads)
