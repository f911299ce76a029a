use Rattle.std.proofs.Common.{◌∙◌, Err, ap, sym}
use Rattle.lfs_tree.proofs.Common.{err_from_is_err_and}
use Rattle.lfs_tree.proofs.CarryFreed.{ok_both}
use Rattle.lfs_tree.proofs.Operated.{failed_change}
use Rattle.lfs_tree.proofs.Recovered.{called_then, called_writing, end_survives, recovered_whole, reports_steps}
use Rattle.lfs_tree.proofs.RecoveredFirst.{settled_stands, settled_whole}
use Rattle.lfs_tree.proofs.StoreContents.{errors_then}
use Rattle.lfs_tree.proofs.lost_recovery.recover_thread.Goals as goal

pub returns-in_err-end_move : goal.returns-in_err-end_move
returns-in_err-end_move g c =
    let p = err_from_is_err_and c.from_residual.result c.from_residual.ensures.1 in
    failed_change c.args.thread.now c.end_move.new.thread _ _ c.from_residual.result p.0 p.1 (called_writing _ _ _ c.end_move.ensures.device)
    (reports_steps c.args.thread.now c.end_move.new.thread c.end_move.result p.0 (c.in_err-end_move.was ∙ ap Err (sym p.2)) c.end_move.ensures.errors) c.end_move.ensures.survives

pub drop_unreached_directories-requires-clause-root : goal.drop_unreached_directories-requires-clause-root
drop_unreached_directories-requires-clause-root g c = c.requires.rooted.root_is ∙ sym c.in_ok-end_move.ensures.ended.root

pub returns : goal.returns
returns g c =
    let t = c.args.thread.now in
    let mid = c.end_move.new.thread.kept in
    let new = c.drop_unreached_directories.new.thread.kept in
    let quiet = c.end_move.ensures.errors.no_fault (λ io. let z = sym c.in_ok-end_move.was ∙ io in absurd (cc)) in
    let done = ok_both c.drop_unreached_directories.result _ _ _ (λ dropped same. settled_whole t.kept mid new c.requires.left c.in_ok-end_move.ensures.ended dropped
    (recovered_whole t c.args.root mid new c.requires.rooted c.requires.left c.in_ok-end_move.ensures.ended c.end_move.ensures.device dropped c.drop_unreached_directories.ensures.called (same ∙ quiet))) c.drop_unreached_directories.ensures.dropped c.drop_unreached_directories.ensures.reports.no_fault in
    record {
      done = done;
      works = c.drop_unreached_directories.ensures.reports.works;
      stands = ok_both c.drop_unreached_directories.result _ _ _ (λ k dropped. settled_stands t.kept new k (dropped.root ∙ c.in_ok-end_move.ensures.ended.root)) done c.drop_unreached_directories.ensures.dropped;
      called = called_then _ _ _ (called_writing _ _ _ c.end_move.ensures.device) c.drop_unreached_directories.ensures.called;
      errors = errors_then t.kept mid new c.drop_unreached_directories.result quiet c.drop_unreached_directories.ensures.reports.errors;
      survives = end_survives t.kept mid new.history c.end_move.ensures.device c.in_ok-end_move.ensures.ended.taken.follows.shows c.drop_unreached_directories.ensures.called.calls c.drop_unreached_directories.ensures.called.called c.end_move.ensures.survives c.drop_unreached_directories.ensures.survives;
    }
