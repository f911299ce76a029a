use Rattle.std.proofs.Common.{Err, ap, sym, ◌∙◌}
use Rattle.lfs_tree.proofs.Common.{err_from_is_err_and, count_before_root}
use Rattle.lfs_tree.proofs.CarryFreed.{ok_both}
use Rattle.lfs_tree.proofs.Operated.{failed_change}
use Rattle.lfs_tree.proofs.Recovered.{reports_work}
use Rattle.lfs_tree.proofs.StoreContents.{all_stored, called_beside_image, called_then, can_commit, can_finish, errors_then, rests_beside, survives_beside, survives_then_commit}
use Rattle.lfs_tree.proofs.contents_at.store_contents_at.Goals as goal

pub write_remaining_draft-requires-clause-can : goal.write_remaining_draft-requires-clause-can
write_remaining_draft-requires-clause-can g c = can_finish c.args.thread.now c.args.root c.requires.rests c.args.path.now c.args.contents c.requires.can

pub returns-in_err-finished : goal.returns-in_err-finished
returns-in_err-finished g c =
    let p = err_from_is_err_and c.from_residual.result c.from_residual.ensures.1 in
    failed_change c.args.thread.now c.write_remaining_draft.new.thread _ _ c.from_residual.result p.0 p.1 (called_beside_image _ _ c.write_remaining_draft.ensures.leaves)
    (reports_work c.args.thread.now.kept c.write_remaining_draft.new.thread.kept c.write_remaining_draft.result p.0 (c.in_err-finished.was ∙ ap Err (sym p.2)) c.write_remaining_draft.ensures.reports)
    (survives_beside c.args.thread.now c.args.root c.requires.rests c.args.path.now c.args.contents c.requires.can c.write_remaining_draft.new.thread c.write_remaining_draft.ensures.works c.write_remaining_draft.ensures.leaves _)

pub commit_contents_at-requires-clause-rests : goal.commit_contents_at-requires-clause-rests
commit_contents_at-requires-clause-rests g c = rests_beside c.args.thread.now c.args.root c.requires.rests c.args.path.now c.args.contents c.requires.can c.write_remaining_draft.new.thread c.write_remaining_draft.ensures.works c.write_remaining_draft.ensures.leaves

pub commit_contents_at-requires-clause-can : goal.commit_contents_at-requires-clause-can
commit_contents_at-requires-clause-can g c = can_commit c.args.thread.now c.args.root c.requires.rests c.args.path.now c.args.contents c.requires.can c.write_remaining_draft.new.thread c.write_remaining_draft.ensures.works c.write_remaining_draft.ensures.leaves
    c.in_ok-finished.finished c.in_ok-finished.ensures.finished c.in_ok-finished.ensures.owned

pub returns : goal.returns
returns g c =
    let quiet = c.write_remaining_draft.ensures.reports.no_fault (λ e. absurd (let k = sym c.in_ok-finished.was ∙ e in cc)) in
    let called = called_then _ _ _ (called_beside_image _ _ c.write_remaining_draft.ensures.leaves) c.commit_contents_at.ensures.called in
    let done = all_stored c.args.thread.now c.args.root c.requires.rests c.args.path.now c.args.contents c.requires.can c.write_remaining_draft.new.thread c.write_remaining_draft.ensures.works c.write_remaining_draft.ensures.leaves
    c.in_ok-finished.finished c.in_ok-finished.ensures.finished c.in_ok-finished.ensures.owned c.commit_contents_at.new.thread.kept c.commit_contents_at.result called quiet c.commit_contents_at.ensures.reports.no_fault c.commit_contents_at.ensures.done in
    record {
      done = done;
      works = c.commit_contents_at.ensures.reports.works;
      stands = ok_both c.commit_contents_at.result _ _ _ (λ k committed. record { sound = k.stored.sound; fits = k.stored.fits; recovered = k.stored.recovered; root = committed.root ∙ ap count_before_root c.write_remaining_draft.ensures.leaves.pairs; shows = k.stored.shows; no_fault = k.stored.no_fault }) done c.commit_contents_at.ensures.done;
      called = called;
      errors = errors_then c.args.thread.now.kept c.write_remaining_draft.new.thread.kept c.commit_contents_at.new.thread.kept c.commit_contents_at.result quiet c.commit_contents_at.ensures.reports.errors;
      survives = survives_then_commit c.args.thread.now c.args.root c.requires.rests c.args.path.now c.args.contents c.requires.can c.write_remaining_draft.new.thread c.write_remaining_draft.ensures.works c.write_remaining_draft.ensures.leaves
          c.in_ok-finished.finished c.in_ok-finished.ensures.finished c.in_ok-finished.ensures.owned c.commit_contents_at.new.thread.kept c.commit_contents_at.ensures.called c.commit_contents_at.ensures.survives;
    }
