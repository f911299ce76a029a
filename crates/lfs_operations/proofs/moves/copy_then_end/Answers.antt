use Rattle.lfs_operations.proofs.Common.{inl, ℕ, ap, ap₂, length, sym, subst, ◌∙◌, ◌-◌, arith, Err, on_ok_weaker, err_from_is_err_and, changes_view, ChangesThreadBlocks, thread_pair, address_blocks, CanEndMoveAt, HasEndedMoveAt, move_ending_written_pair, ReportsAllocatingCommits, pair_index_after_insertion}
use Rattle.lfs_operations.proofs.MovReporting.{not_io, survives_both, reports_of_end, writes_at_end, writes_first}
use Rattle.lfs_operations.proofs.OntoWritten.{end_within, put_within}
use Rattle.lfs_operations.proofs.moves.copy_then_end.Goals as goal

pub returns-in_err-commit_or_split-clause-errors : goal.returns-in_err-commit_or_split-clause-errors
returns-in_err-commit_or_split-clause-errors g c =
    let p = err_from_is_err_and c.from_residual.result c.from_residual.ensures.1 in
    let e = c.commit_or_split.ensures.errors in
    subst (λ r. ReportsAllocatingCommits c.args.thread.now c.commit_or_split.new.thread c.args.route.new_pair (changes_view c.args.changes.now) r) (c.in_err-commit_or_split.was ∙ ap Err (sym p.2) ∙ sym p.1)
    (record {
      failed = inl e.reports.failed;
      errors = e.reports.reports.errors;
      fault = e.reports.reports.fault;
      no_fault = e.reports.reports.no_fault;
      unchanged = e.reports.reports.unchanged;
      no_space = e.reports.reports.no_space;
      too_large = e.too_large;
    })

pub returns-in_err-commit_or_split-clause-device : goal.returns-in_err-commit_or_split-clause-device
returns-in_err-commit_or_split-clause-device g c = writes_first c.args.thread.now.kept c.commit_or_split.new.thread.kept (move_ending_written_pair c.args.route.old_pair c.args.goes) c.args.route.new_pair c.commit_or_split.ensures.device

pub overflow_sub-fresh : goal.overflow_sub-fresh
overflow_sub-fresh g c =
    let ends = c.requires.can.ends c.commit_or_split.new.thread.kept c.in_ok-commit_or_split.ensures.is_put in
    omega (arith, ends.grown, c.len-before.ensures, c.len.ensures)

pub index_after_insertion-pair-requires : goal.index_after_insertion-pair-requires
index_after_insertion-pair-requires g c =
    let ends = c.requires.can.ends c.commit_or_split.new.thread.kept c.in_ok-commit_or_split.ensures.is_put in
    let same = ap₂ (λ m n. pair_index_after_insertion c.args.route.old_pair c.args.route.new_pair (m - n)) c.len.ensures c.len-before.ensures in
    let below = ends.can.below in
    let fits = c.len.type_inv in
    omega (arith, same, below, fits, c.len.ensures)

pub end_move-requires-clause-can : goal.end_move-requires-clause-can
end_move-requires-clause-can g c =
    let ends = c.requires.can.ends c.commit_or_split.new.thread.kept c.in_ok-commit_or_split.ensures.is_put in
    subst (λ i. CanEndMoveAt c.commit_or_split.new.thread.kept i c.args.route.old_id c.args.goes)
    (sym (c.index_after_insertion-pair.ensures ∙ ap₂ (λ m n. pair_index_after_insertion c.args.route.old_pair c.args.route.new_pair (m - n)) c.len.ensures c.len-before.ensures)) ends.can

pub returns-clause-done : goal.returns-clause-done
returns-clause-done g c =
    on_ok_weaker c.end_move.result (λ is.
    let index = c.index_after_insertion-pair.ensures ∙ ap₂ (λ m n. pair_index_after_insertion c.args.route.old_pair c.args.route.new_pair (m - n)) c.len.ensures c.len-before.ensures in
    let mid = c.commit_or_split.new.thread.kept in
    let new = c.end_move.new.thread.kept in
    let ends = c.requires.can.ends mid c.in_ok-commit_or_split.ensures.is_put in
    let ended = subst (λ (i : ℕ). HasEndedMoveAt mid i c.args.route.old_id c.args.goes new) index is in
    record {
      mid = mid;
      put = c.in_ok-commit_or_split.ensures.is_put;
      ended = ended;
      blocks = end_within c.args.thread.now.kept mid new (pair_index_after_insertion c.args.route.old_pair c.args.route.new_pair (length mid.pairs - length c.args.thread.now.kept.pairs)) c.args.route.old_id c.args.goes
          (put_within c.args.thread.now.kept mid c.args.route.new_pair (changes_view c.args.changes.now) c.requires.can.turns.can.below c.in_ok-commit_or_split.ensures.is_put c.commit_or_split.ensures.device) ends.can.below ended
          (subst (λ (i : ℕ). ChangesThreadBlocks (address_blocks (thread_pair mid (move_ending_written_pair i c.args.goes)).at) mid new) index c.end_move.ensures.device);
    })
    c.end_move.ensures.ended

pub returns-clause-errors : goal.returns-clause-errors
returns-clause-errors g c =
    reports_of_end c.args.thread.now c.commit_or_split.new.thread c.end_move.new.thread c.args.route.new_pair (changes_view c.args.changes.now) c.end_move.result
    (c.commit_or_split.ensures.errors.reports.reports.no_fault (not_io c.commit_or_split.result c.in_ok-commit_or_split.field-0 c.in_ok-commit_or_split.was)) c.end_move.ensures.errors

pub returns-clause-device : goal.returns-clause-device
returns-clause-device g c =
    let index = c.index_after_insertion-pair.ensures ∙ ap₂ (λ m n. pair_index_after_insertion c.args.route.old_pair c.args.route.new_pair (m - n)) c.len.ensures c.len-before.ensures in
    writes_at_end c.args.thread.now.kept c.commit_or_split.new.thread.kept c.end_move.new.thread.kept c.args.route.old_pair c.args.route.old_id c.args.goes c.args.route.new_pair (changes_view c.args.changes.now) c.in_ok-commit_or_split.ensures.is_put c.requires.can.turns.can.below
    (c.requires.can.ends c.commit_or_split.new.thread.kept c.in_ok-commit_or_split.ensures.is_put) c.commit_or_split.ensures.device
    (subst (λ (i : ℕ). ChangesThreadBlocks (address_blocks (thread_pair c.commit_or_split.new.thread.kept (move_ending_written_pair i c.args.goes)).at) c.commit_or_split.new.thread.kept c.end_move.new.thread.kept) index c.end_move.ensures.device)

pub returns-clause-survives : goal.returns-clause-survives
returns-clause-survives g c =
    survives_both c.args.thread.now.kept c.commit_or_split.new.thread.kept c.end_move.new.thread.kept c.args.route.new_pair (changes_view c.args.changes.now) c.in_ok-commit_or_split.ensures.is_put c.commit_or_split.ensures.stops c.commit_or_split.ensures.device
    c.end_move.ensures.device.at_worst c.end_move.ensures.survives
