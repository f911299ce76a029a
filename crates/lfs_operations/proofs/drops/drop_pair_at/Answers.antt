use Rattle.lfs_operations.proofs.Common.{◌≡◌, ◌-◌, Ok, Err, sym, ap, ◌∙◌, err_from_is_err_and, HoldsAtLosses-weaker, changes_view, Outcome, move_view, IsPairDropped}
use Rattle.lfs_pair.specs.declared.commits.Outcome.TheVariants as outcome
use Rattle.lfs_operations.proofs.DroppedTails.{can_drop, drop_not_refused, has_dropped, left_by_drop}
use Rattle.lfs_operations.proofs.Removed.{reports_again}
use Rattle.lfs_operations.proofs.drops.drop_pair_at.Goals as goal

pub drop_next-requires-clause-can : goal.drop_next-requires-clause-can
drop_next-requires-clause-can g c = can_drop c.args.thread.now.kept c.args.index (move_view c.args.state.now) c.requires.can (changes_view c.changes_for_drop-changes.result) c.changes_for_drop-changes.ensures.made

pub returns-in_err-drop_next-clause-errors : goal.returns-in_err-drop_next-clause-errors
returns-in_err-drop_next-clause-errors g c =
    let p = err_from_is_err_and c.from_residual.result c.from_residual.ensures.1 in
    reports_again c.args.thread.now c.drop_next.new.self p.0 c.drop_next.result c.from_residual.result (c.in_err-drop_next.was ∙ ap Err (sym p.2)) p.1 c.drop_next.ensures.failed c.drop_next.ensures.errors

pub returns-in_err-drop_next-clause-stops : goal.returns-in_err-drop_next-clause-stops
returns-in_err-drop_next-clause-stops g c clean =
    HoldsAtLosses-weaker (left_by_drop c.args.thread.now.kept c.args.index (move_view c.args.state.now) c.requires.can (changes_view c.changes_for_drop-changes.result) c.changes_for_drop-changes.ensures.made) (c.drop_next.ensures.stops clean)

pub returns-clause-is_dropped : goal.returns-clause-is_dropped
returns-clause-is_dropped g c = by c.in_ok-drop_next.field-0 c.in_ok-drop_next.was
  where
    by : (o : Outcome) → c.drop_next.result ≡ Ok o → IsPairDropped c.args.thread.now.kept (c.args.index - 1) (move_view c.args.state.now) c.drop_next.new.self.kept
    by outcome.Done is =
        has_dropped c.args.thread.now.kept c.args.index (move_view c.args.state.now) c.requires.can (changes_view c.changes_for_drop-changes.result) c.changes_for_drop-changes.ensures.made c.drop_next.new.self.kept (c.drop_next.ensures.done is)
    by outcome.Full is = absurd
        (drop_not_refused c.args.thread.now.kept c.args.index (move_view c.args.state.now) c.requires.can (changes_view c.changes_for_drop-changes.result) c.changes_for_drop-changes.ensures.made c.drop_next.new.self.kept (c.drop_next.ensures.full is))

pub returns-clause-stops : goal.returns-clause-stops
returns-clause-stops g c clean =
    HoldsAtLosses-weaker (left_by_drop c.args.thread.now.kept c.args.index (move_view c.args.state.now) c.requires.can (changes_view c.changes_for_drop-changes.result) c.changes_for_drop-changes.ensures.made) (c.drop_next.ensures.stops clean)
