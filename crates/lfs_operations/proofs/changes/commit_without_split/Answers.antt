use Rattle.lfs_operations.proofs.Common.{ap, sym, ◌∙◌, ◌≡◌, Ok, Err, err_from_is_err_and, changes_view, IsPairCommitted, Outcome}
use Rattle.lfs_pair.specs.declared.commits.Outcome.TheVariants as outcome
use Rattle.lfs_operations.proofs.Removed.{reports_again}
use Rattle.lfs_operations.proofs.changes.commit_without_split.Goals as goal

pub returns-in_err-commit_pair_changes-clause-errors : goal.returns-in_err-commit_pair_changes-clause-errors
returns-in_err-commit_pair_changes-clause-errors g c =
    let p = err_from_is_err_and c.from_residual.result c.from_residual.ensures.1 in
    reports_again c.args.thread.now c.commit_pair_changes.new.self p.0 c.commit_pair_changes.result c.from_residual.result (c.in_err-commit_pair_changes.was ∙ ap Err (sym p.2)) p.1 c.commit_pair_changes.ensures.failed c.commit_pair_changes.ensures.errors

pub returns-clause-is_changed : goal.returns-clause-is_changed
returns-clause-is_changed g c = by c.in_ok-commit_pair_changes.field-0 c.in_ok-commit_pair_changes.was
  where
    by : (o : Outcome) → c.commit_pair_changes.result ≡ Ok o → IsPairCommitted c.args.thread.now.kept c.args.index (changes_view c.args.changes.now) c.commit_pair_changes.new.self.kept
    by outcome.Done is = c.commit_pair_changes.ensures.done is
    by outcome.Full is = absurd (c.requires.can.fits c.commit_pair_changes.new.self.kept (c.commit_pair_changes.ensures.full is))
