use Rattle.lfs_operations.proofs.Common.{ap, subst, ◌∙◌, inl, inr, Ok, on_ok_weaker, HoldsAtLosses-weaker, changes_view, CleanLossLeaves, KeptThread, IsPairSplit, LeftBySplit, ReportsSpaceErrors, WritesPairAndTwoFree}
use Rattle.lfs_device.specs.declared.error.Error.TheVariants as Error
use Rattle.lfs_pair.specs.declared.commits.Outcome.TheVariants as Outcome
use Rattle.lfs_operations.proofs.Putting.{read_is, cut_later, reports_later, writes_later, stops_later, not_both}
use Rattle.lfs_operations.proofs.changes.commit_or_split.Goals as goal

pub returns-in_err-commit_pair_changes-clause-stops : goal.returns-in_err-commit_pair_changes-clause-stops
returns-in_err-commit_pair_changes-clause-stops g c clean = HoldsAtLosses-weaker (λ left l. inl l) (c.commit_pair_changes.ensures.stops clean)

pub returns-in-Done-clause-stops : goal.returns-in-Done-clause-stops
returns-in-Done-clause-stops g c clean = HoldsAtLosses-weaker (λ left l. inl l) (c.commit_pair_changes.ensures.stops clean)

pub returns-in-Full-clause-is_put : goal.returns-in-Full-clause-is_put
returns-in-Full-clause-is_put g c =
    let old = c.args.thread.now.kept in
    let r = c.commit_pair_changes.ensures.full (c.in_ok-commit_pair_changes.was ∙ ap Ok c.in-Full.is) in
    on_ok_weaker c.commit_and_split.result (λ is. inr (
      (r.content, (r.made, r.too_large)),
      cut_later old c.commit_pair_changes.new.self.kept.history r.only.reads c.args.index (changes_view c.args.changes.now) c.commit_and_split.new.thread.kept
          (subst (λ (k : KeptThread). IsPairSplit k c.args.index (changes_view c.args.changes.now) c.commit_and_split.new.thread.kept) (read_is old c.commit_pair_changes.new.self.kept r.only) is),
    )) c.commit_and_split.ensures.is_cut

pub returns-in-Full-clause-errors : goal.returns-in-Full-clause-errors
returns-in-Full-clause-errors g c =
    let old = c.args.thread.now.kept in
    let was = c.in_ok-commit_pair_changes.was ∙ ap Ok c.in-Full.is in
    let r = c.commit_pair_changes.ensures.full was in
    let reported = reports_later old c.commit_pair_changes.new.self.kept.history r.only.reads c.args.index (changes_view c.args.changes.now) c.commit_and_split.new.thread.kept c.commit_and_split.result
    (c.commit_pair_changes.ensures.errors.no_fault (λ io. not_both c.commit_pair_changes.result Outcome.Full Error.Io was io))
    (subst (λ (k : KeptThread). ReportsSpaceErrors k c.commit_and_split.new.thread.kept c.commit_and_split.result) (read_is old c.commit_pair_changes.new.self.kept r.only) c.commit_and_split.ensures.errors.reports) in
    record {
      reports = record { failed = c.commit_and_split.ensures.errors.failed; reports = reported };
      too_large = λ none. (r.content, (r.made, r.too_large));
    }

pub returns-in-Full-clause-device : goal.returns-in-Full-clause-device
returns-in-Full-clause-device g c =
    let old = c.args.thread.now.kept in
    let r = c.commit_pair_changes.ensures.full (c.in_ok-commit_pair_changes.was ∙ ap Ok c.in-Full.is) in
    writes_later old c.commit_pair_changes.new.self.kept.history r.only.reads c.args.index (changes_view c.args.changes.now) c.commit_and_split.new.thread.kept
    (subst (λ (k : KeptThread). WritesPairAndTwoFree k c.args.index c.commit_and_split.new.thread.kept) (read_is old c.commit_pair_changes.new.self.kept r.only) c.commit_and_split.ensures.device)

pub returns-in-Full-clause-stops : goal.returns-in-Full-clause-stops
returns-in-Full-clause-stops g c =
    let old = c.args.thread.now.kept in
    let r = c.commit_pair_changes.ensures.full (c.in_ok-commit_pair_changes.was ∙ ap Ok c.in-Full.is) in
    stops_later old c.commit_pair_changes.new.self.kept.history r.only.reads c.args.index (changes_view c.args.changes.now) c.commit_and_split.new.thread.kept
    (r.content, (r.made, r.too_large))
    (subst (λ (k : KeptThread). WritesPairAndTwoFree k c.args.index c.commit_and_split.new.thread.kept) (read_is old c.commit_pair_changes.new.self.kept r.only) c.commit_and_split.ensures.device)
    c.commit_pair_changes.ensures.stops
    (subst (λ (k : KeptThread). CleanLossLeaves k.history c.commit_and_split.new.thread.kept.history (LeftBySplit k c.args.index (changes_view c.args.changes.now))) (read_is old c.commit_pair_changes.new.self.kept r.only) c.commit_and_split.ensures.stops)
