use Rattle.std.proofs.Common.{ℕ, List, ◌∙◌, ap₂, subst, subst₂, sym, rules}
use Rattle.lfs_tree.proofs.Common.{err_from_is_err_and, Pair, AreUnreachedNumbers, CanDropPairs, slots_of_pairs_at, slots_lists, only_read, answered, both, further}
use Rattle.lfs_tree.proofs.ReportedFaults.{called_by_reading}
use Rattle.lfs_tree.proofs.Recovered.{called_then, called_writing, can_drop, drop_survives, dropped, read_survives, reports_given, reports_reading, reports_then}
use Rattle.lfs_tree.proofs.lost_recovery.drop_unreached_directories.Goals as goal

pub returns-in_err-numbers-clause-survives : goal.returns-in_err-numbers-clause-survives
returns-in_err-numbers-clause-survives g c = read_survives c.args.thread.now.kept c.find_unreached_pairs.new.thread.kept c.requires.can.can c.find_unreached_pairs.ensures.reading.only

pub lists_of_pairs-requires-clause-unreached : goal.lists_of_pairs-requires-clause-unreached
lists_of_pairs-requires-clause-unreached g c =
    subst₂ (λ (ps : List Pair) (numbers : List ℕ). AreUnreachedNumbers ps numbers) (sym c.find_unreached_pairs.ensures.reading.only.pairs) (sym c.deref.ensures.value) c.in_ok-numbers.ensures.unreached

pub returns-in_err-lists-clause-called : goal.returns-in_err-lists-clause-called
returns-in_err-lists-clause-called g c = called_by_reading _ _ (only_read _ _ _ c.find_unreached_pairs.ensures.reading.only c.lists_of_pairs.ensures.reading.only)

pub returns-in_err-lists-clause-reports : goal.returns-in_err-lists-clause-reports
returns-in_err-lists-clause-reports g c = record {
  works = search rules;
  no_fault = search rules;
  errors = (
      let p = err_from_is_err_and c.from_residual-in_err-lists.result c.from_residual-in_err-lists.ensures.1 in
      let found = answered _ _ c.find_unreached_pairs.result c.in_ok-numbers.numbers c.in_ok-numbers.was c.find_unreached_pairs.ensures.reading in
      let reading = further _ _ _ c.lists_of_pairs.result found c.lists_of_pairs.ensures.reading in
      reports_given c.args.thread.now.kept c.lists_of_pairs.new.thread.kept c.from_residual-in_err-lists.result _ p.0 p.1 p.2
      (reports_reading c.args.thread.now.kept c.lists_of_pairs.new.thread.kept c.lists_of_pairs.result _ c.in_err-lists.was reading.reported)
      );
}

pub returns-in_err-lists-clause-survives : goal.returns-in_err-lists-clause-survives
returns-in_err-lists-clause-survives g c =
    read_survives c.args.thread.now.kept c.lists_of_pairs.new.thread.kept c.requires.can.can (only_read _ _ _ c.find_unreached_pairs.ensures.reading.only c.lists_of_pairs.ensures.reading.only)

pub drop_with_lists-requires-clause-can : goal.drop_with_lists-requires-clause-can
drop_with_lists-requires-clause-can g c =
    record {
      works = c.lists_of_pairs.ensures.reading.works;
      can = (
          subst (λ numbers. CanDropPairs c.lists_of_pairs.new.thread.kept numbers) (sym c.deref-2.ensures.value)
          (can_drop c.args.thread.now.kept c.lists_of_pairs.new.thread.kept c.in_ok-numbers.numbers.items c.requires.can.can c.lemma_block_facts.ensures.large
          (only_read _ _ _ c.find_unreached_pairs.ensures.reading.only c.lists_of_pairs.ensures.reading.only) c.in_ok-numbers.ensures.unreached)
          );
    }

pub drop_with_lists-requires-clause-lists : goal.drop_with_lists-requires-clause-lists
drop_with_lists-requires-clause-lists g c =
    c.deref-3.ensures.value ∙ c.in_ok-lists.ensures.lists
    ∙ ap₂ (λ (ps : List Pair) (numbers : List ℕ). slots_lists (slots_of_pairs_at ps numbers)) (sym c.lists_of_pairs.ensures.reading.only.pairs) (c.deref.ensures.value ∙ sym c.deref-2.ensures.value)

pub returns-in_err-drop_with_lists-clause-called : goal.returns-in_err-drop_with_lists-clause-called
returns-in_err-drop_with_lists-clause-called g c =
    called_then _ _ _ (called_by_reading _ _ (only_read _ _ _ c.find_unreached_pairs.ensures.reading.only c.lists_of_pairs.ensures.reading.only)) (called_writing _ _ _ c.drop_with_lists.ensures.device)

pub returns-in_err-drop_with_lists-clause-reports : goal.returns-in_err-drop_with_lists-clause-reports
returns-in_err-drop_with_lists-clause-reports g c = record {
  works = search rules;
  no_fault = search rules;
  errors = (
      let p = err_from_is_err_and c.from_residual-in_err-drop_with_lists.result c.from_residual-in_err-drop_with_lists.ensures.1 in
      let found = answered _ _ c.find_unreached_pairs.result c.in_ok-numbers.numbers c.in_ok-numbers.was c.find_unreached_pairs.ensures.reading in
      let read = both _ _ _ found (answered _ _ c.lists_of_pairs.result c.in_ok-lists.lists c.in_ok-lists.was c.lists_of_pairs.ensures.reading) in
      reports_given c.args.thread.now.kept c.drop_with_lists.new.thread.kept c.from_residual-in_err-drop_with_lists.result _ p.0 p.1 p.2
      (reports_then c.args.thread.now.kept c.lists_of_pairs.new.thread.kept c.drop_with_lists.new.thread.kept _ read.same c.in_err-drop_with_lists.ensures.reports.errors)
      );
}

pub returns-in_err-drop_with_lists-clause-survives : goal.returns-in_err-drop_with_lists-clause-survives
returns-in_err-drop_with_lists-clause-survives g c =
    drop_survives c.args.thread.now.kept c.lists_of_pairs.new.thread.kept c.drop_with_lists.new.thread.kept c.requires.can.can
    (only_read _ _ _ c.find_unreached_pairs.ensures.reading.only c.lists_of_pairs.ensures.reading.only) c.drop_with_lists.ensures.device c.drop_with_lists.ensures.survives

pub returns-clause-dropped : goal.returns-clause-dropped
returns-clause-dropped g c =
    dropped c.args.thread.now.kept c.lists_of_pairs.new.thread.kept c.drop_with_lists.new.thread.kept
    (only_read _ _ _ c.find_unreached_pairs.ensures.reading.only c.lists_of_pairs.ensures.reading.only) c.in_ok-drop_with_lists.ensures.dropped

pub returns-clause-called : goal.returns-clause-called
returns-clause-called g c =
    called_then _ _ _ (called_by_reading _ _ (only_read _ _ _ c.find_unreached_pairs.ensures.reading.only c.lists_of_pairs.ensures.reading.only)) (called_writing _ _ _ c.drop_with_lists.ensures.device)

pub returns-clause-reports : goal.returns-clause-reports
returns-clause-reports g c = record {
  works = search rules;
  no_fault = (
      let found = answered _ _ c.find_unreached_pairs.result c.in_ok-numbers.numbers c.in_ok-numbers.was c.find_unreached_pairs.ensures.reading in
      let read = both _ _ _ found (answered _ _ c.lists_of_pairs.result c.in_ok-lists.lists c.in_ok-lists.was c.lists_of_pairs.ensures.reading) in
      c.in_ok-drop_with_lists.ensures.reports.no_fault ∙ read.same
      );
  errors = search rules;
}

pub returns-clause-survives : goal.returns-clause-survives
returns-clause-survives g c =
    drop_survives c.args.thread.now.kept c.lists_of_pairs.new.thread.kept c.drop_with_lists.new.thread.kept c.requires.can.can
    (only_read _ _ _ c.find_unreached_pairs.ensures.reading.only c.lists_of_pairs.ensures.reading.only) c.drop_with_lists.ensures.device c.drop_with_lists.ensures.survives
