use Rattle.std.proofs.Common.{inr, map, subst}
use Rattle.lfs_tool.specs.SourceEntries.{AreAscendingComponents, listed_name}
use Rattle.lfs_tool.proofs.Order.{bad_given}
use Rattle.lfs_tool.proofs.Reading.{within_sorted}
use Rattle.lfs_tool.proofs.entries.sorted_names.Goals as goal

pub returns-then-not-are_valid_names-clause-fault : goal.returns-then-not-are_valid_names-clause-fault
returns-then-not-are_valid_names-clause-fault g c = λ e. inr (
  c.in_ok-names.ensures.kept,
  bad_given (g.S.Source.shown c.args.source.now) c.args.folder.now c.in_ok-names.names.items c.sort_names.new.names.items c.as_slice.result.now
      c.in_ok-names.ensures.names c.sort_names.ensures.permutation c.as_slice.ensures.value (c.are_valid_names.ensures.bad c.if-not-are_valid_names.true),
)

pub returns-clause-names : goal.returns-clause-names
returns-clause-names g c =
    let good : AreAscendingComponents (map listed_name c.sort_names.new.names.items) =
    subst (λ (xs : _). AreAscendingComponents (map listed_name xs)) c.as_slice.ensures.value (c.are_valid_names.ensures.good c.if-not-are_valid_names.false) in
    within_sorted (g.S.Source.shown c.args.source.now) c.args.folder.now c.in_ok-names.names.items c.sort_names.new.names.items c.in_ok-names.ensures.names c.sort_names.ensures.permutation good
