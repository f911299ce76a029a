use Rattle.std.proofs.Common.{ℕ, ◌≡◌, ◌++◌, ◌∷◌, [], Option, subst, false, rules}
use Rattle.std.specs.Prelude.{IfSome}
use Rattle.lfs_lookup.proofs.Common.{AllByRecursion, IsPairAt, address_of_array, same_pair, IsStructEntry, IsVisibleNameResult, err_from_is_err_and}
use Rattle.lfs_lookup.proofs.Entered.{leads_by, file_by, nothing_by, shown_slot, no_slot, is_somewhere, some_there}
use Rattle.lfs_lookup.proofs.RecentBlocks.{along_as, on_ok, passes_none}
use Rattle.lfs_lookup.proofs.InOrder.{in_order_if}
use Rattle.lfs_lookup.proofs.paths.find_subdirectory.Goals as goal

pub unwrap-next-requires : goal.unwrap-next-requires
unwrap-next-requires g c =
    let t = c.args.thread.now.kept in
    let a = subst (IsVisibleNameResult t.pairs c.args.moved c.args.first c.args.name.now) c.in-Some-default-Directory.is c.in_ok-at.ensures.answer in
    let shows = subst (λ e. IsStructEntry e a.stands.stands.slot.struct) c.in-Some-default-Directory.field-0-1-is a.shows in
    let path = c.requires.reached.0 in
    let slot = shown_slot t c.args.moved c.requires.can.hiding path c.args.first c.requires.reached.1 c.args.name.now _ _ a in
    let leads = leads_by t (path ++ c.args.name.now ∷ []) a.stands.stands.slot slot (address_of_array c.in-Some-default-Directory.at) shows in
    some_there c.number_at_address.result _ (c.number_at_address.ensures.nowhere)
    (λ none. is_somewhere t c.requires.can.hiding.accepted (path ++ c.args.name.now ∷ []) (address_of_array c.in-Some-default-Directory.at) leads
    (subst (AllByRecursion (λ p. same_pair p.at (address_of_array c.in-Some-default-Directory.at) ≡ false)) c.find_visible.ensures.reading.only.pairs none))

pub returns-in-Some-default-Directory-clause-answer : goal.returns-in-Some-default-Directory-clause-answer
returns-in-Some-default-Directory-clause-answer g c path on =
    let t = c.args.thread.now.kept in
    let a = subst (IsVisibleNameResult t.pairs c.args.moved c.args.first c.args.name.now) c.in-Some-default-Directory.is c.in_ok-at.ensures.answer in
    let shows = subst (λ e. IsStructEntry e a.stands.stands.slot.struct) c.in-Some-default-Directory.field-0-1-is a.shows in
    let slot = shown_slot t c.args.moved c.requires.can.hiding path c.args.first on c.args.name.now _ _ a in
    record {
      at = address_of_array c.in-Some-default-Directory.at;
      leads = leads_by t (path ++ c.args.name.now ∷ []) a.stands.stands.slot slot (address_of_array c.in-Some-default-Directory.at) shows;
      begins = subst (λ ps. IsPairAt ps (address_of_array c.in-Some-default-Directory.at) c.unwrap-next.result) c.find_visible.ensures.reading.only.pairs
          (subst (λ (o : Option ℕ). IfSome o (IsPairAt c.find_visible.new.thread.kept.pairs (address_of_array c.in-Some-default-Directory.at))) c.unwrap-next.ensures c.number_at_address.ensures.there);
    }

pub returns-in-Some-default-File-clause-answer : goal.returns-in-Some-default-File-clause-answer
returns-in-Some-default-File-clause-answer g c path on =
    let t = c.args.thread.now.kept in
    let a = subst (IsVisibleNameResult t.pairs c.args.moved c.args.first c.args.name.now) c.in-Some-default-File.is c.in_ok-at.ensures.answer in
    let shows = subst (λ e. IsStructEntry e a.stands.stands.slot.struct) c.in-Some-default-File.field-0-1-is a.shows in
    let slot = shown_slot t c.args.moved c.requires.can.hiding path c.args.first on c.args.name.now _ _ a in
    file_by t (path ++ c.args.name.now ∷ []) a.stands.stands.slot slot _ shows

pub returns-in-None-clause-answer : goal.returns-in-None-clause-answer
returns-in-None-clause-answer g c path on =
    let t = c.args.thread.now.kept in
    let absent = subst (IsVisibleNameResult t.pairs c.args.moved c.args.first c.args.name.now) c.in-None.is c.in_ok-at.ensures.answer in
    nothing_by t (path ++ c.args.name.now ∷ []) (no_slot t c.args.moved c.requires.can.hiding path c.args.first on c.args.name.now absent)

pub returns-in_err-at-clause-reads : goal.returns-in_err-at-clause-reads
returns-in_err-at-clause-reads g c = record {
  few = search rules;
  halves = search rules;
  loads = (
      let p = err_from_is_err_and c.from_residual.result c.from_residual.ensures.1 in
      along_as _ _ _ c.find_visible.result c.from_residual.result (passes_none c.find_visible.result c.from_residual.result p.0 p.1) c.find_visible.ensures.reads.loads
      );
}

pub returns-in-Some-default-Directory-clause-reads : goal.returns-in-Some-default-Directory-clause-reads
returns-in-Some-default-Directory-clause-reads g c = record {
  few = search rules;
  halves = search rules;
  loads = along_as _ _ _ c.find_visible.result _ (λ P h. on_ok c.find_visible.result c.in_ok-at.field-0 P c.in_ok-at.was h) c.find_visible.ensures.reads.loads;
}

pub returns-in-Some-default-File-clause-reads : goal.returns-in-Some-default-File-clause-reads
returns-in-Some-default-File-clause-reads g c = record {
  few = search rules;
  halves = search rules;
  loads = along_as _ _ _ c.find_visible.result _ (λ P h. on_ok c.find_visible.result c.in_ok-at.field-0 P c.in_ok-at.was h) c.find_visible.ensures.reads.loads;
}

pub returns-in-None-clause-reads : goal.returns-in-None-clause-reads
returns-in-None-clause-reads g c = record {
  few = search rules;
  halves = search rules;
  loads = along_as _ _ _ c.find_visible.result _ (λ P h. on_ok c.find_visible.result c.in_ok-at.field-0 P c.in_ok-at.was h) c.find_visible.ensures.reads.loads;
}

pub find_visible-requires-clause-in_order : goal.find_visible-requires-clause-in_order
find_visible-requires-clause-in_order g c = in_order_if c.args.thread.now.kept c.args.moved c.requires.reached.0 c.args.first c.requires.can.hiding c.requires.reached.1
