use Rattle.std.proofs.Common.{refl, ℕ, ◌≡◌, ◌++◌, ◌∷◌, [], Option, subst, false, rules}
use Rattle.std.specs.Prelude.{IfSome}
use Rattle.lfs_lookup.proofs.Common.{AllByRecursion, IsPairAt, address_of_array, same_pair, IsStructEntry, IsVisibleNameResult, err_from_is_err_and}
use Rattle.lfs_lookup.proofs.Entered.{leads_by, shown_slot, no_slot, is_somewhere, some_there}
use Rattle.lfs_lookup.proofs.RecentBlocks.{along_as, on_ok, passes_none}
use Rattle.lfs_lookup.proofs.InOrder.{in_order_if}
use Rattle.lfs_lookup.proofs.paths.look_up_name.Goals as goal

pub unwrap-first-requires : goal.unwrap-first-requires
unwrap-first-requires g c =
    let t = c.args.thread.now.kept in
    let a = subst (IsVisibleNameResult t.pairs c.args.moved c.args.parent c.args.name.now) c.in-Some-default-Directory.is c.in_ok-slot.ensures.answer in
    let shows = subst (λ e. IsStructEntry e a.stands.stands.slot.struct) c.in-Some-default-Directory.field-0-1-is a.shows in
    let path = c.requires.reached.0 in
    let slot = shown_slot t c.args.moved c.requires.can.hiding path c.args.parent c.requires.reached.1 c.args.name.now _ _ a in
    let leads = leads_by t (path ++ c.args.name.now ∷ []) a.stands.stands.slot slot (address_of_array c.in-Some-default-Directory.at) shows in
    some_there c.number_at_address.result _ (c.number_at_address.ensures.nowhere)
    (λ none. is_somewhere t c.requires.can.hiding.accepted (path ++ c.args.name.now ∷ []) (address_of_array c.in-Some-default-Directory.at) leads
    (subst (AllByRecursion (λ p. same_pair p.at (address_of_array c.in-Some-default-Directory.at) ≡ false)) c.find_visible.ensures.reading.only.pairs none))

pub returns-in-Some-default-Directory-clause-answer : goal.returns-in-Some-default-Directory-clause-answer
returns-in-Some-default-Directory-clause-answer g c above on =
    let t = c.args.thread.now.kept in
    let a = subst (IsVisibleNameResult t.pairs c.args.moved c.args.parent c.args.name.now) c.in-Some-default-Directory.is c.in_ok-slot.ensures.answer in
    let shows = subst (λ e. IsStructEntry e a.stands.stands.slot.struct) c.in-Some-default-Directory.field-0-1-is a.shows in
    let slot = shown_slot t c.args.moved c.requires.can.hiding above c.args.parent on c.args.name.now _ _ a in (
      record { above = above; name = c.args.name.now; is = refl; first = c.args.parent; on = on; stands = a.stands; kept = a.kept; slot = slot },
      record {
        at = address_of_array c.in-Some-default-Directory.at;
        leads = leads_by t (above ++ c.args.name.now ∷ []) a.stands.stands.slot slot (address_of_array c.in-Some-default-Directory.at) shows;
        begins = subst (λ ps. IsPairAt ps (address_of_array c.in-Some-default-Directory.at) c.unwrap-first.result) c.find_visible.ensures.reading.only.pairs
            (subst (λ (o : Option ℕ). IfSome o (IsPairAt c.find_visible.new.thread.kept.pairs (address_of_array c.in-Some-default-Directory.at))) c.unwrap-first.ensures c.number_at_address.ensures.there);
      },
    )

pub returns-in-Some-default-File-clause-answer : goal.returns-in-Some-default-File-clause-answer
returns-in-Some-default-File-clause-answer g c above on =
    let t = c.args.thread.now.kept in
    let a = subst (IsVisibleNameResult t.pairs c.args.moved c.args.parent c.args.name.now) c.in-Some-default-File.is c.in_ok-slot.ensures.answer in
    let shows = subst (λ e. IsStructEntry e a.stands.stands.slot.struct) c.in-Some-default-File.field-0-1-is a.shows in
    (record { above = above; name = c.args.name.now; is = refl; first = c.args.parent; on = on; stands = a.stands; kept = a.kept; slot = shown_slot t c.args.moved c.requires.can.hiding above c.args.parent on c.args.name.now _ _ a }, shows)

pub returns-in-None-clause-answer : goal.returns-in-None-clause-answer
returns-in-None-clause-answer g c above on =
    let t = c.args.thread.now.kept in
    let absent = subst (IsVisibleNameResult t.pairs c.args.moved c.args.parent c.args.name.now) c.in-None.is c.in_ok-slot.ensures.answer in
    no_slot t c.args.moved c.requires.can.hiding above c.args.parent on c.args.name.now absent

pub returns-in_err-slot-clause-reads : goal.returns-in_err-slot-clause-reads
returns-in_err-slot-clause-reads g c = record {
  few = search rules;
  halves = search rules;
  loads = (
      let p = err_from_is_err_and c.from_residual.result c.from_residual.ensures.1 in
      along_as _ _ _ c.find_visible.result c.from_residual.result (passes_none c.find_visible.result c.from_residual.result p.0 p.1) c.find_visible.ensures.reads.loads
      );
}

pub returns-in-Some-default-Directory-clause-reads : goal.returns-in-Some-default-Directory-clause-reads
returns-in-Some-default-Directory-clause-reads g c = record {
  few = search rules;
  halves = search rules;
  loads = along_as _ _ _ c.find_visible.result _ (λ P h. on_ok c.find_visible.result c.in_ok-slot.field-0 P c.in_ok-slot.was h) c.find_visible.ensures.reads.loads;
}

pub returns-in-Some-default-File-clause-reads : goal.returns-in-Some-default-File-clause-reads
returns-in-Some-default-File-clause-reads g c = record {
  few = search rules;
  halves = search rules;
  loads = along_as _ _ _ c.find_visible.result _ (λ P h. on_ok c.find_visible.result c.in_ok-slot.field-0 P c.in_ok-slot.was h) c.find_visible.ensures.reads.loads;
}

pub returns-in-None-clause-reads : goal.returns-in-None-clause-reads
returns-in-None-clause-reads g c = record {
  few = search rules;
  halves = search rules;
  loads = along_as _ _ _ c.find_visible.result _ (λ P h. on_ok c.find_visible.result c.in_ok-slot.field-0 P c.in_ok-slot.was h) c.find_visible.ensures.reads.loads;
}

pub find_visible-requires-clause-in_order : goal.find_visible-requires-clause-in_order
find_visible-requires-clause-in_order g c = in_order_if c.args.thread.now.kept c.args.moved c.requires.reached.0 c.args.parent c.requires.can.hiding c.requires.reached.1
