use Rattle.std.proofs.Common.{ℕ, ◌≡◌, ◌++◌, ◌∷◌, [], Option, subst, false}
use Rattle.std.specs.Prelude.{IfSome}
use Rattle.lfs_lookup.proofs.Common.{AllByRecursion, IsPairAt, IsPositionOfName, address_of_array, same_pair, IsStructEntry, IsNamePositionInDirectory}
use Rattle.lfs_lookup.proofs.Entered.{plain_on, slot_is, leads_to, absent_is, is_somewhere, some_there}
use Rattle.lfs_lookup.proofs.paths.search_directory.Goals as goal

pub find_name-requires-clause-entries : goal.find_name-requires-clause-entries
find_name-requires-clause-entries g c = plain_on c.args.thread.now.kept c.requires.can.settled c.requires.reached.0 c.args.parent c.requires.reached.1

pub unwrap-first-requires : goal.unwrap-first-requires
unwrap-first-requires g c =
    let t = c.args.thread.now.kept in
    let spot = c.in-Found-default-Directory.slot in
    let a = subst (IsNamePositionInDirectory t.disk.order t.pairs c.args.parent c.args.name.now) c.in-Found-default-Directory.is c.in_ok-slot.ensures.answer in
    let (s, shows) = subst (λ e. (s : IsPositionOfName t.pairs c.args.parent c.args.name.now spot.pair spot.id) × IsStructEntry e s.stands.slot.struct) c.in-Found-default-Directory.field-1-is a in
    let leads = leads_to t c.requires.can.settled c.requires.reached.0 c.args.parent c.requires.reached.1 c.args.name.now spot.pair spot.id s (address_of_array c.in-Found-default-Directory.at) shows in
    some_there c.number_at_address.result _ (c.number_at_address.ensures.nowhere)
    (λ none. is_somewhere t c.requires.can.settled.accepted (c.requires.reached.0 ++ c.args.name.now ∷ []) (address_of_array c.in-Found-default-Directory.at) leads
    (subst (AllByRecursion (λ p. same_pair p.at (address_of_array c.in-Found-default-Directory.at) ≡ false)) c.find_name.ensures.reading.only.pairs none))

pub returns-in-Found-default-Directory-clause-answer : goal.returns-in-Found-default-Directory-clause-answer
returns-in-Found-default-Directory-clause-answer g c above on =
    let t = c.args.thread.now.kept in
    let spot = c.in-Found-default-Directory.slot in
    let a = subst (IsNamePositionInDirectory t.disk.order t.pairs c.args.parent c.args.name.now) c.in-Found-default-Directory.is c.in_ok-slot.ensures.answer in
    let (s, shows) = subst (λ e. (s : IsPositionOfName t.pairs c.args.parent c.args.name.now spot.pair spot.id) × IsStructEntry e s.stands.slot.struct) c.in-Found-default-Directory.field-1-is a in (
      record { on = on; stands = s; slot = slot_is t c.requires.can.settled above c.args.parent on c.args.name.now spot.pair spot.id s },
      record {
        at = address_of_array c.in-Found-default-Directory.at;
        leads = leads_to t c.requires.can.settled above c.args.parent on c.args.name.now spot.pair spot.id s (address_of_array c.in-Found-default-Directory.at) shows;
        begins = subst (λ ps. IsPairAt ps (address_of_array c.in-Found-default-Directory.at) c.unwrap-first.result) c.find_name.ensures.reading.only.pairs
            (subst (λ (o : Option ℕ). IfSome o (IsPairAt c.find_name.new.thread.kept.pairs (address_of_array c.in-Found-default-Directory.at))) c.unwrap-first.ensures c.number_at_address.ensures.there);
      },
    )

pub returns-in-Found-default-File-clause-answer : goal.returns-in-Found-default-File-clause-answer
returns-in-Found-default-File-clause-answer g c above on =
    let t = c.args.thread.now.kept in
    let spot = c.in-Found-default-File.slot in
    let a = subst (IsNamePositionInDirectory t.disk.order t.pairs c.args.parent c.args.name.now) c.in-Found-default-File.is c.in_ok-slot.ensures.answer in
    let (s, shows) = subst (λ e. (s : IsPositionOfName t.pairs c.args.parent c.args.name.now spot.pair spot.id) × IsStructEntry e s.stands.slot.struct) c.in-Found-default-File.field-1-is a in
    (record { on = on; stands = s; slot = slot_is t c.requires.can.settled above c.args.parent on c.args.name.now spot.pair spot.id s }, shows)

pub returns-in-Place-clause-answer : goal.returns-in-Place-clause-answer
returns-in-Place-clause-answer g c above on =
    let t = c.args.thread.now.kept in
    let place = c.in-Place.place in
    let b = subst (IsNamePositionInDirectory t.disk.order t.pairs c.args.parent c.args.name.now) c.in-Place.is c.in_ok-slot.ensures.answer in
    record { on = on; belongs = b; nothing = absent_is t c.requires.can.settled above c.args.parent on c.args.name.now place.pair place.id b }
