use Rattle.std.proofs.Common.{ℕ, ◌≡◌, ◌<◌, ◌≤◌, ◌+◌, ◌∙◌, IfSome, List, [], ◌∷◌, ◌++◌, Option, None, Some, ap, cond, get_or, map, length, refl, slice_index_or, subst, sym, arith}
use Rattle.lfs_lookup.proofs.Common.{err_from_is_err_and, Pair, pairs_gstate, is_hard_tail, unmoved_entries, empty_anchor, NamedStruct, items_view, named_struct, directory_entries_from}
use Rattle.lfs_lookup.specs.declared.items.NameAndOwnedStruct.{NameAndOwnedStruct}
use Rattle.lfs_lookup.proofs.Directories.{length_on, length_some, shapes_on}
use Rattle.lfs_lookup.proofs.Reading.{answered, answers, both, further, passed}
use Rattle.lfs_lookup.proofs.directory.has_entries.Goals as goal

none_seen : (items : List NameAndOwnedStruct) → length items ≤ 0 → items_view items ≡ []
none_seen [] l = refl
none_seen (i ∷ items) l = absurd (omega arith)

-- nothing stands in one of the pairs
none_on : (ps qs : List Pair) (index : ℕ) (d : Pair) (from next start : Option ℕ) (more : List NamedStruct) → qs ≡ ps → from ≡ Some index → index < length ps →
    more ≡ map named_struct (unmoved_entries (pairs_gstate qs) (get_or qs index d)) → next ≡ cond (is_hard_tail (get_or qs index d).content.tail) (Some (index + 1)) None → directory_entries_from ps from ≡ directory_entries_from ps start → more ≡ [] →
    directory_entries_from ps next ≡ directory_entries_from ps start
none_on ps qs index d from next start more same at l m n before empty =
    let shown = m ∙ ap (λ rs. map named_struct (unmoved_entries (pairs_gstate rs) (get_or rs index d))) same in
    let goes = n ∙ ap (λ rs. cond (is_hard_tail (get_or rs index d).content.tail) (Some (index + 1)) None) same in
    ap (λ z. z ++ directory_entries_from ps next) (sym empty ∙ shown) ∙ sym (shapes_on ps index d next l goes) ∙ ap (directory_entries_from ps) (sym at) ∙ before

pub returns-in_err-items-clause-reading : goal.returns-in_err-items-clause-reading
returns-in_err-items-clause-reading g c =
    let p = err_from_is_err_and c.from_residual.result c.from_residual.ensures.1 in
    passed _ _ c.pair_entries.result c.from_residual.result _ p.0 c.in_err-items.was p.1 p.2 (further _ _ _ c.pair_entries.result c.loop-pair.invariant.read c.pair_entries.ensures.reading)

pub returns-in_err-items-clause-few : goal.returns-in_err-items-clause-few
returns-in_err-items-clause-few g c =
    let inv = c.loop-pair.invariant in
    let f = inv.few in
    let n = c.pair_entries.ensures.few in
    let one = length_some c.args.thread.now.kept.pairs c.in-Some.index empty_anchor c.loop-pair.pair c.in-Some.is (subst (λ o. IfSome o (λ pair. pair < length c.args.thread.now.kept.pairs)) c.in-Some.is inv.below) in
    omega (arith, f, n, one)

pub loop-pair-preserved : goal.loop-pair-preserved
loop-pair-preserved g c =
    let inv = c.loop-pair.invariant in
    let ps = c.args.thread.now.kept.pairs in
    let read = both _ _ _ inv.read (answered _ _ c.pair_entries.result c.in_ok-items.items c.in_ok-items.was c.pair_entries.ensures.reading) in
    let within = subst (λ o. IfSome o (λ pair. pair < length ps)) c.in-Some.is inv.below in
    let next = c.next-pair.ensures.next ∙ ap (λ (ps : List Pair). cond (is_hard_tail (slice_index_or ps c.in-Some.index empty_anchor).content.tail) (Some (c.in-Some.index + 1)) None) {y = c.loop-pair.thread.kept.pairs} c.pair_entries.ensures.reading.only.pairs in
    let f = inv.few in
    let n = c.pair_entries.ensures.few in
    let one = length_on ps c.loop-pair.thread.kept.pairs c.in-Some.index empty_anchor c.loop-pair.pair c.next-pair.result inv.read.only.pairs c.in-Some.is within next in
    record {
      read = read;
      few = omega (arith, f, n, one);
      below = subst (λ (ps : List Pair). IfSome c.next-pair.result (λ pair. pair < length ps)) read.only.pairs c.next-pair.ensures.below;
      none_before =
          none_on ps c.loop-pair.thread.kept.pairs c.in-Some.index empty_anchor c.loop-pair.pair c.next-pair.result c.args.from (items_view c.in_ok-items.items.items) inv.read.only.pairs c.in-Some.is within c.in_ok-items.ensures.items next
          inv.none_before (none_seen c.in_ok-items.items.items (omega arith));
    }

pub returns-then-len-gt0-clause-reading : goal.returns-then-len-gt0-clause-reading
returns-then-len-gt0-clause-reading g c =
    answers _ _ _ _ refl (both _ _ _ c.loop-pair.invariant.read (answered _ _ c.pair_entries.result c.in_ok-items.items c.in_ok-items.was c.pair_entries.ensures.reading))

pub returns-then-len-gt0-clause-few : goal.returns-then-len-gt0-clause-few
returns-then-len-gt0-clause-few g c =
    let inv = c.loop-pair.invariant in
    let f = inv.few in
    let n = c.pair_entries.ensures.few in
    let one = length_some c.args.thread.now.kept.pairs c.in-Some.index empty_anchor c.loop-pair.pair c.in-Some.is (subst (λ o. IfSome o (λ pair. pair < length c.args.thread.now.kept.pairs)) c.in-Some.is inv.below) in
    omega (arith, f, n, one)
