use Rattle.std.proofs.Common.{◌<◌, ◌+◌, ◌∙◌, Err, IfSome, List, None, Some, ap, cond, length, refl, slice_index_or, subst, arith}
use Rattle.lfs_lookup.proofs.Common.{map-append, err_from_is_err_and, Pair, is_hard_tail, empty_anchor, thread_pair, item_view, items_view}
use Rattle.lfs_lookup.proofs.Directories.{length_on, length_some, list_on, run_next}
use Rattle.lfs_lookup.proofs.Reading.{answered, both, further, lacks_memory, passed}
use Rattle.lfs_lookup.proofs.RecentBlocks.{keeps_on, none_on}
use Rattle.lfs_lookup.proofs.directory.directory_items.Goals as goal

pub returns-in_err-more-clause-reading : goal.returns-in_err-more-clause-reading
returns-in_err-more-clause-reading g c =
    let p = err_from_is_err_and c.from_residual.result c.from_residual.ensures.1 in
    passed _ _ c.pair_items.result c.from_residual.result _ p.0 c.in_err-more.was p.1 p.2 (further _ _ _ c.pair_items.result c.loop-pair.invariant.read c.pair_items.ensures.reading)

pub returns-in_err-more-clause-kept : goal.returns-in_err-more-clause-kept
returns-in_err-more-clause-kept g c =
    let ps = c.args.thread.now.kept.pairs in
    let inv = c.loop-pair.invariant in
    let next = cond (is_hard_tail (slice_index_or c.loop-pair.thread.kept.pairs c.in-Some.index empty_anchor).content.tail) (Some (c.in-Some.index + 1)) None in
    let within = subst (λ o. IfSome o (λ pair. pair < length ps)) c.in-Some.is inv.below in
    let run = run_next ps c.loop-pair.thread.kept.pairs c.in-Some.index empty_anchor c.loop-pair.pair next inv.read.only.pairs c.in-Some.is within refl in
    none_on _ _ _ (thread_pair c.loop-pair.thread.kept c.in-Some.index) c.args.thread.now c.loop-pair.thread c.pair_items.new.thread c.pair_items.result inv.along run c.pair_items.ensures.loads

pub returns-in_err-more-clause-few : goal.returns-in_err-more-clause-few
returns-in_err-more-clause-few g c =
    let inv = c.loop-pair.invariant in
    let f = inv.few in
    let n = c.pair_items.ensures.few in
    let one = length_some c.args.thread.now.kept.pairs c.in-Some.index empty_anchor c.loop-pair.pair c.in-Some.is (subst (λ o. IfSome o (λ pair. pair < length c.args.thread.now.kept.pairs)) c.in-Some.is inv.below) in
    omega (arith, f, n, one)

pub returns-in_err-append-clause-kept : goal.returns-in_err-append-clause-kept
returns-in_err-append-clause-kept g c =
    let ps = c.args.thread.now.kept.pairs in
    let inv = c.loop-pair.invariant in
    let next = cond (is_hard_tail (slice_index_or c.loop-pair.thread.kept.pairs c.in-Some.index empty_anchor).content.tail) (Some (c.in-Some.index + 1)) None in
    let within = subst (λ o. IfSome o (λ pair. pair < length ps)) c.in-Some.is inv.below in
    let run = run_next ps c.loop-pair.thread.kept.pairs c.in-Some.index empty_anchor c.loop-pair.pair next inv.read.only.pairs c.in-Some.is within refl in
    none_on _ _ _ (thread_pair c.loop-pair.thread.kept c.in-Some.index) c.args.thread.now c.loop-pair.thread c.pair_items.new.thread c.pair_items.result inv.along run c.pair_items.ensures.loads

pub returns-in_err-append-clause-few : goal.returns-in_err-append-clause-few
returns-in_err-append-clause-few g c =
    let inv = c.loop-pair.invariant in
    let f = inv.few in
    let n = c.pair_items.ensures.few in
    let one = length_some c.args.thread.now.kept.pairs c.in-Some.index empty_anchor c.loop-pair.pair c.in-Some.is (subst (λ o. IfSome o (λ pair. pair < length c.args.thread.now.kept.pairs)) c.in-Some.is inv.below) in
    omega (arith, f, n, one)

pub returns-in_err-append-clause-reading : goal.returns-in_err-append-clause-reading
returns-in_err-append-clause-reading g c =
    let p = err_from_is_err_and c.from_residual-in_err-append.result c.from_residual-in_err-append.ensures.1 in
    let read = both _ _ _ c.loop-pair.invariant.read (answered _ _ c.pair_items.result c.in_ok-more.more c.in_ok-more.was c.pair_items.ensures.reading) in
    lacks_memory _ _ c.from_residual-in_err-append.result (p.1 ∙ ap Err p.2) read

pub loop-pair-preserved : goal.loop-pair-preserved
loop-pair-preserved g c =
    let inv = c.loop-pair.invariant in
    let read = both _ _ _ inv.read (answered _ _ c.pair_items.result c.in_ok-more.more c.in_ok-more.was c.pair_items.ensures.reading) in
    let ps = c.args.thread.now.kept.pairs in
    let within = subst (λ o. IfSome o (λ pair. pair < length ps)) c.in-Some.is inv.below in
    let next = c.next-pair.ensures.next ∙ ap (λ (ps : List Pair). cond (is_hard_tail (slice_index_or ps c.in-Some.index empty_anchor).content.tail) (Some (c.in-Some.index + 1)) None) {y = c.loop-pair.thread.kept.pairs} c.pair_items.ensures.reading.only.pairs in
    let f = inv.few in
    let n = c.pair_items.ensures.few in
    let one = length_on ps c.loop-pair.thread.kept.pairs c.in-Some.index empty_anchor c.loop-pair.pair c.next-pair.result inv.read.only.pairs c.in-Some.is within next in
    record {
      read = read;
      few = omega (arith, f, n, one);
      along = keeps_on _ _ _ (thread_pair c.loop-pair.thread.kept c.in-Some.index) c.args.thread.now c.loop-pair.thread c.pair_items.new.thread c.pair_items.result inv.along
          (run_next ps c.loop-pair.thread.kept.pairs c.in-Some.index empty_anchor c.loop-pair.pair c.next-pair.result inv.read.only.pairs c.in-Some.is within next) c.pair_items.ensures.loads
          c.in_ok-more.more c.in_ok-more.was c.pair_items.ensures.reading.only.disk;
      below = subst (λ (ps : List Pair). IfSome c.next-pair.result (λ pair. pair < length ps)) read.only.pairs c.next-pair.ensures.below;
      items =
          list_on c.args.thread.now.kept.pairs c.loop-pair.thread.kept.pairs c.args.first c.in-Some.index empty_anchor c.loop-pair.pair c.next-pair.result
          (items_view c.loop-pair.items.items) (items_view c.in_ok-more.more.items) (items_view c.append.new.self.items) inv.read.only.pairs c.in-Some.is
          within c.in_ok-more.ensures.items next
          (ap items_view c.in_ok-append.ensures.items ∙ map-append item_view c.loop-pair.items.items c.in_ok-more.more.items) inv.items;
    }
