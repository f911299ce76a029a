use Rattle.std.proofs.Common.{ℕ, ◌≡◌, ◌<◌, ◌+◌, ◌∙◌, ◌∷◌, [], true, List, slice_index_or, sym, ap, subst, length, drop, arith, refl}
use Rattle.lfs_lookup.proofs.Common.{err_from_is_err_and, joined_pair_count, Pair, is_hard_tail, thread_pair, empty_anchor, KeepsCachedPairs, joined_pairs, IsNamePositionInPair, IsNameAbsentFrom, IsNameAbsentExcept, IsNameAtUnskipped}
use Rattle.lfs_lookup.proofs.Directories.{run_hard_on, run_on as run_here_on, run_some_on}
use Rattle.lfs_lookup.proofs.Reading.{answered, answers, both}
use Rattle.lfs_lookup.proofs.ReadOnly.{only_read, only_itself, reported_on}
use Rattle.lfs_lookup.proofs.RecentBlocks.{loads_on, loads_to_here, loaded_none, on_ok, passes_none}
use Rattle.lfs_lookup.proofs.Walked.{run_on, run_some, leads_on, leads_nowhere}
use Rattle.lfs_lookup.proofs.ShownAlong.{LeadsFromFresh, reached_first, reached_next, shown_here, absent_on, absent_end}
use Rattle.lfs_lookup.proofs.search.linear_search_name.Goals as goal

pub loop-id-init : goal.loop-id-init
loop-id-init g c = record {
  only = only_itself c.args.thread.now.kept;
  no_fault = refl;
  works = c.requires.works;
  few = omega arith;
  along = loaded_none (joined_pairs (drop c.args.first c.args.thread.now.kept.pairs)) c.args.thread.now;
  from = omega arith;
  below = c.requires.below;
  reached = reached_first c.args.thread.now.kept.pairs c.args.first empty_anchor c.requires.below;
  absent = λ h. h;
}

pub returns-in_err-id-clause-few : goal.returns-in_err-id-clause-few
returns-in_err-id-clause-few g c =
    let inv = c.loop-id.invariant in
    let f = inv.few in
    let n = c.find_in_pair.ensures.few in
    let one = run_some c.args.thread.now.kept.pairs c.loop-id.pair inv.below in
    omega (arith, f, n, one)

pub returns-in_err-id-clause-loads : goal.returns-in_err-id-clause-loads
returns-in_err-id-clause-loads g c =
    let inv = c.loop-id.invariant in
    let p = err_from_is_err_and c.from_residual.result c.from_residual.ensures.1 in
    let ps = c.args.thread.now.kept.pairs in
    loads_to_here _ _ _ (slice_index_or ps c.loop-id.pair empty_anchor) c.args.thread.now c.loop-id.thread c.find_in_pair.new.thread c.find_in_pair.result inv.along (run_here_on ps c.loop-id.pair empty_anchor inv.below)
    (subst (λ (qs : List Pair). KeepsCachedPairs (slice_index_or qs c.loop-id.pair empty_anchor ∷ []) c.loop-id.thread c.find_in_pair.new.thread c.find_in_pair.result) inv.only.pairs c.find_in_pair.ensures.loads)
    c.from_residual.result (passes_none c.find_in_pair.result c.from_residual.result p.0 p.1)

pub returns-in_err-id-clause-reading : goal.returns-in_err-id-clause-reading
returns-in_err-id-clause-reading g c =
    let p = err_from_is_err_and c.from_residual.result c.from_residual.ensures.1 in
    let only = only_read _ _ _ c.loop-id.invariant.only c.find_in_pair.ensures.reading.only in
    record {
      only = only;
      works = c.find_in_pair.ensures.reading.works;
      reported = reported_on _ _ _ c.find_in_pair.result c.from_residual.result _ p.0 only c.loop-id.invariant.no_fault c.find_in_pair.ensures.reading.reported c.in_err-id.was p.1 p.2;
    }

pub returns-in-Found-clause-answer : goal.returns-in-Found-clause-answer
returns-in-Found-clause-answer g c =
    let inv = c.loop-id.invariant in
    let ps = c.args.thread.now.kept.pairs in
    let a = subst (λ o. IsNamePositionInPair c.loop-id.thread.kept.disk.order c.id_to_skip-skip.result (thread_pair c.loop-id.thread.kept c.loop-id.pair).content.slots c.args.name.now o) c.in-Found.is c.in_ok-id.ensures.answer in
    let b = subst (λ qs. IsNameAtUnskipped c.id_to_skip-skip.result (slice_index_or qs c.loop-id.pair empty_anchor).content.slots c.args.name.now c.in-Found.id c.in-Found.entry) inv.only.pairs a in
    shown_here ps c.args.moved c.args.first c.args.name.now _ (slice_index_or ps c.loop-id.pair empty_anchor) c.in-Found.entry inv.reached
    (subst (λ k. IsNameAtUnskipped k (slice_index_or ps c.loop-id.pair empty_anchor).content.slots c.args.name.now c.in-Found.id c.in-Found.entry) c.id_to_skip-skip.ensures b)

pub returns-in-Found-clause-loads : goal.returns-in-Found-clause-loads
returns-in-Found-clause-loads g c =
    let inv = c.loop-id.invariant in
    let ps = c.args.thread.now.kept.pairs in
    loads_to_here _ _ _ (slice_index_or ps c.loop-id.pair empty_anchor) c.args.thread.now c.loop-id.thread c.find_in_pair.new.thread c.find_in_pair.result inv.along (run_here_on ps c.loop-id.pair empty_anchor inv.below)
    (subst (λ (qs : List Pair). KeepsCachedPairs (slice_index_or qs c.loop-id.pair empty_anchor ∷ []) c.loop-id.thread c.find_in_pair.new.thread c.find_in_pair.result) inv.only.pairs c.find_in_pair.ensures.loads)
    _ (λ P h. on_ok c.find_in_pair.result c.in_ok-id.field-0 P c.in_ok-id.was h)

pub returns-in-Found-clause-reading : goal.returns-in-Found-clause-reading
returns-in-Found-clause-reading g c =
    let inv = c.loop-id.invariant in
    answers _ _ _ _ refl (both _ _ _ (record { only = inv.only; works = inv.works; same = inv.no_fault }) (answered _ _ c.find_in_pair.result c.in_ok-id.field-0 c.in_ok-id.was c.find_in_pair.ensures.reading))

pub returns-in-None-clause-loads : goal.returns-in-None-clause-loads
returns-in-None-clause-loads g c =
    let inv = c.loop-id.invariant in
    let ps = c.args.thread.now.kept.pairs in
    loads_to_here _ _ _ (slice_index_or ps c.loop-id.pair empty_anchor) c.args.thread.now c.loop-id.thread c.find_in_pair.new.thread c.find_in_pair.result inv.along (run_here_on ps c.loop-id.pair empty_anchor inv.below)
    (subst (λ (qs : List Pair). KeepsCachedPairs (slice_index_or qs c.loop-id.pair empty_anchor ∷ []) c.loop-id.thread c.find_in_pair.new.thread c.find_in_pair.result) inv.only.pairs c.find_in_pair.ensures.loads)
    _ (λ P h. on_ok c.find_in_pair.result c.in_ok-id.field-0 P c.in_ok-id.was h)

pub returns-in-None-clause-reading : goal.returns-in-None-clause-reading
returns-in-None-clause-reading g c =
    let inv = c.loop-id.invariant in
    answers _ _ _ _ refl (both _ _ _ (record { only = inv.only; works = inv.works; same = inv.no_fault }) (answered _ _ c.find_in_pair.result c.in_ok-id.field-0 c.in_ok-id.was c.find_in_pair.ensures.reading))

pub returns-in-None-clause-answer : goal.returns-in-None-clause-answer
returns-in-None-clause-answer g c =
    let inv = c.loop-id.invariant in
    let ps = c.args.thread.now.kept.pairs in
    let a = subst (λ o. IsNamePositionInPair c.loop-id.thread.kept.disk.order c.id_to_skip-skip.result (thread_pair c.loop-id.thread.kept c.loop-id.pair).content.slots c.args.name.now o) c.in-Place.is c.in_ok-id.ensures.answer in
    let b = subst (λ k. IsNameAbsentExcept k (slice_index_or ps c.loop-id.pair empty_anchor).content.slots c.args.name.now) c.id_to_skip-skip.ensures
    (subst (λ qs. IsNameAbsentExcept c.id_to_skip-skip.result (slice_index_or qs c.loop-id.pair empty_anchor).content.slots c.args.name.now) inv.only.pairs a.absent) in
    let pairs = c.in_ok-id.ensures.reading.only.pairs ∙ inv.only.pairs in
    let soft = leads_nowhere (is_hard_tail (thread_pair c.find_in_pair.new.thread.kept c.loop-id.pair).content.tail) (c.loop-id.pair + 1) (sym c.next.ensures.next ∙ c.in-None.is) in
    absent_end ps c.args.moved c.loop-id.pair c.args.name.now empty_anchor (IsNameAbsentFrom c.args.moved c.args.first (drop c.args.first ps) c.args.name.now) inv.below inv.absent b
    (ap (λ (qs : List Pair). is_hard_tail (slice_index_or qs c.loop-id.pair empty_anchor).content.tail) (sym pairs) ∙ soft)

pub loop-id-preserved : goal.loop-id-preserved
loop-id-preserved g c =
    let inv = c.loop-id.invariant in
    let ps = c.args.thread.now.kept.pairs in
    let a = subst (λ o. IsNamePositionInPair c.loop-id.thread.kept.disk.order c.id_to_skip-skip.result (thread_pair c.loop-id.thread.kept c.loop-id.pair).content.slots c.args.name.now o) c.in-Place.is c.in_ok-id.ensures.answer in
    let b = subst (λ k. IsNameAbsentExcept k (slice_index_or ps c.loop-id.pair empty_anchor).content.slots c.args.name.now) c.id_to_skip-skip.ensures
    (subst (λ qs. IsNameAbsentExcept c.id_to_skip-skip.result (slice_index_or qs c.loop-id.pair empty_anchor).content.slots c.args.name.now) inv.only.pairs a.absent) in
    let pairs = c.in_ok-id.ensures.reading.only.pairs ∙ inv.only.pairs in
    let on = leads_on (is_hard_tail (thread_pair c.find_in_pair.new.thread.kept c.loop-id.pair).content.tail) (c.loop-id.pair + 1) c.in-Some.next (sym c.next.ensures.next ∙ c.in-Some.is) in
    let hard : is_hard_tail (slice_index_or ps c.loop-id.pair empty_anchor).content.tail ≡ true = ap (λ (qs : List Pair). is_hard_tail (slice_index_or qs c.loop-id.pair empty_anchor).content.tail) (sym pairs) ∙ on.0 in
    let next : c.in-Some.next ≡ c.loop-id.pair + 1 = on.1 in
    let behind : c.in-Some.next < length ps = subst (λ (qs : List Pair). c.in-Some.next < length qs) pairs c.in-Some.ensures.below in
    let run = run_on ps c.loop-id.pair empty_anchor inv.below hard ∙ ap (λ (n : ℕ). 1 + joined_pair_count (drop n ps)) (sym next) in
    let few = inv.few in
    let once = c.in_ok-id.ensures.few in
    let from = inv.from in
    record {
      only = only_read _ _ _ inv.only c.in_ok-id.ensures.reading.only;
      no_fault = c.in_ok-id.ensures.reading.reported.no_fault (λ e. absurd (let k : _ = e in cc)) ∙ inv.no_fault;
      works = c.in_ok-id.ensures.reading.works;
      few = omega (arith, few, once, run);
      along = loads_on _ _ _ (slice_index_or ps c.loop-id.pair empty_anchor) c.args.thread.now c.loop-id.thread c.find_in_pair.new.thread c.find_in_pair.result inv.along
          (run_hard_on ps c.loop-id.pair c.in-Some.next empty_anchor inv.below hard next)
          (subst (λ (qs : List Pair). KeepsCachedPairs (slice_index_or qs c.loop-id.pair empty_anchor ∷ []) c.loop-id.thread c.find_in_pair.new.thread c.find_in_pair.result) inv.only.pairs c.find_in_pair.ensures.loads)
          c.in_ok-id.field-0 c.in_ok-id.was c.find_in_pair.ensures.reading.only.disk (run_some_on ps c.in-Some.next empty_anchor behind);
      from = omega (arith, from, next);
      below = behind;
      reached = subst (λ (n : ℕ). LeadsFromFresh ps c.args.first n (slice_index_or ps n empty_anchor)) (sym next)
          (reached_next ps c.args.first c.loop-id.pair (slice_index_or ps c.loop-id.pair empty_anchor) empty_anchor inv.reached hard (omega (arith, behind, next)));
      absent = λ rest. absent_on ps c.args.moved c.loop-id.pair c.args.name.now empty_anchor (IsNameAbsentFrom c.args.moved c.args.first (drop c.args.first ps) c.args.name.now) inv.below inv.absent b
          (subst (λ (n : ℕ). IsNameAbsentFrom c.args.moved n (drop n ps) c.args.name.now) next rest);
    }
