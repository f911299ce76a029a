use Rattle.std.proofs.Common.{subst₂, ℕ, ◌≡◌, ◌⊎◌, inl, inr, ◌<◌, ◌≤◌, ◌+◌, ◌-◌, ◌/◌, ◌∙◌, ◌∷◌, [], List, slice_index_or, sym, ap, subst, length, drop, arith, refl, None}
use Rattle.lfs_lookup.proofs.Common.{err_from_is_err_and, Disk, read_count, NameBelongsAtId, HasName, joined_pair_count, Pair, thread_pair, empty_anchor, KeepsCachedPairs, IsStructEntry, halving_count, joined_pairs, IsNamePositionInPair}
use Rattle.lfs_lookup.proofs.Halved.{IsLow, at_run, begun, belongs_between, belongs_inside, ends, exceeds, low_past, passed, passes, run_count, stands_at, starts}
use Rattle.lfs_lookup.proofs.HalvedReads.{HasHalved, HasLoaded, halved_all, halved_none, halved_on, halved_to_here, has_slot, loaded_nothing, loaded_on, loaded_past, loads_all, loads_here, lower_half, middle_below, upper_half}
use Rattle.lfs_lookup.proofs.Reading.{answered, answers, both, further, has_read_nothing, passed as passed_on}
use Rattle.lfs_lookup.proofs.RecentBlocks.{on_ok, passes_none}
use Rattle.lfs_lookup.proofs.Walked.{run_some}
use Rattle.lfs_lookup.proofs.search.binary_search_name.Goals as goal
use Rattle.lfs_lookup.proofs.search.binary_search_name.Goals.{else-count-eq0-via-then-count-eq0+else-pair-first, else-count-eq0-via-else-count-eq0, else-id-eq0-via-then-id-eq0+else-count-gt0, else-id-eq0-via-else-id-eq0}

pub loop-low-init : goal.loop-low-init
loop-low-init g c =
    let ps = c.args.thread.now.kept.pairs in
    let e = c.directory_end-high.ensures.count in
    let one = run_some ps c.args.first c.requires.can.below in
    let size : joined_pair_count (drop c.args.first ps) ≡ c.directory_end-high.result - c.args.first = omega (arith, e) in
    record {
      read = has_read_nothing c.args.thread.now c.requires.can.works;
      from = omega arith;
      meets = omega (arith, e);
      end = omega (arith, e);
      within = c.directory_end-high.ensures.within;
      fits = omega (arith, c.directory_end-high.type_inv);
      few = omega (arith, e);
      halves = λ slots. subst (λ (n : ℕ). HasHalved (halving_count (joined_pair_count (drop c.args.first ps))) (read_count c.args.thread.now.kept.history) (read_count c.args.thread.now.kept.history) n) size
          (halved_none (read_count c.args.thread.now.kept.history) (joined_pair_count (drop c.args.first ps)));
      loaded = loaded_nothing (joined_pairs (drop c.args.first ps)) c.args.first c.directory_end-high.result c.args.thread.now (omega (arith, e, one));
      lesser = begun refl refl refl;
      greater = ends (e ∙ ap (λ (n : ℕ). c.args.first + n) (sym (run_count (drop c.args.first ps))));
    }

pub middle_search_pair-pair-requires-clause-works : goal.middle_search_pair-pair-requires-clause-works
middle_search_pair-pair-requires-clause-works g c = c.loop-low.invariant.read.works

pub middle_search_pair-pair-requires-clause-below : goal.middle_search_pair-pair-requires-clause-below
middle_search_pair-pair-requires-clause-below g c =
    let inv = c.loop-low.invariant in
    let within = inv.within in
    let e = ap (λ (qs : List Pair). length qs) inv.read.only.pairs in
    omega (arith, within, e)

pub slot_count-count-requires-clause-works : goal.slot_count-count-requires-clause-works
slot_count-count-requires-clause-works g c = c.loop-low.invariant.read.works

pub slot_count-count-requires-clause-below : goal.slot_count-count-requires-clause-below
slot_count-count-requires-clause-below g c =
    let inv = c.loop-low.invariant in
    let within = inv.within in
    let e = ap (λ (qs : List Pair). length qs) inv.read.only.pairs in
    let w = c.middle_search_pair-pair.ensures.within in
    let l = w.1 in
    omega (arith, within, e, l)

pub overflow_add-low : goal.overflow_add-low
overflow_add-low g c =
    let fits = c.loop-low.invariant.fits in
    let w = c.middle_search_pair-pair.ensures.within in
    let l = w.1 in
    omega (arith, fits, l)

pub overflow_add-low-in-loop-low : goal.overflow_add-low-in-loop-low
overflow_add-low-in-loop-low g c =
    let fits = c.loop-low.invariant.fits in
    let w = c.middle_search_pair-pair.ensures.within in
    let l = w.1 in
    omega (arith, fits, l)

pub find_in_pair-requires : goal.find_in_pair-requires
find_in_pair-requires g c =
    let inv = c.loop-low.invariant in
    let within = inv.within in
    let e = ap (λ (qs : List Pair). length qs) inv.read.only.pairs in
    let w = c.middle_search_pair-pair.ensures.within in
    let l = w.1 in
    record { works = inv.read.works; below = omega (arith, within, e, l) }

pub loop-low-preserved-then-pair-first : goal.loop-low-preserved-then-pair-first
loop-low-preserved-then-pair-first g c =
    let inv = c.loop-low.invariant in
    let ps = c.args.thread.now.kept.pairs in
    let w = c.middle_search_pair-pair.ensures.within in
    let some = c.loop-low-test.true in
    let a = at_run ps c.args.first c.middle_search_pair-pair.result empty_anchor (let f = inv.from in let l = w.0 in omega (arith, f, l)) (let e = inv.end in let l = w.1 in omega (arith, e, l)) in
    let none = c.if-count-eq0.true in
    let is : c.middle_search_pair-pair.result ≡ c.loop-low.low = c.middle_search_pair-pair.ensures.low (sym c.slot_count-count.ensures ∙ none) in
    let later = c.if-pair-first.true in
    let count = c.slot_count-count.ensures ∙ ap (λ (qs : List Pair). length (slice_index_or qs c.middle_search_pair-pair.result empty_anchor).content.slots) inv.read.only.pairs in
    let from = inv.from in
    let few = inv.few in
    let below = w.1 in
    record {
      read = inv.read;
      from = omega (arith, later);
      meets = omega (arith, below);
      end = inv.end;
      within = inv.within;
      fits = inv.fits;
      few = omega (arith, few, is);
      halves = λ slots. absurd (let k = has_slot _ _ _ _ a slots in omega (arith, k, count, none));
      loaded = subst (λ (n : ℕ). HasLoaded (joined_pairs (drop c.args.first ps)) c.args.first (n + 1) c.loop-low.high c.args.thread.now c.loop-low.thread) (sym is)
          (loaded_past (joined_pairs (drop c.args.first ps)) c.args.first c.loop-low.low c.loop-low.high c.args.thread.now c.loop-low.thread inv.loaded some (omega (arith, later, is)));
      lesser = low_past c.args.thread.now.kept.disk.order ps c.args.first c.args.name.now c.middle_search_pair-pair.result (slice_index_or ps c.middle_search_pair-pair.result empty_anchor) a c.loop-low.spot.pair c.loop-low.spot.id
          (subst (λ (n : ℕ). IsLow c.args.thread.now.kept.disk.order (joined_pairs (drop c.args.first ps)) c.args.first c.args.name.now c.loop-low.spot.pair c.loop-low.spot.id n) (sym is) inv.lesser) later (omega (arith, count, none));
      greater = inv.greater;
    }

pub returns-in_err-id-clause-reads : goal.returns-in_err-id-clause-reads
returns-in_err-id-clause-reads g c = record {
  few = (
      let few = c.loop-low.invariant.few in
      let once = c.find_in_pair.ensures.few in
      let some = c.loop-low-test.true in
      omega (arith, few, once, some)
      );
  halves = λ none slots. (
      let some = c.loop-low-test.true in
      halved_to_here _ _ _ _ _ (c.loop-low.invariant.halves slots) (omega (arith, some)) c.find_in_pair.ensures.few
      );
  loads = (
      let inv = c.loop-low.invariant in
      let ps = c.args.thread.now.kept.pairs in
      let w = c.middle_search_pair-pair.ensures.within in
      let some = c.loop-low-test.true in
      let a = at_run ps c.args.first c.middle_search_pair-pair.result empty_anchor (let f = inv.from in let l = w.0 in omega (arith, f, l)) (let e = inv.end in let l = w.1 in omega (arith, e, l)) in
      let b = subst (λ (qs : List Pair). KeepsCachedPairs (slice_index_or qs c.middle_search_pair-pair.result empty_anchor ∷ []) c.loop-low.thread c.find_in_pair.new.thread c.find_in_pair.result) inv.read.only.pairs c.find_in_pair.ensures.loads in
      let p = err_from_is_err_and c.from_residual.result c.from_residual.ensures.1 in
      loads_here (joined_pairs (drop c.args.first ps)) c.args.first c.loop-low.low c.loop-low.high c.middle_search_pair-pair.result (slice_index_or ps c.middle_search_pair-pair.result empty_anchor) c.args.thread.now c.loop-low.thread c.find_in_pair.new.thread c.find_in_pair.result a inv.loaded some b c.from_residual.result (passes_none c.find_in_pair.result c.from_residual.result p.0 p.1)
      );
}

pub returns-in_err-id-clause-reading : goal.returns-in_err-id-clause-reading
returns-in_err-id-clause-reading g c =
    let p = err_from_is_err_and c.from_residual.result c.from_residual.ensures.1 in
    passed_on _ _ c.find_in_pair.result c.from_residual.result _ p.0 c.in_err-id.was p.1 p.2 (further _ _ _ c.find_in_pair.result c.loop-low.invariant.read c.find_in_pair.ensures.reading)

pub returns-in-Found-clause-answer : goal.returns-in-Found-clause-answer
returns-in-Found-clause-answer g c =
    let inv = c.loop-low.invariant in
    let ps = c.args.thread.now.kept.pairs in
    let w = c.middle_search_pair-pair.ensures.within in
    let some = c.loop-low-test.true in
    let a = at_run ps c.args.first c.middle_search_pair-pair.result empty_anchor (let f = inv.from in let l = w.0 in omega (arith, f, l)) (let e = inv.end in let l = w.1 in omega (arith, e, l)) in
    let answer = subst (λ o. IsNamePositionInPair c.loop-low.thread.kept.disk.order None (thread_pair c.loop-low.thread.kept c.middle_search_pair-pair.result).content.slots c.args.name.now o) c.in-Found.is c.in_ok-id.ensures.answer in
    let (s, shows) = subst (λ (qs : List Pair). (s : HasName (slice_index_or qs c.middle_search_pair-pair.result empty_anchor).content.slots c.args.name.now c.in-Found.id) × IsStructEntry c.in-Found.entry s.slot.struct) inv.read.only.pairs (answer.stands, answer.shows) in
    stands_at c.args.thread.now.kept.disk.order ps c.args.first c.args.name.now c.middle_search_pair-pair.result (slice_index_or ps c.middle_search_pair-pair.result empty_anchor) a c.requires.can.below c.in-Found.id c.in-Found.entry s shows

pub returns-in-Found-clause-reads : goal.returns-in-Found-clause-reads
returns-in-Found-clause-reads g c = record {
  few = (
      let few = c.loop-low.invariant.few in
      let once = c.find_in_pair.ensures.few in
      let some = c.loop-low-test.true in
      omega (arith, few, once, some)
      );
  halves = λ none slots. (
      let some = c.loop-low-test.true in
      halved_to_here _ _ _ _ _ (c.loop-low.invariant.halves slots) (omega (arith, some)) c.find_in_pair.ensures.few
      );
  loads = (
      let inv = c.loop-low.invariant in
      let ps = c.args.thread.now.kept.pairs in
      let w = c.middle_search_pair-pair.ensures.within in
      let some = c.loop-low-test.true in
      let a = at_run ps c.args.first c.middle_search_pair-pair.result empty_anchor (let f = inv.from in let l = w.0 in omega (arith, f, l)) (let e = inv.end in let l = w.1 in omega (arith, e, l)) in
      let b = subst (λ (qs : List Pair). KeepsCachedPairs (slice_index_or qs c.middle_search_pair-pair.result empty_anchor ∷ []) c.loop-low.thread c.find_in_pair.new.thread c.find_in_pair.result) inv.read.only.pairs c.find_in_pair.ensures.loads in
      loads_here (joined_pairs (drop c.args.first ps)) c.args.first c.loop-low.low c.loop-low.high c.middle_search_pair-pair.result (slice_index_or ps c.middle_search_pair-pair.result empty_anchor) c.args.thread.now c.loop-low.thread c.find_in_pair.new.thread c.find_in_pair.result a inv.loaded some b _ (λ P h. on_ok c.find_in_pair.result c.in_ok-id.field-0 P c.in_ok-id.was h)
      );
}

pub returns-in-Found-clause-reading : goal.returns-in-Found-clause-reading
returns-in-Found-clause-reading g c =
    let inv = c.loop-low.invariant in
    answers _ _ _ _ refl (both _ _ _ inv.read (answered _ _ c.find_in_pair.result c.in_ok-id.field-0 c.in_ok-id.was c.find_in_pair.ensures.reading))

pub returns-then-from-count-clause-answer : goal.returns-then-from-count-clause-answer
returns-then-from-count-clause-answer g c =
    let inv = c.loop-low.invariant in
    let ps = c.args.thread.now.kept.pairs in
    let w = c.middle_search_pair-pair.ensures.within in
    let some = c.loop-low-test.true in
    let a = at_run ps c.args.first c.middle_search_pair-pair.result empty_anchor (let f = inv.from in let l = w.0 in omega (arith, f, l)) (let e = inv.end in let l = w.1 in omega (arith, e, l)) in
    let answer = subst (λ o. IsNamePositionInPair c.loop-low.thread.kept.disk.order None (thread_pair c.loop-low.thread.kept c.middle_search_pair-pair.result).content.slots c.args.name.now o) c.in-Place.is c.in_ok-id.ensures.answer in
    let place = subst₂ (λ (d : Disk) (qs : List Pair). NameBelongsAtId d.order (slice_index_or qs c.middle_search_pair-pair.result empty_anchor).content.slots c.args.name.now c.in-Place.id) inv.read.only.disk inv.read.only.pairs (answer.place refl) in
    let count = c.slot_count-count.ensures ∙ ap (λ (qs : List Pair). length (slice_index_or qs c.middle_search_pair-pair.result empty_anchor).content.slots) inv.read.only.pairs in
    let less = c.if-from-count.true in
    let from = c.from.ensures in
    let inside : c.in-Place.id < length (slice_index_or ps c.middle_search_pair-pair.result empty_anchor).content.slots = omega (arith, less, from, count) in
    let other : 0 < c.in-Place.id = elim c.else-id-eq0.branch [
      | else-id-eq0-via-then-id-eq0+else-count-gt0 v ↦ absurd (let k = v.if-count-gt0.false in omega (arith, k, inside, count))
      | else-id-eq0-via-else-id-eq0 v ↦ (let k = v.if-id-eq0.false in omega (arith, k))
    ] in
    belongs_inside c.args.thread.now.kept.disk.order ps c.args.first c.args.name.now c.middle_search_pair-pair.result (slice_index_or ps c.middle_search_pair-pair.result empty_anchor) a c.requires.can.below c.requires.entries c.in-Place.id place (inr other) inside

pub returns-then-from-count-clause-reads : goal.returns-then-from-count-clause-reads
returns-then-from-count-clause-reads g c = record {
  few = (
      let few = c.loop-low.invariant.few in
      let once = c.find_in_pair.ensures.few in
      let some = c.loop-low-test.true in
      omega (arith, few, once, some)
      );
  halves = λ none slots. (
      let some = c.loop-low-test.true in
      halved_to_here _ _ _ _ _ (c.loop-low.invariant.halves slots) (omega (arith, some)) c.find_in_pair.ensures.few
      );
  loads = (
      let inv = c.loop-low.invariant in
      let ps = c.args.thread.now.kept.pairs in
      let w = c.middle_search_pair-pair.ensures.within in
      let some = c.loop-low-test.true in
      let a = at_run ps c.args.first c.middle_search_pair-pair.result empty_anchor (let f = inv.from in let l = w.0 in omega (arith, f, l)) (let e = inv.end in let l = w.1 in omega (arith, e, l)) in
      let b = subst (λ (qs : List Pair). KeepsCachedPairs (slice_index_or qs c.middle_search_pair-pair.result empty_anchor ∷ []) c.loop-low.thread c.find_in_pair.new.thread c.find_in_pair.result) inv.read.only.pairs c.find_in_pair.ensures.loads in
      loads_here (joined_pairs (drop c.args.first ps)) c.args.first c.loop-low.low c.loop-low.high c.middle_search_pair-pair.result (slice_index_or ps c.middle_search_pair-pair.result empty_anchor) c.args.thread.now c.loop-low.thread c.find_in_pair.new.thread c.find_in_pair.result a inv.loaded some b _ (λ P h. on_ok c.find_in_pair.result c.in_ok-id.field-0 P c.in_ok-id.was h)
      );
}

pub returns-then-from-count-clause-reading : goal.returns-then-from-count-clause-reading
returns-then-from-count-clause-reading g c =
    let inv = c.loop-low.invariant in
    answers _ _ _ _ refl (both _ _ _ inv.read (answered _ _ c.find_in_pair.result c.in_ok-id.field-0 c.in_ok-id.was c.find_in_pair.ensures.reading))

pub loop-low-preserved-then-count-gt0 : goal.loop-low-preserved-then-count-gt0
loop-low-preserved-then-count-gt0 g c =
    let inv = c.loop-low.invariant in
    let ps = c.args.thread.now.kept.pairs in
    let w = c.middle_search_pair-pair.ensures.within in
    let some = c.loop-low-test.true in
    let a = at_run ps c.args.first c.middle_search_pair-pair.result empty_anchor (let f = inv.from in let l = w.0 in omega (arith, f, l)) (let e = inv.end in let l = w.1 in omega (arith, e, l)) in
    let b = subst (λ (qs : List Pair). KeepsCachedPairs (slice_index_or qs c.middle_search_pair-pair.result empty_anchor ∷ []) c.loop-low.thread c.find_in_pair.new.thread c.find_in_pair.result) inv.read.only.pairs c.find_in_pair.ensures.loads in
    let answer = subst (λ o. IsNamePositionInPair c.loop-low.thread.kept.disk.order None (thread_pair c.loop-low.thread.kept c.middle_search_pair-pair.result).content.slots c.args.name.now o) c.in-Place.is c.in_ok-id.ensures.answer in
    let place = subst₂ (λ (d : Disk) (qs : List Pair). NameBelongsAtId d.order (slice_index_or qs c.middle_search_pair-pair.result empty_anchor).content.slots c.args.name.now c.in-Place.id) inv.read.only.disk inv.read.only.pairs (answer.place refl) in
    let count = c.slot_count-count.ensures ∙ ap (λ (qs : List Pair). length (slice_index_or qs c.middle_search_pair-pair.result empty_anchor).content.slots) inv.read.only.pairs in
    let few = inv.few in
    let once = c.find_in_pair.ensures.few in
    let from = inv.from in
    let end = inv.end in
    let within = inv.within in
    let fits = inv.fits in
    let least = w.0 in
    let most = w.1 in
    let run = run_count (drop c.args.first ps) in
    let none = c.if-id-eq0.true in
    let has = c.if-count-gt0.true in
    record {
      read = both _ _ _ inv.read (answered _ _ c.find_in_pair.result c.in_ok-id.field-0 c.in_ok-id.was c.find_in_pair.ensures.reading);
      from = from;
      meets = least;
      end = omega (arith, end, most);
      within = omega (arith, within, most);
      fits = omega (arith, fits, most);
      few = omega (arith, few, once, least, most);
      halves = λ slots. halved_on _ _ _ _ (c.loop-low.high - c.loop-low.low) _ (inv.halves slots) (omega (arith, some))
          (lower_half c.loop-low.low c.loop-low.high c.middle_search_pair-pair.result some
          (c.middle_search_pair-pair.ensures.middle
          (subst (λ (qs : List Pair). 0 < length (slice_index_or qs (c.loop-low.low + (c.loop-low.high - c.loop-low.low) / 2) empty_anchor).content.slots) (sym inv.read.only.pairs)
          (has_slot _ _ _ _ (at_run ps c.args.first (c.loop-low.low + (c.loop-low.high - c.loop-low.low) / 2) empty_anchor (omega (arith, from)) (let m = middle_below c.loop-low.low c.loop-low.high some in omega (arith, m, end))) slots))))
          once;
      loaded = loaded_on (joined_pairs (drop c.args.first ps)) c.args.first c.loop-low.low c.loop-low.high c.middle_search_pair-pair.result (slice_index_or ps c.middle_search_pair-pair.result empty_anchor) c.args.thread.now c.loop-low.thread c.find_in_pair.new.thread c.find_in_pair.result a inv.loaded some b c.in_ok-id.field-0 c.in_ok-id.was c.find_in_pair.ensures.reading.only.disk c.loop-low.low c.middle_search_pair-pair.result (λ e. omega (arith, e, run, end, most, from));
      lesser = inv.lesser;
      greater = starts (exceeds c.args.thread.now.kept.disk.order ps c.args.first c.args.name.now c.middle_search_pair-pair.result (slice_index_or ps c.middle_search_pair-pair.result empty_anchor) a c.in-Place.id place (omega (arith, none)) (omega (arith, has, count)));
    }

pub loop-low-preserved : goal.loop-low-preserved
loop-low-preserved g c =
    let inv = c.loop-low.invariant in
    let ps = c.args.thread.now.kept.pairs in
    let w = c.middle_search_pair-pair.ensures.within in
    let some = c.loop-low-test.true in
    let a = at_run ps c.args.first c.middle_search_pair-pair.result empty_anchor (let f = inv.from in let l = w.0 in omega (arith, f, l)) (let e = inv.end in let l = w.1 in omega (arith, e, l)) in
    let b = subst (λ (qs : List Pair). KeepsCachedPairs (slice_index_or qs c.middle_search_pair-pair.result empty_anchor ∷ []) c.loop-low.thread c.find_in_pair.new.thread c.find_in_pair.result) inv.read.only.pairs c.find_in_pair.ensures.loads in
    let answer = subst (λ o. IsNamePositionInPair c.loop-low.thread.kept.disk.order None (thread_pair c.loop-low.thread.kept c.middle_search_pair-pair.result).content.slots c.args.name.now o) c.in-Place.is c.in_ok-id.ensures.answer in
    let place = subst₂ (λ (d : Disk) (qs : List Pair). NameBelongsAtId d.order (slice_index_or qs c.middle_search_pair-pair.result empty_anchor).content.slots c.args.name.now c.in-Place.id) inv.read.only.disk inv.read.only.pairs (answer.place refl) in
    let count = c.slot_count-count.ensures ∙ ap (λ (qs : List Pair). length (slice_index_or qs c.middle_search_pair-pair.result empty_anchor).content.slots) inv.read.only.pairs in
    let few = inv.few in
    let once = c.find_in_pair.ensures.few in
    let from = inv.from in
    let end = inv.end in
    let within = inv.within in
    let fits = inv.fits in
    let least = w.0 in
    let most = w.1 in
    let run = run_count (drop c.args.first ps) in
    let all : length (slice_index_or ps c.middle_search_pair-pair.result empty_anchor).content.slots ≤ c.in-Place.id = (let t = c.if-from-count.false in let f = c.from.ensures in omega (arith, t, f, count)) in
    let why : (c.middle_search_pair-pair.result ≡ c.args.first) ⊎ (0 < c.in-Place.id) = elim c.else-count-eq0.branch [
      | else-count-eq0-via-then-count-eq0+else-pair-first v ↦ inl (let k = v.if-pair-first.false in omega (arith, k, from, least))
      | else-count-eq0-via-else-count-eq0 v ↦ inr (elim c.else-id-eq0.branch [
        | else-id-eq0-via-then-id-eq0+else-count-gt0 u ↦ absurd (let k = v.if-count-eq0.false in let m = u.if-count-gt0.false in omega (arith, k, m))
        | else-id-eq0-via-else-id-eq0 u ↦ (let k = u.if-id-eq0.false in omega (arith, k))
      ])
    ] in
    record {
      read = both _ _ _ inv.read (answered _ _ c.find_in_pair.result c.in_ok-id.field-0 c.in_ok-id.was c.find_in_pair.ensures.reading);
      from = omega (arith, from, least);
      meets = omega (arith, most);
      end = end;
      within = within;
      fits = fits;
      few = omega (arith, few, once, least, most);
      halves = λ slots. halved_on _ _ _ _ (c.loop-low.high - c.loop-low.low) _ (inv.halves slots) (omega (arith, some))
          (upper_half c.loop-low.low c.loop-low.high c.middle_search_pair-pair.result some
          (c.middle_search_pair-pair.ensures.middle
          (subst (λ (qs : List Pair). 0 < length (slice_index_or qs (c.loop-low.low + (c.loop-low.high - c.loop-low.low) / 2) empty_anchor).content.slots) (sym inv.read.only.pairs)
          (has_slot _ _ _ _ (at_run ps c.args.first (c.loop-low.low + (c.loop-low.high - c.loop-low.low) / 2) empty_anchor (omega (arith, from)) (let m = middle_below c.loop-low.low c.loop-low.high some in omega (arith, m, end))) slots))))
          once;
      loaded = loaded_on (joined_pairs (drop c.args.first ps)) c.args.first c.loop-low.low c.loop-low.high c.middle_search_pair-pair.result (slice_index_or ps c.middle_search_pair-pair.result empty_anchor) c.args.thread.now c.loop-low.thread c.find_in_pair.new.thread c.find_in_pair.result a inv.loaded some b c.in_ok-id.field-0 c.in_ok-id.was c.find_in_pair.ensures.reading.only.disk (c.middle_search_pair-pair.result + 1) c.loop-low.high (λ e. omega (arith, e, run, end, least, from));
      lesser = passed (passes c.args.thread.now.kept.disk.order ps c.args.first c.args.name.now c.middle_search_pair-pair.result (slice_index_or ps c.middle_search_pair-pair.result empty_anchor) a c.requires.entries c.in-Place.id place why all);
      greater = inv.greater;
    }

pub returns-clause-answer : goal.returns-clause-answer
returns-clause-answer g c =
    let inv = c.loop-low.invariant in
    let past = c.loop-low-test.false in
    let meets = inv.meets in
    belongs_between c.args.thread.now.kept.disk.order c.args.thread.now.kept.pairs c.args.first c.args.name.now c.requires.can.below c.directory_end-high.ensures.soft c.loop-low.spot.pair c.loop-low.spot.id c.loop-low.low c.loop-low.high inv.lesser inv.greater
    (omega (arith, past, meets))

pub returns-clause-reads : goal.returns-clause-reads
returns-clause-reads g c = record {
  few = (
      let few = c.loop-low.invariant.few in
      omega (arith, few)
      );
  halves = λ none slots. halved_all _ _ _ _ (c.loop-low.invariant.halves slots);
  loads = loads_all (joined_pairs (drop c.args.first c.args.thread.now.kept.pairs)) c.args.first c.loop-low.low c.loop-low.high c.args.thread.now c.loop-low.thread _ _ refl c.loop-low.invariant.loaded c.loop-low-test.false;
}

pub returns-clause-reading : goal.returns-clause-reading
returns-clause-reading g c = answers _ _ _ _ refl c.loop-low.invariant.read
