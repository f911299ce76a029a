use Rattle.std.proofs.Common.{◌≡◌, ◌+◌, All, List, slice_index_or, Ok, length, refl, subst, sym, arith}
use Rattle.lfs_lookup.proofs.Common.{err_from_is_err_and, IsWritable, BreaksProfile, Pair, empty_anchor, HasSuperblockStruct}
use Rattle.lfs_lookup.proofs.Profiled.{EachFits, as_before, broken, pair_on, shaped_all, stated, weaker, writable_from}
use Rattle.lfs_lookup.proofs.Reading.{answered, answers, both, further, passed}
use Rattle.lfs_lookup.proofs.profile.find_profile_breach.Goals as goal

pub breach_of_pair-requires-clause-shaped : goal.breach_of_pair-requires-clause-shaped
breach_of_pair-requires-clause-shaped g c =
    let inv = c.loop-index.invariant in
    let n = inv.end in
    subst (λ (ps : List Pair). All HasSuperblockStruct (slice_index_or ps c.loop-index.index empty_anchor).content.slots) (sym inv.read.only.pairs)
    (shaped_all c.args.thread.now.kept.disk c.args.thread.now.kept.pairs c.loop-index.index c.requires.accepted (omega (arith, n, c.loop-index-test.true)))

pub returns-in_err-next-clause-reading : goal.returns-in_err-next-clause-reading
returns-in_err-next-clause-reading g c =
    let p = err_from_is_err_and c.from_residual.result c.from_residual.ensures.1 in
    passed _ _ c.breach_of_pair.result c.from_residual.result _ p.0 c.in_err-next.was p.1 p.2 (further _ _ _ c.breach_of_pair.result c.loop-index.invariant.read c.breach_of_pair.ensures.reading)

pub returns-in-Some-OtherLimits-clause-is : goal.returns-in-Some-OtherLimits-clause-is
returns-in-Some-OtherLimits-clause-is g c =
    let inv = c.loop-index.invariant in
    let n = inv.end in
    let disk = c.args.thread.now.kept.disk in
    let ps = c.args.thread.now.kept.pairs in
    let i = c.loop-index.index in
    let is = as_before disk c.args.root c.loop-index.thread.kept.pairs ps i c.geometry-geometry.result c.follows_hard_tail-follows.result c.geometry-geometry.ensures inv.read.only.pairs c.follows_hard_tail-follows.ensures c.in_ok-next.next c.in_ok-next.ensures.is in
    broken (EachFits disk c.args.root ps (i + 1)) disk ps c.breach_to_report-found.result _ c.in-Some-OtherLimits.is
    (pair_on disk c.args.root ps i c.loop-index.found c.in_ok-next.next c.breach_to_report-found.result c.requires.root (omega (arith, n, c.loop-index-test.true)) c.breach_to_report-found.ensures.none c.breach_to_report-found.ensures.either inv.breach is)

pub returns-in-Some-OtherLimits-clause-reading : goal.returns-in-Some-OtherLimits-clause-reading
returns-in-Some-OtherLimits-clause-reading g c =
    answers _ _ (Ok c.breach_to_report-found.result) c.breach_to_report-found.result refl (both _ _ _ c.loop-index.invariant.read (answered _ _ c.breach_of_pair.result c.in_ok-next.next c.in_ok-next.was c.breach_of_pair.ensures.reading))

pub loop-index-preserved : goal.loop-index-preserved
loop-index-preserved g c =
    let inv = c.loop-index.invariant in
    let n = inv.end in
    let disk = c.args.thread.now.kept.disk in
    let ps = c.args.thread.now.kept.pairs in
    let i = c.loop-index.index in
    let is = as_before disk c.args.root c.loop-index.thread.kept.pairs ps i c.geometry-geometry.result c.follows_hard_tail-follows.result c.geometry-geometry.ensures inv.read.only.pairs c.follows_hard_tail-follows.ensures c.in_ok-next.next c.in_ok-next.ensures.is in
    record {
      end = inv.end;
      within = omega (arith, c.loop-index-test.true);
      read = both _ _ _ inv.read (answered _ _ c.breach_of_pair.result c.in_ok-next.next c.in_ok-next.was c.breach_of_pair.ensures.reading);
      breach = pair_on disk c.args.root ps i c.loop-index.found c.in_ok-next.next c.breach_to_report-found.result c.requires.root (omega (arith, n, c.loop-index-test.true)) c.breach_to_report-found.ensures.none c.breach_to_report-found.ensures.either inv.breach is;
    }

pub returns-clause-is : goal.returns-clause-is
returns-clause-is g c =
    let inv = c.loop-index.invariant in
    let n = inv.end in
    let w = inv.within in
    let disk = c.args.thread.now.kept.disk in
    let ps = c.args.thread.now.kept.pairs in
    let last : c.loop-index.index ≡ length ps = omega (arith, n, w, c.loop-index-test.false) in
    stated disk ps c.loop-index.found
    (weaker (EachFits disk c.args.root ps c.loop-index.index) (IsWritable disk ps) (BreaksProfile disk ps) (BreaksProfile disk ps) c.loop-index.found inv.breach
    (λ each. writable_from disk ps (subst (λ root. EachFits disk root ps (length ps)) c.requires.root (subst (λ k. EachFits disk c.args.root ps k) last each))) (λ b h. h))
