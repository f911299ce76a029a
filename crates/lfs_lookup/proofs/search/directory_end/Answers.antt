use Rattle.std.proofs.Common.{ℕ, ◌≡◌, ◌+◌, ◌∙◌, sym, ap, drop, arith}
use Rattle.lfs_lookup.proofs.Common.{joined_pair_count, is_hard_tail, thread_pair, empty_anchor}
use Rattle.lfs_lookup.proofs.Halved.{soft_on}
use Rattle.lfs_lookup.proofs.Walked.{leads_on, run_on}
use Rattle.lfs_lookup.proofs.search.directory_end.Goals as goal

pub loop-next-preserved : goal.loop-next-preserved
loop-next-preserved g c =
    let inv = c.loop-next.invariant in
    let ps = c.args.thread.now.kept.pairs in
    let on = leads_on (is_hard_tail (thread_pair c.args.thread.now.kept c.loop-next.pair).content.tail) (c.loop-next.pair + 1) c.in-Some.next (sym c.next.ensures.next ∙ c.in-Some.is) in
    let next : c.in-Some.next ≡ c.loop-next.pair + 1 = on.1 in
    let run = run_on ps c.loop-next.pair empty_anchor inv.below on.0 ∙ ap (λ (n : ℕ). 1 + joined_pair_count (drop n ps)) (sym next) in
    let before = inv.run in
    record {
      below = c.in-Some.ensures.below;
      count = inv.count;
      run = omega (arith, before, run, next);
      soft = λ h. inv.soft (soft_on ps c.loop-next.pair c.in-Some.next empty_anchor c.in-Some.ensures.below on.0 next h);
    }
