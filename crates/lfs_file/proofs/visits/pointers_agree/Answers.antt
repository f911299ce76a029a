use Rattle.std.proofs.Common.{ℕ, ◌≡◌, ◌≤◌, ◌<◌, ◌+◌, ◌*◌, ◌^◌, sym, ap, ◌∙◌, arith, below_more, ⊎_elim}
use Rattle.lfs_file.proofs.Common.{cases_lt, pow-suc, word_at}
use Rattle.std.proofs.Common.{add-one}
use lib.Pow.{pow_mono}
use Rattle.lfs_file.proofs.visits.pointers_agree.Goals as goal

pub returns-then-word_of_slice-block-clause-no : goal.returns-then-word_of_slice-block-clause-no
returns-then-word_of_slice-block-clause-no c e named =
    c.if-word_of_slice-block.true (c.word_of_slice.ensures ∙ named c.loop-k.k
    (let small : 2 ^ c.loop-k.k ≤ 2 ^ c.ilog2.result = pow_mono (omega (arith, c.min-most.ensures)) in omega (arith, small, c.ilog2.ensures.power_le))
    (omega (arith, c.min-most.ensures)))

pub loop-k-preserved : goal.loop-k-preserved
loop-k-preserved c =
    below_more (λ j. word_at c.args.words.now (4 * j) ≡ c.args.block) c.loop-k.k c.loop-k.invariant (sym c.word_of_slice.ensures ∙ c.if-word_of_slice-block.false)

-- a power of two that fits has no more
few_powers : (k most way : ℕ) → way < 2 * 2 ^ most → 2 ^ k ≤ way → k ≤ most
few_powers k most way less fits = ⊎_elim (λ more. let high : 2 ^ (most + 1) ≤ 2 ^ k = pow_mono (omega arith) in absurd (omega (arith, high, pow-suc 2 most, ap (λ e. 2 ^ e) (add-one most)))) (λ le. omega arith) (cases_lt most k)

pub returns-clause-yes : goal.returns-clause-yes
returns-clause-yes c e k fits low = c.loop-k.invariant k (let high = few_powers k c.ilog2.result _ c.ilog2.ensures.next_power_gt fits in omega (arith, c.min-most.ensures))
