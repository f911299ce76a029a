use Rattle.std.proofs.Common.{ℕ, ◌≡◌, ◌+◌, ◌%◌, ◌^◌, take, ap, ◌∙◌, arith}
use Rattle.std.specs.Prelude.{sum_by}
use Rattle.lfs_mount.proofs.Common.{take_all, PairHeader, image_seed}
use Rattle.std.proofs.lemmas.List.Sums.{sum_by_more}
use Rattle.lfs_model.specs.layers.BlockSets.{used_count}
use Rattle.lfs_mount.proofs.accepted_images.image_seed.Goals as goal

one_more : (number sum revision : ℕ) → number ≡ sum % 2 ^ 32 → (number + revision) % 2 ^ 32 ≡ (sum + revision) % 2 ^ 32
one_more number sum revision is = omega arith

pub loop-pair-init : goal.loop-pair-init
loop-pair-init c = omega (arith, c.used_count-number.ensures, c.used_count-number.type_inv)

pub loop-pair-preserved : goal.loop-pair-preserved
loop-pair-preserved c =
    let i : ℕ = c.loop-pair.pair-index in
    let before : ℕ = sum_by (λ (h : PairHeader). h.revision) (take i c.args.pairs.now) in
    let more = sum_by_more (λ (h : PairHeader). h.revision) c.args.pairs.now i c.pair-item.result c.loop-pair-test.true in
    let here = ap (λ (h : PairHeader). h.revision) c.pair-item.is in
    one_more c.loop-pair.number (used_count c.args.map.now + before) c.pair-item.result.revision c.loop-pair.invariant
    ∙ ap (λ n. n % 2 ^ 32) (let sum : used_count c.args.map.now + before + c.pair-item.result.revision ≡ used_count c.args.map.now + sum_by (λ (h : PairHeader). h.revision) (take (i + 1) c.args.pairs.now) = omega (arith, more, here) in sum)

pub returns : goal.returns
returns c = c.loop-pair.invariant ∙ ap (image_seed c.args.map.now) (take_all c.loop-pair.pair-index c.args.pairs.now c.loop-pair-test.false)
