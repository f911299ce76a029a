-- Sizes that break no rule.
use Rattle.std.proofs.Common.{◌≡◌, ◌≢◌, ◌≤◌, ◌<◌, ◌*◌, ◌/◌, ◌%◌, ℕ, zero, suc, arith, inl, inr, refl}
use Rattle.std.proofs.lemmas.Bool.{true_from_ne_false}
use Rattle.lfs_model.specs.format.Geometry.{is_valid_page_size}
use Rattle.lfs_tool.specs.Sizes.{AreValidImageSizes, BreaksNoneBefore, rule_index}
use Rattle.lfs_tool.specs.declared.sizes.Sizes.{Sizes}
use Rattle.lfs_tool.specs.declared.sizes.SizeRule.TheVariants as rule

zero_from_not_ne : (n : ℕ) → ¬ (n ≢ 0) → n ≡ 0
zero_from_not_ne zero isnt = refl
zero_from_not_ne (suc n) isnt = absurd (isnt (λ is. omega arith))

pub block_is_no_smaller : (s : Sizes) → BreaksNoneBefore s (rule_index rule.ImageSize) → 1024 ≤ s.block_size
block_is_no_smaller s unbroken =
    let small : s.block_size < 1024 → ⊥ = λ less. unbroken rule.BlockSize (omega arith) (inl less) in
    omega arith

-- there are images of sizes that break no rule
pub unbroken_sizes_fit : (s : Sizes) → BreaksNoneBefore s (rule_index rule.ImageSize) → s.size ≤ 268435456 → s.size % s.block_size ≡ 0
    → 2 ≤ s.size / s.block_size → s.size / s.block_size ≤ 65536 → AreValidImageSizes s
unbroken_sizes_fit s unbroken most whole few many =
    let large : 65536 < s.block_size → ⊥ = λ more. unbroken rule.BlockSize (omega arith) (inr more) in
    let eighth : s.block_size < 8 * s.page → ⊥ = unbroken rule.EightPages (omega arith) in
    let low : 1024 ≤ s.block_size = block_is_no_smaller s unbroken in (
      whole,
      record {
        power = true_from_ne_false (is_valid_page_size s.page) (unbroken rule.PageSize (omega arith));
        pages = omega arith;
        no_smaller = low;
        no_larger = omega arith;
        whole_pages = zero_from_not_ne (s.block_size % s.page) (unbroken rule.WholePages (omega arith));
        no_fewer = few;
        no_more = many;
        bytes = omega arith;
      },
    )
