-- A walk back through a list by the longest pointers that don't overshoot has few steps.
use Rattle.std.proofs.Common.{ℕ, zero, suc, ◌≡◌, ◌+◌, ◌*◌, ◌-◌, ◌<◌, ◌≤◌, ◌^◌, min, ⊎_elim, sym, ap, subst, ◌∙◌, arith}
use Rattle.lfs_file.proofs.Common.{mul_assoc, add-mul, pow-add, cases_lt, w32, trailing_zeros}
use lib.Pow.{pow_mono}
use Rattle.lfs_file.proofs.TrailingZeros.{zeros32-multiple, zeros32-more, zeros-le, power-le, twice, factor-pos}

pub power_below : (a b x : ℕ) → 2 ^ a ≤ x → x < 2 ^ b → a < b
power_below a b x le lt = ⊎_elim (λ less. less) (λ more. let k : 2 ^ b ≤ 2 ^ a = pow_mono more in absurd (omega arith)) (cases_lt a b)

-- The way left is below 2^r, and the place is a multiple of half that.
pub record IsNear (m at index done : ℕ) : Type 0 where
  pub r : ℕ
  pub near : at - index < 2 ^ r
  pub few : done + r ≤ 2 * m
  pub q : ℕ
  pub multiple : 2 * at ≡ q * 2 ^ r

-- after so many steps: at first each leaves more zeros after the place, and then each takes the highest one off the way left
pub data FewSteps (m at index done : ℕ) : Type 0 where
  rising : 0 < at → done ≤ trailing_zeros w32 at → FewSteps m at index done
  falling : IsNear m at index done → FewSteps m at index done

module _ (m at index done : ℕ) (low : at < 2 ^ 32) (below : at < 2 ^ m) where
  zeros_below : 0 < at → trailing_zeros w32 at < m
  zeros_below some =
      let odd = zeros32-multiple at some low in
      power_below (trailing_zeros w32 at) m at (power-le at (trailing_zeros w32 at) odd.half odd.is) below

  -- at the end
  pub few_steps : FewSteps m at index done → done ≤ 2 * m
  few_steps (rising some few) = let z = zeros_below some in omega arith
  few_steps (falling near) = let k = near.few in omega arith

  -- by all the zeros
  step_by_zeros : done ≤ trailing_zeros w32 at → index < at → FewSteps m (at - 2 ^ trailing_zeros w32 at) index (done + 1)
  step_by_zeros few more = ⊎_elim
      (λ last. rising (omega arith) (let k = zeros32-more at low last in omega arith))
      (λ none. falling (record { r = 0; near = omega arith; few = (let z = zeros_below (omega arith) in omega arith); q = 0; multiple = omega arith }))
      (cases_lt (2 ^ trailing_zeros w32 at) at)

  -- by the highest one of the way left
  step_by_way : (l : ℕ) → l ≤ trailing_zeros w32 at → done + 1 + l ≤ 2 * m → index < at → 2 ^ l ≤ at - index → at - index < 2 * 2 ^ l → FewSteps m (at - 2 ^ l) index (done + 1)
  step_by_way l le few more fits short =
      let odd = zeros32-multiple at (omega arith) low in
      let z : ℕ = trailing_zeros w32 at in
      let split : 2 ^ z ≡ 2 ^ (z - l) * 2 ^ l = ap (λ e. 2 ^ e) (let s : z ≡ (z - l) + l = omega arith in s) ∙ pow-add 2 (z - l) l in
      let whole : at ≡ ((2 * odd.half + 1) * 2 ^ (z - l)) * 2 ^ l = odd.is ∙ ap (λ p. (2 * odd.half + 1) * p) split ∙ sym (mul_assoc (2 * odd.half + 1) (2 ^ (z - l)) (2 ^ l)) in
      let c : ℕ = (2 * odd.half + 1) * 2 ^ (z - l) in
      falling (record {
        r = l;
        near = omega arith;
        few = few;
        q = 2 * c - 2;
        multiple = (let all : 2 * at ≡ 2 * c * 2 ^ l = ap (λ x. 2 * x) whole ∙ sym (mul_assoc 2 c (2 ^ l)) in
            let some : 1 ≤ c = factor-pos c (2 ^ l) at whole (omega arith) in
            let less : 2 * c * 2 ^ l ≡ (2 * c - 2) * 2 ^ l + 2 * 2 ^ l = ap (λ x. x * 2 ^ l) (let s : 2 * c ≡ (2 * c - 2) + 2 = omega arith in s) ∙ add-mul (2 * c - 2) 2 (2 ^ l) in
            omega arith);
      })

  pub step_back : (l : ℕ) → FewSteps m at index done → index < at → 2 ^ l ≤ at - index → at - index < 2 * 2 ^ l → FewSteps m (at - 2 ^ min (trailing_zeros w32 at) l) index (done + 1)
  step_back l steps more fits short = ⊎_elim
      (λ fewer. let least : min z l ≡ z = omega arith in subst (λ k. FewSteps m (at - 2 ^ k) index (done + 1)) (sym least) (by_zeros fewer steps))
      (λ enough. let least : min z l ≡ l = omega arith in subst (λ k. FewSteps m (at - 2 ^ k) index (done + 1)) (sym least) (step_by_way l enough (count enough steps) more fits short))
      (cases_lt z l)
    where
      z : ℕ
      z = trailing_zeros w32 at

      by_zeros : trailing_zeros w32 at < l → FewSteps m at index done → FewSteps m (at - 2 ^ trailing_zeros w32 at) index (done + 1)
      by_zeros fewer (rising some few) = step_by_zeros few more
      by_zeros fewer (falling near) = absurd (go near.r near.q near.multiple (power_below l near.r (at - index) fits near.near))
        where
          go : (r q : ℕ) → 2 * at ≡ q * 2 ^ r → l < r → ⊥
          go zero q e lt = omega arith
          go (suc r) q e lt =
              let half : at ≡ q * 2 ^ r = (let k = twice q r in omega arith) in
              let enough = zeros-le 32 at q r (omega arith) low half in
              omega arith

      count : l ≤ trailing_zeros w32 at → FewSteps m at index done → done + 1 + l ≤ 2 * m
      count enough (rising some few) = let k = zeros_below some in omega arith
      count enough (falling near) = let k = power_below l near.r (at - index) fits near.near in let f = near.few in omega arith

-- at the start
pub no_steps : (m last index : ℕ) → FewSteps m last index 0
no_steps m zero index = falling (record { r = 0; near = omega arith; few = omega arith; q = 0; multiple = omega arith })
no_steps m (suc last) index = rising (omega arith) (omega arith)
