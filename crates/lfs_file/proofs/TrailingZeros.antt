-- The trailing zeros of a number, by the powers of two that divide it.
use Rattle.std.proofs.Common.{ℕ, zero, suc, ◌≡◌, ◌+◌, ◌*◌, ◌-◌, ◌/◌, ◌%◌, ◌<◌, ◌≤◌, ◌^◌, ⊎_elim, refl, sym, ap, ap₂, subst, ◌∙◌, arith}
use Rattle.lfs_file.proofs.Common.{cases_lt, mul_assoc, add-mul, pow-suc, one-le-pow, mul-le, pow-add, w32, trailing_zeros}
use lib.Count.{count_trailing_zeros, under}

pub zeros_even : (k n p : ℕ) → n % 2 ≡ 0 → n / 2 ≡ p → count_trailing_zeros (suc k) n ≡ suc (count_trailing_zeros k p)
unfolding count_trailing_zeros
zeros_even k n p e f = ap₂ (λ r q. under r (count_trailing_zeros k q)) e f

pub zeros_odd : (k n : ℕ) → n % 2 ≡ 1 → count_trailing_zeros (suc k) n ≡ 0
unfolding count_trailing_zeros
zeros_odd k n e = ap (λ r. under r (count_trailing_zeros k (n / 2))) e

-- an odd multiple of a power of two
pub record IsOddMultiple (n k : ℕ) : Type 0 where
  pub half : ℕ
  pub is : n ≡ (2 * half + 1) * 2 ^ k

pub twice : (q c : ℕ) → 2 * (q * 2 ^ c) ≡ q * 2 ^ suc c
twice q c = omega (arith, mul_assoc q (2 ^ c) 2, ap (λ z. q * z) (pow-suc 2 c))

odd_multiple : (w n : ℕ) → 0 < n → n < 2 ^ w → IsOddMultiple n (count_trailing_zeros w n)
odd_multiple zero n some low = absurd (omega arith)
odd_multiple (suc w) n some low = go (λ p more below. odd_multiple w p more below) (n % 2) (n / 2) refl refl
  where
    go : ((p : ℕ) → 0 < p → p < 2 ^ w → IsOddMultiple p (count_trailing_zeros w p)) → (r p : ℕ) → n % 2 ≡ r → n / 2 ≡ p → IsOddMultiple n (count_trailing_zeros (suc w) n)
    go before zero p e f =
        let smaller = before p (omega arith) (omega arith) in
        subst (IsOddMultiple n) (sym (zeros_even w n p e f)) (record {
          half = smaller.half;
          is = (let doubled : n ≡ 2 * p = omega arith in doubled) ∙ ap (λ z. 2 * z) smaller.is ∙ twice (2 * smaller.half + 1) (count_trailing_zeros w p);
        })
    go before (suc zero) p e f = subst (IsOddMultiple n) (sym (zeros_odd w n e)) (record { half = p; is = omega arith })
    go before (suc (suc r)) p e f = absurd (omega arith)

-- a power of two that divides it has no more zeros
pub zeros-le : (w n q k : ℕ) → 0 < n → n < 2 ^ w → n ≡ q * 2 ^ k → k ≤ count_trailing_zeros w n
zeros-le w n q zero some low e = omega arith
zeros-le zero n q (suc k) some low e = absurd (omega arith)
zeros-le (suc w) n q (suc k) some low e =
    let doubled : n ≡ 2 * (q * 2 ^ k) = e ∙ sym (twice q k) in
    let before = zeros-le w (q * 2 ^ k) q k (omega arith) (omega arith) refl in
    let more = zeros_even w n (q * 2 ^ k) (omega arith) (omega arith) in
    omega arith

pub factor-pos : (c p n : ℕ) → n ≡ c * p → 0 < n → 1 ≤ c
factor-pos zero p n e some = absurd (omega arith)
factor-pos (suc c) p n e some = omega arith

-- ---- at 32 bits

pub zeros32-multiple : (n : ℕ) → 0 < n → n < 2 ^ 32 → IsOddMultiple n (trailing_zeros w32 n)
zeros32-multiple n some low = odd_multiple 32 n some low

pub power-le : (n k q : ℕ) → n ≡ (2 * q + 1) * 2 ^ k → 2 ^ k ≤ n
power-le n k q e = omega (arith, e, mul-le 1 (2 ^ k) (2 * q + 1) (2 ^ k) (omega arith) (omega arith))

-- without its lowest one a number has more zeros
pub zeros32-more : (n : ℕ) → n < 2 ^ 32 → 2 ^ trailing_zeros w32 n < n → trailing_zeros w32 n + 1 ≤ trailing_zeros w32 (n - 2 ^ trailing_zeros w32 n)
zeros32-more n low more =
    let k : ℕ = trailing_zeros w32 n in
    let odd = zeros32-multiple n (omega arith) low in
    let split : n ≡ 2 * odd.half * 2 ^ k + 2 ^ k = odd.is ∙ add-mul (2 * odd.half) 1 (2 ^ k) ∙ omega arith in
    let rest : n - 2 ^ k ≡ odd.half * 2 ^ suc k = (let less : n - 2 ^ k ≡ 2 * odd.half * 2 ^ k = omega arith in less) ∙ mul_assoc 2 odd.half (2 ^ k) ∙ twice odd.half k in
    let high = zeros-le 32 (n - 2 ^ k) odd.half (suc k) (omega arith) (omega arith) rest in
    omega arith

-- less a smaller power of two than the greatest that divides it, a number is still a multiple of that one
pub zeros32_before : (n k : ℕ) → 0 < n → n < 2 ^ 32 → k < trailing_zeros w32 n → (0 < n - 2 ^ k) × (k ≤ trailing_zeros w32 (n - 2 ^ k))
zeros32_before n k some low less =
    let odd = zeros32-multiple n some low in
    let z : ℕ = trailing_zeros w32 n in
    let c : ℕ = (2 * odd.half + 1) * 2 ^ (z - suc k) in
    let whole : n ≡ c * 2 ^ suc k =
    odd.is ∙ ap (λ p. (2 * odd.half + 1) * p) (ap (λ e. 2 ^ e) (let s : z ≡ (z - suc k) + suc k = omega arith in s) ∙ pow-add 2 (z - suc k) (suc k))
    ∙ sym (mul_assoc (2 * odd.half + 1) (2 ^ (z - suc k)) (2 ^ suc k)) in
    let doubled = twice c k in
    let factor = factor-pos c (2 ^ suc k) n whole some in
    let large = mul-le 1 (2 ^ k) c (2 ^ k) factor (omega arith) in
    let power = one-le-pow k 2 (omega arith) in
    let parts : 2 * c * 2 ^ k ≡ (2 * c - 1) * 2 ^ k + 1 * 2 ^ k = ap (λ x. x * 2 ^ k) (let s : 2 * c ≡ (2 * c - 1) + 1 = omega arith in s) ∙ add-mul (2 * c - 1) 1 (2 ^ k) in
    let less_one : n - 2 ^ k ≡ (2 * c - 1) * 2 ^ k = omega (arith, parts, mul_assoc 2 c (2 ^ k)) in
    let there : 0 < n - 2 ^ k = omega arith in
    (there, zeros-le 32 (n - 2 ^ k) (2 * c - 1) k there (omega arith) less_one)

-- a number by a power of two that divides it
pub multiple_of_power : (n k : ℕ) → 0 < n → n < 2 ^ 32 → k ≤ trailing_zeros w32 n → (c : ℕ) × (n ≡ c * 2 ^ k)
multiple_of_power n k some low le =
    let odd = zeros32-multiple n some low in
    let z : ℕ = trailing_zeros w32 n in (
      (2 * odd.half + 1) * 2 ^ (z - k),
      odd.is ∙ ap (λ p. (2 * odd.half + 1) * p) (ap (λ e. 2 ^ e) (let s : z ≡ (z - k) + k = omega arith in s) ∙ pow-add 2 (z - k) k)
          ∙ sym (mul_assoc (2 * odd.half + 1) (2 ^ (z - k)) (2 ^ k)),
    )

-- a number between a multiple of a power of two and the one before has fewer zeros
pub zeros32-between : (n m k : ℕ) → n < 2 ^ 32 → k ≤ trailing_zeros w32 n → m < n → n - 2 ^ k < m → trailing_zeros w32 m < k
zeros32-between n m k low le less more = ⊎_elim (λ lt. lt) (λ ge.
    let a = multiple_of_power n k (omega arith) low le in
    let b = multiple_of_power m k (omega arith) (omega arith) (omega arith) in
    ⊎_elim
    (λ lt. let above = mul-le (b.0 + 1) (2 ^ k) a.0 (2 ^ k) (omega arith) (omega arith) in absurd (omega (arith, above, add-mul b.0 1 (2 ^ k), a.1, b.1)))
    (λ past. let below = mul-le a.0 (2 ^ k) b.0 (2 ^ k) (omega arith) (omega arith) in absurd (omega (arith, below, a.1, b.1)))
    (cases_lt b.0 a.0)) (cases_lt (trailing_zeros w32 m) k)

-- and the one before has as many as the power at least
pub zeros32-back : (n k : ℕ) → n < 2 ^ 32 → k ≤ trailing_zeros w32 n → 0 < n - 2 ^ k → k ≤ trailing_zeros w32 (n - 2 ^ k)
zeros32-back n k low le some =
    let a = multiple_of_power n k (omega arith) low le in
    let factor = factor-pos a.0 (2 ^ k) n a.1 (omega arith) in
    let parts : a.0 * 2 ^ k ≡ (a.0 - 1) * 2 ^ k + 1 * 2 ^ k = ap (λ x. x * 2 ^ k) (let s : a.0 ≡ (a.0 - 1) + 1 = omega arith in s) ∙ add-mul (a.0 - 1) 1 (2 ^ k) in
    zeros-le 32 (n - 2 ^ k) (a.0 - 1) k some (omega arith) (omega (arith, parts, a.1))
