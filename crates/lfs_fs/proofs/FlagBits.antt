-- The flags of the union of two sets of bits.
use Rattle.std.proofs.Common.{ℕ, suc, zero, ◌≡◌, ◌*◌, ◌^◌, ◌<◌, Bool, true, false, not, ◌==◌, ◌||◌, ◌&&◌, max, refl, sym, ap, ap₂, ◌∙◌, arith}
use Rattle.std.specs.Int.RustNames.{bit_and, bit_or}
use Rattle.std.specs.Int.{bit_at}
use Rattle.std.proofs.lemmas.Bool.{eq-eqb, eqb-true, ne_eqb}
use Rattle.std.proofs.lemmas.Nat.{pow_pos}
use Rattle.std.proofs.lemmas.Nat.Bits.{and_pow, bit_at_and, bit_at_or, bit_at-lt, same_from_bits}

-- ---- one flag

times_is : (x p : ℕ) → 0 < p → x < 2 → (x * p == p) ≡ (x == 1)
times_is zero p some low = ne_eqb (zero * p) p (λ e. absurd (omega (arith, e)))
times_is (suc zero) p some low = eq-eqb (suc zero * p) p (omega arith)
times_is (suc (suc x)) p some low = absurd (omega arith)

either_one : (x y : ℕ) → x < 2 → y < 2 → (max x y == 1) ≡ ((x == 1) || (y == 1))
either_one zero zero l m = refl
either_one zero (suc zero) l m = refl
either_one (suc zero) zero l m = refl
either_one (suc zero) (suc zero) l m = refl
either_one (suc (suc x)) y l m = absurd (omega arith)
either_one x (suc (suc y)) l m = absurd (omega arith)

pub either_has : (a b k : ℕ) → (bit_and (bit_or a b) (2 ^ k) == 2 ^ k) ≡ ((bit_and a (2 ^ k) == 2 ^ k) || (bit_and b (2 ^ k) == 2 ^ k))
either_has a b k =
    let x = bit_at-lt a k in
    let y = bit_at-lt b k in
    let one = λ (n : ℕ). ap (λ z. z == 2 ^ k) (and_pow n k) ∙ times_is (bit_at n k) (2 ^ k) (pow_pos k) (bit_at-lt n k) in
    one (bit_or a b) ∙ ap (λ z. z == 1) (bit_at_or a b k) ∙ either_one (bit_at a k) (bit_at b k) x y ∙ sym (ap₂ (λ p q. p || q) (one a) (one b))

-- ---- bits that name no flag

both_known : (a b m : ℕ) → bit_and a m ≡ a → bit_and b m ≡ b → bit_and (bit_or a b) m ≡ bit_or a b
both_known a b m p q = same_from_bits (bit_and (bit_or a b) m) (bit_or a b) (λ i.
    let x = sym (bit_at_and a m i) ∙ ap (λ n. bit_at n i) p in
    let y = sym (bit_at_and b m i) ∙ ap (λ n. bit_at n i) q in
    omega (arith, x, y, bit_at_and (bit_or a b) m i, bit_at_or a b i))

first_known : (a b m : ℕ) → bit_and (bit_or a b) m ≡ bit_or a b → bit_and a m ≡ a
first_known a b m p = same_from_bits (bit_and a m) a (λ i.
    let x = sym (bit_at_and (bit_or a b) m i) ∙ ap (λ n. bit_at n i) p in
    omega (arith, x, bit_at_and a m i, bit_at_or a b i))

later_known : (a b m : ℕ) → bit_and (bit_or a b) m ≡ bit_or a b → bit_and b m ≡ b
later_known a b m p = same_from_bits (bit_and b m) b (λ i.
    let x = sym (bit_at_and (bit_or a b) m i) ∙ ap (λ n. bit_at n i) p in
    omega (arith, x, bit_at_and b m i, bit_at_or a b i))

abbrev is_known : ℕ → ℕ → Bool
is_known m n = bit_and n m == n

are_known : (a b m : ℕ) → is_known m (bit_or a b) ≡ (is_known m a && is_known m b)
are_known a b m = go (is_known m a) (is_known m b) refl refl
  where
    go : (x y : Bool) → is_known m a ≡ x → is_known m b ≡ y → is_known m (bit_or a b) ≡ (is_known m a && is_known m b)
    go true true p q = eq-eqb (bit_and (bit_or a b) m) (bit_or a b) (both_known a b m (eqb-true (bit_and a m) a p) (eqb-true (bit_and b m) b q)) ∙ sym (ap₂ (λ x y. x && y) p q)
    go false y p q =
        ne_eqb (bit_and (bit_or a b) m) (bit_or a b) (λ e. absurd (let k : true ≡ false = sym (eq-eqb (bit_and a m) a (first_known a b m e)) ∙ p in cc))
        ∙ sym (ap (λ x. x && is_known m b) p)
    go true false p q =
        ne_eqb (bit_and (bit_or a b) m) (bit_or a b) (λ e. absurd (let k : true ≡ false = sym (eq-eqb (bit_and b m) b (later_known a b m e)) ∙ q in cc))
        ∙ sym (ap₂ (λ x y. x && y) p q)

pub either_unknown : (a b m : ℕ) → not (bit_and (bit_or a b) m == bit_or a b) ≡ (not (bit_and a m == a) || not (bit_and b m == b))
either_unknown a b m = ap not (are_known a b m) ∙ go (is_known m a) (is_known m b)
  where
    go : (x y : Bool) → not (x && y) ≡ (not x || not y)
    go true y = refl
    go false y = refl
