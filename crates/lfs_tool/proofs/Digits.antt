-- Digits that are read from the first one on.
use Rattle.std.proofs.Common.{◌≡◌, ◌≤◌, ◌<◌, ◌+◌, ◌*◌, ◌^◌, ◌==◌, ◌∷◌, ◌∙◌, [], ℕ, suc, Bool, true, false, List, Option, Some, None, if◌then◌else◌, length, drop, get_or, refl, sym, ap, arith, drop-cons}
use Rattle.std.proofs.lemmas.Bool.{eqb-false, le-ltb, lt-ltb}
use Rattle.std.proofs.Math.Nat.{le-mul_of_pos_right}
use Rattle.std.specs.Prelude.{nat_lt}
use Rattle.std.specs.Char.{digit_value}
use Rattle.lfs_tool.specs.Numbers.{append_digits, u32_or_none}

digit_read : (radix n c : ℕ) (cs : List ℕ) → digit_value c < radix
    → append_digits radix n (c ∷ cs) ≡ append_digits radix (n * radix + digit_value c) cs
digit_read radix n c cs lt = rw (lt-ltb (digit_value c) radix lt) refl

-- more digits make no number smaller
digits_grow : (radix n : ℕ) (ds : List ℕ) (m : ℕ) → 1 ≤ radix → append_digits radix n ds ≡ Some m → n ≤ m
digits_grow radix n [] m some is = let same : n ≡ m = cc in omega arith
digits_grow radix n (c ∷ cs) m some is = go (nat_lt (digit_value c) radix) (digits_grow radix (n * radix + digit_value c) cs m some) is
  where
    go : (b : Bool) → (append_digits radix (n * radix + digit_value c) cs ≡ Some m → n * radix + digit_value c ≤ m)
        → (if b then append_digits radix (n * radix + digit_value c) cs else None) ≡ Some m → n ≤ m
    go true rest e = omega (arith, rest e, le-mul_of_pos_right {m = radix} n some)
    go false rest e = cc

pub large_within : (n : ℕ) → 2 ^ 32 ≤ n → u32_or_none (Some n) ≡ None
large_within n large = rw (le-ltb n (2 ^ 32) large) refl

large_stays : (radix n : ℕ) (ds : List ℕ) → 1 ≤ radix → 2 ^ 32 ≤ n → u32_or_none (append_digits radix n ds) ≡ None
large_stays radix n ds some large = go (append_digits radix n ds) refl
  where
    go : (o : Option ℕ) → append_digits radix n ds ≡ o → u32_or_none o ≡ None
    go None e = refl
    go (Some m) e = large_within m (omega (arith, digits_grow radix n ds m some e))

-- a digit makes the number too large
pub large_from_digit : (radix n : ℕ) (ds : List ℕ) (i : ℕ) (wanted : Option ℕ) → 1 ≤ radix → i < length ds → digit_value (get_or ds i 0) < radix
    → 2 ^ 32 ≤ n * radix + digit_value (get_or ds i 0) → u32_or_none (append_digits radix n (drop i ds)) ≡ wanted → None ≡ wanted
large_from_digit radix n ds i wanted some lt digit large same =
    let first : append_digits radix n (drop i ds) ≡ append_digits radix (n * radix + digit_value (get_or ds i 0)) (drop (suc i) ds) =
    ap (append_digits radix n) (drop-cons ds i 0 lt) ∙ digit_read radix n (get_or ds i 0) (drop (suc i) ds) digit in
    sym (large_stays radix (n * radix + digit_value (get_or ds i 0)) (drop (suc i) ds) some large) ∙ (sym (ap u32_or_none first) ∙ same)

pub not_empty : (n : ℕ) (empty : Bool) → empty ≡ (n == 0) → empty ≡ false → 0 < n
not_empty n empty test no_test = omega (arith, eqb-false n 0 (sym test ∙ no_test))
