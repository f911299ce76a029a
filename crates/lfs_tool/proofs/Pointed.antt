-- Digits on both sides of a point.
use Rattle.std.proofs.Common.{◌≡◌, ◌<◌, ◌+◌, ◌*◌, ◌/◌, ◌%◌, ◌^◌, ◌==◌, ◌∷◌, ◌++◌, ◌∙◌, [], ℕ, Bool, true, false, List, Option, Some, None, if◌then◌else◌, nat_lt, length, refl, sym, ap, arith, option_map}
use Rattle.std.proofs.lemmas.Bool.{ltb-false}
use Rattle.std.proofs.Math.Nat.{add-mul-mod_self_right, add-mul-div_right, le-mul_of_pos_right}
use Rattle.std.specs.Char.{digit_value}
use Rattle.lfs_tool.specs.Numbers.{unit_fraction_bytes, append_digits, number_of_digits, fractional_number, u32_or_none}
use Rattle.lfs_tool.proofs.Digits.{large_within}
use Rattle.lfs_tool.proofs.Fractions.{digits_behind, power_some}

-- the number that digits name behind those of another number
abbrev pub digits_behind_number : ℕ → List ℕ → Option ℕ → Option ℕ
digits_behind_number radix ds None = None
digits_behind_number radix ds (Some n) = append_digits radix n ds

digits_appended : (radix n : ℕ) (xs ys : List ℕ) → append_digits radix n (xs ++ ys) ≡ digits_behind_number radix ys (append_digits radix n xs)
digits_appended radix n [] ys = refl
digits_appended radix n (c ∷ cs) ys = go (nat_lt (digit_value c) radix) (digits_appended radix (n * radix + digit_value c) cs ys)
  where
    go : (b : Bool) → append_digits radix (n * radix + digit_value c) (cs ++ ys) ≡ digits_behind_number radix ys (append_digits radix (n * radix + digit_value c) cs)
        → (if b then append_digits radix (n * radix + digit_value c) (cs ++ ys) else None)
        ≡ digits_behind_number radix ys (if b then append_digits radix (n * radix + digit_value c) cs else None)
    go true rest = rest
    go false rest = refl

units_and_parts : (unit n p : ℕ) (x : Option ℕ) → 0 < p
    → unit_fraction_bytes unit p (option_map (λ f. n * p + f) x) ≡ option_map (λ q. n * unit + q) (unit_fraction_bytes unit p x)
units_and_parts unit n p None some = refl
units_and_parts unit n p (Some f) some =
    let same : (n * p + f) * unit ≡ f * unit + n * unit * p = omega arith in
    rw (same, add-mul-mod_self_right (f * unit) (n * unit) p, add-mul-div_right (f * unit) (n * unit) {z = p} some) (go ((f * unit) % p == 0))
  where
    go : (b : Bool) → (if b then Some (f * unit / p + n * unit) else None) ≡ option_map (λ q. n * unit + q) (if b then Some (f * unit / p) else None)
    go true = let swapped : f * unit / p + n * unit ≡ n * unit + f * unit / p = omega arith in ap (λ (x : ℕ). Some x) swapped
    go false = refl

-- so many units, and bytes more
abbrev pub units_and_bytes : ℕ → Option ℕ → Option ℕ → Option ℕ
units_and_bytes unit None more = None
units_and_bytes unit (Some n) more = option_map (λ q. n * unit + q) more

pub pointed_is : (unit : ℕ) (whole fraction : List ℕ) → 0 < length fraction
    → fractional_number unit whole fraction ≡ units_and_bytes unit (number_of_digits 10 whole) (unit_fraction_bytes unit (10 ^ length fraction) (append_digits 10 0 fraction))
pointed_is unit whole [] some = absurd (omega arith)
pointed_is unit [] (d ∷ ds) some = refl
pointed_is unit (c ∷ cs) (d ∷ ds) some =
    ap (unit_fraction_bytes unit (10 ^ length (d ∷ ds))) (digits_appended 10 0 (c ∷ cs) (d ∷ ds)) ∙ go (append_digits 10 0 (c ∷ cs))
  where
    go : (o : Option ℕ) → unit_fraction_bytes unit (10 ^ length (d ∷ ds)) (digits_behind_number 10 (d ∷ ds) o)
        ≡ units_and_bytes unit o (unit_fraction_bytes unit (10 ^ length (d ∷ ds)) (append_digits 10 0 (d ∷ ds)))
    go None = refl
    go (Some n) = ap (unit_fraction_bytes unit (10 ^ length (d ∷ ds))) (digits_behind n (d ∷ ds))
        ∙ units_and_parts unit n (10 ^ length (d ∷ ds)) (append_digits 10 0 (d ∷ ds)) (power_some (length (d ∷ ds)))

pub within_some : (o : Option ℕ) (n : ℕ) → Some n ≡ u32_or_none o → o ≡ Some n
within_some None n is = cc
within_some (Some m) n is = go (nat_lt m (2 ^ 32)) is
  where
    go : (b : Bool) → Some n ≡ (if b then Some m else None) → Some m ≡ Some n
    go true e = sym e
    go false e = cc

-- where the units alone are too many, so are they with more
none_with_more : (unit : ℕ) (o more : Option ℕ) → 0 < unit → None ≡ u32_or_none o → None ≡ u32_or_none (units_and_bytes unit o more)
none_with_more unit None more some is = refl
none_with_more unit (Some n) None some is = refl
none_with_more unit (Some n) (Some q) some is = go (nat_lt n (2 ^ 32)) refl is
  where
    go : (b : Bool) → nat_lt n (2 ^ 32) ≡ b → None ≡ (if b then Some n else None) → None ≡ u32_or_none (Some (n * unit + q))
    go true e h = cc
    go false e h = sym (large_within (n * unit + q) (omega (arith, ltb-false n (2 ^ 32) e, le-mul_of_pos_right {m = unit} n some)))

pub none_of_units : (unit : ℕ) (whole fraction : List ℕ) → 0 < unit → 0 < length fraction → None ≡ u32_or_none (number_of_digits 10 whole)
    → None ≡ u32_or_none (fractional_number unit whole fraction)
none_of_units unit whole fraction some digit is =
    none_with_more unit (number_of_digits 10 whole) (unit_fraction_bytes unit (10 ^ length fraction) (append_digits 10 0 fraction)) some is
    ∙ sym (ap u32_or_none (pointed_is unit whole fraction digit))

pub units_of_pointed : (unit : ℕ) (whole fraction : List ℕ) (n : ℕ) (more : Option ℕ) → 0 < length fraction → Some n ≡ u32_or_none (number_of_digits 10 whole)
    → more ≡ unit_fraction_bytes unit (10 ^ length fraction) (append_digits 10 0 fraction)
    → u32_or_none (option_map (λ q. n * unit + q) more) ≡ u32_or_none (fractional_number unit whole fraction)
units_of_pointed unit whole fraction n more digit is parts =
    ap u32_or_none (ap (option_map (λ q. n * unit + q)) parts
    ∙ (sym (ap (λ o. units_and_bytes unit o (unit_fraction_bytes unit (10 ^ length fraction) (append_digits 10 0 fraction))) (within_some (number_of_digits 10 whole) n is))
    ∙ sym (pointed_is unit whole fraction digit)))
