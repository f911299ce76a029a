-- Digits behind a point, which are read from the last one on.
use Rattle.std.proofs.Common.{◌≡◌, ◌≢◌, ◌≤◌, ◌<◌, ◌+◌, ◌*◌, ◌/◌, ◌%◌, ◌^◌, ◌==◌, ◌∷◌, ◌∙◌, [], ℕ, zero, suc, Bool, true, false, List, Option, Some, None, if◌then◌else◌, length, drop, get_or, refl, sym, ap, arith, lit≤, option_map, drop-cons}
use Rattle.std.proofs.lemmas.Bool.{eq-eqb, ne_eqb, eqb-true, eqb-false, le-ltb, lt-ltb}
use Rattle.std.proofs.Math.Nat.{add-mul-mod_self_right, div-add-mod, mul-le-mul_left, mul-mod_left, mul-div-mul_right, pow-succ', one-le-pow}
use Rattle.std.specs.Prelude.{nat_lt}
use Rattle.std.specs.Char.{digit_value}
use Rattle.lfs_tool.specs.Numbers.{unit_fraction_bytes, append_digits}

-- a tenth of so many bytes
abbrev pub whole_tenth : ℕ → Option ℕ
whole_tenth n = if n % 10 == 0 then Some (n / 10) else None

-- a tenth of a digit's units and of the bytes behind it
abbrev pub tenth_of_digit : ℕ → ℕ → Option ℕ → Option ℕ
tenth_of_digit unit c None = None
tenth_of_digit unit c (Some n) = if nat_lt (digit_value c) 10 then whole_tenth (digit_value c * unit + n) else None

-- the bytes of the digits behind a point
abbrev pub bytes_of_tenths : ℕ → List ℕ → Option ℕ
bytes_of_tenths unit [] = Some 0
bytes_of_tenths unit (c ∷ cs) = tenth_of_digit unit c (bytes_of_tenths unit cs)

-- ---- digits behind others

front_step : (n d k : ℕ) (x : Option ℕ)
    → option_map (λ f. (n * 10 + d) * 10 ^ k + f) x ≡ option_map (λ f. n * 10 ^ suc k + f) (option_map (λ f. (0 * 10 + d) * 10 ^ k + f) x)
front_step n d k None = refl
front_step n d k (Some f) =
    let same : (n * 10 + d) * 10 ^ k + f ≡ n * 10 ^ suc k + ((0 * 10 + d) * 10 ^ k + f) = omega (arith, ap (λ (x : ℕ). n * x) (pow-succ' 10 k)) in
    ap (λ (x : ℕ). Some x) same

pub digits_behind : (n : ℕ) (ds : List ℕ) → append_digits 10 n ds ≡ option_map (λ f. n * 10 ^ length ds + f) (append_digits 10 0 ds)
digits_behind n [] = let same : n ≡ n * 10 ^ 0 + 0 = omega arith in ap (λ (x : ℕ). Some x) same
digits_behind n (c ∷ cs) = go (nat_lt (digit_value c) 10) (digits_behind (n * 10 + digit_value c) cs) (digits_behind (0 * 10 + digit_value c) cs)
  where
    go : (b : Bool) → append_digits 10 (n * 10 + digit_value c) cs ≡ option_map (λ f. (n * 10 + digit_value c) * 10 ^ length cs + f) (append_digits 10 0 cs)
        → append_digits 10 (0 * 10 + digit_value c) cs ≡ option_map (λ f. (0 * 10 + digit_value c) * 10 ^ length cs + f) (append_digits 10 0 cs)
        → (if b then append_digits 10 (n * 10 + digit_value c) cs else None)
        ≡ option_map (λ f. n * 10 ^ suc (length cs) + f) (if b then append_digits 10 (0 * 10 + digit_value c) cs else None)
    go true one two = one ∙ (front_step n (digit_value c) (length cs) (append_digits 10 0 cs) ∙ sym (ap (option_map (λ f. n * 10 ^ suc (length cs) + f)) two))
    go false one two = refl

-- ---- a digit more

pub power_some : (k : ℕ) → 0 < 10 ^ k
power_some k = omega (arith, one-le-pow k 10 (lit≤ tt))

-- what ten times p leaves of n times p is p times what ten leaves of n
tenths_of_product : (n p : ℕ) → 0 < p → (n * p) % (10 * p) ≡ (n % 10) * p
tenths_of_product n p some =
    let one : n * p / (10 * p) ≡ n / 10 = mul-div-mul_right {m = p} n 10 some in
    let two = div-add-mod (n * p) (10 * p) in
    let three = div-add-mod n 10 in
    omega (arith, two, ap (λ (x : ℕ). 10 * p * x) one, ap (λ (x : ℕ). x * p) three)

tenths_test : (n p : ℕ) → 0 < p → ((n * p) % (10 * p) == 0) ≡ (n % 10 == 0)
tenths_test n p some = go (n % 10 == 0) refl
  where
    go : (b : Bool) → (n % 10 == 0) ≡ b → ((n * p) % (10 * p) == 0) ≡ b
    go true e =
        let none : n % 10 * p ≡ 0 * p = ap (λ (x : ℕ). x * p) (eqb-true (n % 10) 0 e) in
        eq-eqb ((n * p) % (10 * p)) 0 (omega (arith, tenths_of_product n p some, none))
    go false e = ne_eqb ((n * p) % (10 * p)) 0 (λ zero_is. eqb-false (n % 10) 0 e (no_factor (n % 10) (sym (tenths_of_product n p some) ∙ zero_is)))
      where
        no_factor : (m : ℕ) → m * p ≡ 0 → m ≡ 0
        no_factor zero is = refl
        no_factor (suc m) is = absurd (omega (arith, mul-le-mul_left p some))

-- the tenth of n, from n times p
tenths_at_product : (n p a : ℕ) → 0 < p → a ≡ n * p → (if a % (10 * p) == 0 then Some (a / (10 * p)) else None) ≡ whole_tenth n
tenths_at_product n p a some is = rw (is, tenths_test n p some, mul-div-mul_right {m = p} n 10 some) refl

-- what a whole number of the smaller parts makes with a digit before it
abbrev pub with_digit : ℕ → ℕ → Option ℕ → Option ℕ
with_digit unit d None = None
with_digit unit d (Some n) = whole_tenth (d * unit + n)

-- where the smaller parts aren't whole, no digit before them makes them whole
stays_broken : (unit d p f : ℕ) → (f * unit) % p ≢ 0 → (((0 * 10 + d) * p + f) * unit) % (10 * p) ≢ 0
stays_broken unit d p f broken zero_is =
    let a = ((0 * 10 + d) * p + f) * unit in
    let whole = div-add-mod a (10 * p) in
    let same : f * unit + d * unit * p ≡ 10 * (a / (10 * p)) * p = omega (arith, whole, zero_is) in
    broken (sym (add-mul-mod_self_right (f * unit) (d * unit) p) ∙ (ap (λ (x : ℕ). x % p) same ∙ mul-mod_left (10 * (a / (10 * p))) p))

digit_before : (unit d p : ℕ) (x : Option ℕ) → 0 < p
    → unit_fraction_bytes unit (10 * p) (option_map (λ f. (0 * 10 + d) * p + f) x) ≡ with_digit unit d (unit_fraction_bytes unit p x)
digit_before unit d p None some = refl
digit_before unit d p (Some f) some = go ((f * unit) % p == 0) refl
  where
    go : (b : Bool) → ((f * unit) % p == 0) ≡ b
        → (if (((0 * 10 + d) * p + f) * unit) % (10 * p) == 0 then Some (((0 * 10 + d) * p + f) * unit / (10 * p)) else None)
        ≡ with_digit unit d (if b then Some (f * unit / p) else None)
    go true e =
        let none : (f * unit) % p ≡ 0 = eqb-true ((f * unit) % p) 0 e in
        let whole = div-add-mod (f * unit) p in
        let same : ((0 * 10 + d) * p + f) * unit ≡ (d * unit + f * unit / p) * p = omega (arith, whole, none) in
        tenths_at_product (d * unit + f * unit / p) p (((0 * 10 + d) * p + f) * unit) some same
    go false e = rw (ne_eqb ((((0 * 10 + d) * p + f) * unit) % (10 * p)) 0 (stays_broken unit d p f (eqb-false ((f * unit) % p) 0 e))) refl

-- read from the last one on, the digits make the bytes of their parts
pub tenths_are_parts : (unit : ℕ) (ds : List ℕ) → bytes_of_tenths unit ds ≡ unit_fraction_bytes unit (10 ^ length ds) (append_digits 10 0 ds)
tenths_are_parts unit [] = let none : 0 * unit ≡ 0 = omega arith in rw none refl
tenths_are_parts unit (c ∷ cs) = go (nat_lt (digit_value c) 10) refl (tenths_are_parts unit cs) (digits_behind (0 * 10 + digit_value c) cs)
  where
    tenth_by : (b : Bool) (x : Option ℕ) → nat_lt (digit_value c) 10 ≡ b → tenth_of_digit unit c x ≡ (if b then with_digit unit (digit_value c) x else None)
    tenth_by true None e = refl
    tenth_by false None e = refl
    tenth_by true (Some n) e = rw e refl
    tenth_by false (Some n) e = rw e refl

    go : (b : Bool) → nat_lt (digit_value c) 10 ≡ b → bytes_of_tenths unit cs ≡ unit_fraction_bytes unit (10 ^ length cs) (append_digits 10 0 cs)
        → append_digits 10 (0 * 10 + digit_value c) cs ≡ option_map (λ f. (0 * 10 + digit_value c) * 10 ^ length cs + f) (append_digits 10 0 cs)
        → tenth_of_digit unit c (bytes_of_tenths unit cs)
        ≡ unit_fraction_bytes unit (10 ^ suc (length cs)) (if b then append_digits 10 (0 * 10 + digit_value c) cs else None)
    go true e rest front =
        tenth_by true (bytes_of_tenths unit cs) e ∙ (ap (with_digit unit (digit_value c)) rest
        ∙ (sym (digit_before unit (digit_value c) (10 ^ length cs) (append_digits 10 0 cs) (power_some (length cs)))
        ∙ (ap (λ (p : ℕ). unit_fraction_bytes unit p (option_map (λ f. (0 * 10 + digit_value c) * 10 ^ length cs + f) (append_digits 10 0 cs))) (sym (pow-succ' 10 (length cs)))
        ∙ ap (unit_fraction_bytes unit (10 ^ suc (length cs))) (sym front))))
    go false e rest front = tenth_by false (bytes_of_tenths unit cs) e

none_stays : (unit : ℕ) (ds : List ℕ) (i : ℕ) → bytes_of_tenths unit (drop i ds) ≡ None → bytes_of_tenths unit ds ≡ None
none_stays unit [] zero none = none
none_stays unit [] (suc i) none = none
none_stays unit (c ∷ cs) zero none = none
none_stays unit (c ∷ cs) (suc i) none = ap (tenth_of_digit unit c) (none_stays unit cs i none)

-- a digit that gives no tenth leaves none of the whole
none_from_digit : (unit : ℕ) (ds : List ℕ) (i j n : ℕ) → j ≡ suc i → i < length ds → bytes_of_tenths unit (drop j ds) ≡ Some n
    → tenth_of_digit unit (get_or ds i 0) (Some n) ≡ None → bytes_of_tenths unit ds ≡ None
none_from_digit unit ds i j n next lt behind none =
    let same : bytes_of_tenths unit (drop (suc i) ds) ≡ Some n = ap (λ (x : ℕ). bytes_of_tenths unit (drop x ds)) (sym next) ∙ behind in
    none_stays unit ds i (ap (bytes_of_tenths unit) (drop-cons ds i 0 lt) ∙ (ap (tenth_of_digit unit (get_or ds i 0)) same ∙ none))

no_digit_none : (unit c n : ℕ) → 10 ≤ digit_value c → tenth_of_digit unit c (Some n) ≡ None
no_digit_none unit c n large = rw (le-ltb (digit_value c) 10 large) refl

no_tenth_none : (unit c n : ℕ) → digit_value c < 10 → (digit_value c * unit + n) % 10 ≢ 0 → tenth_of_digit unit c (Some n) ≡ None
no_tenth_none unit c n digit broken = rw (lt-ltb (digit_value c) 10 digit, ne_eqb ((digit_value c * unit + n) % 10) 0 broken) refl

pub none_at_letter : (unit : ℕ) (ds : List ℕ) (i j n : ℕ) → j ≡ suc i → i < length ds → bytes_of_tenths unit (drop j ds) ≡ Some n
    → 10 ≤ digit_value (get_or ds i 0) → None ≡ unit_fraction_bytes unit (10 ^ length ds) (append_digits 10 0 ds)
none_at_letter unit ds i j n next lt behind large =
    sym (none_from_digit unit ds i j n next lt behind (no_digit_none unit (get_or ds i 0) n large)) ∙ tenths_are_parts unit ds

pub none_at_digit : (unit : ℕ) (ds : List ℕ) (i j n : ℕ) → j ≡ suc i → i < length ds → bytes_of_tenths unit (drop j ds) ≡ Some n
    → digit_value (get_or ds i 0) < 10 → (digit_value (get_or ds i 0) * unit + n) % 10 ≢ 0
    → None ≡ unit_fraction_bytes unit (10 ^ length ds) (append_digits 10 0 ds)
none_at_digit unit ds i j n next lt behind digit broken =
    sym (none_from_digit unit ds i j n next lt behind (no_tenth_none unit (get_or ds i 0) n digit broken)) ∙ tenths_are_parts unit ds

pub some_at_start : (unit : ℕ) (ds : List ℕ) (i n : ℕ) → i ≤ 0 → bytes_of_tenths unit (drop i ds) ≡ Some n
    → Some n ≡ unit_fraction_bytes unit (10 ^ length ds) (append_digits 10 0 ds)
some_at_start unit ds zero n le behind = sym behind ∙ tenths_are_parts unit ds
some_at_start unit ds (suc i) n le behind = absurd (omega arith)
