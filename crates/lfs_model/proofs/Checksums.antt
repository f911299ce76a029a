-- The checksum is the remainder, and the only one.
use Rattle.std.proofs.Common.{◌≡◌, ℕ, zero, suc, ◌+◌, ◌*◌, ◌/◌, ◌%◌, ◌^◌, ◌<◌, ◌≤◌, Bool, true, false, cond, eqb, List, [], ◌∷◌, ◌++◌, length, get_or, refl, sym, ap, ◌∙◌, arith, inl, inr, add-one, length-append, lit<, drop, drop-cons}
use Rattle.std.proofs.Math.Nat.{pow-suc, mul_assoc, mul_comm}
use Rattle.lfs_model.proofs.Common.{xor_assoc, xor_self, flat_map, cases_lt, nat_tests, xor_comm, All-head, All-tail}
use Rattle.std.specs.Int.Bits.{bit_xor, xor_zero_l, xor_zero_r, xor_shifted}
use Rattle.std.proofs.lemmas.Nat.{xor_lt, xor_block, xor_shr, xor_mod, pow-add, pow_pos, same_from_place, mul-add-lt}
use Rattle.std.specs.Prelude.{All}
use Rattle.lfs_model.specs.format.Crc.{generator_polynomial, low_bits, polynomial, times_generator, IsRemainder, message_polynomial, IsCrcFrom, crc_after_bit, checksum_after_bits, crc_of}

-- ---- sums

-- the middle two of four terms change places
pub xor_swap : (a b c d : ℕ) → bit_xor (bit_xor a b) (bit_xor c d) ≡ bit_xor (bit_xor a c) (bit_xor b d)
xor_swap a b c d =
    xor_assoc a b (bit_xor c d) ∙ ap (bit_xor a) (sym (xor_assoc b c d) ∙ ap (λ (t : ℕ). bit_xor t d) (xor_comm b c) ∙ xor_assoc c b d) ∙ sym (xor_assoc a c (bit_xor b d))

-- a term that stands twice is gone
pub xor_cancel : (a b : ℕ) → bit_xor a (bit_xor a b) ≡ b
xor_cancel a b = sym (xor_assoc a a b) ∙ ap (λ (t : ℕ). bit_xor t b) (xor_self a) ∙ xor_zero_l b

pub xor_double : (a b : ℕ) → bit_xor (2 * a) (2 * b) ≡ 2 * bit_xor a b
xor_double a b =
    let shifted : bit_xor (a * 2 ^ 1 + 0) (b * 2 ^ 1 + 0) ≡ bit_xor a b * 2 ^ 1 + bit_xor 0 0 = xor_block 1 a b 0 0 (omega arith) (omega arith) in
    let left : 2 * a ≡ a * 2 ^ 1 + 0 = omega arith in
    let right : 2 * b ≡ b * 2 ^ 1 + 0 = omega arith in
    rw (left, right, shifted) (omega arith)

pub xor-mul_pow : (a b k : ℕ) → bit_xor a b * 2 ^ k ≡ bit_xor (a * 2 ^ k) (b * 2 ^ k)
xor-mul_pow a b k =
    let shifted : bit_xor (a * 2 ^ k + 0) (b * 2 ^ k + 0) ≡ bit_xor a b * 2 ^ k + bit_xor 0 0 = xor_block k a b 0 0 (pow_pos k) (pow_pos k) in
    let left : a * 2 ^ k + 0 ≡ a * 2 ^ k = omega arith in
    let right : b * 2 ^ k + 0 ≡ b * 2 ^ k = omega arith in
    let out : bit_xor a b * 2 ^ k + bit_xor 0 0 ≡ bit_xor a b * 2 ^ k = omega arith in
    sym (rw (left, right, out) at shifted)

-- ---- multiples of the generator

pub record IsMultiple (m : ℕ) : Type 0 where
  pub quotient : List Bool
  pub is : m ≡ times_generator quotient

scaled : Bool → ℕ
scaled c = cond c generator_polynomial 0

differs : Bool → Bool → Bool
differs true true = false
differs true false = true
differs false c = c

scaled-differs : (c d : Bool) → bit_xor (scaled c) (scaled d) ≡ scaled (differs c d)
unfolding scaled differs
scaled-differs true true = xor_self generator_polynomial
scaled-differs true false = xor_zero_r generator_polynomial
scaled-differs false d = xor_zero_l (cond d generator_polynomial 0)

sum_of : List Bool → List Bool → List Bool
sum_of [] ds = ds
sum_of (c ∷ cs) [] = c ∷ cs
sum_of (c ∷ cs) (d ∷ ds) = differs c d ∷ sum_of cs ds

times-sum : (cs ds : List Bool) → times_generator (sum_of cs ds) ≡ bit_xor (times_generator cs) (times_generator ds)
unfolding sum_of times_generator scaled
times-sum [] ds = sym (xor_zero_l (times_generator ds))
times-sum (c ∷ cs) [] = sym (xor_zero_r (times_generator (c ∷ cs)))
times-sum (c ∷ cs) (d ∷ ds) =
    rw (times-sum cs ds, ← xor_double (times_generator cs) (times_generator ds), ← scaled-differs c d)
    (xor_swap (scaled c) (scaled d) (2 * times_generator cs) (2 * times_generator ds))

pub none : IsMultiple 0
unfolding times_generator
none = record { quotient = []; is = refl }

pub one : IsMultiple generator_polynomial
unfolding times_generator
one = record { quotient = true ∷ []; is = refl }

pub both : (m n : ℕ) → IsMultiple m → IsMultiple n → IsMultiple (bit_xor m n)
both m n p q = record { quotient = sum_of p.quotient q.quotient; is = rw (p.is, q.is) (sym (times-sum p.quotient q.quotient)) }

pub double : (m : ℕ) → IsMultiple m → IsMultiple (2 * m)
unfolding times_generator
double m p = record { quotient = false ∷ p.quotient; is = rw (← p.is) (sym (xor_zero_l (2 * m))) }

pub shifted : (m k : ℕ) → IsMultiple m → IsMultiple (m * 2 ^ k)
shifted m zero p = let e : m * 2 ^ 0 ≡ m = omega arith in rw e p
shifted m (suc k) p =
    let e : m * 2 ^ suc k ≡ 2 * (m * 2 ^ k) = rw pow-suc (omega arith) in
    rw e (double (m * 2 ^ k) (shifted m k p))

-- a multiple of a degree below 32 is 0
low : (c : Bool) (t : ℕ) → t ≡ 0 → bit_xor (cond c generator_polynomial 0) (2 * t) < 2 ^ 32 → bit_xor (cond c generator_polynomial 0) (2 * t) ≡ 0
low true t e h = absurd (let f = rw e at h in omega arith)
low false t e h = rw e refl

scaled_div : (c : Bool) → cond c generator_polynomial 0 / 2 ^ 33 ≡ 0
scaled_div true = refl
scaled_div false = refl

high : (c : Bool) (t : ℕ) → 2 ^ 32 ≤ t → bit_xor (cond c generator_polynomial 0) (2 * t) < 2 ^ 32 → ⊥
high c t le h =
    let parts : bit_xor (cond c generator_polynomial 0) (2 * t) / 2 ^ 33 ≡ 2 * t / 2 ^ 33 = xor_shr (cond c generator_polynomial 0) (2 * t) 33 ∙ rw (scaled_div c) (xor_zero_l (2 * t / 2 ^ 33)) in
    omega (arith, parts)

small_multiple : (cs : List Bool) → times_generator cs < 2 ^ 32 → times_generator cs ≡ 0
unfolding times_generator
small_multiple [] h = refl
small_multiple (c ∷ cs) h =
    elim (cases_lt (times_generator cs) (2 ^ 32)) [
      | inl lt ↦ low c (times_generator cs) (small_multiple cs lt) h
      | inr le ↦ absurd (high c (times_generator cs) le h)
    ]

-- ---- remainders

pub from_multiple : (p r : ℕ) → r < 2 ^ 32 → IsMultiple (bit_xor p r) → IsRemainder p r
from_multiple p r lt m = record { quotient = m.quotient; small = lt; sum = rw (← m.is, xor_comm p r, xor_comm (bit_xor r p) r) (sym (xor_cancel r p)) }

-- a polynomial has one remainder
pub one_remainder : (p r s : ℕ) → IsRemainder p r → IsRemainder p s → r ≡ s
one_remainder p r s a b =
    let q = times_generator a.quotient in
    let t = times_generator b.quotient in
    let same : bit_xor q r ≡ bit_xor t s = sym a.sum ∙ b.sum in
    let apart : bit_xor (bit_xor q t) (bit_xor r s) ≡ 0 = xor_swap q t r s ∙ rw same (xor_self (bit_xor t s)) in
    let equal : bit_xor q t ≡ bit_xor r s = sym (xor_zero_r (bit_xor q t)) ∙ ap (bit_xor (bit_xor q t)) (sym (xor_self (bit_xor r s))) ∙ sym (xor_assoc (bit_xor q t) (bit_xor r s) (bit_xor r s)) ∙ rw apart (xor_zero_l (bit_xor r s)) in
    let product : times_generator (sum_of a.quotient b.quotient) ≡ bit_xor r s = times-sum a.quotient b.quotient ∙ equal in
    let nothing : times_generator (sum_of a.quotient b.quotient) ≡ 0 = small_multiple (sum_of a.quotient b.quotient) (rw product (xor_lt 32 r s a.small b.small)) in
    let zero_sum : bit_xor r s ≡ 0 = sym product ∙ nothing in
    sym (xor_zero_r r) ∙ ap (bit_xor r) (sym zero_sum) ∙ xor_cancel r s

-- ---- bits

length-low_bits : (n x : ℕ) → length (low_bits n x) ≡ n
unfolding low_bits
length-low_bits zero x = refl
length-low_bits (suc n) x = ap suc (length-low_bits n (x / 2))

abbrev turned : ℕ → ℕ → ℕ
turned n x = polynomial (low_bits n x)

turned-suc : (n x : ℕ) → turned (suc n) x ≡ (x % 2) * 2 ^ n + turned n (x / 2)
unfolding polynomial low_bits
turned-suc n x = rw (length-low_bits n (x / 2)) refl

turned_lt : (n x : ℕ) → turned n x < 2 ^ n
unfolding polynomial low_bits
turned_lt zero x = omega arith
turned_lt (suc n) x =
    let ih = turned_lt n (x / 2) in
    let bit : x % 2 < 2 = omega arith in
    rw (turned-suc n x, pow-suc) (top (x % 2) (2 ^ n) (turned n (x / 2)) bit ih)
  where
    top : (b p t : ℕ) → b < 2 → t < p → b * p + t < p * 2
    top zero p t lt h = omega arith
    top (suc zero) p t lt h = omega arith
    top (suc (suc b)) p t lt h = absurd (omega arith)

turned-xor : (n x y : ℕ) → turned n (bit_xor x y) ≡ bit_xor (turned n x) (turned n y)
unfolding polynomial low_bits
turned-xor zero x y = refl
turned-xor (suc n) x y =
    rw (turned-suc n (bit_xor x y), turned-suc n x, turned-suc n y, xor_shr x y 1, xor_mod x y 1, turned-xor n (x / 2) (y / 2))
    (sym (xor_block n (x % 2) (y % 2) (turned n (x / 2)) (turned n (y / 2)) (turned_lt n (x / 2)) (turned_lt n (y / 2))))

-- a number of few bits is turned by its bits, and then shifted
turned-zero : (n : ℕ) → turned n 0 ≡ 0
unfolding polynomial low_bits
turned-zero zero = refl
turned-zero (suc n) = rw (turned-suc n 0, turned-zero n) (omega arith)

turned-more : (m n x : ℕ) → x < 2 ^ m → turned (m + n) x ≡ turned m x * 2 ^ n
unfolding polynomial low_bits
turned-more zero n x lt = let e : x ≡ 0 = omega arith in let f : zero + n ≡ n = omega arith in rw (f, e, turned-zero n) (omega arith)
turned-more (suc m) n x lt =
    let e : suc m + n ≡ suc (m + n) = omega arith in
    let p = pow-suc 2 m in
    let half : x / 2 < 2 ^ m = omega (arith, p) in
    rw (e, turned-suc (m + n) x, turned-suc m x, turned-more m n (x / 2) half, pow-add 2 m n) (spread (x % 2) (2 ^ m) (2 ^ n) (turned m (x / 2)))
  where
    spread : (b p q t : ℕ) → b * (p * q) + t * q ≡ (b * p + t) * q
    spread b p q t = grind arith

-- equal when turned, equal
turned_same : (n x y : ℕ) → x < 2 ^ n → y < 2 ^ n → turned n x ≡ turned n y → x ≡ y
unfolding polynomial low_bits
turned_same zero x y p q e = omega arith
turned_same (suc n) x y p q e =
    let w = pow-suc 2 n in
    let same : (x % 2 ≡ y % 2) × (turned n (x / 2) ≡ turned n (y / 2)) = same_from_place (x % 2) (turned n (x / 2)) (y % 2) (turned n (y / 2)) (2 ^ n) (turned_lt n (x / 2)) (turned_lt n (y / 2)) (sym (turned-suc n x) ∙ e ∙ turned-suc n y) in
    let halves : x / 2 ≡ y / 2 = turned_same n (x / 2) (y / 2) (omega (arith, w)) (omega (arith, w)) same.1 in
    omega (arith, same.0, halves)

-- ---- the checksum's steps

through : (a b c : ℕ) → IsMultiple (bit_xor a b) → IsMultiple (bit_xor b c) → IsMultiple (bit_xor a c)
through a b c p q =
    let e : bit_xor (bit_xor a b) (bit_xor b c) ≡ bit_xor a c = xor_assoc a b (bit_xor b c) ∙ ap (bit_xor a) (xor_cancel b c) in
    rw e at (both (bit_xor a b) (bit_xor b c) p q)

turned_mask : turned 32 0xedb88320 ≡ 0x04c11db7
unfolding polynomial low_bits
turned_mask = refl

doubled : (x : ℕ) → x < 2 ^ 32 → 2 * turned 32 x ≡ (x % 2) * 2 ^ 32 + turned 32 (x / 2)
doubled x lt =
    let whole = turned-suc 31 x in
    let half = turned-more 31 1 (x / 2) (omega arith) in
    omega (arith, whole, half)

one_step : (x : ℕ) (c : Bool) → x < 2 ^ 32 → eqb (x % 2) 1 ≡ c → IsMultiple (bit_xor (2 * turned 32 x) (turned 32 (cond c (bit_xor (x / 2) 0xedb88320) (x / 2))))
one_step x true lt e =
    let odd : x % 2 ≡ 1 = grind (arith, nat_tests) in
    let h = turned 32 (x / 2) in
    let sum : 2 * turned 32 x ≡ bit_xor h (2 ^ 32) = doubled x lt ∙ rw odd (sym (xor_shifted 1 32 h (turned_lt 32 (x / 2)))) ∙ xor_comm (2 ^ 32) h in
    rw (sum, turned-xor 32 (x / 2) 0xedb88320, turned_mask, xor_swap h (2 ^ 32) h 0x04c11db7, xor_self h) one
one_step x false lt e =
    let even : x % 2 ≡ 0 = grind (arith, nat_tests) in
    let sum : 2 * turned 32 x ≡ turned 32 (x / 2) = omega (arith, doubled x lt, even) in
    rw (sum, xor_self (turned 32 (x / 2))) none

next_bit_lt : (x : ℕ) → x < 2 ^ 32 → crc_after_bit x < 2 ^ 32
next_bit_lt x lt = by_test (eqb (x % 2) 1)
  where
    by_test : (c : Bool) → cond c (bit_xor (x / 2) 0xedb88320) (x / 2) < 2 ^ 32
    by_test true = xor_lt 32 (x / 2) 0xedb88320 (omega arith) (lit< tt)
    by_test false = omega arith

pub next_bits_lt : (n x : ℕ) → x < 2 ^ 32 → checksum_after_bits n x < 2 ^ 32
unfolding checksum_after_bits
next_bits_lt zero x lt = lt
next_bits_lt (suc n) x lt = next_bits_lt n (crc_after_bit x) (next_bit_lt x lt)

steps : (n x : ℕ) → x < 2 ^ 32 → IsMultiple (bit_xor (turned 32 x * 2 ^ n) (turned 32 (checksum_after_bits n x)))
unfolding checksum_after_bits
steps zero x lt = let e : turned 32 x * 2 ^ zero ≡ turned 32 x = omega arith in rw (e, xor_self (turned 32 x)) none
steps (suc n) x lt =
    let first = shifted (bit_xor (2 * turned 32 x) (turned 32 (crc_after_bit x))) n (one_step x (eqb (x % 2) 1) lt refl) in
    let moved = rw (xor-mul_pow (2 * turned 32 x) (turned 32 (crc_after_bit x)) n) at first in
    let e : turned 32 x * 2 ^ suc n ≡ 2 * turned 32 x * 2 ^ n = rw pow-suc (turn (turned 32 x) (2 ^ n)) in
    rw e (through (2 * turned 32 x * 2 ^ n) (turned 32 (crc_after_bit x) * 2 ^ n) (turned 32 (checksum_after_bits n (crc_after_bit x))) moved (steps n (crc_after_bit x) (next_bit_lt x lt)))
  where
    turn : (t p : ℕ) → t * (p * 2) ≡ 2 * t * p
    turn t p = omega arith

-- ---- the checksum's bytes

polynomial-append : (cs ds : List ℕ) → polynomial (cs ++ ds) ≡ polynomial cs * 2 ^ length ds + polynomial ds
unfolding polynomial
polynomial-append [] ds = omega arith
polynomial-append (c ∷ cs) ds =
    rw (length-append cs ds, pow-add 2 (length cs) (length ds), polynomial-append cs ds) (spread c (2 ^ length cs) (2 ^ length ds) (polynomial cs) (polynomial ds))
  where
    spread : (c p q s t : ℕ) → c * (p * q) + (s * q + t) ≡ (c * p + s) * q + t
    spread c p q s t = grind arith

length-message_polynomial : (bytes : List ℕ) → length (flat_map (low_bits 8) bytes) ≡ 8 * length bytes
length-message_polynomial [] = refl
length-message_polynomial (b ∷ bs) = omega (arith, length-append (low_bits 8 b) (flat_map (low_bits 8) bs), length-low_bits 8 b, length-message_polynomial bs)

message_polynomial-more : (b : ℕ) (bs : List ℕ) → message_polynomial (b ∷ bs) ≡ turned 8 b * 2 ^ (8 * length bs) + message_polynomial bs
message_polynomial-more b bs = polynomial-append (low_bits 8 b) (flat_map (low_bits 8) bs) ∙ rw (length-message_polynomial bs) refl

message_lt : (bytes : List ℕ) → message_polynomial bytes < 2 ^ (8 * length bytes)
unfolding polynomial
message_lt [] = omega arith
message_lt (b ∷ bs) =
    let e : 8 * length (b ∷ bs) ≡ 8 + 8 * length bs = omega arith in
    rw (message_polynomial-more b bs, e, pow-add 2 8 (8 * length bs), mul_comm (2 ^ 8) (2 ^ (8 * length bs))) (mul-add-lt (turned 8 b) (2 ^ (8 * length bs)) (message_polynomial bs) (2 ^ 8) (turned_lt 8 b) (message_lt bs))

abbrev dividend : ℕ → List ℕ → ℕ
dividend start bytes = bit_xor (message_polynomial bytes * 2 ^ 32) (turned 32 start * 2 ^ (8 * length bytes))

byte_step : (x b : ℕ) (bs : List ℕ) → x < 2 ^ 32 → b < 2 ^ 8 → IsMultiple (bit_xor (dividend x (b ∷ bs)) (dividend (checksum_after_bits 8 (bit_xor x b)) bs))
byte_step x b bs lt small =
    let k = 8 * length bs in
    let a = turned 8 b in
    let m = message_polynomial bs * 2 ^ 32 in
    let w = turned 32 x in
    let mixed = bit_xor x b in
    let mixed_lt : mixed < 2 ^ 32 = xor_lt 32 x b lt (omega arith) in
    let after = turned 32 (checksum_after_bits 8 mixed) in
    let len : 8 * length (b ∷ bs) ≡ 8 + k = omega arith in
    let front : message_polynomial (b ∷ bs) * 2 ^ 32 ≡ bit_xor (a * 2 ^ 24 * 2 ^ 8 * 2 ^ k) m =
    ap (λ (t : ℕ). t * 2 ^ 32) (message_polynomial-more b bs ∙ sym (xor_shifted a k (message_polynomial bs) (message_lt bs))) ∙ xor-mul_pow (a * 2 ^ k) (message_polynomial bs) 32 ∙ ap (λ (t : ℕ). bit_xor t m) (moved a (2 ^ k)) in
    let back : w * 2 ^ (8 * length (b ∷ bs)) ≡ w * 2 ^ 8 * 2 ^ k = rw (len, pow-add 2 8 k) (sym (mul_assoc w (2 ^ 8) (2 ^ k))) in
    let word_is : turned 32 mixed ≡ bit_xor (a * 2 ^ 24) w = turned-xor 32 x b ∙ xor_comm w (turned 32 b) ∙ ap (λ (t : ℕ). bit_xor t w) (turned-more 8 24 b small) in
    let joined : bit_xor (a * 2 ^ 24 * 2 ^ 8 * 2 ^ k) (w * 2 ^ 8 * 2 ^ k) ≡ turned 32 mixed * 2 ^ 8 * 2 ^ k =
    sym (rw (word_is, xor-mul_pow (a * 2 ^ 24) w 8) (xor-mul_pow (a * 2 ^ 24 * 2 ^ 8) (w * 2 ^ 8) k)) in
    let stepped = rw (xor-mul_pow (turned 32 mixed * 2 ^ 8) after k) at (shifted (bit_xor (turned 32 mixed * 2 ^ 8) after) k (steps 8 mixed mixed_lt)) in
    rw (front, back, regrouped (a * 2 ^ 24 * 2 ^ 8 * 2 ^ k) m (w * 2 ^ 8 * 2 ^ k) (after * 2 ^ k), joined) stepped
  where
    moved : (a p : ℕ) → a * p * 2 ^ 32 ≡ a * 2 ^ 24 * 2 ^ 8 * p
    moved a p = omega arith

    regrouped : (u m v t : ℕ) → bit_xor (bit_xor (bit_xor u m) v) (bit_xor m t) ≡ bit_xor (bit_xor u v) t
    regrouped u m v t = rw (xor_assoc u m v, xor_comm m v, ← xor_assoc u v m, xor_assoc (bit_xor u v) m (bit_xor m t), xor_cancel m t) refl

abbrev pub AreBytes : List ℕ → Type 0
AreBytes bytes = (i : ℕ) → get_or bytes i 0 < 2 ^ 8

pub are_bytes : (bytes : List ℕ) → All (λ b. b < 2 ^ 8) bytes → AreBytes bytes
are_bytes [] all i = omega arith
are_bytes (b ∷ bs) all zero = All-head (λ b. b < 2 ^ 8) b bs all
are_bytes (b ∷ bs) all (suc i) = are_bytes bs (All-tail (λ b. b < 2 ^ 8) b bs all) i

pub AreBytes-rest : (b : ℕ) (bs : List ℕ) → AreBytes (b ∷ bs) → AreBytes bs
AreBytes-rest b bs h i = h (suc i)

pub crc_lt : (x : ℕ) (bytes : List ℕ) → x < 2 ^ 32 → AreBytes bytes → crc_of x bytes < 2 ^ 32
unfolding crc_of
crc_lt x [] lt fits = lt
crc_lt x (b ∷ bs) lt fits = crc_lt (checksum_after_bits 8 (bit_xor x b)) bs (next_bits_lt 8 (bit_xor x b) (xor_lt 32 x b lt (omega (arith, fits 0)))) (AreBytes-rest b bs fits)

crc_multiple : (x : ℕ) (bytes : List ℕ) → x < 2 ^ 32 → AreBytes bytes → IsMultiple (bit_xor (dividend x bytes) (turned 32 (crc_of x bytes)))
unfolding crc_of polynomial
crc_multiple x [] lt fits =
    let e : turned 32 x * 2 ^ (8 * 0) ≡ turned 32 x = omega arith in
    rw (e, xor_self (turned 32 x)) none
crc_multiple x (b ∷ bs) lt fits =
    let mixed_lt : bit_xor x b < 2 ^ 32 = xor_lt 32 x b lt (omega (arith, fits 0)) in
    let next = checksum_after_bits 8 (bit_xor x b) in
    through (dividend x (b ∷ bs)) (dividend next bs) (turned 32 (crc_of next bs)) (byte_step x b bs lt (fits 0))
    (crc_multiple next bs (next_bits_lt 8 (bit_xor x b) mixed_lt) (AreBytes-rest b bs fits))

-- what is computed is the remainder
pub crc_is_remainder : (start : ℕ) (bytes : List ℕ) → start < 2 ^ 32 → AreBytes bytes → IsCrcFrom start bytes (crc_of start bytes)
crc_is_remainder start bytes lt fits = from_multiple (dividend start bytes) (turned 32 (crc_of start bytes)) (turned_lt 32 (crc_of start bytes)) (crc_multiple start bytes lt fits)

-- and nothing else is
pub one_checksum : (start : ℕ) (bytes : List ℕ) (x y : ℕ) → x < 2 ^ 32 → y < 2 ^ 32 → IsCrcFrom start bytes x → IsCrcFrom start bytes y → x ≡ y
one_checksum start bytes x y p q a b = turned_same 32 x y p q (one_remainder (dividend start bytes) (turned 32 x) (turned 32 y) a b)

-- ---- the checksum of parts

pub crc-append : (start : ℕ) (xs ys : List ℕ) → crc_of start (xs ++ ys) ≡ crc_of (crc_of start xs) ys
unfolding crc_of
crc-append start [] ys = refl
crc-append start (x ∷ xs) ys = crc-append (checksum_after_bits 8 (bit_xor start x)) xs ys

-- one more byte of those that are left
pub crc-drop : (x i : ℕ) (bytes : List ℕ) → i < length bytes → crc_of x (drop i bytes) ≡ crc_of (checksum_after_bits 8 (bit_xor x (get_or bytes i 0))) (drop (i + 1) bytes)
unfolding crc_of
crc-drop x i bytes lt = rw (add-one, drop-cons bytes i 0) refl
