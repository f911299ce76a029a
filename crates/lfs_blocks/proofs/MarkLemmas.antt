-- The state of a block, by its two bits.
use Rattle.std.proofs.Common.{◌≡◌, ◌≢◌, ℕ, ◌+◌, ◌-◌, ◌*◌, ◌%◌, ◌^◌, ◌<◌, ◌≤◌, max, bit_and, bit_or, sym, ap, ◌∙◌, ⊎_elim, arith, w64}
use Rattle.std.proofs.lemmas.Bool.{cases_lt}
use Rattle.std.specs.Int.{bit_at, bit_not, trailing_ones}
use Rattle.std.proofs.lemmas.Nat.Bits.{and_pow, bit_at-lt, bit_at_or, bit_at_ones, bit_at_ones_above, bit_at-trailing_ones, bit_at_set_same, bit_at_set_other, bit_at_clear_other}
use Rattle.std.proofs.lemmas.Nat.{one_shl, or_lt, pow_below, pow_pos}
use mir.Val.{bits}
use Rattle.lfs_model.specs.layers.BlockSets.BlockState.{Free, InFlight, Used}
use Rattle.lfs_blocks.specs.declared.marks.Marks.{Marks}
use Rattle.lfs_blocks.specs.Marks.{state_at_bit}

masked : (n k : ℕ) → k < 64 → bit_and n (1 * 2 ^ k % 2 ^ 64) ≡ bit_at n k * 2 ^ k
masked n k lt = ap (bit_and n) (one_shl k 64 lt) ∙ and_pow n k

one_of : (n k : ℕ) → bit_at n k ≢ 0 → bit_at n k ≡ 1
one_of n k other = let below = bit_at-lt n k in omega arith

zero_of : (b p : ℕ) → b < 2 → 0 < p → b * p ≡ 0 → b ≡ 0
zero_of b p two positive none = grind arith

none_of : (n k : ℕ) → bit_at n k ≢ 1 → bit_at n k ≡ 0
none_of n k other = let below = bit_at-lt n k in omega arith

-- what the test `n & (1 << k) != 0` says
pub bit_at-tested : (n k : ℕ) → k < 64 → bit_and n (1 * 2 ^ k % 2 ^ 64) ≢ 0 → bit_at n k ≡ 1
bit_at-tested n k lt some =
    one_of n k (λ none. some (masked n k lt ∙ ap (λ b. b * 2 ^ k) none ∙ omega arith))

pub bit_at-tested_none : (n k : ℕ) → k < 64 → bit_and n (1 * 2 ^ k % 2 ^ 64) ≡ 0 → bit_at n k ≡ 0
bit_at-tested_none n k lt none =
    zero_of (bit_at n k) (2 ^ k) (bit_at-lt n k) (pow_pos k) (sym (masked n k lt) ∙ none)

-- the state by the bits
pub state_at_bit-used : (m : Marks) (k : ℕ) → bit_at m.used k ≡ 1 → state_at_bit m k ≡ Used
state_at_bit-used m k used = rw used

pub state_at_bit-in_flight : (m : Marks) (k : ℕ) → bit_at m.used k ≡ 0 → bit_at m.in_flight k ≡ 1 → state_at_bit m k ≡ InFlight
state_at_bit-in_flight m k used flying = rw (used, flying)

pub state_at_bit-free : (m : Marks) (k : ℕ) → bit_at m.used k ≡ 0 → bit_at m.in_flight k ≡ 0 → state_at_bit m k ≡ Free
state_at_bit-free m k used flying = rw (used, flying)

-- two marks with the same bits
pub state_at_bit-same : (m n : Marks) (k : ℕ) → bit_at m.used k ≡ bit_at n.used k → bit_at m.in_flight k ≡ bit_at n.in_flight k → state_at_bit m k ≡ state_at_bit n k
state_at_bit-same m n k used flying = rw (used, flying)

-- a free block has neither bit
pub bits-free : (m : Marks) (k : ℕ) → state_at_bit m k ≡ Free → (bit_at m.used k ≡ 0) × (bit_at m.in_flight k ≡ 0)
bits-free m k free =
    let used : bit_at m.used k ≡ 0 = none_of m.used k (λ one. let e = state_at_bit-used m k one in cc) in
    (used, none_of m.in_flight k (λ one. let e = state_at_bit-in_flight m k used one in cc))

-- a bit is set after it was cleared: it is there, and the others are as they were
pub bit_at-put_same : (n k : ℕ) → k < 64 → bit_at (bit_or (bit_and n (bit_not w64 (1 * 2 ^ k % 2 ^ bits w64))) (1 * 2 ^ k % 2 ^ bits w64)) k ≡ 1
bit_at-put_same n k lt = bit_at_set_same w64 (bit_and n (bit_not w64 (1 * 2 ^ k % 2 ^ bits w64))) k lt

pub bit_at-put_other : (n k other : ℕ) → k < 64 → other < 64 → other ≢ k → bit_at (bit_or (bit_and n (bit_not w64 (1 * 2 ^ k % 2 ^ bits w64))) (1 * 2 ^ k % 2 ^ bits w64)) other ≡ bit_at n other
bit_at-put_other n k other lt within ne =
    bit_at_set_other w64 (bit_and n (bit_not w64 (1 * 2 ^ k % 2 ^ bits w64))) k lt other ne
    ∙ bit_at_clear_other w64 n k lt other within ne

-- ---- the first bit that is 0 in both words, from a place on

abbrev pub taken_by : Marks → ℕ → ℕ
taken_by m start = bit_or (bit_or m.used m.in_flight) (1 * 2 ^ start % 2 ^ bits w64 - 1)

bit_at-taken : (m : Marks) (start place : ℕ) → start < 64 → bit_at (taken_by m start) place ≡ max (max (bit_at m.used place) (bit_at m.in_flight place)) (bit_at (2 ^ start - 1) place)
bit_at-taken m start place lt =
    bit_at_or (bit_or m.used m.in_flight) (1 * 2 ^ start % 2 ^ bits w64 - 1) place
    ∙ ap (λ b. max b (bit_at (1 * 2 ^ start % 2 ^ bits w64 - 1) place)) (bit_at_or m.used m.in_flight place)
    ∙ ap (λ p. max (max (bit_at m.used place) (bit_at m.in_flight place)) (bit_at (p - 1) place)) (one_shl start 64 lt)

-- a place before the start is taken
taken_before : (m : Marks) (start place : ℕ) → start < 64 → place < start → bit_at (taken_by m start) place ≢ 0
taken_before m start place lt before none =
    absurd (omega (arith, bit_at-taken m start place lt, bit_at_ones start place before, none))

-- from the start on, it is taken where one of the words has the bit
taken_from : (m : Marks) (start place : ℕ) → start < 64 → start ≤ place → bit_at (taken_by m start) place ≡ max (bit_at m.used place) (bit_at m.in_flight place)
taken_from m start place lt from = omega (arith, bit_at-taken m start place lt, bit_at_ones_above start place from)

pub start_le : (m : Marks) (start place : ℕ) → start < 64 → bit_at (taken_by m start) place ≡ 0 → start ≤ place
start_le m start place lt none =
    ⊎_elim (λ before. absurd (taken_before m start place lt before none)) (λ from. from) (cases_lt place start)

pub Free-untaken : (m : Marks) (start place : ℕ) → start < 64 → bit_at (taken_by m start) place ≡ 0 → state_at_bit m place ≡ Free
Free-untaken m start place lt none =
    let from = taken_from m start place lt (start_le m start place lt none) in
    state_at_bit-free m place (omega (arith, from, none)) (omega (arith, from, none))

pub taken-not_free : (m : Marks) (start place : ℕ) → start < 64 → start ≤ place → bit_at (taken_by m start) place ≡ 1 → state_at_bit m place ≢ Free
taken-not_free m start place lt from one free =
    let clear = bits-free m place free in
    absurd (omega (arith, taken_from m start place lt from, one, clear.0, clear.1))

-- all are taken
pub not_free-from_full : (m : Marks) (start place : ℕ) → start < 64 → taken_by m start ≡ 2 ^ 64 - 1 → start ≤ place → place < 64 → state_at_bit m place ≢ Free
not_free-from_full m start place lt full from within =
    taken-not_free m start place lt from (ap (λ n. bit_at n place) full ∙ bit_at_ones 64 place within)

-- what the lowest 0 is
pub record IsFirstFree (m : Marks) (start found : ℕ) : Type 0 where
  pub free : state_at_bit m found ≡ Free
  pub within : (start ≤ found) × (found < 64)
  pub first : (place : ℕ) → start ≤ place → place < found → state_at_bit m place ≢ Free

taken_below : (m : Marks) (start : ℕ) → m.used < 2 ^ 64 → m.in_flight < 2 ^ 64 → start < 64 → taken_by m start < 2 ^ 64
taken_below m start used flying lt =
    or_lt 64 (bit_or m.used m.in_flight) (1 * 2 ^ start % 2 ^ bits w64 - 1) (or_lt 64 m.used m.in_flight used flying)
    (omega (arith, one_shl start 64 lt, pow_below start 64 lt))

pub IsFirstFree-trailing_ones : (m : Marks) (start : ℕ) → m.used < 2 ^ 64 → m.in_flight < 2 ^ 64 → start < 64 → taken_by m start ≢ 2 ^ 64 - 1 → IsFirstFree m start (trailing_ones w64 (taken_by m start))
IsFirstFree-trailing_ones m start used flying lt some =
    let below : taken_by m start + 1 < 2 ^ 64 = omega (arith, taken_below m start used flying lt, some) in
    let lowest = bit_at-trailing_ones w64 (taken_by m start) below in
    record {
      free = Free-untaken m start (trailing_ones w64 (taken_by m start)) lt lowest.1;
      within = (start_le m start (trailing_ones w64 (taken_by m start)) lt lowest.1, lowest.0);
      first = λ place from before. taken-not_free m start place lt from (lowest.2 place before);
    }
