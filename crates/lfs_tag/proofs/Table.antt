-- A table of the results of eight steps for each byte.
use Rattle.std.proofs.Common.{◌≡◌, ℕ, zero, suc, ◌+◌, ◌*◌, ◌/◌, ◌%◌, ◌^◌, ◌<◌, Bool, true, false, ◌&&◌, cond, eqb, List, [], ◌∷◌, length, get_or, refl, sym, ap, ◌∙◌, arith, zero-add}
use Rattle.lfs_tag.proofs.Common.{bit_xor, xor_zero_r, xor_shifted, xor_assoc, eqb-true, xor_comm, xor_shr, xor_mod, crc_after_bit}
use Rattle.std.proofs.Math.Nat.{pow-suc}
use Rattle.lfs_model.specs.format.Crc.{checksum_after_bits}
use Rattle.lfs_tag.specs.declared.crc_table.TheConstants.{AFTER}

-- the lowest bit alone decides what is mixed in, and the others move down
crc_after_bit-xor : (x y : ℕ) → y % 2 ≡ 0 → crc_after_bit (bit_xor x y) ≡ bit_xor (crc_after_bit x) (y / 2)
crc_after_bit-xor x y even =
    let low : bit_xor x y % 2 ≡ x % 2 = xor_mod x y 1 ∙ rw even (xor_zero_r (x % 2)) in
    rw (low, xor_shr x y 1) (by_test (eqb (x % 2) 1) (x / 2) (y / 2))
  where
    by_test : (c : Bool) (a b : ℕ) → cond c (bit_xor (bit_xor a b) 0xedb88320) (bit_xor a b) ≡ bit_xor (cond c (bit_xor a 0xedb88320) a) b
    by_test true a b = xor_assoc a b 0xedb88320 ∙ ap (bit_xor a) (xor_comm b 0xedb88320) ∙ sym (xor_assoc a 0xedb88320 b)
    by_test false a b = refl

pub checksum_after_bits-xor : (n x a : ℕ) → checksum_after_bits n (bit_xor x (a * 2 ^ n)) ≡ bit_xor (checksum_after_bits n x) a
unfolding checksum_after_bits
checksum_after_bits-xor zero x a = let e : a * 2 ^ 0 ≡ a = omega arith in rw e refl
checksum_after_bits-xor (suc n) x a =
    let e : a * 2 ^ suc n ≡ a * 2 ^ n * 2 = rw pow-suc (omega arith) in
    let even : a * 2 ^ suc n % 2 ≡ 0 = omega (arith, e) in
    let half : a * 2 ^ suc n / 2 ≡ a * 2 ^ n = omega (arith, e) in
    rw (crc_after_bit-xor x (a * 2 ^ suc n) even, half) (checksum_after_bits-xor n (crc_after_bit x) a)

-- eight steps by the lowest byte
pub by_low_byte : (x : ℕ) → checksum_after_bits 8 x ≡ bit_xor (x / 256) (checksum_after_bits 8 (x % 256))
by_low_byte x =
    let split : bit_xor (x % 256) (x / 256 * 2 ^ 8) ≡ x = xor_comm (x % 256) (x / 256 * 2 ^ 8) ∙ xor_shifted (x / 256) 8 (x % 256) (omega arith) ∙ omega arith in
    ap (checksum_after_bits 8) (sym split) ∙ checksum_after_bits-xor 8 (x % 256) (x / 256) ∙ xor_comm (checksum_after_bits 8 (x % 256)) (x / 256)

-- the number for the byte i % 256 in the row i / 256
abbrev entry : ℕ → ℕ
entry i = checksum_after_bits (8 * (i / 256 + 1)) (i % 256)

abbrev is_table : ℕ → List ℕ → Bool
is_table i [] = true
is_table i (x ∷ xs) = eqb x (entry i) && is_table (suc i) xs

the_table : is_table 0 AFTER ≡ true
unfolding checksum_after_bits
the_table = refl

and_true : (a b : Bool) → (a && b) ≡ true → (a ≡ true) × (b ≡ true)
and_true true true e = (refl, refl)
and_true true false e = absurd cc
and_true false b e = absurd cc

table_at : (xs : List ℕ) (i k : ℕ) → is_table i xs ≡ true → k < length xs → get_or xs k 0 ≡ entry (i + k)
table_at [] i k e lt = absurd (omega arith)
table_at (x ∷ xs) i zero e lt = let f : i + zero ≡ i = omega arith in rw f (eqb-true x (entry i) (and_true (eqb x (entry i)) (is_table (suc i) xs) e).0)
table_at (x ∷ xs) i (suc k) e lt = let f : i + suc k ≡ suc i + k = omega arith in rw f (table_at xs (suc i) k (and_true (eqb x (entry i)) (is_table (suc i) xs) e).1 (omega arith))

pub in_table : (row byte : ℕ) → row < 8 → byte < 256 → get_or AFTER (row * 256 + byte) 0 ≡ checksum_after_bits (8 * (row + 1)) byte
in_table row byte lt small =
    let place : row * 256 + byte < 2048 = omega arith in
    let high : (row * 256 + byte) / 256 ≡ row = omega arith in
    let low : (row * 256 + byte) % 256 ≡ byte = omega arith in
    table_at AFTER 0 (row * 256 + byte) the_table place ∙ rw (zero-add (row * 256 + byte), high, low) refl
