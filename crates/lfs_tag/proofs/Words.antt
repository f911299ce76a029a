-- The checksum's steps over a word at once.
use Rattle.std.proofs.Common.{◌≡◌, ℕ, zero, suc, ◌+◌, ◌*◌, ◌/◌, ◌%◌, ◌^◌, ◌<◌, ◌≤◌, List, ◌∷◌, length, take, drop, get_or, refl, sym, ap, ◌∙◌, arith, zero-add, drop-cons, inl, inr, ◌⊎◌}
use Rattle.lfs_tag.proofs.Common.{bit_xor, xor_zero_r, xor_shifted, xor_assoc, cases_lt, xor_comm, xor_shr, xor_mod, crc_after_bit, AreBytes}
use Rattle.byteorder.specs.Endian.{little_from}
use Rattle.lfs_model.specs.format.Crc.{checksum_after_bits, crc_of}
use Rattle.lfs_model.proofs.Checksums.{xor_swap}
use Rattle.lfs_tag.proofs.Table.{by_low_byte, checksum_after_bits-xor}

-- ---- the steps are linear

crc_after_bit-sum : (x y : ℕ) → crc_after_bit (bit_xor x y) ≡ bit_xor (crc_after_bit x) (crc_after_bit y)
crc_after_bit-sum x y = by_low (low_cases x) (low_cases y)
  where
    low_cases : (n : ℕ) → (n % 2 ≡ 0) ⊎ (n % 2 ≡ 1)
    low_cases n = elim (cases_lt (n % 2) 1) [
      | inl lt ↦ inl (omega arith)
      | inr le ↦ inr (omega arith)
    ]

    by_low : ((x % 2 ≡ 0) ⊎ (x % 2 ≡ 1)) → ((y % 2 ≡ 0) ⊎ (y % 2 ≡ 1)) → crc_after_bit (bit_xor x y) ≡ bit_xor (crc_after_bit x) (crc_after_bit y)
    by_low (inl a) (inl b) = let low : bit_xor x y % 2 ≡ 0 = xor_mod x y 1 ∙ rw (a, b) refl in rw (low, a, b, xor_shr x y 1) refl
    by_low (inl a) (inr b) = let low : bit_xor x y % 2 ≡ 1 = xor_mod x y 1 ∙ rw (a, b) refl in rw (low, a, b, xor_shr x y 1) (xor_assoc (x / 2) (y / 2) 0xedb88320)
    by_low (inr a) (inl b) = let low : bit_xor x y % 2 ≡ 1 = xor_mod x y 1 ∙ rw (a, b) refl in
        rw (low, a, b, xor_shr x y 1) (xor_assoc (x / 2) (y / 2) 0xedb88320 ∙ ap (bit_xor (x / 2)) (xor_comm (y / 2) 0xedb88320) ∙ sym (xor_assoc (x / 2) 0xedb88320 (y / 2)))
    by_low (inr a) (inr b) = let low : bit_xor x y % 2 ≡ 0 = xor_mod x y 1 ∙ rw (a, b) refl in
        rw (low, a, b, xor_shr x y 1) (sym (xor_swap (x / 2) 0xedb88320 (y / 2) 0xedb88320 ∙ xor_zero_r (bit_xor (x / 2) (y / 2))))

pub checksum_after_bits-sum : (n x y : ℕ) → checksum_after_bits n (bit_xor x y) ≡ bit_xor (checksum_after_bits n x) (checksum_after_bits n y)
unfolding checksum_after_bits
checksum_after_bits-sum zero x y = refl
checksum_after_bits-sum (suc n) x y = rw (crc_after_bit-sum x y) (checksum_after_bits-sum n (crc_after_bit x) (crc_after_bit y))

pub checksum_after_bits-append : (m n x : ℕ) → checksum_after_bits (m + n) x ≡ checksum_after_bits n (checksum_after_bits m x)
unfolding checksum_after_bits
checksum_after_bits-append zero n x = rw (zero-add n) refl
checksum_after_bits-append (suc m) n x = let e : suc m + n ≡ suc (m + n) = omega arith in rw e (checksum_after_bits-append m n (crc_after_bit x))

-- ---- a word by its bytes

-- the lowest byte apart from the others
low_apart : (m x : ℕ) → checksum_after_bits (m + 8) x ≡ bit_xor (checksum_after_bits (m + 8) (x % 256)) (checksum_after_bits m (x / 256))
low_apart m x =
    let order : m + 8 ≡ 8 + m = omega arith in
    rw order (checksum_after_bits-append 8 m x ∙ ap (checksum_after_bits m) (by_low_byte x) ∙ checksum_after_bits-sum m (x / 256) (checksum_after_bits 8 (x % 256))
    ∙ ap (bit_xor (checksum_after_bits m (x / 256))) (sym (checksum_after_bits-append 8 m (x % 256))) ∙ xor_comm (checksum_after_bits m (x / 256)) (checksum_after_bits (8 + m) (x % 256)))

pub word_apart : (m x : ℕ) → x < 2 ^ 32
    → checksum_after_bits (m + 32) x ≡ bit_xor (bit_xor (bit_xor (checksum_after_bits (m + 32) (x % 256)) (checksum_after_bits (m + 24) (x / 2 ^ 8 % 256))) (checksum_after_bits (m + 16) (x / 2 ^ 16 % 256))) (checksum_after_bits (m + 8) (x / 2 ^ 24))
word_apart m x lt =
    let a : checksum_after_bits (m + 32) x ≡ bit_xor (checksum_after_bits (m + 32) (x % 256)) (checksum_after_bits (m + 24) (x / 2 ^ 8)) = (let e : m + 24 + 8 ≡ m + 32 = omega arith in rw e at (low_apart (m + 24) x)) in
    let b : checksum_after_bits (m + 24) (x / 2 ^ 8) ≡ bit_xor (checksum_after_bits (m + 24) (x / 2 ^ 8 % 256)) (checksum_after_bits (m + 16) (x / 2 ^ 8 / 256)) = (let e : m + 16 + 8 ≡ m + 24 = omega arith in rw e at (low_apart (m + 16) (x / 2 ^ 8))) in
    let c : checksum_after_bits (m + 16) (x / 2 ^ 16) ≡ bit_xor (checksum_after_bits (m + 16) (x / 2 ^ 16 % 256)) (checksum_after_bits (m + 8) (x / 2 ^ 16 / 256)) = (let e : m + 8 + 8 ≡ m + 16 = omega arith in rw e at (low_apart (m + 8) (x / 2 ^ 16))) in
    let second : x / 2 ^ 8 / 256 ≡ x / 2 ^ 16 = omega arith in
    let third : x / 2 ^ 16 / 256 ≡ x / 2 ^ 24 = omega arith in
    let first = checksum_after_bits (m + 32) (x % 256) in
    a ∙ ap (bit_xor first) (b ∙ rw second (ap (bit_xor (checksum_after_bits (m + 24) (x / 2 ^ 8 % 256))) (c ∙ rw third refl)))
    ∙ sym (xor_assoc first (checksum_after_bits (m + 24) (x / 2 ^ 8 % 256)) _) ∙ sym (xor_assoc _ (checksum_after_bits (m + 16) (x / 2 ^ 16 % 256)) _)

-- ---- bytes by the number that they are

pub crc-number : (sum i n : ℕ) (bytes : List ℕ) → AreBytes bytes → i + n ≤ length bytes → crc_of sum (take n (drop i bytes)) ≡ checksum_after_bits (8 * n) (bit_xor sum (little_from i n bytes))
unfolding crc_of checksum_after_bits
crc-number sum i zero bytes are le = sym (xor_zero_r sum)
crc-number sum i (suc n) bytes are le =
    let b = get_or bytes i 0 in
    let rest = little_from (suc i) n bytes in
    let small : b < 2 ^ 8 = are i in
    let there : i < length bytes = omega arith in
    let front : take (suc n) (drop i bytes) ≡ b ∷ take n (drop (suc i) bytes) = rw (drop-cons bytes i 0) refl in
    let count : 8 * suc n ≡ 8 + 8 * n = omega arith in
    let number : b + 256 * rest ≡ bit_xor b (rest * 2 ^ 8) = sym (xor_comm b (rest * 2 ^ 8) ∙ xor_shifted rest 8 b small ∙ omega arith) in
    rw (front, count, number) (crc-number (checksum_after_bits 8 (bit_xor sum b)) (suc i) n bytes are (omega arith)
    ∙ ap (checksum_after_bits (8 * n)) (sym (checksum_after_bits-xor 8 (bit_xor sum b) rest) ∙ ap (checksum_after_bits 8) (xor_assoc sum b (rest * 2 ^ 8)))
    ∙ sym (checksum_after_bits-append 8 (8 * n) (bit_xor sum (bit_xor b (rest * 2 ^ 8)))))
