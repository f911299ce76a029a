-- The CRC-32 as a remainder of polynomials over GF(2). A polynomial is a number whose bit k is the
-- coefficient of the power k: a sum is an exclusive or, and multiplication by the power k is
-- multiplication by 2 ^ k.
use Rattle.std.specs.Prelude.{◌≡◌, ℕ, zero, suc, ◌+◌, ◌*◌, ◌/◌, ◌%◌, ◌^◌, ◌<◌, ◌==◌, Bool, List, [], ◌∷◌, length, bit_xor, if◌then◌else◌}
use Rattle.std.specs.List.{flat_map}

-- The generator 0x04c11db7 with its highest power, 32, which that notation leaves out.
abbrev pub generator_polynomial : ℕ
generator_polynomial = 0x104c11db7

-- The lowest bits of `x`, the given number of them, the lowest bit first.
unfoldable pub low_bits : ℕ → ℕ → List ℕ
low_bits zero x = []
low_bits (suc n) x = (x % 2) ∷ low_bits n (x / 2)

-- The polynomial with the given coefficients, the coefficient of the highest power first.
unfoldable pub polynomial : List ℕ → ℕ
polynomial [] = 0
polynomial (c ∷ cs) = c * 2 ^ length cs + polynomial cs

-- The product of the generator and the polynomial with the given coefficients, the coefficient of
-- the lowest power first.
unfoldable pub times_generator : List Bool → ℕ
times_generator [] = 0
times_generator (c ∷ cs) = bit_xor (if c then generator_polynomial else 0) (2 * times_generator cs)

-- `r` is the remainder of `p` divided by the generator.
pub record IsRemainder (p r : ℕ) : Type 0 where
  pub quotient : List Bool
  pub small : r < 2 ^ 32
  pub sum : p ≡ bit_xor (times_generator quotient) r

-- The polynomial whose coefficients, from the highest power down, are the bits of `bytes`, the
-- lowest bit of each byte first.
abbrev pub message_polynomial : List ℕ → ℕ
message_polynomial bytes = polynomial (flat_map (low_bits 8) bytes)

-- The checksum `x` as a polynomial: its lowest bit is the coefficient of the power 31.
abbrev pub checksum_as_polynomial : ℕ → ℕ
checksum_as_polynomial x = polynomial (low_bits 32 x)

-- `result` is the checksum of `bytes`, computed from the initial value `start`.
abbrev pub IsCrcFrom : ℕ → List ℕ → ℕ → Type 0
IsCrcFrom start bytes result =
    IsRemainder (bit_xor (message_polynomial bytes * 2 ^ 32) (checksum_as_polynomial start * 2 ^ (8 * length bytes))) (checksum_as_polynomial result)

-- ---- as a computation

-- The checksum `x` shifted right by one bit, and XORed with the bit-reversed generator if the bit
-- shifted out is 1.
abbrev pub crc_after_bit : ℕ → ℕ
crc_after_bit x = if x % 2 == 1 then bit_xor (x / 2) 0xedb88320 else x / 2

-- The checksum `x` after the given number of steps of `crc_after_bit`.
unfoldable pub checksum_after_bits : ℕ → ℕ → ℕ
checksum_after_bits zero x = x
checksum_after_bits (suc n) x = checksum_after_bits n (crc_after_bit x)

-- The checksum of bytes, computed from the initial value `start`. To continue a checksum, let
-- `start` be the checksum of the bytes before them.
unfoldable pub crc_of : ℕ → List ℕ → ℕ
crc_of start [] = start
crc_of start (b ∷ bs) = crc_of (checksum_after_bits 8 (bit_xor start b)) bs
