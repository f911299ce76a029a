-- The number of a text, such as 4096, 0x1000, 4k or 1.5M.
use Rattle.std.specs.Prelude.{◌+◌, ◌-◌, ◌*◌, ◌/◌, ◌%◌, ◌^◌, ◌==◌, ◌&&◌, ◌||◌, ◌++◌, ◌∷◌, [], ℕ, Bool, List, Option, Some, None, if◌then◌else◌, nat_lt, option_map, length, take, drop, position, slice_index}
use Rattle.std.specs.Char.{digit_value}

-- the number, if it has 32 bits
abbrev pub u32_or_none : Option ℕ → Option ℕ
u32_or_none None = None
u32_or_none (Some n) = if nat_lt n (2 ^ 32) then Some n else None

-- the number of these digits, behind those of n
abbrev pub append_digits : ℕ → ℕ → List ℕ → Option ℕ
append_digits radix n [] = Some n
append_digits radix n (c ∷ cs) = if nat_lt (digit_value c) radix then append_digits radix (n * radix + digit_value c) cs else None

-- the number of one or more digits
abbrev pub number_of_digits : ℕ → List ℕ → Option ℕ
number_of_digits radix [] = None
number_of_digits radix (c ∷ cs) = append_digits radix 0 (c ∷ cs)

-- the number with a minus before it: only 0 may have one
abbrev pub zero_or_none : Option ℕ → Option ℕ
zero_or_none None = None
zero_or_none (Some n) = if n == 0 then Some n else None

-- the number of decimal digits, with a sign or without one
abbrev pub decimal_number : List ℕ → Option ℕ
decimal_number text =
    if slice_index text 0 == 43 then number_of_digits 10 (drop 1 text)
    else (if slice_index text 0 == 45 then zero_or_none (number_of_digits 10 (drop 1 text))
    else number_of_digits 10 text)

-- the size in bytes of a unit: k or K, and m or M
abbrev pub bytes_of_unit : ℕ → Option ℕ
bytes_of_unit letter =
    if letter == 107 || letter == 75 then Some 1024
    else (if letter == 109 || letter == 77 then Some 1048576 else None)

-- the bytes of n parts, of which a unit has `parts`, if they are a whole number of bytes
abbrev pub unit_fraction_bytes : ℕ → ℕ → Option ℕ → Option ℕ
unit_fraction_bytes unit parts None = None
unit_fraction_bytes unit parts (Some n) = if (n * unit) % parts == 0 then Some (n * unit / parts) else None

-- the number of the digits before and behind a point: 1.25 of a unit is 125 of its hundred parts
abbrev pub fractional_number : ℕ → List ℕ → List ℕ → Option ℕ
fractional_number unit [] fraction = None
fractional_number unit (c ∷ cs) [] = None
fractional_number unit (c ∷ cs) (d ∷ ds) = unit_fraction_bytes unit (10 ^ length (d ∷ ds)) (number_of_digits 10 ((c ∷ cs) ++ (d ∷ ds)))

-- the number of the text before a unit's letter, whose first point is at this index
abbrev pub number_by_point : ℕ → List ℕ → Option ℕ → Option ℕ
number_by_point unit text None = option_map (λ n. n * unit) (number_of_digits 10 text)
number_by_point unit text (Some i) = fractional_number unit (take i text) (drop (i + 1) text)

-- the number of a text whose last letter is that of this unit, or of none
abbrev pub number_by_unit : List ℕ → Option ℕ → Option ℕ
number_by_unit text None = decimal_number text
number_by_unit text (Some unit) = let front = take (length text - 1) text in number_by_point unit front (position (λ c. c == 46) front)

-- the text begins with 0x or 0X
abbrev pub is_hex : List ℕ → Bool
is_hex text = slice_index text 0 == 48 && (slice_index text 1 == 120 || slice_index text 1 == 88)

-- the number of a text
unfoldable pub number_in_text : List ℕ → Option ℕ
number_in_text text =
    if is_hex text then number_of_digits 16 (drop 2 text)
    else number_by_unit text (bytes_of_unit (slice_index text (length text - 1)))
