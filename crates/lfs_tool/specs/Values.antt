-- The values of numbers and flags.
use Rattle.std.specs.Prelude.{◌∷◌, [], Bool, List, Option, Some, None, ℕ, false, codes, is_some, if◌then◌else◌, unwrap_or}
use Rattle.std.specs.Str.{bytes_eq}
use Rattle.clap.specs.Words.{Kinds, Row, Text, first_of, one_of}
use Rattle.clap.specs.declared.error.ErrorKind.TheVariants.{ValueValidation}
use Rattle.lfs_tool.specs.Numbers.{number_in_text, u32_or_none}

-- the number of a text, if it is given
abbrev pub given_number : Option Text → Option ℕ
given_number None = None
given_number (Some text) = u32_or_none (number_in_text text)

abbrev pub number_in_rows : Text → List Row → Option ℕ
number_in_rows id rows = given_number (first_of id rows)

-- the text that is given, if it is no number
abbrev pub text_unless_number : Option Text → Option Text
text_unless_number None = None
text_unless_number (Some text) = if is_some (u32_or_none (number_in_text text)) then None else Some text

-- the text of an option that has to be a number, if it isn't one
abbrev pub bad_option_number : Text → List Row → Option Text
bad_option_number id rows = text_unless_number (first_of id rows)

-- the first of two texts, if it is given, else the second
abbrev pub first_present_text : Option Text → Option Text → Option Text
first_present_text None next = next
first_present_text (Some text) next = Some text

-- the first option's text that is no number
abbrev pub first_bad_number : List Text → List Row → Option Text
first_bad_number [] rows = None
first_bad_number (id ∷ ids) rows = first_present_text (bad_option_number id rows) (first_bad_number ids rows)

-- the text is `auto`
abbrev pub is_auto_text : Option Text → Bool
is_auto_text None = false
is_auto_text (Some text) = bytes_eq text (codes "auto")

-- the option is `auto`: its number is that of the superblock, or the least that suffices for the folder
abbrev pub is_option_auto : Text → List Row → Bool
is_option_auto id rows = is_auto_text (first_of id rows)

-- the text of an option that has to be a number or `auto`, if it is neither
abbrev pub bad_option_size : Text → List Row → Option Text
bad_option_size id rows = if is_option_auto id rows then None else bad_option_number id rows

-- the options whose text has to be a number, behind those for sizes
abbrev pub numeric_option_names : List Text
numeric_option_names = codes "offset" ∷ codes "name-max" ∷ codes "file-max" ∷ codes "attr-max" ∷ codes "inline-max" ∷ codes "pair-cycles" ∷ codes "spare" ∷ []

-- the first option's text that has to be a number and is none
abbrev pub first_bad_text : List Row → Option Text
first_bad_text rows = first_present_text (bad_option_size (codes "block") rows)
    (first_present_text (bad_option_number (codes "page") rows)
    (first_present_text (bad_option_size (codes "size") rows) (first_bad_number numeric_option_names rows)))

-- the error of a text that is no number; empty if there is no such text
abbrev pub number_errors : List Row → Kinds
number_errors rows = if is_some (first_bad_text rows) then ValueValidation ∷ [] else []

-- the flag's text, which clap gives as true or false
abbrev pub is_true : Option Text → Bool
is_true None = false
is_true (Some text) = bytes_eq text (codes "true")

-- the value of a flag
abbrev pub flag_in_rows : Text → List Row → Bool
flag_in_rows id rows = is_true (one_of id rows)

-- the number of an option, or `other` if it isn't given
abbrev pub number_or : ℕ → Text → List Row → ℕ
number_or other id rows = unwrap_or (number_in_rows id rows) other
