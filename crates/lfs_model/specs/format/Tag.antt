-- A tag is a 32-bit number: a valid bit (0 means valid), an 11-bit type, a 10-bit id and a 10-bit
-- length.
use Rattle.std.specs.Prelude.{ℕ, ◌+◌, ◌*◌, ◌/◌, ◌%◌, ◌^◌, ◌<◌, ◌==◌, ◌&&◌, not, nat_le, if◌then◌else◌, Bool, bit_xor}

-- The valid bit of `tag` is 0, which means that the tag is valid.
abbrev pub IsValidTag : ℕ → Type 0
IsValidTag tag = tag < 2 ^ 31

-- The 11-bit type of a tag (type3 in SPEC.md).
abbrev pub tag_type : ℕ → ℕ
tag_type tag = tag / 2 ^ 20 % 2 ^ 11

abbrev pub tag_id : ℕ → ℕ
tag_id tag = tag / 2 ^ 10 % 2 ^ 10

abbrev pub tag_length : ℕ → ℕ
tag_length tag = tag % 2 ^ 10

-- The upper three bits of a tag's type (type1 in SPEC.md).
abbrev pub tag_class : ℕ → ℕ
tag_class tag = tag_type tag / 2 ^ 8

-- The lower eight bits of a tag's type (the chunk in SPEC.md).
abbrev pub tag_chunk : ℕ → ℕ
tag_chunk tag = tag_type tag % 2 ^ 8

-- The length in a tag that removes a user attribute. No data has this length.
abbrev pub removal_length : ℕ
removal_length = 0x3ff

-- The largest number of data bytes after a tag.
abbrev pub tag_data_limit : ℕ
tag_data_limit = 1022

-- The number of data bytes after a tag: 0 if its length is `removal_length`.
abbrev pub tag_data_size : ℕ → ℕ
tag_data_size tag = if tag_length tag == removal_length then 0 else tag_length tag

-- The valid tag with the type `kind`, the id `id` and the length `len`.
abbrev pub make_tag : ℕ → ℕ → ℕ → ℕ
make_tag kind id len = kind * 2 ^ 20 + id * 2 ^ 10 + len

-- The type of a forward checksum (FCRC), which on-disk version 2.1 introduced.
abbrev pub forward_checksum_type : ℕ
forward_checksum_type = 0x5ff

-- True for a forward checksum of any length but `removal_length`. Its entry has no effect.
abbrev pub is_forward_checksum : ℕ → Bool
is_forward_checksum tag = tag_type tag == forward_checksum_type && nat_le (tag_length tag) tag_data_limit

-- True for any tag of class 5 but a forward checksum. Its entry ends the commit, or makes it
-- invalid.
abbrev pub is_commit_end : ℕ → Bool
is_commit_end tag = tag_class tag == 5 && not (is_forward_checksum tag)

-- The value that the next stored tag is XORed with. It is `tag`, with the top bit inverted if `tag`
-- ends a commit and the lowest bit of its chunk is set.
abbrev pub tag_for_next_xor : ℕ → ℕ
tag_for_next_xor tag = if is_commit_end tag then bit_xor tag (tag_chunk tag % 2 * 2 ^ 31) else tag
