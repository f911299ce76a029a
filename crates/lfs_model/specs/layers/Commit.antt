-- The encoding of a commit: whole pages, with the checksum at the end.
use Rattle.std.specs.Prelude.{ℕ, ◌+◌, nat_lt, if◌then◌else◌, List, [], ◌∷◌, ◌++◌, length, take, drop, slice_index, sum_by, bit_xor, Option, Some, None}
use Rattle.std.specs.Int.{next_multiple_of}
use Rattle.byteorder.specs.Endian.{big_bytes}
use Rattle.lfs_model.specs.format.Tag.{tag_for_next_xor}
use Rattle.lfs_model.specs.format.Log.{LogEntry}

-- The bytes of the entries: each tag XORed with the previous one, followed by its data. The first
-- tag is XORed with `before`.
abbrev pub encoded_entries : ℕ → List LogEntry → List ℕ
encoded_entries before [] = []
encoded_entries before (e ∷ es) = big_bytes 4 (bit_xor e.tag before) ++ e.bytes ++ encoded_entries (tag_for_next_xor e.tag) es

-- The number of bytes of the encoded entries, including their tags.
abbrev pub encoded_size : List LogEntry → ℕ
encoded_size es = sum_by (λ e. 4 + length e.bytes) es

-- The offset of the end of a commit whose checksum tag is at `at`: the first page boundary that
-- leaves space for this tag and four bytes of checksum.
abbrev pub aligned_commit_end : ℕ → ℕ → ℕ
aligned_commit_end page at = next_multiple_of (at + 8) page

-- The four bytes of a block from the offset `at` on, or `None` if there are fewer.
abbrev pub four_bytes_at : List ℕ → ℕ → Option (List ℕ)
four_bytes_at block at = if nat_lt (length block) (at + 4) then None else Some (take 4 (drop at block))

-- The type of a checksum, by the four bytes that follow it in the block, if there are any. They
-- must decode as an invalid tag: 0x501 inverts the top bit of that tag, 0x500 doesn't.
abbrev pub checksum_type : Option (List ℕ) → ℕ
checksum_type None = 0x500
checksum_type (Some next) = if nat_lt (slice_index next 0) 0x80 then 0x501 else 0x500
