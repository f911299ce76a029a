-- The log of a block: its longest sequence of valid commits.
use Rattle.std.specs.Prelude.{◌≡◌, ℕ, zero, suc, ◌+◌, ◌-◌, ◌^◌, ◌==◌, ◌&&◌, ◌||◌, nat_lt, nat_le, if◌then◌else◌, Bool, true, false, List, [], ◌∷◌, length, take, drop, slice_range, bit_xor, Option, Some, None}
use Rattle.std.specs.Option.{option_map, option_map_or, option_and_then}
use Rattle.std.specs.List.{flat_map}
use Rattle.byteorder.specs.Endian.{big_number, little_number}
use Rattle.lfs_model.specs.format.Tag.{tag_type, tag_length, tag_data_size, is_commit_end, tag_for_next_xor, tag_data_limit}
use Rattle.lfs_model.specs.format.Crc.{crc_of}

-- A tag and its data.
pub record LogEntry : Type 0 where
  pub tag : ℕ
  pub bytes : List ℕ

-- The tag at the offset `at`, XORed with `before`, the value of the previous tag.
abbrev pub tag_at : List ℕ → ℕ → ℕ → ℕ
tag_at block at before = bit_xor (big_number 4 (drop at block)) before

-- The entry at the offset `at`, or `None` if its tag isn't valid or the entry doesn't fit in the
-- block.
unfoldable pub entry_at : List ℕ → ℕ → ℕ → Option LogEntry
entry_at block at before =
    if nat_lt (length block) (at + 4) || (nat_le (2 ^ 31) (tag_at block at before) || nat_lt (length block) (at + 4 + tag_data_size (tag_at block at before)))
    then None
    else Some (record { tag = tag_at block at before; bytes = take (tag_data_size (tag_at block at before)) (drop (at + 4) block) })

-- The offset at which the entry `e` ends if it begins at `at`.
abbrev pub entry_end : ℕ → LogEntry → ℕ
entry_end at e = at + 4 + length e.bytes

abbrev pub is_checksum_entry : LogEntry → Bool
is_checksum_entry e = is_commit_end e.tag

-- True if the entry `e`, at the offset `at`, is a valid checksum of the commit that begins at
-- `start`.
unfoldable pub closes : List ℕ → ℕ → ℕ → LogEntry → Bool
closes block start at e =
    (tag_type e.tag == 0x500 || tag_type e.tag == 0x501) && (nat_le 4 (tag_length e.tag) && (nat_le (tag_length e.tag) tag_data_limit
    && (little_number 4 e.bytes == crc_of 0xffffffff (slice_range block start (at + 4)))))

-- ---- as relations

-- The entries are those of a valid commit that begins at `start`, from the offset `at` on. The
-- first tag is decoded with `before`. The commit ends at `end`, and the next tag is decoded with
-- `last`.
abbrev pub IsCommit : List ℕ → ℕ → ℕ → ℕ → List LogEntry → ℕ → ℕ → Type 0
IsCommit block start at before [] end last = ⊥
IsCommit block start at before (e ∷ []) end last =
    (entry_at block at before ≡ Some e) × (is_checksum_entry e ≡ true) × (closes block start at e ≡ true) × (end ≡ entry_end at e) × (last ≡ tag_for_next_xor e.tag)
IsCommit block start at before (e ∷ f ∷ es) end last =
    (entry_at block at before ≡ Some e) × (is_checksum_entry e ≡ false) × IsCommit block start (entry_end at e) e.tag (f ∷ es) end last

-- The commits are valid, and each begins where the previous one ends. The first begins at `start`,
-- and its first entry is at the offset `at`. The last one ends at `end`. The first tag is decoded
-- with `before`, and the tag after the last commit with `last`.
abbrev pub AreAdjacentCommits : List ℕ → ℕ → ℕ → ℕ → List (List LogEntry) → ℕ → ℕ → Type 0
AreAdjacentCommits block start at before [] end last = (end ≡ at) × (last ≡ before)
AreAdjacentCommits block start at before (c ∷ cs) end last =
    (mid : ℕ) × (carry : ℕ) × IsCommit block start at before c mid carry × AreAdjacentCommits block mid mid carry cs end last

-- The commits are valid and follow one another from the beginning of the block. The first entry is
-- at the offset 4, after the revision count.
abbrev pub AreCommits : List ℕ → List (List LogEntry) → ℕ → ℕ → Type 0
AreCommits block commits end last = AreAdjacentCommits block 0 4 0xffffffff commits end last

-- ---- as computations

-- A valid commit: its entries, the offset of its end, and the value with which the next tag is
-- decoded.
pub record Commit : Type 0 where
  pub entries : List LogEntry
  pub end : ℕ
  pub last : ℕ

-- Valid commits in a row: the entries of each, the offset of the last one's end, and the value with
-- which the next tag is decoded.
pub record CommitSequence : Type 0 where
  pub commits : List (List LogEntry)
  pub end : ℕ
  pub last : ℕ

abbrev pub with_entry : LogEntry → Commit → Commit
with_entry e c = record { entries = e ∷ c.entries; end = c.end; last = c.last }

abbrev pub with_commit : List LogEntry → CommitSequence → CommitSequence
with_commit es c = record { commits = es ∷ c.commits; end = c.end; last = c.last }

-- The commit that begins at `start`, from its entry at the offset `at` on, or `None` if there is no
-- valid one with at most the given number of entries.
unfoldable pub bounded_commit_at : ℕ → List ℕ → ℕ → ℕ → ℕ → Option Commit
bounded_commit_at zero block start at before = None
bounded_commit_at (suc n) block start at before =
    option_and_then (λ e.
    if is_checksum_entry e
    then (if closes block start at e then Some (record { entries = e ∷ []; end = entry_end at e; last = tag_for_next_xor e.tag }) else None)
    else option_map (with_entry e) (bounded_commit_at n block start (entry_end at e) e.tag)) (entry_at block at before)

-- The commit that begins at `start`, from its entry at the offset `at` on, or `None` if there is no
-- valid one.
abbrev pub commit_at : List ℕ → ℕ → ℕ → ℕ → Option Commit
commit_at block start at before = bounded_commit_at (length block - at) block start at before

-- The given sequence, or for `None` an empty one that ends at `at`.
abbrev pub sequence_or_empty : ℕ → ℕ → Option CommitSequence → CommitSequence
sequence_or_empty at before None = record { commits = []; end = at; last = before }
sequence_or_empty at before (Some c) = c

-- The longest sequence of valid commits that begins at `start`, with at most the given number of
-- commits.
unfoldable pub bounded_commit_sequence : ℕ → List ℕ → ℕ → ℕ → ℕ → CommitSequence
bounded_commit_sequence zero block start at before = record { commits = []; end = at; last = before }
bounded_commit_sequence (suc n) block start at before =
    sequence_or_empty at before (option_map (λ c. with_commit c.entries (bounded_commit_sequence n block c.end c.end c.last)) (commit_at block start at before))

-- The longest sequence of valid commits that begins at `start`, with its first entry at the offset
-- `at`.
abbrev pub longest_sequence : List ℕ → ℕ → ℕ → ℕ → CommitSequence
longest_sequence block start at before = bounded_commit_sequence (length block - at) block start at before

-- The log of a block.
unfoldable pub chain_of : List ℕ → CommitSequence
chain_of block = longest_sequence block 0 4 0xffffffff

-- The revision count of a block, or 0 if the block has fewer than four bytes.
abbrev pub block_revision : List ℕ → ℕ
block_revision block = if nat_lt (length block) 4 then 0 else little_number 4 block

-- The revision count and the commits of a block that has at least one commit.
pub record BlockLog : Type 0 where
  pub revision : ℕ
  pub commits : List (List LogEntry)

-- The revision count with the commits, or `None` if there are no commits.
abbrev pub log_if_committed : ℕ → List (List LogEntry) → Option BlockLog
log_if_committed revision [] = None
log_if_committed revision (c ∷ cs) = Some (record { revision = revision; commits = c ∷ cs })

-- The revision count and the commits of a block, or `None` if it has no commit.
abbrev pub block_log : List ℕ → Option BlockLog
block_log block = log_if_committed (block_revision block) (chain_of block).commits

-- The entries of all commits of a block, in order.
abbrev pub block_entries : List ℕ → List LogEntry
block_entries block = flat_map (λ c. c) (chain_of block).commits

-- ---- entries from one offset to another

-- The entries follow one another from the offset `at` to `end`. The first tag is decoded with
-- `before`, and the tag after the last entry with `last`.
abbrev pub AreEntriesBetween : List ℕ → ℕ → ℕ → List LogEntry → ℕ → ℕ → Type 0
AreEntriesBetween block at before [] end last = (at ≡ end) × (before ≡ last)
AreEntriesBetween block at before (e ∷ es) end last = (entry_at block at before ≡ Some e) × AreEntriesBetween block (entry_end at e) (tag_for_next_xor e.tag) es end last

-- The entries from the offset `at` up to `end`, at most the given number of them.
unfoldable pub entries_within : ℕ → List ℕ → ℕ → ℕ → ℕ → List LogEntry
entries_within zero block at before end = []
entries_within (suc n) block at before end =
    if nat_lt at end then option_map_or (λ e. e ∷ entries_within n block (entry_end at e) (tag_for_next_xor e.tag) end) (entry_at block at before) [] else []

-- The entries from the offset `at` up to `end`.
abbrev pub entries_between : List ℕ → ℕ → ℕ → ℕ → List LogEntry
entries_between block at before end = entries_within (end - at) block at before end
