-- A commit being built in a buffer, and the block's log once the pages of the commit are
-- programmed.
use Rattle.std.specs.Prelude.{◌≡◌, ◌<◌, ◌≤◌, ℕ, ◌+◌, ◌-◌, List, [], ◌∷◌, ◌++◌, length, drop, replicate, Option, Some, None, unwrap_or}
use Rattle.lfs_model.specs.format.Tag.{tag_class, make_tag, tag_for_next_xor}
use Rattle.lfs_model.specs.format.Log.{LogEntry, chain_of, block_revision}
use Rattle.lfs_model.specs.layers.Commit.{encoded_size, aligned_commit_end, four_bytes_at, checksum_type}
use Rattle.lfs_model.specs.format.EntryTypes.{no_id}
use Rattle.lfs_model.specs.format.Blocks.{overwritten_at}

-- A commit with its entries so far, in a buffer of `room` bytes. The first tag is stored XORed with
-- `previous`. Only the first commit of a block has a revision count.
pub record PartialCommit : Type 0 where
  pub page : ℕ
  pub room : ℕ
  pub previous : ℕ
  pub revision : Option ℕ
  pub entries : List LogEntry

-- The commit with one more entry.
abbrev pub commit_adding_entry : LogEntry → PartialCommit → PartialCommit
commit_adding_entry e b = record b { entries = b.entries ++ e ∷ [] }

-- The buffer offset of the first entry, after the revision count if there is one.
abbrev pub entries_start : Option ℕ → ℕ
entries_start None = 0
entries_start (Some revision) = 4

-- The buffer offset of the checksum's tag.
abbrev pub checksum_start : PartialCommit → ℕ
checksum_start b = entries_start b.revision + encoded_size b.entries

-- The buffer offset of the commit's end, padded to whole pages.
abbrev pub padded_commit_end : PartialCommit → ℕ
padded_commit_end b = aligned_commit_end b.page (checksum_start b)

-- ---- the checksum's entry

-- The tag of the checksum. The bytes `next`, which follow the commit in the block, determine its
-- type.
abbrev pub checksum_tag : PartialCommit → Option (List ℕ) → ℕ
checksum_tag b next = make_tag (checksum_type next) no_id (padded_commit_end b - checksum_start b - 4)

-- The checksum as an entry, whose bytes are the checksum and the padding.
abbrev pub checksum_entry : PartialCommit → Option (List ℕ) → List ℕ → LogEntry
checksum_entry b next pages = record { tag = checksum_tag b next; bytes = drop (checksum_start b + 4) pages }

-- ---- the log

-- A commit goes to the offset `at` of its block: 0 for the first commit, otherwise the end of the
-- log. Its first tag is XORed with `previous`: 0xffffffff for the first commit, otherwise the log's
-- last tag.
abbrev pub IsCommitOffset : Option ℕ → ℕ → List ℕ → ℕ → Type 0
IsCommitOffset None previous block at = (0 < length (chain_of block).commits) × (at ≡ (chain_of block).end) × (previous ≡ (chain_of block).last)
IsCommitOffset (Some revision) previous block at = (at ≡ 0) × (previous ≡ 0xffffffff)

-- The commits of the block before this one: none if this one is the first.
abbrev pub earlier_commits : Option ℕ → List ℕ → List (List LogEntry)
earlier_commits None block = (chain_of block).commits
earlier_commits (Some revision) block = []

-- These pages hold the commit, provided that the bytes `next` follow them in the block. The log
-- then has its earlier commits, and this one as the last.
pub record AreCommitPages (b : PartialCommit) (next : Option (List ℕ)) (pages : List ℕ) : Type 0 where
  pub log : (block : List ℕ) (at : ℕ) → IsCommitOffset b.revision b.previous block at → at + length pages ≤ length block → four_bytes_at block (at + length pages) ≡ next
      → chain_of (overwritten_at block at pages) ≡ record {
        commits = earlier_commits b.revision block ++ (b.entries ++ checksum_entry b next pages ∷ []) ∷ [];
        end = at + length pages;
        last = tag_for_next_xor (checksum_tag b next);
      }
  pub revision : (block : List ℕ) (at : ℕ) → IsCommitOffset b.revision b.previous block at → at + length pages ≤ length block
      → block_revision (overwritten_at block at pages) ≡ unwrap_or b.revision (block_revision block)
  pub class : tag_class (checksum_tag b next) ≡ 5
  pub padding : drop (checksum_start b + 8) pages ≡ replicate (padded_commit_end b - (checksum_start b + 8)) 0xff
