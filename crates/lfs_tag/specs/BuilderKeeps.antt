-- The bytes of a commit before its checksum, and how the fields of a builder describe them.
use Rattle.std.specs.Prelude.{◌≡◌, ◌<◌, ◌≤◌, ℕ, ◌^◌, ◌-◌, true, false, List, [], ◌∷◌, ◌++◌, length, take, min, bit_xor, Option, Some, None, IfSome}
use Rattle.byteorder.specs.Endian.{little_bytes}
use Rattle.lfs_model.specs.format.Tag.{IsValidTag, tag_data_size, tag_for_next_xor}
use Rattle.lfs_model.specs.format.Log.{LogEntry, is_checksum_entry}
use Rattle.lfs_model.specs.layers.Commit.{encoded_entries}
use Rattle.lfs_model.specs.format.Geometry.{is_valid_page_size}
use Rattle.lfs_tag.specs.Builder.{PartialCommit, checksum_start}

-- The tag that the tag after these entries is XORed with.
abbrev pub carried_tag : ℕ → List LogEntry → ℕ
carried_tag before [] = before
carried_tag before (e ∷ es) = carried_tag (tag_for_next_xor e.tag) es

-- The bytes of the revision count, if there is one.
abbrev pub revision_bytes : Option ℕ → List ℕ
revision_bytes None = []
revision_bytes (Some revision) = little_bytes 4 revision

-- All bytes of the commit before its checksum's tag.
abbrev pub checksummed_bytes : PartialCommit → List ℕ
checksummed_bytes b = revision_bytes b.revision ++ encoded_entries b.previous b.entries

-- The entry isn't a checksum, and reading it back returns the same entry.
pub record IsStorableEntry (before : ℕ) (e : LogEntry) : Type 0 where
  pub valid : IsValidTag e.tag
  pub other : is_checksum_entry e ≡ false
  pub size : length e.bytes ≡ tag_data_size e.tag
  pub fits : bit_xor e.tag before < 2 ^ 32

-- All of these entries can be stored and read back.
abbrev pub AreStorableEntries : ℕ → List LogEntry → Type 0
AreStorableEntries before [] = Unit {0}
AreStorableEntries before (e ∷ es) = IsStorableEntry before e × AreStorableEntries (tag_for_next_xor e.tag) es

-- The fields of a builder describe the commit: its length, even if that exceeds the buffer, its
-- last tag, and its bytes if they fit.
pub record BuildsCommit (page len last : ℕ) (buf : List ℕ) (b : PartialCommit) : Type 0 where
  pub page_is : page ≡ b.page
  pub power : is_valid_page_size b.page ≡ true
  pub room : length buf ≡ b.room
  pub len_is : len ≡ min (checksum_start b) (2 ^ 64 - 1)
  pub last_is : last ≡ carried_tag b.previous b.entries
  pub revision : IfSome b.revision (λ r. r < 2 ^ 32)
  pub entries : AreStorableEntries b.previous b.entries
  pub bytes : len ≤ length buf → take len buf ≡ checksummed_bytes b
