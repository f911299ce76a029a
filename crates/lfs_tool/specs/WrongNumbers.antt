-- The numbers of a superblock by its offset in an image's bytes, whatever the image's blocks contain.
use Rattle.std.specs.Prelude.{false, true, ℕ, ◌≡◌, ◌≢◌, ◌⊎◌, ◌+◌, ◌/◌, ◌<◌, ◌≤◌, ◌++◌, List, bit_xor, length, slice_range}
use Rattle.byteorder.specs.Endian.{big_bytes}
use Rattle.lfs_model.specs.declared.limits.AcceptedVersions.{AcceptedVersions}
use Rattle.lfs_model.specs.tree.View.{accepts_version, superblock_entry}
use Rattle.lfs_model.specs.format.EntryTypes.{SuperblockFields, inline_struct_type, superblock_fields}
use Rattle.lfs_model.specs.format.Tag.{make_tag}
use Rattle.lfs_tag.specs.FieldsView.{superblock_view}
use Rattle.lfs_tag.specs.declared.fields.Superblock.{Superblock}
use Rattle.lfs_tool.specs.declared.verdict.WrongNumber.{WrongNumber}
use Rattle.lfs_tool.specs.declared.verdict.WrongNumber.TheVariants as stated

-- the field has this value, which is another size or number of blocks, or a version that isn't accepted
abbrev pub IsWrongField : ℕ → ℕ → AcceptedVersions → SuperblockFields → WrongNumber → Type 0
IsWrongField block_size count versions fields (stated.BlockSize n) = (fields.block_size ≡ n) × (n ≢ block_size)
IsWrongField block_size count versions fields (stated.BlockCount n) = (fields.block_count ≡ n) × (n ≢ count)
IsWrongField block_size count versions fields (stated.Version n) = (fields.version ≡ n) × (accepts_version versions n ≡ false)

-- the fields are blocks of that size, so many of them, and an accepted version
pub record AreFieldsRight (block_size count : ℕ) (versions : AcceptedVersions) (fields : SuperblockFields) : Type 0 where
  pub same_size : fields.block_size ≡ block_size
  pub same_count : fields.block_count ≡ count
  pub version : accepts_version versions fields.version ≡ true

-- the tag of a superblock's struct: an inline struct of 24 bytes, for slot 0
abbrev pub superblock_struct_tag : ℕ
superblock_struct_tag = make_tag inline_struct_type 0 24

-- the stored bytes of the superblock's name, as the first entry of a log, and of the tag of its struct behind it
abbrev pub superblock_name_entry : List ℕ
superblock_name_entry = big_bytes 4 (bit_xor superblock_entry.tag 0xffffffff) ++ superblock_entry.bytes ++ big_bytes 4 (bit_xor superblock_struct_tag superblock_entry.tag)

-- A block at that offset begins with a superblock: its name and its struct are behind the revision.
pub record IsSuperblockAt (bytes : List ℕ) (from : ℕ) (fields : SuperblockFields) : Type 0 where
  pub inside : from + 44 ≤ length bytes
  pub tags : slice_range bytes (from + 4) (from + 20) ≡ superblock_name_entry
  pub struct : superblock_fields (slice_range bytes (from + 20) (from + 44)) ≡ fields

-- block 0 begins with that superblock, or block 1 if blocks have the size that it states
abbrev pub IsFirstSuperblock : List ℕ → Superblock → Type 0
IsFirstSuperblock bytes s = (from : ℕ) × (((from ≡ 0) ⊎ (from ≡ s.block_size)) × IsSuperblockAt bytes from (superblock_view s))

-- a number in the superblock of block 0 or 1 is wrong for these bytes, with blocks of that size
pub record HasWrongSuperblockField (bytes : List ℕ) (block_size : ℕ) (versions : AcceptedVersions) (stated : WrongNumber) : Type 0 where
  pub sized : 0 < block_size
  pub from : ℕ
  pub block : (from ≡ 0) ⊎ (from ≡ block_size)
  pub fields : SuperblockFields
  pub stands : IsSuperblockAt bytes from fields
  pub unlike : IsWrongField block_size (length bytes / block_size) versions fields stated

-- no number in the superblock of block 0 or 1 is wrong
abbrev pub SuperblocksAreRight : List ℕ → ℕ → AcceptedVersions → Type 0
SuperblocksAreRight bytes block_size versions = (stated : WrongNumber) → ¬ HasWrongSuperblockField bytes block_size versions stated
