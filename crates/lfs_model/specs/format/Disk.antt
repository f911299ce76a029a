-- A disk: the bytes of a device with their geometry, order of names and profile.
use Rattle.std.specs.Prelude.{ℕ, ◌≡◌, ◌≤◌, ◌-◌, ◌/◌, ◌%◌, min, max, List, length}
use Rattle.lfs_model.specs.format.Blocks.{Blocks, block_bytes, cut}
use Rattle.lfs_model.specs.declared.order.NameOrder.{NameOrder}
use Rattle.lfs_model.specs.declared.order.NameOrder.TheVariants.{LongerFirst}
use Rattle.lfs_model.specs.declared.limits.AcceptedVersions.TheVariants.{OnlyTwoZero}
use Rattle.lfs_model.specs.declared.limits.Profile.{Profile}
use Rattle.lfs_model.specs.format.Geometry.{IsValidGeometry}
use Rattle.lfs_model.specs.format.Names.{name_limit}
use Rattle.lfs_model.specs.format.Tag.{tag_data_limit}

pub record Disk : Type 0 where
  pub block_size : ℕ
  pub page : ℕ
  -- The order of the names in the directories.
  pub order : NameOrder
  -- Which images are accepted, and what may be written.
  pub profile : Profile
  pub blocks : Blocks

abbrev pub block_count : Disk → ℕ
block_count disk = length disk.blocks

abbrev pub disk_block : Disk → ℕ → List ℕ
disk_block disk b = block_bytes disk.blocks b

-- The disk with `order` as its order of names.
abbrev pub disk_with_order : NameOrder → Disk → Disk
disk_with_order order disk = record disk { order = order }

-- A disk whose order of names isn't known yet. Until then, it has littlefs's order, `LongerFirst`.
abbrev pub longer_first_disk : ℕ → ℕ → Profile → Blocks → Disk
longer_first_disk block_size page profile blocks = record { block_size = block_size; page = page; order = LongerFirst; profile = profile; blocks = blocks }

-- The disks have the same block size, page size, number of blocks, order of names and profile.
pub record SameGeometry (disk new : Disk) : Type 0 where
  pub block_size : new.block_size ≡ disk.block_size
  pub page : new.page ≡ disk.page
  pub order : new.order ≡ disk.order
  pub profile : new.profile ≡ disk.profile
  pub count : block_count new ≡ block_count disk

-- The bytes are an image of a device: a whole number of blocks, in a valid geometry.
pub record IsWholeImage (block_size page : ℕ) (bytes : List ℕ) : Type 0 where
  pub geometry : IsValidGeometry block_size page (length bytes / block_size)
  pub whole : length bytes % block_size ≡ 0

-- The disk with the bytes of an image.
abbrev pub disk_of_image : ℕ → ℕ → Profile → NameOrder → List ℕ → Disk
disk_of_image block_size page profile order bytes = record { block_size = block_size; page = page; order = order; profile = profile; blocks = cut block_size (length bytes / block_size) bytes }

-- The size of the largest file that is kept inline, in bytes: an eighth of a block, but at most
-- `inline_max` and `tag_data_limit`.
abbrev pub inline_limit : Profile → ℕ → ℕ
inline_limit profile block_size = min profile.inline_max (min (block_size / 8) tag_data_limit)

-- The largest size of a struct in bytes: `inline_limit`, but at least the 8 bytes of a CTZ struct
-- or a directory struct.
abbrev pub struct_max : Profile → ℕ → ℕ
struct_max profile block_size = max 8 (inline_limit profile block_size)

-- The number of bytes in a written pair that its slots may use. The rest of the block is for the
-- revision count (4), a tail (12), a move state (16), a checksum (8) and the padding to a page
-- (page - 1).
abbrev pub pair_capacity : ℕ → ℕ → ℕ
pair_capacity block_size page = block_size - 39 - page

-- The largest `reserved_entry_size` of an entry that is written: half the capacity of a pair.
abbrev pub half_pair_capacity : ℕ → ℕ → ℕ
half_pair_capacity block_size page = pair_capacity block_size page / 2

-- The largest number of slots in a pair that is written.
abbrev pub slots_limit : ℕ
slots_limit = 1000

-- The largest size of a file in any image, in bytes.
abbrev pub file_size_limit : ℕ
file_size_limit = 2147483647

-- The largest size of a user attribute in any image, in bytes.
abbrev pub attribute_limit : ℕ
attribute_limit = 1022

-- ---- the limits for writing

-- The largest length of a name that may be written, in bytes. A profile can only lower the limit of
-- the format.
abbrev pub profile_name_max : Profile → ℕ
profile_name_max profile = min profile.name_max name_limit

-- The largest size of a file that may be written, in bytes.
abbrev pub profile_file_max : Profile → ℕ
profile_file_max profile = min profile.file_max file_size_limit

-- The largest size of a user attribute that may be written, in bytes.
abbrev pub profile_attr_max : Profile → ℕ
profile_attr_max profile = min profile.attr_max attribute_limit

-- Version 2.0 only, and littlefs's limits. No metadata pair is relocated for wear leveling.
abbrev pub default_profile : Profile
default_profile = record { versions = OnlyTwoZero; name_max = 255; file_max = 2147483647; attr_max = 1022; inline_max = 1022; pair_cycles = 0; search_seed = 0 }

-- No limit of the profile is 0 or greater than the limit of the format.
pub record AreValidLimits (profile : Profile) : Type 0 where
  pub some_name : 1 ≤ profile.name_max
  pub name : profile.name_max ≤ name_limit
  pub some_file : 1 ≤ profile.file_max
  pub file : profile.file_max ≤ file_size_limit
  pub some_attr : 1 ≤ profile.attr_max
  pub attr : profile.attr_max ≤ attribute_limit
  pub some_inline : 1 ≤ profile.inline_max
  pub inline : profile.inline_max ≤ tag_data_limit
