-- The writing profile: which images may be written to.
use Rattle.std.specs.Prelude.{ℕ, ◌≡◌, ◌≢◌, ◌≤◌, ◌&&◌, nat_le, if◌then◌else◌, Bool, true, false, List, [], ◌∷◌, length, slice_get, Option, Some, None, All}
use Rattle.std.specs.Option.{option_and_then}
use Rattle.lfs_model.specs.declared.limits.Profile.{Profile}
use Rattle.lfs_model.specs.format.Disk.{Disk, inline_limit, half_pair_capacity, file_size_limit, attribute_limit, profile_name_max, profile_file_max, profile_attr_max}
use Rattle.lfs_model.specs.format.Names.{name_limit}
use Rattle.lfs_model.specs.format.Slots.{Slot, Struct, Inline, Ctz, Branch, is_superblock, reserved_entry_size, FitsInPair}
use Rattle.lfs_model.specs.format.EntryTypes.{SuperblockFields, superblock_fields}
use Rattle.lfs_model.specs.format.Thread.{Pair, is_hard_tail, pairs_from_root}
use Rattle.lfs_model.specs.tree.View.{IsAccepted, first_pair_slots}

-- ---- the writing profile

-- An inline struct has at most `limit` bytes. Any other struct fits.
abbrev pub InlineBytesFit : ℕ → Struct → Type 0
InlineBytesFit limit (Inline bytes) = length bytes ≤ limit
InlineBytesFit limit (Ctz head size) = Unit {0}
InlineBytesFit limit (Branch to) = Unit {0}

-- The inline struct of the superblock `s` has the limits of the profile.
abbrev pub HasLimitsOfProfile : Profile → Slot → Type 0
HasLimitsOfProfile profile s = (bytes : List ℕ) × ((s.struct ≡ Inline bytes)
    × ((superblock_fields bytes).name_max ≡ profile_name_max profile) × ((superblock_fields bytes).file_max ≡ profile_file_max profile) × ((superblock_fields bytes).attr_max ≡ profile_attr_max profile))

-- The charge of the entry and its inline bytes are within the limits for writing.
pub record IsWritableEntry (profile : Profile) (block_size page : ℕ) (s : Slot) : Type 0 where
  pub charge : reserved_entry_size profile block_size s.name s.attributes ≤ half_pair_capacity block_size page
  pub inline : InlineBytesFit (inline_limit profile block_size) s.struct

-- If the slot is a superblock, it has the limits of the profile. Otherwise, it is within the limits
-- for writing.
abbrev pub IsWritableSlot : Profile → ℕ → ℕ → Slot → Type 0
IsWritableSlot profile block_size page s = (is_superblock s ≡ true → HasLimitsOfProfile profile s) × (is_superblock s ≡ false → IsWritableEntry profile block_size page s)

-- Each pair that a hard tail leads to has a slot. If `after` is true, a hard tail leads to the
-- first of the pairs.
abbrev pub HasNoEmptyPairs : Bool → List Pair → Type 0
HasNoEmptyPairs after [] = Unit {0}
HasNoEmptyPairs after (p ∷ ps) = (after ≡ true → p.content.slots ≢ []) × HasNoEmptyPairs (is_hard_tail p.content.tail) ps

-- The image with the thread `ps` is within the limits of the writing profile.
pub record IsWritable (disk : Disk) (ps : List Pair) : Type 0 where
  pub pairs : All (λ p. FitsInPair disk.block_size disk.page p.content) ps
  pub slots : All (λ p. All (IsWritableSlot disk.profile disk.block_size disk.page) p.content.slots) ps
  pub no_empty_pair : HasNoEmptyPairs false (pairs_from_root ps)

-- The disk is accepted, and in the writing profile.
abbrev pub IsWritableDisk : Disk → Type 0
IsWritableDisk disk = (ps : List Pair) × (IsAccepted disk ps × IsWritable disk ps)

-- ---- the limits in an image's superblock

-- The superblock fields in the bytes of an inline struct.
abbrev pub struct_superblock_fields : Struct → Option SuperblockFields
struct_superblock_fields (Inline bytes) = Some (superblock_fields bytes)
struct_superblock_fields (Ctz head size) = None
struct_superblock_fields (Branch to) = None

-- The fields of the superblock at the beginning of the root directory, if it has one.
abbrev pub image_superblock_fields : List Pair → Option SuperblockFields
image_superblock_fields ps = option_and_then (λ s. struct_superblock_fields s.struct) (slice_get (first_pair_slots (pairs_from_root ps)) 0)

-- True if no limit is 0 or greater than the limit of the format.
abbrev pub are_limits_usable : SuperblockFields → Bool
are_limits_usable f =
    nat_le 1 f.name_max && nat_le f.name_max name_limit && nat_le 1 f.file_max && nat_le f.file_max file_size_limit
    && nat_le 1 f.attr_max && nat_le f.attr_max attribute_limit

-- The profile with the limits of the superblock if they are usable, otherwise the profile
-- unchanged.
abbrev pub profile_with_limits : SuperblockFields → Profile → Profile
profile_with_limits f profile = if are_limits_usable f then record profile { name_max = f.name_max; file_max = f.file_max; attr_max = f.attr_max } else profile
