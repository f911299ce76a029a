-- Which rule of the writing profile an image breaks, and in which pair or slot.
use Rattle.std.specs.Prelude.{ℕ, ◌≡◌, ◌≢◌, ◌+◌, ◌≤◌, true, false, List, [], Option, Some, None, All, slice_get}
use Rattle.lfs_model.specs.format.Disk.{Disk, profile_attr_max, half_pair_capacity, profile_file_max, inline_limit, profile_name_max}
use Rattle.lfs_model.specs.format.EntryTypes.{SuperblockFields, superblock_fields}
use Rattle.lfs_model.specs.tree.Profile.{InlineBytesFit, IsWritable}
use Rattle.lfs_model.specs.format.Slots.{Inline, FitsInPair, PairContent, Slot, reserved_entry_size, is_superblock, address_of_array}
use Rattle.lfs_model.specs.format.Thread.{Pair, is_hard_tail, count_before_root}
use Rattle.lfs_model.specs.layers.Violations.{IsSlotAt}
use Rattle.lfs_model.specs.declared.breaches.OtherLimit.{OtherLimit}
use Rattle.lfs_model.specs.declared.breaches.OtherLimit.TheVariants as limit
use Rattle.lfs_model.specs.declared.breaches.ProfileBreach.{ProfileBreach}
use Rattle.lfs_model.specs.declared.breaches.ProfileBreach.TheVariants as breach
use Rattle.lfs_model.specs.declared.limits.Profile.{Profile}

-- ---- superblocks

-- The superblock's fields have the given limit, and the profile has another one.
abbrev pub IsDifferingLimit : Profile → SuperblockFields → OtherLimit → Type 0
IsDifferingLimit profile fields (limit.Name n) = (fields.name_max ≡ n) × (n ≢ profile_name_max profile)
IsDifferingLimit profile fields (limit.File n) = (fields.file_max ≡ n) × (n ≢ profile_file_max profile)
IsDifferingLimit profile fields (limit.Attr n) = (fields.attr_max ≡ n) × (n ≢ profile_attr_max profile)

-- The slot is a superblock with the limit `other`, and the profile has another one.
pub record HasDifferingLimit (profile : Profile) (other : OtherLimit) (s : Slot) : Type 0 where
  pub kind : is_superblock s ≡ true
  pub bytes : List ℕ
  pub inline : s.struct ≡ Inline bytes
  pub differs : IsDifferingLimit profile (superblock_fields bytes) other

-- ---- entries

-- The slot is an entry with more inline bytes than `limit`.
abbrev pub HasLongInline : ℕ → Slot → Type 0
HasLongInline limit s = (is_superblock s ≡ false) × ¬ InlineBytesFit limit s.struct

-- ---- pairs

-- The pair at `at` has no slot, although it continues the root directory or a later one by a hard
-- tail.
pub record EmptyPairAt (ps : List Pair) (at : ℕ × ℕ) : Type 0 where
  pub index : ℕ
  pub before : Pair
  pub pair : Pair
  pub first : slice_get ps index ≡ Some before
  pub next : slice_get ps (index + 1) ≡ Some pair
  pub root : count_before_root ps ≤ index
  pub hard : is_hard_tail before.content.tail ≡ true
  pub at_is : pair.at ≡ at
  pub empty : pair.content.slots ≡ []

-- The content fits in a pair, and the charge of each entry is at most `half_pair_capacity`.
pub record IsSmallContent (profile : Profile) (block_size page : ℕ) (c : PairContent) : Type 0 where
  pub pair : FitsInPair block_size page c
  pub entries : All (λ s. is_superblock s ≡ false → reserved_entry_size profile block_size s.name s.attributes ≤ half_pair_capacity block_size page) c.slots

-- The content of the pair at `at` doesn't fit in a pair, or the charge of one of its entries is
-- more than `half_pair_capacity`.
pub record IsPairTooLarge (disk : Disk) (ps : List Pair) (at : ℕ × ℕ) : Type 0 where
  pub index : ℕ
  pub pair : Pair
  pub there : slice_get ps index ≡ Some pair
  pub at_is : pair.at ≡ at
  pub large : ¬ IsSmallContent disk.profile disk.block_size disk.page pair.content

-- ---- all rules

-- The disk, whose thread is `ps`, breaks the writing profile as the breach says.
abbrev pub BreaksProfile : Disk → List Pair → ProfileBreach → Type 0
BreaksProfile disk ps (breach.OtherLimits pair slot limit) = (s : Slot) × (IsSlotAt ps (address_of_array pair) slot s × HasDifferingLimit disk.profile limit s)
BreaksProfile disk ps (breach.LongInline pair slot) = (s : Slot) × (IsSlotAt ps (address_of_array pair) slot s × HasLongInline (inline_limit disk.profile disk.block_size) s)
BreaksProfile disk ps (breach.EmptyPair pair) = EmptyPairAt ps (address_of_array pair)
BreaksProfile disk ps (breach.TooLarge pair) = IsPairTooLarge disk ps (address_of_array pair)

-- For `None`, the image may be written. For `Some`, it breaks the writing profile as the breach
-- says.
abbrev pub IsBreachIfAny : Disk → List Pair → Option ProfileBreach → Type 0
IsBreachIfAny disk ps None = IsWritable disk ps
IsBreachIfAny disk ps (Some b) = BreaksProfile disk ps b
