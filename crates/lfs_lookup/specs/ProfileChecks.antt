-- The rule of the writing profile that a slot, a pair or an image breaks.
use Rattle.std.specs.Prelude.{ℕ, ◌≡◌, ◌≢◌, ◌⊎◌, ◌-◌, ◌≤◌, ◌&&◌, nat_lt, Bool, true, false, List, [], Option, Some, length, slice_get, slice_index_or, All, MatchOption}
use Rattle.lfs_model.specs.format.Disk.{profile_attr_max, half_pair_capacity, profile_file_max, inline_limit, profile_name_max}
use Rattle.lfs_model.specs.format.EntryTypes.{SuperblockFields}
use Rattle.lfs_model.specs.tree.Profile.{IsWritableSlot}
use Rattle.lfs_model.specs.layers.ProfileBreaches.{HasLongInline, HasDifferingLimit}
use Rattle.lfs_model.specs.format.Slots.{PairContent, FitsInPair, Inline, Slot, reserved_entry_size, is_superblock, address_of_array}
use Rattle.lfs_model.specs.format.Thread.{Pair, is_hard_tail}
use Rattle.lfs_model.specs.declared.breaches.ProfileBreach.{ProfileBreach}
use Rattle.lfs_model.specs.declared.breaches.ProfileBreach.TheVariants as breach
use Rattle.lfs_model.specs.declared.limits.Profile.{Profile}
use Rattle.lfs_thread.specs.ThreadSteps.{empty_anchor}

-- ---- slots

-- a superblock's slot has a struct of 24 bytes, as in each accepted image
abbrev pub HasSuperblockStruct : Slot → Type 0
HasSuperblockStruct s = is_superblock s ≡ true → (bytes : List ℕ) × ((s.struct ≡ Inline bytes) × (length bytes ≡ 24))

-- these fields have the limits with which the profile writes
abbrev pub HasProfileLimits : Profile → SuperblockFields → Type 0
HasProfileLimits profile fields = (fields.name_max ≡ profile_name_max profile) × (fields.file_max ≡ profile_file_max profile) × (fields.attr_max ≡ profile_attr_max profile)

abbrev pub EntryFitsHalfPair : Profile → ℕ → ℕ → Slot → Type 0
EntryFitsHalfPair profile block_size page s = reserved_entry_size profile block_size s.name s.attributes ≤ half_pair_capacity block_size page

-- the slot of that index in the pair at an address breaks that rule
abbrev pub SlotBreaksProfile : Profile → ℕ → ℕ → ℕ × ℕ → ℕ → Slot → ProfileBreach → Type 0
SlotBreaksProfile profile block_size page at id s (breach.OtherLimits pair slot limit) = (address_of_array pair ≡ at) × (slot ≡ id) × HasDifferingLimit profile limit s
SlotBreaksProfile profile block_size page at id s (breach.LongInline pair slot) = (address_of_array pair ≡ at) × (slot ≡ id) × HasLongInline (inline_limit profile block_size) s
SlotBreaksProfile profile block_size page at id s (breach.EmptyPair pair) = ⊥
SlotBreaksProfile profile block_size page at id s (breach.TooLarge pair) = (address_of_array pair ≡ at) × (is_superblock s ≡ false) × ¬ EntryFitsHalfPair profile block_size page s

-- the slot is in the profile, or breaks that rule
abbrev pub IsSlotBreachIfAny : Profile → ℕ → ℕ → ℕ × ℕ → ℕ → Slot → Option ProfileBreach → Type 0
IsSlotBreachIfAny profile block_size page at id s b = MatchOption b (IsWritableSlot profile block_size page s) (SlotBreaksProfile profile block_size page at id s)

-- ---- pairs

-- one of the slots of the pair at an address breaks that rule
abbrev pub SomeSlotBreaksProfile : Profile → ℕ → ℕ → ℕ × ℕ → List Slot → ProfileBreach → Type 0
SomeSlotBreaksProfile profile block_size page at slots b = (id : ℕ) × ((s : Slot) × ((slice_get slots id ≡ Some s) × SlotBreaksProfile profile block_size page at id s b))

abbrev pub IsSlotsBreachIfAny : Profile → ℕ → ℕ → ℕ × ℕ → List Slot → Option ProfileBreach → Type 0
IsSlotsBreachIfAny profile block_size page at slots b = MatchOption b (All (IsWritableSlot profile block_size page) slots) (SomeSlotBreaksProfile profile block_size page at slots)

-- A pair is in the profile; `follows` says whether it is behind a hard tail.
pub record IsWritablePair (profile : Profile) (block_size page : ℕ) (follows : Bool) (c : PairContent) : Type 0 where
  pub pair : FitsInPair block_size page c
  pub slots : All (IsWritableSlot profile block_size page) c.slots
  pub filled : follows ≡ true → c.slots ≢ []

-- the pair as a whole breaks that rule
abbrev pub PairItselfBreaksProfile : ℕ → ℕ → Bool → Pair → ProfileBreach → Type 0
PairItselfBreaksProfile block_size page follows p (breach.EmptyPair pair) = (address_of_array pair ≡ p.at) × (follows ≡ true) × (p.content.slots ≡ [])
PairItselfBreaksProfile block_size page follows p (breach.TooLarge pair) = (address_of_array pair ≡ p.at) × ¬ FitsInPair block_size page p.content
PairItselfBreaksProfile block_size page follows p _ = ⊥

-- the pair, or a slot of it, breaks that rule
abbrev pub PairBreaksProfile : Profile → ℕ → ℕ → Bool → Pair → ProfileBreach → Type 0
PairBreaksProfile profile block_size page follows p b = SomeSlotBreaksProfile profile block_size page p.at p.content.slots b ⊎ PairItselfBreaksProfile block_size page follows p b

-- the pair is in the profile, or breaks that rule
abbrev pub IsPairBreachIfAny : Profile → ℕ → ℕ → Bool → Pair → Option ProfileBreach → Type 0
IsPairBreachIfAny profile block_size page follows p b = MatchOption b (IsWritablePair profile block_size page follows p.content) (PairBreaksProfile profile block_size page follows p)

-- the pair is behind the root's first pair, and behind a hard tail
abbrev pub follows_hard_tail_at : ℕ → List Pair → ℕ → Bool
follows_hard_tail_at root ps index = nat_lt root index && is_hard_tail (slice_index_or ps (index - 1) empty_anchor).content.tail
