-- The results of a search for a name.
use Rattle.std.specs.Prelude.{ℕ, ◌≡◌, ◌⊎◌, ◌<◌, ◌+◌, ◌==◌, if◌then◌else◌, true, false, List, [], ◌∷◌, drop, length, map, slice_get, AllPairs, Option, None, Some, IsSome}
use Rattle.std.specs.declared.cmp.Ordering.TheVariants.{Less}
use Rattle.lfs_model.specs.declared.order.NameOrder.{NameOrder}
use Rattle.lfs_model.specs.format.Names.{Name, name_cmp}
use Rattle.lfs_model.specs.format.Slots.{Slot, PairContent, Gstate, is_superblock}
use Rattle.lfs_model.specs.format.Thread.{Pair, is_hard_tail, moved_id}
use Rattle.lfs_model.specs.session.InDirectory.{HasName, NameBelongsAtId, IsPositionOfName, IsInsertionPosition, HaveNoSuperblock, entry_slots, all_slots}
use Rattle.lfs_thread.specs.CachedLog.{IsContentLog, cached_log}
use Rattle.lfs_thread.specs.Kept.{KeptThread, ThreadView}
use Rattle.lfs_thread.specs.ThreadSteps.{thread_pair}
use Rattle.lfs_lookup.specs.declared.entry.FileOrDirectory.{FileOrDirectory}
use Rattle.lfs_lookup.specs.declared.search.SlotPosition.{SlotPosition}
use Rattle.lfs_lookup.specs.declared.search.NamePositionInDirectory.{NamePositionInDirectory}
use Rattle.lfs_lookup.specs.declared.search.NamePositionInDirectory.TheVariants.{Found, Place}
use Rattle.lfs_lookup.specs.declared.search.NamePositionInPair.{NamePositionInPair}
use Rattle.lfs_lookup.specs.declared.search.NamePositionInPair.TheVariants as in_pair
use Rattle.lfs_lookup.specs.Entry.{IsStructEntry}
use Rattle.lfs_lookup.specs.Listed.{joined_pairs}

-- a block has a log in which each slot has a name and a struct
abbrev pub EachSlotHasStruct : List ℕ → Type 0
EachSlotHasStruct block = (content : PairContent) × IsContentLog block content

-- no entry has the name, except perhaps the one with the skipped id
abbrev pub IsNameAbsentExcept : Option ℕ → List Slot → Name → Type 0
IsNameAbsentExcept skip slots name = (id : ℕ) (s : Slot) → slice_get slots id ≡ Some s → is_superblock s ≡ false → (skip ≡ Some id → ⊥) → s.name ≡ name → ⊥

-- the name is in the slot with that id, which isn't skipped, and has that entry
pub record IsNameAtUnskipped (skip : Option ℕ) (slots : List Slot) (name : Name) (id : ℕ) (entry : FileOrDirectory) : Type 0 where
  pub stands : HasName slots name id
  pub shows : IsStructEntry entry stands.slot.struct
  pub kept : skip ≡ Some id → ⊥

-- no slot has the name; if none is skipped, it belongs at that id
pub record IsAbsentNamePosition (order : NameOrder) (skip : Option ℕ) (slots : List Slot) (name : Name) (id : ℕ) : Type 0 where
  pub absent : IsNameAbsentExcept skip slots name
  pub place : skip ≡ None → NameBelongsAtId order slots name id

-- the result among the slots of a pair, of which one may be skipped
abbrev pub IsNamePositionInPair : NameOrder → Option ℕ → List Slot → Name → NamePositionInPair → Type 0
IsNamePositionInPair order skip slots name (in_pair.Found id entry) = IsNameAtUnskipped skip slots name id entry
IsNamePositionInPair order skip slots name (in_pair.Place id) = IsAbsentNamePosition order skip slots name id

-- the result in the directory that begins with the pair of index `first`
abbrev pub IsNamePositionInDirectory : NameOrder → List Pair → ℕ → Name → NamePositionInDirectory → Type 0
IsNamePositionInDirectory order ps first name (Found spot entry) = (s : IsPositionOfName ps first name spot.pair spot.id) × IsStructEntry entry s.stands.slot.struct
IsNamePositionInDirectory order ps first name (Place spot) = IsInsertionPosition order ps first name spot.pair spot.id

-- the pair of index `first` has no slots, and its directory continues with the pair of index `next`
pub record SearchSkipsEmptyPair (t : KeptThread) (first next : ℕ) : Type 0 where
  pub none : length (thread_pair t first).content.slots ≡ 0
  pub hard : is_hard_tail (thread_pair t first).content.tail ≡ true
  pub follows : next ≡ first + 1
  pub below : next < length t.pairs

-- the search begins with the pair of index `first`, or with the next one if that has no slots
abbrev pub SearchStartsAt : KeptThread → ℕ → ℕ → Type 0
SearchStartsAt t first start = (start ≡ first) ⊎ SearchSkipsEmptyPair t first start

-- the block of the slot that was found is cached
abbrev pub CachesFoundPair : ThreadView → NamePositionInDirectory → Type 0
CachesFoundPair t (Found spot entry) = IsSome (cached_log t spot.pair)
CachesFoundPair t (Place spot) = Unit {0}

-- The names in the directory that begins with the pair of index `first` rise, and only this pair may have a superblock.
pub record AreDirectoryNamesSorted (order : NameOrder) (ps : List Pair) (first : ℕ) : Type 0 where
  pub rise : AllPairs (λ a b. name_cmp order a b ≡ Less) (map (λ s. s.name) (entry_slots (all_slots (joined_pairs (drop first ps)))))
  pub plain : HaveNoSuperblock (drop (first + 1) ps)

-- ---- with a slot that counts as deleted

-- the id that is skipped in the pair of that index
abbrev pub skipped_id : Option SlotPosition → ℕ → Option ℕ
skipped_id None index = None
skipped_id (Some spot) index = if spot.pair == index then Some spot.id else None

-- these pairs, from index `index` on along hard tails, don't have the name
abbrev pub IsNameAbsentFrom : Option SlotPosition → ℕ → List Pair → Name → Type 0
IsNameAbsentFrom moved index [] name = Unit {0}
IsNameAbsentFrom moved index (p ∷ ps) name = IsNameAbsentExcept (skipped_id moved index) p.content.slots name × (is_hard_tail p.content.tail ≡ true → IsNameAbsentFrom moved (index + 1) ps name)

-- the name is in the slot `spot`, which doesn't count as deleted
pub record IsNameAtVisibleSlot (ps : List Pair) (moved : Option SlotPosition) (first : ℕ) (name : Name) (spot : SlotPosition) (entry : FileOrDirectory) : Type 0 where
  pub stands : IsPositionOfName ps first name spot.pair spot.id
  pub shows : IsStructEntry entry stands.stands.slot.struct
  pub kept : skipped_id moved spot.pair ≡ Some spot.id → ⊥

abbrev pub IsVisibleNameResult : List Pair → Option SlotPosition → ℕ → Name → Option (SlotPosition × FileOrDirectory) → Type 0
IsVisibleNameResult ps moved first name (Some found) = IsNameAtVisibleSlot ps moved first name found.0 found.1
IsVisibleNameResult ps moved first name None = IsNameAbsentFrom moved first (drop first ps) name

-- in these pairs, from index `index` on, only that slot counts as deleted
abbrev pub IsOnlyMovedSlot : Gstate → Option SlotPosition → ℕ → List Pair → Type 0
IsOnlyMovedSlot g moved index [] = Unit {0}
IsOnlyMovedSlot g moved index (p ∷ ps) = (skipped_id moved index ≡ moved_id g p) × IsOnlyMovedSlot g moved (index + 1) ps
