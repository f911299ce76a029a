-- Where a name is, or belongs, among the pairs of a directory. An index of a pair counts the pairs
-- of the thread.
use Rattle.std.specs.Prelude.{ℕ, ◌≡◌, ◌≢◌, ◌⊎◌, ◌+◌, not, Bool, true, false, if◌then◌else◌, List, [], ◌∷◌, ◌++◌, length, filter, slice_get, Some}
use Rattle.std.specs.List.{flat_map, AllByRecursion}
use Rattle.std.specs.declared.cmp.Ordering.TheVariants.{Less}
use Rattle.lfs_model.specs.declared.order.NameOrder.{NameOrder}
use Rattle.lfs_model.specs.format.Names.{Name, name_cmp}
use Rattle.lfs_model.specs.format.Slots.{Slot, is_superblock, same_pair}
use Rattle.lfs_model.specs.format.Thread.{Pair, is_hard_tail, begins_with_superblock}

-- ---- in one pair

-- The slots that are entries: all but a superblock.
abbrev pub entry_slots : List Slot → List Slot
entry_slots slots = filter (λ s. not (is_superblock s)) slots

-- The slots of the pairs, in order.
abbrev pub all_slots : List Pair → List Slot
all_slots ps = flat_map (λ p. p.content.slots) ps

-- The slot `id` is an entry with this name.
pub record HasName (slots : List Slot) (name : Name) (id : ℕ) : Type 0 where
  pub left : List Slot
  pub slot : Slot
  pub right : List Slot
  pub held : slots ≡ left ++ slot ∷ right
  pub number : length left ≡ id
  pub entry : is_superblock slot ≡ false
  pub named : slot.name ≡ name

-- The first of these slots has a greater name.
pub record BeginsWithGreaterName (order : NameOrder) (name : Name) (slots : List Slot) : Type 0 where
  pub first : Slot
  pub rest : List Slot
  pub are : slots ≡ first ∷ rest
  pub above : name_cmp order name first.name ≡ Less

-- All names before `id` are less. The slot `id` has a greater name, or no slot is left.
pub record NameBelongsAtId (order : NameOrder) (slots : List Slot) (name : Name) (id : ℕ) : Type 0 where
  pub left : List Slot
  pub right : List Slot
  pub held : slots ≡ left ++ right
  pub number : length left ≡ id
  pub less : AllByRecursion (λ s. name_cmp order s.name name ≡ Less) (entry_slots left)
  pub greater : (right ≡ []) ⊎ BeginsWithGreaterName order name (entry_slots right)
  pub fronted : begins_with_superblock right ≡ false

-- ---- in a directory

-- The pair's tail is a hard tail.
abbrev pub HasHardTail : Pair → Type 0
HasHardTail p = is_hard_tail p.content.tail ≡ true

-- No slot of these pairs is a superblock. Only the first pair of a directory may have one.
abbrev pub HaveNoSuperblock : List Pair → Type 0
HaveNoSuperblock ps = AllByRecursion (λ p. AllByRecursion (λ s. is_superblock s ≡ false) p.content.slots) ps

-- The number of pairs that hard tails join to the first one, including it.
abbrev pub joined_pair_count : List Pair → ℕ
joined_pair_count [] = 0
joined_pair_count (p ∷ ps) = if is_hard_tail p.content.tail then 1 + joined_pair_count ps else 1

-- Each of these pairs but the last has a hard tail.
abbrev pub AreJoinedByHardTails : Pair → List Pair → Type 0
AreJoinedByHardTails p [] = Unit {0}
AreJoinedByHardTails p (q ∷ qs) = HasHardTail p × AreJoinedByHardTails q qs

-- Whether the last of these pairs has a hard tail.
abbrev pub last_has_hard_tail : Pair → List Pair → Bool
last_has_hard_tail p [] = is_hard_tail p.content.tail
last_has_hard_tail p (q ∷ qs) = last_has_hard_tail q qs

-- The pair at `index` belongs to the directory whose first pair has the index `first`. `left` has
-- the pairs of the directory before it, and `rest` all pairs after it.
pub record IsDirectoryPair (ps : List Pair) (first index : ℕ) (pair : Pair) (rest : List Pair) : Type 0 where
  pub front : List Pair
  pub left : List Pair
  pub parts : ps ≡ front ++ (left ++ pair ∷ rest)
  pub begins : length front ≡ first
  pub number : length front + length left ≡ index
  pub joined : AllByRecursion HasHardTail left

-- The pair with the index `first` is at the address `at`.
pub record IsPairAt (ps : List Pair) (at : ℕ × ℕ) (first : ℕ) : Type 0 where
  pub pair : Pair
  pub there : slice_get ps first ≡ Some pair
  pub same : same_pair pair.at at ≡ true

-- The directory has the name in the slot `id` of the pair at `index`.
pub record IsPositionOfName (ps : List Pair) (first : ℕ) (name : Name) (index id : ℕ) : Type 0 where
  pub pair : Pair
  pub rest : List Pair
  pub place : IsDirectoryPair ps first index pair rest
  pub stands : HasName pair.content.slots name id

-- The name belongs at the slot `id` of the pair at `index`. That pair has an entry less than the
-- name before `id`, or no pair before it in the directory has an entry. The next entry, in this
-- pair or a later one, has a greater name, or no entry is left in the directory.
pub record IsInsertionPosition (order : NameOrder) (ps : List Pair) (first : ℕ) (name : Name) (index id : ℕ) : Type 0 where
  pub pair : Pair
  pub later : List Pair
  pub rest : List Pair
  pub place : IsDirectoryPair ps first index pair (later ++ rest)
  pub runs : AreJoinedByHardTails pair later
  pub left : List Slot
  pub right : List Slot
  pub held : pair.content.slots ≡ left ++ right
  pub number : length left ≡ id
  pub less : AllByRecursion (λ s. name_cmp order s.name name ≡ Less) (entry_slots left)
  pub fronted : begins_with_superblock right ≡ false
  pub not_before : (entry_slots (all_slots place.left) ≡ []) ⊎ (entry_slots left ≢ [])
  pub not_behind : BeginsWithGreaterName order name (entry_slots (right ++ all_slots later))
      ⊎ ((entry_slots (right ++ all_slots later) ≡ []) × (last_has_hard_tail pair later ≡ false))
