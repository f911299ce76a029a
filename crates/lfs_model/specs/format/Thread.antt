-- The thread (the threaded linked-list): all metadata pairs of a disk, linked by their tails.
use Rattle.std.specs.Prelude.{ℕ, ◌≡◌, ◌<◌, Bool, true, false, not, ◌&&◌, ◌==◌, if◌then◌else◌, List, [], ◌∷◌, ◌++◌, map, Option, Some, None, All, filter, Any, nat_eq, drop, ◌+◌}
use Rattle.std.specs.List.{flat_map, remove, IsDistinct, fold}
use Rattle.lfs_model.specs.format.Slots.{Slot, Tail, PairContent, Gstate, zero_gstate, gstate_xor, same_pair, is_superblock, set_move_kind}

-- A metadata pair: its address and its content.
pub record Pair : Type 0 where
  pub at : ℕ × ℕ
  pub content : PairContent

-- The address of the first pair of the thread.
abbrev pub superblock_pair_address : ℕ × ℕ
superblock_pair_address = (0, 1)

-- The address of the pair that a tail points to.
abbrev pub tail_target : Option Tail → Option (ℕ × ℕ)
tail_target None = None
tail_target (Some t) = Some t.to

-- The pairs are linked from the address `at` on: each tail points to the next pair, and the last
-- pair has no tail.
abbrev pub AreLinkedByTails : Option (ℕ × ℕ) → List Pair → Type 0
AreLinkedByTails at [] = at ≡ None
AreLinkedByTails at (p ∷ ps) = (at ≡ Some p.at) × AreLinkedByTails (tail_target p.content.tail) ps

-- The blocks of all pairs, in order.
abbrev pub pairs_blocks : List Pair → List ℕ
pairs_blocks ps = flat_map (λ p. p.at.0 ∷ p.at.1 ∷ []) ps

-- The two blocks of the pair at `at`.
abbrev pub address_blocks : ℕ × ℕ → List ℕ
address_blocks at = at.0 ∷ at.1 ∷ []

-- The four blocks of the pairs at `one` and `other`.
abbrev pub addresses_blocks : ℕ × ℕ → ℕ × ℕ → List ℕ
addresses_blocks one other = one.0 ∷ one.1 ∷ other.0 ∷ other.1 ∷ []

-- The pairs `ps` are the thread of a disk with `block_count` blocks: they are linked from the first
-- pair to the end, `content_of` gives their contents, and their blocks are distinct and in range.
pub record IsThread (content_of : ℕ × ℕ → Option PairContent) (block_count : ℕ) (ps : List Pair) : Type 0 where
  pub links : AreLinkedByTails (Some superblock_pair_address) ps
  pub contents : All (λ p. content_of p.at ≡ Some p.content) ps
  pub in_range : All (λ b. b < block_count) (pairs_blocks ps)
  pub distinct : IsDistinct nat_eq (pairs_blocks ps)

-- The global state: the XOR of the deltas in all pairs.
abbrev pub pairs_gstate : List Pair → Gstate
pairs_gstate ps = fold gstate_xor zero_gstate (map (λ p. p.content.move) ps)

-- The id of the slot of `p` that counts as moved away, or `None` if the global state `g` has no
-- pending move of a slot of `p`.
abbrev pub moved_id : Gstate → Pair → Option ℕ
moved_id g p = if g.kind == set_move_kind && same_pair g.pair p.at then Some g.id else None

abbrev pub is_hard_tail : Option Tail → Bool
is_hard_tail None = false
is_hard_tail (Some t) = t.hard

-- True if slot 0 is a superblock.
abbrev pub begins_with_superblock : List Slot → Bool
begins_with_superblock [] = false
begins_with_superblock (s ∷ slots) = is_superblock s

-- True if there is a slot.
abbrev pub has_slots : List Slot → Bool
has_slots [] = false
has_slots (s ∷ slots) = true

-- True if there is no slot, or only a superblock.
abbrev pub has_no_entry : List Slot → Bool
has_no_entry [] = true
has_no_entry (s ∷ []) = is_superblock s
has_no_entry (s ∷ t ∷ slots) = false

-- True if the superblock's chain may continue after the pair `p`.
abbrev pub chain_may_continue : Pair → Bool
chain_may_continue p = has_no_entry p.content.slots && is_hard_tail p.content.tail

-- True if slot 0 is a superblock; `later` if there is no slot.
abbrev pub superblock_first_or_empty : List Slot → Bool → Bool
superblock_first_or_empty [] later = later
superblock_first_or_empty (s ∷ slots) later = is_superblock s

-- True if the first pair that has a slot begins with a superblock, and all pairs before it have
-- hard tails.
abbrev pub has_superblock : List Pair → Bool
has_superblock [] = false
has_superblock (p ∷ ps) = superblock_first_or_empty p.content.slots (is_hard_tail p.content.tail && has_superblock ps)

-- The number of pairs before the root directory. These pairs, and the first pair of the root
-- directory, are the superblock's chain: the longest beginning of the thread in which each pair but
-- the last has a hard tail and no slot but a superblock, and the last begins with a superblock.
-- When the last pair is worn, littlefs moves its slots into a new pair after it. The old pair keeps
-- no slot up to release 2.8, and a copy of the superblock from release 2.9 on.
abbrev pub count_before_root : List Pair → ℕ
count_before_root [] = 0
count_before_root (p ∷ ps) = if has_superblock ps && chain_may_continue p then 1 + count_before_root ps else 0

-- The pairs of all directories, from the first pair of the root directory on.
abbrev pub pairs_from_root : List Pair → List Pair
pairs_from_root ps = drop (count_before_root ps) ps

-- The pairs from the first one that has a slot on.
abbrev pub pairs_from_nonempty : List Pair → List Pair
pairs_from_nonempty [] = []
pairs_from_nonempty (p ∷ ps) = if has_slots p.content.slots then p ∷ ps else pairs_from_nonempty ps

-- The address of the first of the pairs, or `superblock_pair_address` if there are none.
abbrev pub first_address : List Pair → ℕ × ℕ
first_address [] = superblock_pair_address
first_address (p ∷ ps) = p.at

-- The address of the root directory.
abbrev pub root_address : List Pair → ℕ × ℕ
root_address ps = first_address (pairs_from_root ps)

-- The slots of `p` without the one that counts as moved away by the global state `g`.
abbrev pub slots_not_moved : Gstate → Pair → List Slot
slots_not_moved g p = if g.kind == set_move_kind && same_pair g.pair p.at then remove p.content.slots g.id else p.content.slots

-- The slots of `p` without superblocks and without the one that counts as moved away.
abbrev pub unmoved_entries : Gstate → Pair → List Slot
unmoved_entries g p = filter (λ s. not (is_superblock s)) (slots_not_moved g p)

-- A directory: the address of its first pair, and the slots of all its pairs in order.
pub record ThreadDirectory : Type 0 where
  pub at : ℕ × ℕ
  pub slots : List Slot

-- The directories with one more pair in front. If its tail is hard, the pair becomes the first pair
-- of the first directory; otherwise, the pair is a new directory.
abbrev pub directories_with_pair : ℕ × ℕ → Bool → List Slot → List ThreadDirectory → List ThreadDirectory
directories_with_pair at hard slots [] = record { at = at; slots = slots } ∷ []
directories_with_pair at hard slots (d ∷ ds) =
    if hard then record { at = at; slots = slots ++ d.slots } ∷ ds
    else record { at = at; slots = slots } ∷ d ∷ ds

-- The directories of the pairs, without superblocks and without the slot that counts as moved away.
abbrev pub pair_directories : Gstate → List Pair → List ThreadDirectory
pair_directories g [] = []
pair_directories g (p ∷ ps) = directories_with_pair p.at (is_hard_tail p.content.tail) (unmoved_entries g p) (pair_directories g ps)

-- The entries of the directory at `at`, or none if no directory begins there.
abbrev pub directory_slots : List ThreadDirectory → ℕ × ℕ → List Slot
directory_slots [] at = []
directory_slots (d ∷ ds) at = if same_pair d.at at then d.slots else directory_slots ds at

-- One of the directories begins with the pair at `at`.
abbrev pub BeginsDirectory : List ThreadDirectory → ℕ × ℕ → Type 0
BeginsDirectory ds at = Any (λ d. same_pair d.at at ≡ true) ds
