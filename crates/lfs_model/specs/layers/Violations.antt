-- Which rule for accepted images a disk breaks, and in which pair, slot or block.
use Rattle.std.specs.Prelude.{ℕ, ◌≡◌, ◌≢◌, ◌⊎◌, ◌<◌, ◌≤◌, ◌++◌, true, false, List, [], ◌∷◌, Option, Some, None, All, AllPairs, Contains, codes, slice_get}
use Rattle.std.specs.declared.cmp.Ordering.TheVariants.{Less}
use Rattle.lfs_model.specs.format.Content.{content_at, current_block}
use Rattle.lfs_model.specs.format.Disk.{Disk, block_count}
use Rattle.lfs_model.specs.format.Names.{Name, name_cmp}
use Rattle.lfs_model.specs.tree.Shown.{IsReachedDirectory, IsDirectoryAtPath, all_directories, all_entries, struct_blocks, used_blocks}
use Rattle.lfs_model.specs.format.Slots.{Inline, Slot, is_superblock, address_of_array, same_pair}
use Rattle.lfs_model.specs.format.Thread.{BeginsDirectory, IsThread, Pair, ThreadDirectory, superblock_pair_address, pairs_blocks, first_address, pairs_gstate, moved_id, tail_target, count_before_root, pairs_from_nonempty, pairs_from_root, begins_with_superblock}
use Rattle.lfs_model.specs.tree.Tree.{Path, names_at}
use Rattle.lfs_model.specs.tree.View.{HasFirstLogEntry, RepeatsSuperblockStruct, HasValidMove, IsFileOrDirectory, IsWellFormedList, IsSuperblockStruct, first_pair_slots, superblock_entry}
use Rattle.lfs_model.specs.declared.violations.Violation.{Violation}
use Rattle.lfs_model.specs.declared.violations.Violation.TheVariants as violation

-- ---- the thread, as far as it can be followed

-- The pairs are linked by their tails from the address `at` on, and the tail of the last one leads
-- to `next`.
abbrev pub AreLinkedUpTo : Option (ℕ × ℕ) → List Pair → Option (ℕ × ℕ) → Type 0
AreLinkedUpTo at [] next = at ≡ next
AreLinkedUpTo at (p ∷ ps) next = (at ≡ Some p.at) × AreLinkedUpTo (tail_target p.content.tail) ps next

-- The pairs `ps` are the first ones of the thread, with their contents, and the thread continues at
-- the address `next`.
pub record AreFirstThreadPairs (disk : Disk) (ps : List Pair) (next : ℕ × ℕ) : Type 0 where
  pub links : AreLinkedUpTo (Some superblock_pair_address) ps (Some next)
  pub contents : All (λ p. content_at disk p.at ≡ Some p.content) ps

-- The thread can be followed up to the address `at`.
abbrev pub IsNamed : Disk → ℕ × ℕ → Type 0
IsNamed disk at = (ps : List Pair) × AreFirstThreadPairs disk ps at

-- Both addresses are below the number of blocks.
abbrev pub IsInRange : Disk → ℕ × ℕ → Type 0
IsInRange disk at = (at.0 < block_count disk) × (at.1 < block_count disk)

-- One of the two addresses is `block`.
abbrev pub HasBlock : ℕ × ℕ → ℕ → Type 0
HasBlock at block = (at.0 ≡ block) ⊎ (at.1 ≡ block)

-- `block` is in the pair at `at`, and in an earlier pair of the thread.
pub record InTwoPairs (disk : Disk) (at : ℕ × ℕ) (block : ℕ) : Type 0 where
  pub before : List Pair
  pub begins : AreFirstThreadPairs disk before at
  pub own : HasBlock at block
  pub earlier : Contains (pairs_blocks before) block

-- ---- the superblock

-- The slot is a superblock with an accepted version, and with the disk's block size and number of
-- blocks.
pub record IsDiskSuperblock (disk : Disk) (s : Slot) : Type 0 where
  pub kind : is_superblock s ≡ true
  pub name : s.name ≡ codes "littlefs"
  pub bytes : List ℕ
  pub inline : s.struct ≡ Inline bytes
  pub struct : IsSuperblockStruct disk bytes

-- The address of the first pair that has a slot.
abbrev pub first_nonempty_address : List Pair → ℕ × ℕ
first_nonempty_address ps = first_address (pairs_from_nonempty ps)

-- `s` is slot 0 of the first pair that has a slot.
abbrev pub HasFirstSlot : List Pair → Slot → Type 0
HasFirstSlot ps s = slice_get (first_pair_slots (pairs_from_nonempty ps)) 0 ≡ Some s

-- Slot 0 of the pair at `at`, in the superblock's chain, doesn't repeat the chain's first
-- superblock.
pub record IsDifferingSuperblock (disk : Disk) (ps : List Pair) (at : ℕ × ℕ) : Type 0 where
  pub index : ℕ
  pub pair : Pair
  pub there : slice_get ps index ≡ Some pair
  pub at_is : pair.at ≡ at
  pub in_chain : index ≤ count_before_root ps
  pub slot : Slot
  pub slot_is : slice_get pair.content.slots 0 ≡ Some slot
  pub first : Slot
  pub first_is : HasFirstSlot ps first
  pub bytes : List ℕ
  pub inline : first.struct ≡ Inline bytes
  pub differs : ¬ RepeatsSuperblockStruct disk.profile.versions bytes slot

-- ---- slots

-- `s` is the slot with the id `id` in the pair at `at`, which is in the thread.
pub record IsSlotAt (ps : List Pair) (at : ℕ × ℕ) (id : ℕ) (s : Slot) : Type 0 where
  pub index : ℕ
  pub pair : Pair
  pub there : slice_get ps index ≡ Some pair
  pub at_is : pair.at ≡ at
  pub slot : slice_get pair.content.slots id ≡ Some s

-- The pair at `at` has a slot with the id `id` that is neither a valid entry nor slot 0 of a pair
-- in the superblock's chain.
pub record HasInvalidEntryAt (ps : List Pair) (at : ℕ × ℕ) (id : ℕ) : Type 0 where
  pub slot : Slot
  pub is : IsSlotAt ps at id slot
  pub behind : (count_before_root ps < is.index) ⊎ (0 < id)
  pub refused : ¬ IsFileOrDirectory slot

-- `s` is the slot with the id `id` in the pair at `at`, and doesn't count as moved away.
pub record IsUnmovedAt (ps : List Pair) (at : ℕ × ℕ) (id : ℕ) (s : Slot) : Type 0 where
  pub is : IsSlotAt ps at id s
  pub stays : moved_id (pairs_gstate ps) is.pair ≢ Some id

-- ---- directories

-- The path leads to the directory at `to`, which begins with the pair at `at`.
pub record IsReachedAt (ps : List Pair) (at : ℕ × ℕ) (path : Path) (to : ℕ × ℕ) : Type 0 where
  pub leads : IsDirectoryAtPath ps path to
  pub same : same_pair to at ≡ true

-- The names in the directory at `at`, which a path leads to, aren't strictly ascending.
pub record HasUnsortedNames (disk : Disk) (ps : List Pair) (at : ℕ × ℕ) : Type 0 where
  pub path : Path
  pub to : ℕ × ℕ
  pub reached : IsReachedAt ps at path to
  pub falls : ¬ AllPairs (λ a b. name_cmp disk.order a b ≡ Less) (names_at (all_entries ps) to)

-- The directory at `at`, which a path leads to, has an entry whose struct has the address of a
-- directory, but no directory begins there.
pub record HasDanglingDirectoryEntry (ps : List Pair) (at : ℕ × ℕ) : Type 0 where
  pub path : Path
  pub to : ℕ × ℕ
  pub reached : IsReachedAt ps at path to
  pub name : Name
  pub target : ℕ × ℕ
  pub leads : IsDirectoryAtPath ps (path ++ name ∷ []) target
  pub loose : ¬ BeginsDirectory (all_directories ps) target

-- Two different paths lead to the directory at `at`.
pub record IsReachedTwice (ps : List Pair) (at : ℕ × ℕ) : Type 0 where
  pub path : Path
  pub to : ℕ × ℕ
  pub reached : IsReachedAt ps at path to
  pub other : Path
  pub other_to : ℕ × ℕ
  pub other_reached : IsReachedAt ps at other other_to
  pub differ : path ≢ other

-- No path leads to the directory at `at`, although the sync bit is clear.
pub record IsOrphanWithoutSync (ps : List Pair) (at : ℕ × ℕ) : Type 0 where
  pub sync : (pairs_gstate ps).sync ≡ false
  pub index : ℕ
  pub directory : ThreadDirectory
  pub there : slice_get (all_directories ps) index ≡ Some directory
  pub at_is : directory.at ≡ at
  pub unreached : ¬ IsReachedDirectory ps at

-- ---- the skip-lists of files

-- `block` is in the CTZ skip-list of the slot with the id `id` in the pair at `at`, and it is used
-- twice.
pub record IsBlockUsedTwice (disk : Disk) (ps : List Pair) (at : ℕ × ℕ) (id block : ℕ) : Type 0 where
  pub slot : Slot
  pub is : IsUnmovedAt ps at id slot
  pub has : Contains (struct_blocks disk slot.struct) block
  pub i : ℕ
  pub j : ℕ
  pub apart : i < j
  pub one : slice_get (used_blocks disk ps) i ≡ Some block
  pub other : slice_get (used_blocks disk ps) j ≡ Some block

-- ---- all rules

-- The thread of the disk can't be followed to its end, for the reason that the violation gives.
abbrev pub BreaksThread : Disk → Violation → Type 0
BreaksThread disk (violation.OutOfRange pair) = IsNamed disk (address_of_array pair) × ¬ IsInRange disk (address_of_array pair)
BreaksThread disk (violation.OneBlock pair) = IsNamed disk (address_of_array pair) × ((address_of_array pair).0 ≡ (address_of_array pair).1)
BreaksThread disk (violation.TwoPairs pair block) = InTwoPairs disk (address_of_array pair) block
BreaksThread disk (violation.NoContent pair) =
    IsNamed disk (address_of_array pair) × IsInRange disk (address_of_array pair) × (content_at disk (address_of_array pair) ≡ None)
BreaksThread disk _ = ⊥

-- The disk, whose complete thread is `ps`, breaks the rules as the violation says.
abbrev pub PairsBreak : Disk → List Pair → Violation → Type 0
PairsBreak disk ps violation.NoSuperblock = begins_with_superblock (first_pair_slots (pairs_from_root ps)) ≡ false
PairsBreak disk ps (violation.FirstEntry pair) = (first_nonempty_address ps ≡ address_of_array pair) × ¬ HasFirstLogEntry (current_block disk (address_of_array pair)) superblock_entry
PairsBreak disk ps (violation.Superblock pair) = (first_nonempty_address ps ≡ address_of_array pair) × (s : Slot) × (HasFirstSlot ps s × ¬ IsDiskSuperblock disk s)
PairsBreak disk ps (violation.OtherSuperblock pair) = IsDifferingSuperblock disk ps (address_of_array pair)
PairsBreak disk ps (violation.Entry pair slot) = HasInvalidEntryAt ps (address_of_array pair) slot
PairsBreak disk ps (violation.Names pair) = HasUnsortedNames disk ps (address_of_array pair)
PairsBreak disk ps (violation.Branch pair) = HasDanglingDirectoryEntry ps (address_of_array pair)
PairsBreak disk ps (violation.TwoPaths pair) = IsReachedTwice ps (address_of_array pair)
PairsBreak disk ps (violation.NoPath pair) = IsOrphanWithoutSync ps (address_of_array pair)
PairsBreak disk ps violation.Move = ¬ HasValidMove ps (pairs_gstate ps)
PairsBreak disk ps (violation.List pair slot) = (s : Slot) × (IsUnmovedAt ps (address_of_array pair) slot s × ¬ IsWellFormedList disk s.struct)
PairsBreak disk ps (violation.TwoOwners pair slot block) = IsBlockUsedTwice disk ps (address_of_array pair) slot block
PairsBreak disk ps _ = ⊥

-- The disk breaks the rules as the violation says: either its thread can't be followed to the end,
-- or the pairs of its complete thread break a rule.
abbrev pub Breaks : Disk → Violation → Type 0
Breaks disk v = BreaksThread disk v ⊎ ((ps : List Pair) × (IsThread (content_at disk) (block_count disk) ps × PairsBreak disk ps v))
