-- Wear leveling: the relocation of worn pairs, in an image that may be written.
use Rattle.std.specs.Prelude.{ℕ, ◌≡◌, ◌≢◌, ◌≤◌, ◌<◌, ◌+◌, ◌-◌, ◌*◌, ◌%◌, ◌^◌, ◌⊎◌, true, false, List, ◌∷◌, ◌++◌, Some, option_map, length, All, Any, Contains}
use Rattle.std.specs.List.{AllByRecursion}
use Rattle.lfs_model.specs.format.Disk.{Disk, block_count}
use Rattle.lfs_model.specs.format.Slots.{address_of_array, same_pair}
use Rattle.lfs_model.specs.format.Thread.{Pair, has_slots, is_hard_tail, count_before_root, tail_target}
use Rattle.lfs_model.specs.layers.BlockSets.{BlockStates, used_count}
use Rattle.lfs_model.specs.layers.Steps.{KeepsStruct, SameFileBlocks}
use Rattle.lfs_model.specs.session.Moved.{IsOnePairRelocated, IsPairRelocated, IsFirstPairEmptied, IsSuperblockExpanded, is_worn}
use Rattle.lfs_model.specs.session.SlotEdits.{slot_of_path}
use Rattle.lfs_model.specs.tree.Shown.{all_unmoved_slots, disk_tree, used_blocks}
use Rattle.lfs_model.specs.tree.Tree.{Path}
use Rattle.lfs_pair.specs.Split.{KeepsOutsideBoth}
use Rattle.lfs_thread.specs.Kept.{KeptThread, ThreadView}
use Rattle.lfs_thread.specs.Moves.{pair_revision}
use Rattle.lfs_thread.specs.ThreadSteps.{thread_pair}
use Rattle.lfs_operations.specs.Changing.{AreTwoFreeBlocks}
use Rattle.lfs_operations.specs.Dropping.{HasSameBlocksInFlight}
use Rattle.lfs_operations.specs.Ready.{IsRecoveredWritableImage, KeepsRootPairIndex}
use Rattle.lfs_operations.specs.declared.wear.RelocationPlan.{RelocationPlan}

-- The image may be changed again, and has the same tree. Each file has the same struct, and the blocks of its list are
-- unchanged. The same blocks are in flight.
pub record KeepsTreeAndFiles (old new : KeptThread) : Type 0 where
  pub ready : IsRecoveredWritableImage new
  pub shows : disk_tree new.disk new.pairs ≡ disk_tree old.disk old.pairs
  pub structs : (path : Path) → KeepsStruct (slot_of_path old.pairs path) (slot_of_path new.pairs path)
  pub lists : All (λ s. SameFileBlocks old.disk new.disk s.struct) (all_unmoved_slots old.pairs)
  pub flying : HasSameBlocksInFlight old.map new.map

-- ---- a pair is relocated

-- the pair at the new address has the next revision
abbrev pub ContinuesRevision : Disk → ℕ × ℕ → Disk → ℕ × ℕ → Type 0
ContinuesRevision old from new to = pair_revision new to ≡ option_map (λ r. (r + 1) % 2 ^ 32) (pair_revision old from)

-- The image may be changed. The pair is worn, and behind a hard tail. The two blocks are free.
pub record CanRelocateWornPair (t : KeptThread) (index : ℕ) (fresh : ℕ × ℕ) : Type 0 where
  pub ready : IsRecoveredWritableImage t
  pub above : 0 < index
  pub below : index < length t.pairs
  pub joined : is_hard_tail (thread_pair t (index - 1)).content.tail ≡ true
  pub worn : is_worn t.disk (thread_pair t index) ≡ true
  pub free : AreTwoFreeBlocks t.map fresh

-- The pair of that index is now in the two blocks `fresh`. Only these and the blocks of the pair before it have changed. As
-- many blocks are used as before.
pub record IsWornPairRelocated (old : KeptThread) (index : ℕ) (fresh : ℕ × ℕ) (new : KeptThread) : Type 0 where
  pub moved : IsPairRelocated old.disk old.pairs new.pairs
  pub to : moved.to ≡ fresh
  pub number : length moved.front + 1 ≡ index
  pub files : KeepsTreeAndFiles old new
  pub others : KeepsOutsideBoth moved.before.at fresh old.disk.blocks new.disk.blocks
  pub revision : ContinuesRevision old.disk moved.worn.at new.disk moved.to
  pub as_many : length (used_blocks new.disk new.pairs) ≡ length (used_blocks old.disk old.pairs)
  pub root : KeepsRootPairIndex old new

-- ---- a pair's slots move to a new pair

-- Two more blocks may be used, and an eighth of the blocks is still free then.
pub record HasFreeBlocksForSplit (t : KeptThread) (limit : ℕ) : Type 0 where
  pub within : used_count t.map + 2 ≤ limit
  pub eighth : 8 * (used_count t.map + 2) ≤ 7 * block_count t.disk

-- the pair has slots, and is the first of a directory other than the root
pub record IsNonRootFirstPair (t : KeptThread) (root index : ℕ) : Type 0 where
  pub behind : root < index
  pub first : is_hard_tail (thread_pair t (index - 1)).content.tail ≡ false
  pub some : has_slots (thread_pair t index).content.slots ≡ true

-- The image may be changed. The pair is worn, and begins a directory other than the root. The two blocks are free.
pub record CanMovePairSlots (t : KeptThread) (index : ℕ) (fresh : ℕ × ℕ) : Type 0 where
  pub ready : IsRecoveredWritableImage t
  pub below : index < length t.pairs
  pub begins : IsNonRootFirstPair t (count_before_root t.pairs) index
  pub worn : is_worn t.disk (thread_pair t index) ≡ true
  pub eighth : 8 * (used_count t.map + 2) ≤ 7 * block_count t.disk
  pub free : AreTwoFreeBlocks t.map fresh

-- The slots of the pair of that index are now in a pair behind it, in the two blocks `fresh`. Only these and the pair's own
-- blocks have changed. Two more blocks are used.
pub record AreWornPairSlotsMoved (old : KeptThread) (index : ℕ) (fresh : ℕ × ℕ) (new : KeptThread) : Type 0 where
  pub unloaded : IsFirstPairEmptied old.disk old.pairs new.disk new.pairs
  pub to : unloaded.to ≡ fresh
  pub number : length unloaded.front + 1 ≡ index
  pub files : KeepsTreeAndFiles old new
  pub others : KeepsOutsideBoth unloaded.worn.at fresh old.disk.blocks new.disk.blocks
  pub revision : ContinuesRevision old.disk unloaded.worn.at new.disk unloaded.to
  pub two_more : length (used_blocks new.disk new.pairs) ≡ length (used_blocks old.disk old.pairs) + 2
  pub root : KeepsRootPairIndex old new

-- The image may be changed. The root directory begins with the thread's first pair, which is worn. The two blocks are free.
pub record CanExpandSuperblockChain (t : KeptThread) (fresh : ℕ × ℕ) : Type 0 where
  pub ready : IsRecoveredWritableImage t
  pub root : count_before_root t.pairs ≡ 0
  pub worn : is_worn t.disk (thread_pair t 0) ≡ true
  pub eighth : 8 * (used_count t.map + 2) ≤ 7 * block_count t.disk
  pub free : AreTwoFreeBlocks t.map fresh

-- The root directory now begins with the second pair, in the two blocks `fresh`. Only these and the blocks of the first pair
-- have changed. Two more blocks are used.
pub record IsSuperblockChainExpanded (old : KeptThread) (fresh : ℕ × ℕ) (new : KeptThread) : Type 0 where
  pub unloaded : IsSuperblockExpanded old.disk old.pairs new.disk new.pairs
  pub to : unloaded.to ≡ fresh
  pub files : KeepsTreeAndFiles old new
  pub others : KeepsOutsideBoth unloaded.worn.at fresh old.disk.blocks new.disk.blocks
  pub revision : ContinuesRevision old.disk unloaded.worn.at new.disk unloaded.to
  pub two_more : length (used_blocks new.disk new.pairs) ≡ length (used_blocks old.disk old.pairs) + 2
  pub root : count_before_root new.pairs ≡ 1

-- ---- at most one pair is relocated

-- A plan before an operation that allocates at most `room` blocks: its fresh blocks are free, and its other two are a pair's.
pub record IsRelocationPlanFor (t : KeptThread) (room : ℕ) (plan : RelocationPlan) : Type 0 where
  pub free : AreTwoFreeBlocks t.map (address_of_array plan.fresh)
  pub there : Any (λ p. p.at ≡ address_of_array plan.at) t.pairs
  pub limit : plan.limit ≤ used_count t.map + room

-- the plan's two fresh blocks are different blocks of the device
pub record HasDistinctPlanBlocks (sets : BlockStates) (plan : RelocationPlan) : Type 0 where
  pub apart : (address_of_array plan.fresh).0 ≢ (address_of_array plan.fresh).1
  pub first : (address_of_array plan.fresh).0 < length sets
  pub second : (address_of_array plan.fresh).1 < length sets

-- the image may be changed by the plan
pub record CanRelocate (t : ThreadView) (root : ℕ) (plan : RelocationPlan) : Type 0 where
  pub works : t.failed ≡ false
  pub ready : IsRecoveredWritableImage t.kept
  pub root_is : root ≡ count_before_root t.kept.pairs
  pub blocks : HasDistinctPlanBlocks t.kept.map plan

-- The pair in the plan's blocks was written, and its tail names a pair in the plan's fresh blocks. No other block has changed,
-- and all other pairs are as they were.
pub record RelocatesByPlan (old : KeptThread) (plan : RelocationPlan) (new : KeptThread) : Type 0 where
  pub front : List Pair
  pub written : Pair
  pub fresh : Pair
  pub back : List Pair
  pub is : new.pairs ≡ front ++ written ∷ fresh ∷ back
  pub stay : AllByRecursion (Contains old.pairs) front
  pub stay_behind : AllByRecursion (Contains old.pairs) back
  pub next : tail_target written.content.tail ≡ Some fresh.at
  pub at : same_pair written.at (address_of_array plan.at) ≡ true
  pub to : fresh.at ≡ address_of_array plan.fresh
  pub others : KeepsOutsideBoth written.at fresh.at old.disk.blocks new.disk.blocks

-- Nothing changed, or a worn pair was relocated by the plan. The image has the same files. No more blocks are used than before,
-- or than the plan's limit. The root directory begins with the pair of index `root`.
pub record HasRelocated (old : KeptThread) (plan : RelocationPlan) (new : KeptThread) (root : ℕ) : Type 0 where
  pub moved : (new ≡ old) ⊎ (IsOnePairRelocated old.disk old.pairs new.disk new.pairs × RelocatesByPlan old plan new)
  pub files : KeepsTreeAndFiles old new
  pub few : (length (used_blocks new.disk new.pairs) ≤ length (used_blocks old.disk old.pairs)) ⊎ (length (used_blocks new.disk new.pairs) ≤ plan.limit)
  pub root_is : root ≡ count_before_root new.pairs
