-- Changes of the states of a list's blocks.
use Rattle.std.specs.Prelude.{ℕ, ◌≡◌, ◌≢◌, Bool, true, false, All, Contains, List, Some, length, slice_get}
use Rattle.lfs_model.specs.format.Blocks.{Blocks}
use Rattle.lfs_model.specs.layers.BlockSets.{BlockStates, BlockState, IsFree, IsUsedBlock}
use Rattle.lfs_model.specs.layers.BlockSets.BlockState.{Free, Used}
use Rattle.lfs_file.specs.Bases.{IsListOrEmpty}
use Rattle.lfs_file.specs.BlockOwners.{stored_blocks}
use Rattle.lfs_file.specs.declared.stored_list.StoredList.{StoredList}

-- used, or free
abbrev pub used_or_free : Bool → BlockState
used_or_free true = Used
used_or_free false = Free

-- each of these blocks has this state, and the other blocks keep theirs
pub record SetsState (state : BlockState) (old new : BlockStates) (bs : List ℕ) : Type 0 where
  pub count : length new ≡ length old
  pub put : All (λ b. slice_get new b ≡ Some state) bs
  pub others : (b : ℕ) → All (λ x. x ≢ b) bs → slice_get new b ≡ slice_get old b

-- The blocks of the list `kept` are used, and those of the list `gone` alone are free.
pub record SettlesList (old new : BlockStates) (gone kept : List ℕ) : Type 0 where
  pub count : length new ≡ length old
  pub used : All (IsUsedBlock new) kept
  pub freed : (b : ℕ) → Contains gone b → All (λ x. x ≢ b) kept → IsFree new b
  pub others : (b : ℕ) → All (λ x. x ≢ b) gone → All (λ x. x ≢ b) kept → slice_get new b ≡ slice_get old b

-- blocks that are in both lists are used
pub record AreSharedUsed (sets : BlockStates) (gone kept : List ℕ) : Type 0 where
  pub used : (b : ℕ) → Contains gone b → Contains kept b → IsUsedBlock sets b

-- the blocks that aren't among these keep their states
pub record KeepsOtherStates (old new : BlockStates) (bs : List ℕ) : Type 0 where
  pub count : length new ≡ length old
  pub others : (b : ℕ) → ¬ (Contains bs b) → slice_get new b ≡ slice_get old b

-- The map is of this disk, which has both lists. Either may have no block, and blocks of both are used.
pub record CanSettleList (sets : BlockStates) (disk : Blocks) (block_size : ℕ) (before stored : StoredList) : Type 0 where
  pub gone : IsListOrEmpty disk block_size before.head before.size
  pub kept : IsListOrEmpty disk block_size stored.head stored.size
  pub count : length sets ≡ length disk
  pub shared : AreSharedUsed sets (stored_blocks disk block_size before) (stored_blocks disk block_size stored)
