-- The effects of calls on one block, or on the blocks of a list.
use Rattle.std.specs.Prelude.{◌≡◌, ◌≤◌, ◌<◌, ◌+◌, ◌-◌, ◌*◌, ◌^◌, ◌++◌, ◌∷◌, [], ℕ, List, Result, IfOk, IsErrOf, OnOk, drop, length, slice_index, take}
use Rattle.lfs_device.specs.declared.error.Error.{Error}
use Rattle.lfs_device.specs.declared.error.Error.TheVariants.{Corrupt}
use Rattle.lfs_model.specs.format.Blocks.{Blocks, block_bytes}
use Rattle.lfs_model.specs.format.SkipLists.{AreListBlocks, IsSkipList, skip_list_block_count, blocks_to_head, pointer_count, word_at}
use Rattle.lfs_model.specs.session.History.{CallEvent, read_count}
use Rattle.lfs_file.specs.declared.block.FullBlocks.{FullBlocks}
use Rattle.lfs_file.specs.declared.known.IndexCache.{IndexCache}
use Rattle.lfs_file.specs.Appended.{IsBlockAppended}
use Rattle.lfs_file.specs.Counts.{WritesEachOnce}
use Rattle.lfs_file.specs.Extended.{ListHasBytes}
use Rattle.lfs_file.specs.FewReads.{FillsFew, WritesLastFew}
use Rattle.lfs_file.specs.Front.{ReadsUnknownPointers}
use Rattle.lfs_file.specs.Growing.{GrowingList, growing_bytes, growing_size, unwritten_block}
use Rattle.lfs_file.specs.Known.{AreKnownBlocks, IsKnownIndex}
use Rattle.lfs_file.specs.Right.{LaterPointersName}

-- at Ok the buffer begins with the pointers of the next block; behind them it is unchanged
pub record BuffersPointers (disk : Blocks) (front : FullBlocks) (old new : List ℕ) (result : Result Unit Error) : Type 0 where
  pub pointers : OnOk result ((k : ℕ) → k < pointer_count front.count → word_at new (4 * k) ≡ slice_index (blocks_to_head disk front.count front.head) (front.count - 2 ^ k))
  pub rest : drop (4 * pointer_count front.count) new ≡ drop (4 * pointer_count front.count) old

-- a list has one more block, with these bytes behind its pointers
pub record HasAppendedBlock (old new : Blocks) (count head b size : ℕ) (bytes : List ℕ) : Type 0 where
  pub appended : IsBlockAppended old new count head b
  pub held : take size (drop (4 * pointer_count count) (block_bytes new b)) ≡ bytes

-- one erase, one program, and one read for each pointer that wasn't cached
pub record WritesBlockOnce (front later : FullBlocks) (before after : List CallEvent) : Type 0 where
  pub writes : WritesEachOnce 0 1 before after
  pub few : ReadsUnknownPointers front later before after

-- a list has the first `n` of these bytes in addition, and this block
pub record HasFilledBlock (old new : Blocks) (list later : GrowingList) (b n : ℕ) (bytes : List ℕ) : Type 0 where
  pub count : (1 ≤ n) × (n ≤ length bytes)
  pub grown : ListHasBytes list.geometry new later (growing_bytes old list ++ take n bytes) (growing_size list + n) (blocks_to_head old list.full list.head ++ b ∷ []) (blocks_to_head old list.full list.head ++ b ∷ [])

-- each block that became full was erased and programmed once, with few reads
pub record FillsOneBlock (list later : GrowingList) (before after : List CallEvent) : Type 0 where
  pub few : FillsFew list later before after
  pub writes : WritesEachOnce list.full later.full before after

-- ending a list costs no call if no partial block is buffered; otherwise it writes that block, with few reads
pub record FinishCalls (list : GrowingList) (old new : Blocks) (before after : List CallEvent) (result : Result (ℕ × ℕ) Error) : Type 0 where
  pub no_call : unwritten_block list ≡ [] → (after ≡ before) × (new ≡ old)
  pub writes : OnOk result (WritesEachOnce 0 (length (unwritten_block list)) before after)
  pub few : OnOk result (WritesLastFew list before after)

-- if the cached blocks are those of the list, the block at the index is found, and the cached blocks still are the list's
pub record FindsKnownBlock (disk : Blocks) (last head n : ℕ) (old new : IndexCache) (result : Result ℕ Error) : Type 0 where
  pub found : AreListBlocks disk (last + 1) head → AreKnownBlocks (blocks_to_head disk (last + 1) head) old → IfOk result (λ b. b ≡ slice_index (blocks_to_head disk (last + 1) head) n)
  pub known : AreListBlocks disk (last + 1) head → AreKnownBlocks (blocks_to_head disk (last + 1) head) old → AreKnownBlocks (blocks_to_head disk (last + 1) head) new

-- at most one read, and none for a cached block
pub record ReadsUnlessKnown (old new : IndexCache) (n : ℕ) (before after : List CallEvent) : Type 0 where
  pub few : read_count after ≤ read_count before + 1
  pub known : IsKnownIndex old n → (new ≡ old) × (read_count after ≡ read_count before)

-- at Ok the block is on the device, and the later pointers name it; at `Corrupt` one of both is false
pub record ChecksBlock {X : Type 0} (count b last n : ℕ) (words : List ℕ) (result : Result X Error) : Type 0 where
  pub right : OnOk result ((b < count) × LaterPointersName words b n last)
  pub corrupt : IsErrOf result Corrupt → b < count → ¬ LaterPointersName words b n last

-- there is a list, read with fewer reads than it has blocks
pub record IsListReadOnce (disk : Blocks) (block_size head size : ℕ) (before after : List CallEvent) : Type 0 where
  pub list : IsSkipList disk block_size head size
  pub few : read_count after < read_count before + skip_list_block_count block_size size
