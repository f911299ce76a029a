-- The number of reads that extending a list costs.
use Rattle.std.specs.Prelude.{ℕ, zero, suc, ◌≡◌, ◌≤◌, ◌<◌, ◌+◌, ◌-◌, ◌*◌, ◌^◌, List}
use Rattle.lfs_model.specs.session.History.{CallEvent, read_count}
use Rattle.lfs_model.specs.format.SkipLists.{skip_list_block_count, pointer_count}
use Rattle.lfs_file.specs.Growing.{GrowingList}
use Rattle.lfs_file.specs.Known.{ArePointersKnown, ArePointedKnown}

-- the number of pointers of the first `n` blocks, without the first pointer of each
abbrev pub further_pointers : ℕ → ℕ
further_pointers zero = 0
further_pointers (suc n) = further_pointers n + (pointer_count n - 1)

-- An extender resumed the first `keep` bytes of a list. The walk to their last block costs a read for each pointer: at most twice
-- the logarithm of the list's number of blocks, and at most the number of blocks behind that one. The block costs one read.
pub record ResumesFew (block_size size keep : ℕ) (before after : List CallEvent) : Type 0 where
  pub few : (m : ℕ) → skip_list_block_count block_size size ≤ 2 ^ m → read_count after ≤ read_count before + 2 * m + 1
  pub near : read_count after ≤ read_count before + (skip_list_block_count block_size size - skip_list_block_count block_size keep) + 1

-- Each pointer of the filled blocks, except the first of each, costs at most one read. If all blocks that later pointers name are
-- cached, there is no read, and they are still cached afterwards.
pub record FillsFew (old new : GrowingList) (before after : List CallEvent) : Type 0 where
  pub few : read_count after + further_pointers old.full ≤ read_count before + further_pointers new.full
  pub none : ArePointedKnown old.full old.known → (read_count after ≡ read_count before) × ArePointedKnown new.full new.known
  pub longer : old.full ≤ new.full
  -- if no block was filled, nothing was read, and the cached blocks are the same
  pub unfilled : new.full ≤ old.full → (read_count after ≡ read_count before) × (new.known ≡ old.known)
  -- the first block's pointers cost no read if they were cached
  pub first : ArePointersKnown old.full old.known → old.full < new.full → read_count after + further_pointers (old.full + 1) ≤ read_count before + further_pointers new.full

-- the same for the last block, which isn't full
pub record WritesLastFew (list : GrowingList) (before after : List CallEvent) : Type 0 where
  pub few : read_count after ≤ read_count before + (pointer_count list.full - 1)
  pub none : ArePointersKnown list.full list.known → read_count after ≡ read_count before
