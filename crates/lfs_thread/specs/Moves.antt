-- The relocation of a pair to two other blocks.
use Rattle.std.specs.Prelude.{ℕ, ◌≡◌, ◌⊎◌, ◌<◌, ◌+◌, ◌%◌, ◌^◌, true, List, length, slice_set, Option, Some, option_map}
use Rattle.lfs_model.specs.format.Blocks.{Blocks}
use Rattle.lfs_model.specs.format.Content.{content_at, current_block}
use Rattle.lfs_model.specs.format.Disk.{Disk, block_count}
use Rattle.lfs_model.specs.format.Log.{block_revision}
use Rattle.lfs_model.specs.format.Slots.{FitsInPair}
use Rattle.lfs_model.specs.format.Thread.{IsThread, Pair, is_hard_tail}
use Rattle.lfs_model.specs.tree.View.{HasFirstLogEntry, superblock_entry}
use Rattle.lfs_pair.specs.Split.{KeepsOutsideBoth}
use Rattle.lfs_thread.specs.Kept.{KeptThread}
use Rattle.lfs_thread.specs.ThreadSteps.{FreshInFlight, HasOldPair, HasSuperblock, KeepsSuperblockFirst, map_freeing, map_using, thread_pair}

-- the revision of the pair at an address: that of its active block
abbrev pub pair_revision : Disk → ℕ × ℕ → Option ℕ
pair_revision disk at = option_map block_revision (current_block disk at)

-- There is a pair at the index, with a hard tail, and one after it. The slots of each fit a pair. The two blocks are in flight.
pub record CanMoveNext (t : KeptThread) (index : ℕ) (fresh : ℕ × ℕ) : Type 0 where
  pub below : index + 1 < length t.pairs
  pub joined : is_hard_tail (thread_pair t index).content.tail ≡ true
  pub fits : FitsInPair t.disk.block_size t.disk.page (thread_pair t index).content
  pub next_fits : FitsInPair t.disk.block_size t.disk.page (thread_pair t (index + 1)).content
  pub held : FreshInFlight t.map fresh

-- the pair at an index, with a hard tail to the two blocks `fresh`
abbrev pub pair_leading_to : KeptThread → ℕ → ℕ × ℕ → Pair
pair_leading_to t index fresh = let p = thread_pair t index in record p { content = record p.content { tail = Some (record { hard = true; to = fresh }) } }

-- the pair at an index, in the two blocks `fresh`
abbrev pub pair_moved_to : KeptThread → ℕ → ℕ × ℕ → Pair
pair_moved_to t index fresh = record (thread_pair t index) { at = fresh }

abbrev pub pairs_with_next_moved : KeptThread → ℕ → ℕ × ℕ → List Pair
pairs_with_next_moved t index fresh = slice_set (slice_set t.pairs index (pair_leading_to t index fresh)) (index + 1) (pair_moved_to t (index + 1) fresh)

-- If the pair has the superblock in slot 0, its log begins with that entry.
abbrev pub BeginsWithAnySuperblock : Pair → Disk → Type 0
BeginsWithAnySuperblock p disk = HasSuperblock p.content → HasFirstLogEntry (current_block disk p.at) superblock_entry

-- A relocation that is done: the hard tail of the pair at the index names the two blocks. The pair behind it has its content
-- there, with the next revision. Its old blocks are free.
pub record IsNextMoved (old : KeptThread) (index : ℕ) (fresh : ℕ × ℕ) (new : KeptThread) : Type 0 where
  pub pairs : new.pairs ≡ pairs_with_next_moved old index fresh
  pub thread : IsThread (content_at new.disk) (block_count new.disk) new.pairs
  pub first : KeepsSuperblockFirst old.disk (thread_pair old index).at (pair_leading_to old index fresh).content new.disk
  pub anew : BeginsWithAnySuperblock (pair_moved_to old (index + 1) fresh) new.disk
  pub revision : pair_revision new.disk fresh ≡ option_map (λ r. (r + 1) % 2 ^ 32) (pair_revision old.disk (thread_pair old (index + 1)).at)
  pub map : new.map ≡ map_freeing (map_using old.map fresh) (thread_pair old (index + 1)).at

-- on the disk, the hard tail of the pair at the index names the two blocks, which have the content of the pair behind it
pub record NextMovedOnDisk (old : KeptThread) (index : ℕ) (fresh : ℕ × ℕ) (disk : Disk) : Type 0 where
  pub leads : content_at disk (thread_pair old index).at ≡ Some (pair_leading_to old index fresh).content
  pub moved : content_at disk fresh ≡ Some (pair_moved_to old (index + 1) fresh).content
  pub first : KeepsSuperblockFirst old.disk (thread_pair old index).at (pair_leading_to old index fresh).content disk
  pub anew : BeginsWithAnySuperblock (pair_moved_to old (index + 1) fresh) disk

-- A stop leaves the pair at the index with its old content, or the pair behind it relocated.
pub record LossLeavesNextMoved (old : KeptThread) (index : ℕ) (fresh : ℕ × ℕ) (left : Blocks) : Type 0 where
  pub others : KeepsOutsideBoth (thread_pair old index).at fresh old.disk.blocks left
  pub content : HasOldPair old index (record old.disk { blocks = left })
      ⊎ NextMovedOnDisk old index fresh (record old.disk { blocks = left })
