-- The unload of a pair: a fresh pair behind it gets all its slots, and only the first stay.
use Rattle.std.specs.Prelude.{ℕ, ◌≡◌, ◌⊎◌, ◌<◌, ◌≤◌, ◌+◌, ◌%◌, ◌^◌, ◌++◌, true, List, [], ◌∷◌, length, replicate, take, Some, option_map}
use Rattle.lfs_model.specs.format.Blocks.{Blocks}
use Rattle.lfs_model.specs.format.Content.{content_at}
use Rattle.lfs_model.specs.format.Disk.{Disk, block_count}
use Rattle.lfs_model.specs.format.Slots.{FitsInPair, zero_gstate}
use Rattle.lfs_model.specs.format.Thread.{IsThread, Pair}
use Rattle.lfs_model.specs.layers.Changes.{ContentChange, Delete, PutTail}
use Rattle.lfs_pair.specs.Split.{KeepsOutsideBoth}
use Rattle.lfs_thread.specs.Kept.{KeptThread}
use Rattle.lfs_thread.specs.Moves.{pair_revision}
use Rattle.lfs_thread.specs.ThreadSteps.{FreshInFlight, HasOldPair, KeepsSuperblockFirst, map_using, pairs_split, thread_pair}

-- There is a pair at the index with at least `keep` slots, which fit a pair. The two blocks are in flight.
pub record CanUnload (t : KeptThread) (index : ℕ) (fresh : ℕ × ℕ) (keep : ℕ) : Type 0 where
  pub below : index < length t.pairs
  pub slots : keep ≤ length (thread_pair t index).content.slots
  pub fits : FitsInPair t.disk.block_size t.disk.page (thread_pair t index).content
  pub held : FreshInFlight t.map fresh

-- The changes that delete `count` slots behind the first `keep`, and set a hard tail to the two blocks.
abbrev pub changes_of_unload : ℕ × ℕ → ℕ → ℕ → List ContentChange
changes_of_unload fresh keep count = replicate count (Delete keep) ++ PutTail true (Some fresh) ∷ []

-- the pair at an index with its first `keep` slots, its delta of the global state, and a hard tail to the two blocks
abbrev pub unloaded_pair : KeptThread → ℕ → ℕ × ℕ → ℕ → Pair
unloaded_pair t index fresh keep = let p = thread_pair t index in record p { content = record p.content { slots = take keep p.content.slots; tail = Some (record { hard = true; to = fresh }) } }

-- a pair in the two blocks, with all slots and the tail of the pair at an index
abbrev pub pair_behind_unloaded : KeptThread → ℕ → ℕ × ℕ → Pair
pair_behind_unloaded t index fresh = record { at = fresh; content = record (thread_pair t index).content { move = zero_gstate } }

-- A pair that was unloaded: the fresh pair follows it, with all of its slots, its tail and the next revision.
pub record IsUnloaded (old : KeptThread) (index : ℕ) (fresh : ℕ × ℕ) (keep : ℕ) (new : KeptThread) : Type 0 where
  pub pairs : new.pairs ≡ pairs_split old.pairs index (unloaded_pair old index fresh keep) (pair_behind_unloaded old index fresh)
  pub thread : IsThread (content_at new.disk) (block_count new.disk) new.pairs
  pub first : KeepsSuperblockFirst old.disk (thread_pair old index).at (unloaded_pair old index fresh keep).content new.disk
  pub revision : pair_revision new.disk fresh ≡ option_map (λ r. (r + 1) % 2 ^ 32) (pair_revision old.disk (thread_pair old index).at)
  pub map : new.map ≡ map_using old.map fresh

-- on the disk, the pair at the index has its first slots, and the fresh pair has all of them
pub record UnloadedOnDisk (old : KeptThread) (index : ℕ) (fresh : ℕ × ℕ) (keep : ℕ) (disk : Disk) : Type 0 where
  pub keeps : content_at disk (thread_pair old index).at ≡ Some (unloaded_pair old index fresh keep).content
  pub behind : content_at disk fresh ≡ Some (pair_behind_unloaded old index fresh).content
  pub first : KeepsSuperblockFirst old.disk (thread_pair old index).at (unloaded_pair old index fresh keep).content disk

-- A stop leaves the pair with its old content, or unloaded.
pub record LossLeavesUnloaded (old : KeptThread) (index : ℕ) (fresh : ℕ × ℕ) (keep : ℕ) (left : Blocks) : Type 0 where
  pub others : KeepsOutsideBoth (thread_pair old index).at fresh old.disk.blocks left
  pub content : HasOldPair old index (record old.disk { blocks = left })
      ⊎ UnloadedOnDisk old index fresh keep (record old.disk { blocks = left })
