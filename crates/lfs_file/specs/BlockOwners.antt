-- The lists to which blocks belong.
use Rattle.std.specs.Prelude.{ℕ, ◌≡◌, ◌++◌, true, Contains, List, []}
use Rattle.lfs_model.specs.format.Blocks.{Blocks}
use Rattle.lfs_model.specs.layers.BlockSets.{BlockStates, IsUsedBlock}
use Rattle.lfs_file.specs.Growing.{lasting_blocks}
use Rattle.lfs_file.specs.Bases.{blocks_of_list}
use Rattle.lfs_file.specs.declared.contents.WriterContents.{WriterContents}
use Rattle.lfs_file.specs.declared.contents.WriterContents.TheVariants.{InMemory, Finished, InHand}
use Rattle.lfs_file.specs.declared.stored_list.StoredList.{StoredList}

-- each used block among `bs` is in `own`; the other blocks of `bs`, if none is free, are in flight
pub record AreUsedAmong (map : BlockStates) (own bs : List ℕ) : Type 0 where
  pub each : (b : ℕ) → Contains bs b → IsUsedBlock map b → Contains own b

abbrev pub stored_blocks : Blocks → ℕ → StoredList → List ℕ
stored_blocks disk block_size s = blocks_of_list disk block_size s.head s.size

-- the blocks of the contents' lists
abbrev pub contents_blocks : Blocks → ℕ → WriterContents → List ℕ
contents_blocks disk block_size (InMemory list) = []
contents_blocks disk block_size (Finished stored) = stored_blocks disk block_size stored
contents_blocks disk block_size (InHand hand) = lasting_blocks disk hand.list ++ stored_blocks disk block_size hand.base

-- the same list, in the same blocks
pub record KeepsStoredBlocks (block_size : ℕ) (old : Blocks) (was : StoredList) (new : Blocks) (now : StoredList) : Type 0 where
  pub same : now ≡ was
  pub blocks : stored_blocks new block_size now ≡ stored_blocks old block_size was

-- the list may be in flight, and its used blocks are those of its old list
pub record AreFromBase (map : BlockStates) (block_size : ℕ) (old : Blocks) (base : StoredList) (new : Blocks) (now : StoredList) : Type 0 where
  pub flying : now.in_flight ≡ true
  pub owned : AreUsedAmong map (stored_blocks old block_size base) (stored_blocks new block_size now)

-- the list has only blocks of `was`, and is in flight if that one was
pub record HasOnlyBlocksOf (block_size : ℕ) (old : Blocks) (was : StoredList) (new : Blocks) (now : StoredList) : Type 0 where
  pub flying : now.in_flight ≡ was.in_flight
  pub among : (b : ℕ) → Contains (stored_blocks new block_size now) b → Contains (stored_blocks old block_size was) b
