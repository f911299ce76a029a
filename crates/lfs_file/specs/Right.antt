-- The pointers of a list's blocks, as a walk from the head back checks them.
use Rattle.std.specs.Prelude.{ℕ, ◌≡◌, ◌≤◌, ◌<◌, ◌-◌, ◌*◌, ◌^◌, List}
use Rattle.std.specs.Int.{w32, trailing_zeros}
use Rattle.lfs_model.specs.format.Blocks.{Blocks, block_bytes}
use Rattle.lfs_model.specs.format.SkipLists.{pointer_count, word_at}

-- Each later block that has a pointer to this index names this block. The word of each power of two is that of the last block
-- that has such a pointer.
abbrev pub LaterPointersName : List ℕ → ℕ → ℕ → ℕ → Type 0
LaterPointersName words block index last = (k : ℕ) → 2 ^ k ≤ last - index → k ≤ trailing_zeros w32 index → word_at words (4 * k) ≡ block

-- the words after the pointers of the block at that index were copied over them
pub record ArePointersCopied (disk : Blocks) (block index : ℕ) (old new : List ℕ) : Type 0 where
  pub own : (k : ℕ) → k < pointer_count index → word_at new (4 * k) ≡ word_at (block_bytes disk block) (4 * k)
  pub others : (k : ℕ) → pointer_count index ≤ k → k < 32 → word_at new (4 * k) ≡ word_at old (4 * k)
