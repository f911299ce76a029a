-- The bytes of blocks, and changes to them.
use Rattle.std.specs.Prelude.{◌≡◌, ◌≢◌, ◌<◌, ℕ, zero, suc, ◌+◌, List, [], ◌∷◌, ◌++◌, length, take, drop, slice_index_or, slice_set, All}

-- The bytes of each block, by its address.
abbrev pub Blocks : Type 0
Blocks = List (List ℕ)

-- The bytes of block `b`, or none if `b` is out of range.
abbrev pub block_bytes : Blocks → ℕ → List ℕ
block_bytes blocks b = slice_index_or blocks b []

-- There are `block_count` blocks of `block_size` bytes each.
pub record HasBlockSizes (block_size block_count : ℕ) (blocks : Blocks) : Type 0 where
  pub count : length blocks ≡ block_count
  pub sizes : (b : ℕ) → b < block_count → length (block_bytes blocks b) ≡ block_size

-- The bytes of `block`, overwritten with `bytes` from the offset `at` on.
abbrev pub overwritten_at : List ℕ → ℕ → List ℕ → List ℕ
overwritten_at block at bytes = take at block ++ bytes ++ drop (at + length bytes) block

-- The blocks after `bytes` were programmed into block `b` from the offset `at` on.
abbrev pub programmed : Blocks → ℕ → ℕ → List ℕ → Blocks
programmed blocks b at bytes = slice_set blocks b (overwritten_at (block_bytes blocks b) at bytes)

-- Only the bytes of block `b` may differ. The number and the sizes of the blocks are the same.
pub record SameExcept (b : ℕ) (old new : Blocks) : Type 0 where
  pub count : length new ≡ length old
  pub size : length (block_bytes new b) ≡ length (block_bytes old b)
  pub others : (other : ℕ) → other ≢ b → block_bytes new other ≡ block_bytes old other

-- Only the bytes from the offset `low` up to `high` may differ.
pub record SameOutside (low high : ℕ) (old new : List ℕ) : Type 0 where
  pub below : take low new ≡ take low old
  pub above : drop high new ≡ drop high old

-- Only the bytes of the blocks `bs` may differ. The number and the sizes of the blocks are the
-- same.
pub record SameExceptBlocks (bs : List ℕ) (old new : Blocks) : Type 0 where
  pub count : length new ≡ length old
  pub sizes : (b : ℕ) → length (block_bytes new b) ≡ length (block_bytes old b)
  pub others : (other : ℕ) → All (λ b. b ≢ other) bs → block_bytes new other ≡ block_bytes old other

-- The first `count` blocks in `bytes`, each of `size` bytes.
abbrev pub cut : ℕ → ℕ → List ℕ → Blocks
cut size zero bytes = []
cut size (suc count) bytes = take size bytes ∷ cut size count (drop size bytes)
