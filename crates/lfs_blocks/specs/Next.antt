-- The next free block, wrapping around at the end of the device.
use Rattle.std.specs.Prelude.{ℕ, ◌≤◌, ◌<◌, ◌%◌, ◌⊎◌, Option, IfNone, IfSome, length}
use Rattle.lfs_model.specs.layers.BlockSets.{BlockStates, IsFree}

-- Block `b` is the first free block from block `from` on, wrapping around from the last block to
-- block 0.
pub record IsNextFree (sets : BlockStates) (from b : ℕ) : Type 0 where
  pub free : IsFree sets b
  pub ahead : from ≤ b → (other : ℕ) → from ≤ other → other < b → ¬ (IsFree sets other)
  pub around : b < from → (other : ℕ) → (from ≤ other) ⊎ (other < b) → ¬ (IsFree sets other)

-- A search for free blocks begins at `number`, modulo the number of blocks, and finds `first`: None
-- if no block is free.
pub record BeginsAt (sets : BlockStates) (number : ℕ) (first : Option ℕ) : Type 0 where
  pub next : IfSome first (IsNextFree sets (number % length sets))
  pub none : IfNone first ((block : ℕ) → ¬ (IsFree sets block))
