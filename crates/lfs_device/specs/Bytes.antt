-- Bytes are numbers below 256.
use Rattle.std.specs.Prelude.{ℕ, ◌<◌, List, slice_index}
use Rattle.lfs_model.specs.format.Blocks.{Blocks, block_bytes}

-- The elements of the list are bytes.
abbrev pub ElementsAreBytes : List ℕ → Type 0
ElementsAreBytes bytes = (i : ℕ) → slice_index bytes i < 256

-- Every block consists of bytes.
abbrev pub AreByteBlocks : Blocks → Type 0
AreByteBlocks blocks = (b i : ℕ) → slice_index (block_bytes blocks b) i < 256
