-- The index cache of a list.
use Rattle.std.specs.Prelude.{ℕ, ◌≡◌, ◌+◌, ◌*◌, ◌-◌, ◌<◌, ◌≤◌, ◌^◌, List, length, min, replicate, slice_index}
use Rattle.std.specs.Int.{w32, trailing_zeros}
use Rattle.lfs_model.specs.session.History.{CallEvent, read_count}
use Rattle.lfs_model.specs.format.SkipLists.{IsByteInListBlock, skip_list_block_count, pointer_count}
use Rattle.lfs_file.specs.declared.known.IndexCache.{IndexCache}

-- Each cached block is the list's block at its index. A row with the index 2^32 - 1 is empty.
abbrev pub AreKnownBlocks : List ℕ → IndexCache → Type 0
AreKnownBlocks all known = (row : ℕ) → row < 32 → slice_index known.indices row < 2 ^ 32 - 1 → slice_index known.indices row < length all → slice_index known.blocks row ≡ slice_index all (slice_index known.indices row)

-- only blocks before an index are cached
abbrev pub OnlyBelowKnown : ℕ → IndexCache → Type 0
OnlyBelowKnown count known = (row : ℕ) → row < 32 → slice_index known.indices row < 2 ^ 32 - 1 → slice_index known.indices row < count

abbrev pub no_known_blocks : IndexCache
no_known_blocks = record { indices = replicate 32 (2 ^ 32 - 1); blocks = replicate 32 0; end = 2 ^ 32 - 1 }

-- the row of the block at an index
abbrev pub index_row : ℕ → ℕ
index_row index = min (trailing_zeros w32 index) 31

-- the block at this index is cached
abbrev pub IsKnownIndex : IndexCache → ℕ → Type 0
IsKnownIndex known index = slice_index known.indices (index_row index) ≡ index

-- each block that a pointer of the block at an index names is cached
abbrev pub ArePointersKnown : ℕ → IndexCache → Type 0
ArePointersKnown index known = (k : ℕ) → k < pointer_count index → IsKnownIndex known (index - 2 ^ k)

-- each block before an index that a pointer of a block from that index on names is cached
abbrev pub ArePointedKnown : ℕ → IndexCache → Type 0
ArePointedKnown count known = (n k : ℕ) → count ≤ n → n < 2 ^ 32 → k < pointer_count n → n - 2 ^ k < count → IsKnownIndex known (n - 2 ^ k)

-- The walk from the list's last block to the one at an index costs at most twice the logarithm of the list's number of blocks,
-- and at most `last - index` reads.
pub record WalksFew (last index : ℕ) (old new : List CallEvent) : Type 0 where
  pub few : (m : ℕ) → last < 2 ^ m → read_count new ≤ read_count old + 2 * m
  pub near : read_count new ≤ read_count old + (last - index)

-- The walk to the block at an index costs at most twice the logarithm of the list's number of blocks, and at most as many reads
-- as the index is before the last block or a cached one.
pub record FindsFew (known : IndexCache) (last index : ℕ) (later : IndexCache) (old new : List CallEvent) : Type 0 where
  pub now : IsKnownIndex later index
  pub far : read_count new ≤ read_count old + (last - index)
  pub few : (m : ℕ) → last < 2 ^ m → read_count new ≤ read_count old + 2 * m
  pub near : (i : ℕ) → IsKnownIndex known i → index ≤ i → i ≤ last → read_count new ≤ read_count old + (i - index)

-- Bytes of the blocks from one index to another were read, of a list of `count` blocks. The walk to the last of them costs at
-- most twice the logarithm of that number, and at most as many reads as the block is before a cached one. Each other block costs
-- two reads.
pub record ReadsFewPointers (known : IndexCache) (count first last read : ℕ) (later : IndexCache) (old new : List CallEvent) : Type 0 where
  pub now : 1 ≤ read → IsKnownIndex later last
  pub few : (m : ℕ) → count ≤ 2 ^ m → read_count new ≤ read_count old + 2 * m + 2 * (last - first) + 1
  pub near : (i : ℕ) → IsKnownIndex known i → last ≤ i → i < count → read_count new ≤ read_count old + (i - last) + 2 * (last - first) + 1

-- `count` bytes from a position on, or as many as the list has there, were read from a list of this size.
abbrev pub ReadsKnownList : ℕ → ℕ → ℕ → ℕ → IndexCache → IndexCache → List CallEvent → List CallEvent → Type 0
ReadsKnownList block_size size position count known later old new = (first last off end : ℕ) → IsByteInListBlock block_size position first off → IsByteInListBlock block_size (position + min count (size - position) - 1) last end
    → ReadsFewPointers known (skip_list_block_count block_size size) first last (min count (size - position)) later old new
