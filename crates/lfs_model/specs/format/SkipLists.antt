-- CTZ skip-lists: the blocks of a file, linked from the last one back to the first.
use Rattle.std.specs.Prelude.{ℕ, zero, suc, ◌+◌, ◌*◌, ◌-◌, ◌≡◌, ◌<◌, ◌≤◌, ◌^◌, ◌==◌, if◌then◌else◌, List, [], ◌∷◌, ◌++◌, length, take, drop, All, nat_eq, slice_index, slice_range}
use Rattle.std.specs.List.{flat_map, enumerate_from, IsDistinct}
use Rattle.lfs_model.specs.format.Blocks.{Blocks, block_bytes}
use Rattle.std.specs.Int.{w32, from_le_bytes, trailing_zeros}

-- The little-endian 32-bit word at the offset `off` of a block.
abbrev pub word_at : List ℕ → ℕ → ℕ
word_at block off = from_le_bytes w32 (slice_range block off (off + 4))

-- The number of pointers at the beginning of block i of a list.
abbrev pub pointer_count : ℕ → ℕ
pointer_count zero = 0
pointer_count (suc i) = trailing_zeros w32 (suc i) + 1

-- The number of the file's bytes that fit in block `i` of its list.
abbrev pub block_capacity : ℕ → ℕ → ℕ
block_capacity block_size i = block_size - 4 * pointer_count i

-- The number of the file's bytes that fit in the blocks before block i of its list.
abbrev pub bytes_before_block : ℕ → ℕ → ℕ
bytes_before_block block_size zero = 0
bytes_before_block block_size (suc i) = bytes_before_block block_size i + block_capacity block_size i

-- The byte `pos` of a file is at the offset `offset` in block `index` of its list.
pub record IsByteInListBlock (block_size pos index offset : ℕ) : Type 0 where
  pub from : bytes_before_block block_size index ≤ pos
  pub below : pos < bytes_before_block block_size index + block_capacity block_size index
  pub at : offset ≡ 4 * pointer_count index + (pos - bytes_before_block block_size index)

-- The smallest number of blocks, from block `i` of a list on, that hold `size` bytes. `steps`
-- limits the recursion.
abbrev pub list_block_count_from : ℕ → ℕ → ℕ → ℕ → ℕ
list_block_count_from zero block_size i size = 0
list_block_count_from (suc steps) block_size i size =
    if size == 0 then 0 else 1 + list_block_count_from steps block_size (i + 1) (size - block_capacity block_size i)

-- The number of blocks in the list of a file of `size` bytes.
abbrev pub skip_list_block_count : ℕ → ℕ → ℕ
skip_list_block_count block_size size = list_block_count_from size block_size 0 size

-- The addresses of the given number of blocks, found from `head` back by pointer 0. The first block
-- of the file is the first one.
abbrev pub blocks_to_head : Blocks → ℕ → ℕ → List ℕ
blocks_to_head disk zero head = []
blocks_to_head disk (suc zero) head = head ∷ []
blocks_to_head disk (suc (suc n)) head = blocks_to_head disk (suc n) (word_at (block_bytes disk head) 0) ++ head ∷ []

-- The `count` blocks found from `head` back are in range and distinct, and have the pointers of the
-- first `count` blocks of a CTZ skip-list.
pub record AreListBlocks (disk : Blocks) (count head : ℕ) : Type 0 where
  pub in_range : All (λ b. b < length disk) (blocks_to_head disk count head)
  pub distinct : IsDistinct nat_eq (blocks_to_head disk count head)
  -- Pointer k of block i is the address of block i - 2^k.
  pub pointers : (i k : ℕ) → i < count → k < pointer_count i →
      word_at (block_bytes disk (slice_index (blocks_to_head disk count head) i)) (4 * k) ≡ slice_index (blocks_to_head disk count head) (i - 2 ^ k)

-- `head` is the last block of a well-formed CTZ skip-list of a file of `size` bytes.
pub record IsSkipList (disk : Blocks) (block_size head size : ℕ) : Type 0 where
  pub size_low : 1 ≤ size
  pub size_high : size < 2 ^ 31
  pub blocks : AreListBlocks disk (skip_list_block_count block_size size) head

-- The bytes after the pointers in block `b`, which is block `i` of a list.
abbrev pub block_data : Blocks → ℕ × ℕ → List ℕ
block_data disk (i, b) = drop (4 * pointer_count i) (block_bytes disk b)

-- The bytes of the file whose list has the head `head` and the size `size`.
abbrev pub list_bytes : Blocks → ℕ → ℕ → ℕ → List ℕ
list_bytes disk block_size head size =
    take size (flat_map (block_data disk) (enumerate_from 0 (blocks_to_head disk (skip_list_block_count block_size size) head)))
