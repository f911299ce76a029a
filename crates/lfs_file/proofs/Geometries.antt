-- A list for the geometry of a device.
use Rattle.std.proofs.Common.{ℕ, ◌≡◌, ◌≤◌, ◌+◌, ◌-◌, sym, ap, subst, ◌∙◌, arith}
use Rattle.lfs_device.specs.declared.geometry.Geometry.{Geometry}
use Rattle.lfs_file.proofs.Common.{Blocks, HasBlockSizes, AreListBlocks, IsSkipList, skip_list_block_count}
use Rattle.lfs_file.proofs.Sizes.{blocks_for-last}

-- the last index and one more is the number of blocks
pub last_is : (block_size size n : ℕ) → 1024 ≤ block_size → 1 ≤ size → n ≡ skip_list_block_count block_size size → n - 1 + 1 ≡ skip_list_block_count block_size size
last_is block_size size n large some is =
    let last = blocks_for-last block_size size large some in
    omega (arith, last.1.0)

-- a list is a chain from its last block
pub chain : (d : Blocks) (block_size head size n : ℕ) → 1024 ≤ block_size → n ≡ skip_list_block_count block_size size → IsSkipList d block_size head size → AreListBlocks d (n - 1 + 1) head
chain d block_size head size n large is ok = subst (λ k. AreListBlocks d k head) (sym (last_is block_size size n large ok.size_low is)) ok.blocks

-- a list, or blocks, by the geometry that the device gave
pub sized : (d : Blocks) (head size : ℕ) (geometry made : Geometry) → made ≡ geometry → IsSkipList d geometry.block_size head size → IsSkipList d made.block_size head size
sized d head size geometry made e ok = subst (λ (k : Geometry). IsSkipList d k.block_size head size) (sym e) ok

pub shaped : (d : Blocks) (geometry made : Geometry) → made ≡ geometry → HasBlockSizes geometry.block_size geometry.block_count d → HasBlockSizes made.block_size geometry.block_count d
shaped d geometry made e shape = subst (λ (k : Geometry). HasBlockSizes k.block_size geometry.block_count d) (sym e) shape

pub count_by : (geometry made : Geometry) (size n : ℕ) → made ≡ geometry → 1 ≤ size → n ≡ skip_list_block_count made.block_size size → n - 1 + 1 ≡ skip_list_block_count geometry.block_size size
count_by geometry made size n e some is = last_is made.block_size size n made.valid.no_smaller some is ∙ ap (λ (k : Geometry). skip_list_block_count k.block_size size) e
