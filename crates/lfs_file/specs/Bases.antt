-- The old list of a draft: a list, or nothing.
use Rattle.std.specs.Prelude.{ℕ, ◌≡◌, ◌⊎◌, All, List}
use Rattle.lfs_model.specs.format.Blocks.{Blocks}
use Rattle.lfs_model.specs.layers.BlockSets.{BlockStates}
use Rattle.lfs_file.specs.BlocksApart.{IsTakenNotPending}
use Rattle.lfs_model.specs.format.SkipLists.{IsSkipList, blocks_to_head, skip_list_block_count}

abbrev pub IsListOrEmpty : Blocks → ℕ → ℕ → ℕ → Type 0
IsListOrEmpty disk block_size head size = (size ≡ 0) ⊎ IsSkipList disk block_size head size

-- the blocks of a list by its head and its size
abbrev pub blocks_of_list : Blocks → ℕ → ℕ → ℕ → List ℕ
blocks_of_list disk block_size head size = blocks_to_head disk (skip_list_block_count block_size size) head

-- no block of the old list is one that the new list writes
pub record IsBaseApart (map : BlockStates) (pending : List ℕ) (disk : Blocks) (block_size head size : ℕ) : Type 0 where
  pub base : IsListOrEmpty disk block_size head size
  pub apart : All (IsTakenNotPending map pending) (blocks_of_list disk block_size head size)
