-- A list that was ended.
use Rattle.std.specs.Prelude.{ℕ, ◌≡◌, List}
use Rattle.lfs_model.specs.format.Blocks.{Blocks}
use Rattle.lfs_model.specs.format.SkipLists.{IsSkipList, blocks_to_head, skip_list_block_count, list_bytes}

-- The disk has a list of these bytes in these blocks, the last of them at `head`.
pub record ListHoldsBytes (disk : Blocks) (block_size head size : ℕ) (content all : List ℕ) : Type 0 where
  pub list : IsSkipList disk block_size head size
  pub bytes : list_bytes disk block_size head size ≡ content
  pub blocks : blocks_to_head disk (skip_list_block_count block_size size) head ≡ all
