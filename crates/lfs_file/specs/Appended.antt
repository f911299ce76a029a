-- A block that was appended to a list.
use Rattle.std.specs.Prelude.{ℕ, ◌≡◌, ◌+◌, [], ◌∷◌, ◌++◌}
use Rattle.lfs_model.specs.format.Blocks.{Blocks}
use Rattle.lfs_model.specs.format.SkipLists.{AreListBlocks, blocks_to_head}

pub record IsBlockAppended (old new : Blocks) (full head block : ℕ) : Type 0 where
  pub chain : AreListBlocks new (full + 1) block
  pub back : blocks_to_head new (full + 1) block ≡ blocks_to_head old full head ++ block ∷ []
