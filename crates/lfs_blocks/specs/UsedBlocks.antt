-- The cached blocks that are used by the block map.
use Rattle.std.specs.Prelude.{ℕ, ◌≡◌, List, Some}
use Rattle.lfs_model.specs.layers.BlockSets.{BlockStates, IsUsedBlock}
use Rattle.lfs_model.specs.layers.Cache.{CachedBlocks, cached_bytes}

-- Every cached block is used.
abbrev pub AreCachedUsed : BlockStates → CachedBlocks → Type 0
AreCachedUsed map cache = (b : ℕ) (bytes : List ℕ) → cached_bytes cache b ≡ Some bytes → IsUsedBlock map b

-- Every block that is still cached has the bytes that it had, and is used.
pub record KeepsUsed (map : BlockStates) (old : CachedBlocks) (new : CachedBlocks) : Type 0 where
  pub same : (b : ℕ) (bytes : List ℕ) → cached_bytes new b ≡ Some bytes → cached_bytes old b ≡ Some bytes
  pub used : AreCachedUsed map new
