use Rattle.std.proofs.Common.{◌≡◌, ◌⊎◌, ℕ, List, Some}
use Rattle.lfs_model.specs.layers.BlockSets.{IsUsedBlock}
use Rattle.lfs_model.specs.layers.Cache.{cached_bytes}
use Rattle.lfs_blocks.specs.CacheView.{cached_view}
use Rattle.lfs_blocks.proofs.cache.Cache.find_unused.Given as goal

abbrev pub invariant-loop-entry : goal.invariant-loop-entry
invariant-loop-entry l = (b : ℕ) (bytes : List ℕ) → cached_bytes l.self b ≡ Some bytes → IsUsedBlock l.map b ⊎ (cached_bytes (cached_view l.entry-iterator) b ≡ Some bytes)
