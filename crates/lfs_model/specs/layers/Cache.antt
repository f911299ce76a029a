-- The block cache: blocks with their bytes, the most recent one first.
use Rattle.std.specs.Prelude.{ℕ, not, nat_eq, List, ◌∷◌, Option, filter, take}
use Rattle.std.specs.Map.{lookup}

-- The address and the bytes of each cached block, the most recent one first.
abbrev pub CachedBlocks : Type 0
CachedBlocks = List (ℕ × List ℕ)

-- The largest number of cached blocks.
abbrev pub cache_limit : ℕ
cache_limit = 8

-- The bytes of block `b`, if it is cached.
abbrev pub cached_bytes : CachedBlocks → ℕ → Option (List ℕ)
cached_bytes cache b = lookup (nat_eq b) cache

-- The cache without block `b`, with all other blocks in the same order.
abbrev pub cache_without : CachedBlocks → ℕ → CachedBlocks
cache_without cache b = filter (λ e. not (nat_eq b e.0)) cache

-- The cache with block `b` and its bytes at the front, in place of any older entry for `b`. If
-- there is one block too many, the last one is dropped.
abbrev pub cache_with : CachedBlocks → ℕ → List ℕ → CachedBlocks
cache_with cache b bytes = take cache_limit ((b, bytes) ∷ cache_without cache b)
