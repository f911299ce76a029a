-- A cache as contracts see it.
use Rattle.std.specs.Prelude.{◌≡◌, ◌≤◌, ℕ, nat_eq, List, map, length, Vec}
use Rattle.std.specs.List.{IsDistinct}
use Rattle.std.specs.Map.{keys_of}
use Rattle.std.specs.declared.alloc.Global.{Global}
use Rattle.lru.specs.LruCache.{LruCache}
use Rattle.lfs_model.specs.layers.Cache.{CachedBlocks, cache_limit}

-- The cached blocks with their bytes, the most recently used first.
abbrev pub cached_view : List (ℕ × Vec ℕ Global) → CachedBlocks
cached_view entries = map (λ e. (e.0, e.1.items)) entries

-- No block is cached twice, and at most eight blocks are cached.
pub record CachesAtMostEight (recent : LruCache ℕ (Vec ℕ Global)) : Type 0 where
  pub capacity : recent.cap ≡ cache_limit
  pub few : length recent.entries ≤ cache_limit
  pub distinct : IsDistinct nat_eq (keys_of recent.entries)
