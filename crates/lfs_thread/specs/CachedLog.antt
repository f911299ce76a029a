-- The cached log of a pair.
use Rattle.std.specs.Prelude.{ℕ, ◌≡◌, ◌≤◌, ◌^◌, List, length, Option, Some, None}
use Rattle.lfs_device.specs.Bytes.{ElementsAreBytes}
use Rattle.lfs_model.specs.layers.Cache.{CachedBlocks, cached_bytes, cache_with}
use Rattle.lfs_model.specs.format.Disk.{disk_block}
use Rattle.lfs_model.specs.format.Log.{block_entries}
use Rattle.lfs_model.specs.format.Slots.{PairContent}
use Rattle.lfs_model.specs.format.Content.{RawContent, decoded_content, content_after, empty_raw_content}
use Rattle.lfs_pair.specs.Pair.{active_block_at}
use Rattle.lfs_thread.specs.Kept.{KeptThread, ThreadView}
use Rattle.lfs_thread.specs.ThreadSteps.{thread_pair}

-- the bytes of a pair's active block, if it is among these cached blocks
abbrev pub cached_block_log : KeptThread → CachedBlocks → ℕ → Option (List ℕ)
cached_block_log kept cache index = cached_bytes cache (active_block_at kept.disk (thread_pair kept index).at)

-- the bytes of a pair's active block, if it is cached
abbrev pub cached_log : ThreadView → ℕ → Option (List ℕ)
cached_log t index = cached_block_log t.kept t.cache index

-- one read for a block that isn't cached, and none for one that is
abbrev pub reads_unless_cached : Option (List ℕ) → ℕ
reads_unless_cached None = 1
reads_unless_cached (Some bytes) = 0

-- The cached blocks once a pair's active block is the most recent one. The least recent of eight blocks leaves the cache.
abbrev pub loaded_cache : ThreadView → ℕ → CachedBlocks
loaded_cache t index = cache_with t.cache (active_block_at t.kept.disk (thread_pair t.kept index).at) (disk_block t.kept.disk (active_block_at t.kept.disk (thread_pair t.kept index).at))

-- A block's log has this content. The block has at most 64 KiB.
pub record IsContentLog (block : List ℕ) (content : PairContent) : Type 0 where
  pub raw : RawContent
  pub log : content_after empty_raw_content (block_entries block) ≡ Some raw
  pub complete : decoded_content raw ≡ Some content
  pub short : length block ≤ 2 ^ 16
  pub bytes : ElementsAreBytes block
