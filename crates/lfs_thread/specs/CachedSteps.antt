-- Commits and splits of a pair whose active block is read through the cache.
use Rattle.std.specs.Prelude.{ℕ, ◌≡◌, List, None, Result, Ok, OnOk}
use Rattle.lfs_device.specs.declared.device.BlockDevice.{Ghosts}
use Rattle.lfs_device.specs.declared.error.Error.{Error}
use Rattle.lfs_device.specs.DeviceDisk.{disk_of_blocks}
use Rattle.lfs_model.specs.layers.Cache.{CachedBlocks, cached_bytes}
use Rattle.lfs_model.specs.layers.Changes.{ContentChange}
use Rattle.lfs_pair.specs.declared.commits.Outcome.{Outcome}
use Rattle.lfs_pair.specs.declared.commits.Outcome.TheVariants.{Done, Full}
use Rattle.lfs_pair.specs.declared.pair.Pair.{Pair}
use Rattle.lfs_pair.specs.Commits.{CanCommit, CommitsChanges, RefusesCommit}
use Rattle.lfs_pair.specs.Split.{CanSplitPair, SplitsPair}
use Rattle.lfs_thread.specs.Kept.{IsCacheCurrent}

-- The conditions of a commit, and each cached block has the bytes that the device has.
pub record CanCommitCached {D : Type 0} (g : Ghosts D) (dev : D) (cache : CachedBlocks) (pair : Pair) (changes : List ContentChange) : Type 0 where
  pub can : CanCommit (disk_of_blocks (g.geometry dev) (g.blocks dev)) (g.history dev) pair changes
  pub current : IsCacheCurrent (g.blocks dev) cache

-- A commit is done or refused. Each cached block then has the bytes that the device has.
pub record CommitsCached {D : Type 0} (g : Ghosts D) (changes : List ContentChange) (old new : D) (was now : Pair) (cache : CachedBlocks) (result : Result Outcome Error) : Type 0 where
  pub done : result ≡ Ok Done
      → CommitsChanges (disk_of_blocks (g.geometry old) (g.blocks old)) (g.history old) changes was (disk_of_blocks (g.geometry new) (g.blocks new)) (g.history new) now
  pub full : result ≡ Ok Full → RefusesCommit g changes old new was now
  pub current : OnOk result (IsCacheCurrent (g.blocks new) cache)

-- The conditions of a split. Each cached block has the bytes that the device has, and the fresh pair's blocks aren't cached.
pub record CanSplitCached {D : Type 0} (g : Ghosts D) (dev : D) (cache : CachedBlocks) (pair : Pair) (fresh : ℕ × ℕ) (changes : List ContentChange) : Type 0 where
  pub can : CanSplitPair (disk_of_blocks (g.geometry dev) (g.blocks dev)) (g.history dev) pair fresh changes
  pub current : IsCacheCurrent (g.blocks dev) cache
  pub first : cached_bytes cache fresh.0 ≡ None
  pub second : cached_bytes cache fresh.1 ≡ None

-- A pair is split. Each cached block then has the bytes that the device has.
pub record SplitsCached {D : Type 0} (g : Ghosts D) (changes : List ContentChange) (old new : D) (was now : Pair) (cache : CachedBlocks) (fresh : ℕ × ℕ) (fresh_pair : Pair) : Type 0 where
  pub splits : SplitsPair (disk_of_blocks (g.geometry old) (g.blocks old)) (g.history old) changes was fresh (disk_of_blocks (g.geometry new) (g.blocks new)) (g.history new) now fresh_pair
  pub current : IsCacheCurrent (g.blocks new) cache
