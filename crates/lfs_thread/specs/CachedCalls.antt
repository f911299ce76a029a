-- The conditions of calls on a device and the cache of its blocks.
use Rattle.std.specs.Prelude.{◌≡◌, ◌≤◌, ◌<◌, ◌+◌, ℕ, List, [], replicate}
use Rattle.lfs_device.specs.declared.device.BlockDevice.{Ghosts}
use Rattle.lfs_model.specs.layers.BlockSets.{BlockStates}
use Rattle.lfs_model.specs.layers.BlockSets.BlockState.{Free}
use Rattle.lfs_model.specs.layers.Cache.{CachedBlocks}
use Rattle.lfs_pair.specs.declared.pair.Pair.{Pair}
use Rattle.lfs_thread.specs.Kept.{IsCacheCurrent}

-- the conditions of reading a range of a block: the buffer has room for it, and each cached block is as on the device
pub record CanReadCached {D : Type 0} (g : Ghosts D) (device : D) (cache : CachedBlocks) (b off size len : ℕ) : Type 0 where
  pub inside : (b < (g.geometry device).block_count) × (off + size ≤ (g.geometry device).block_size)
  pub room : size ≤ len
  pub current : IsCacheCurrent (g.blocks device) cache

-- no header is read yet, and each of the `count` blocks is free
pub record IsThreadUnread (headers : List Pair) (map : BlockStates) (count : ℕ) : Type 0 where
  pub none : headers ≡ []
  pub free : map ≡ replicate count Free
