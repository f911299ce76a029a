-- The device calls that read a block into a cache.
use Rattle.std.specs.Prelude.{◌≡◌, ◌≤◌, ◌+◌, ◌⊎◌, ℕ, Bool, true, false, List, ◌∷◌, Option, None, Result, OnOk, IsErrOf, IsOk, IsSome}
use Rattle.lfs_device.specs.declared.device.BlockDevice.{Ghosts}
use Rattle.lfs_device.specs.declared.error.Error.{Error}
use Rattle.lfs_device.specs.declared.error.Error.TheVariants.{Io, NoMemory}
use Rattle.lfs_model.specs.format.Blocks.{Blocks}
use Rattle.lfs_model.specs.session.History.{CallEvent, call_event, read_count}
use Rattle.lfs_model.specs.session.History.DeviceCall.{Read}

-- The call that reads a whole block.
abbrev pub read_block_event : ℕ → Blocks → ℕ → Bool → CallEvent
read_block_event block_size blocks block failed = call_event (Read block 0 block_size) blocks blocks failed

-- Filling a cached block can't fail and doesn't call the device. Filling another block costs one
-- read of the whole block.
pub record ReadsUnlessCached {D : Type 0} (g : Ghosts D) (was : Option (List ℕ)) (b : ℕ) (old new : D) (result : Result (Unit {0}) Error) : Type 0 where
  pub cached_log : IsSome was → IsOk result
  pub no_call : IsSome was → new ≡ old
  pub read : was ≡ None → OnOk result (g.history new ≡ read_block_event (g.geometry old).block_size (g.blocks old) b false ∷ g.history old)
  pub failed : IsErrOf result Io → g.history new ≡ read_block_event (g.geometry old).block_size (g.blocks old) b true ∷ g.history old
  pub no_memory : IsErrOf result NoMemory → (g.history new ≡ g.history old)
      ⊎ (g.history new ≡ read_block_event (g.geometry old).block_size (g.blocks old) b false ∷ g.history old)

-- The device is read at most once, and not called if the block was cached.
pub record ReadsOnceUncached {D : Type 0} (g : Ghosts D) (was : Option (List ℕ)) (old new : D) : Type 0 where
  pub no_call : IsSome was → new ≡ old
  pub few : read_count (g.history new) ≤ read_count (g.history old) + 1
