-- When a device may be called, and what the call does to the block.
use Rattle.std.specs.Prelude.{◌≡◌, ◌≤◌, ◌<◌, ◌+◌, ◌%◌, ℕ, Bool, true, false, List, ◌∷◌, length, Result, Ok, IsErrOf, OnOk, OnErr}
use Rattle.lfs_device.specs.declared.error.Error.{Error}
use Rattle.lfs_device.specs.declared.error.Error.TheVariants.{Io}
use Rattle.lfs_device.specs.declared.geometry.Geometry.{Geometry}
use Rattle.lfs_model.specs.format.Blocks.{Blocks, SameExcept, SameOutside, block_bytes, programmed}
use Rattle.lfs_model.specs.session.History.{CallEvent, call_event, AreUnprogrammed}
use Rattle.lfs_model.specs.session.History.DeviceCall.{Blank}

-- The bytes are within a block of the device.
pub record IsWithinBlock (geometry : Geometry) (b off len : ℕ) : Type 0 where
  pub in_device : b < geometry.block_count
  pub in_block : off + len ≤ geometry.block_size

-- The bytes are whole pages of a block, and each is unprogrammed.
pub record CanProgram (geometry : Geometry) (history : List CallEvent) (b off len : ℕ) : Type 0 where
  pub in_device : b < geometry.block_count
  pub in_block : off + len ≤ geometry.block_size
  pub begins : off % geometry.page ≡ 0
  pub ends : (off + len) % geometry.page ≡ 0
  pub unprogrammed : AreUnprogrammed history b off (off + len)

-- The block holds the programmed bytes if the result is Ok. No byte outside of them has changed,
-- whatever the result.
pub record Programs (b off : ℕ) (bytes : List ℕ) (old new : Blocks) (result : Result Unit Error) : Type 0 where
  pub ok : OnOk result (new ≡ programmed old b off bytes)
  pub err : OnErr result (SameOutside off (off + length bytes) (block_bytes old b) (block_bytes new b))
  pub others : SameExcept b old new

-- A blank check is a call only if the device answers yes or fails.
pub record AsksIfBlank (b off len : ℕ) (before after : Blocks) (old new : List CallEvent) (result : Result Bool Error) : Type 0 where
  pub yes : result ≡ Ok true → new ≡ call_event (Blank b off len) before after false ∷ old
  pub no : result ≡ Ok false → new ≡ old
  pub failed : IsErrOf result Io → new ≡ call_event (Blank b off len) before after true ∷ old
