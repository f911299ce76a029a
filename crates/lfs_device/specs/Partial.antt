-- What a partial call requires of a block, and what it leaves.
use Rattle.std.specs.Prelude.{◌≡◌, ◌≢◌, ◌≤◌, ◌<◌, ℕ, ◌+◌, ◌%◌, true, List, Result, is_err}
use Rattle.lfs_device.specs.declared.device.BlockDevice.{Ghosts}
use Rattle.lfs_device.specs.declared.error.Error.{Error}
use Rattle.lfs_device.specs.declared.geometry.Geometry.{Geometry}
use Rattle.lfs_model.specs.format.Blocks.{SameExcept, SameOutside, block_bytes}
use Rattle.lfs_model.specs.session.History.{CallEvent, fault_count, is_unprogrammed_byte, unprogrammed_after, AreUnprogrammed}
use Rattle.lfs_model.specs.session.History.DeviceCall.{Erase}

-- Every byte that was unprogrammed still is, except perhaps in the range of block `b` from `low` up
-- to, but not including, `high`.
pub record StayUnprogrammedOutside (b low high : ℕ) (old new : List CallEvent) : Type 0 where
  pub elsewhere : (other k : ℕ) → other ≢ b → is_unprogrammed_byte old other k ≡ true → is_unprogrammed_byte new other k ≡ true
  pub below : (k : ℕ) → k < low → is_unprogrammed_byte old b k ≡ true → is_unprogrammed_byte new b k ≡ true
  pub above : (k : ℕ) → high ≤ k → is_unprogrammed_byte old b k ≡ true → is_unprogrammed_byte new b k ≡ true

-- Only bytes of this range of block `b` change, and the number of faults doesn't decrease.
pub record ChangesOnlyRange {D : Type 0} (g : Ghosts D) (b low high : ℕ) (old new : D) : Type 0 where
  pub within : SameOutside low high (block_bytes (g.blocks old) b) (block_bytes (g.blocks new) b)
  pub others : SameExcept b (g.blocks old) (g.blocks new)
  pub geometry : g.geometry new ≡ g.geometry old
  pub faults : fault_count (g.history old) ≤ fault_count (g.history new)
  pub keeps : StayUnprogrammedOutside b low high (g.history old) (g.history new)

-- Only block `b` changes, and the number of faults doesn't decrease. Every byte that is
-- unprogrammed after an erase with this result is unprogrammed in the history `new`.
pub record ChangesOnlyErasedBlock {D : Type 0} (g : Ghosts D) (b : ℕ) (old new : D) (result : Result Unit Error) : Type 0 where
  pub others : SameExcept b (g.blocks old) (g.blocks new)
  pub geometry : g.geometry new ≡ g.geometry old
  pub faults : fault_count (g.history old) ≤ fault_count (g.history new)
  pub keeps : (other k : ℕ) → unprogrammed_after (Erase b) (is_err result) other k (is_unprogrammed_byte (g.history old) other k) ≡ true → is_unprogrammed_byte (g.history new) other k ≡ true

-- A page of block `b` begins at the offset `off`, and all its bytes are unprogrammed.
pub record IsUnprogrammedPage (geometry : Geometry) (history : List CallEvent) (b off : ℕ) : Type 0 where
  pub in_device : b < geometry.block_count
  pub in_block : off + geometry.page ≤ geometry.block_size
  pub begins : off % geometry.page ≡ 0
  pub unprogrammed : AreUnprogrammed history b off (off + geometry.page)
