-- The conditions of a driver's calls, and the parts of a chip that they leave unchanged.
use Rattle.std.specs.Prelude.{ℕ, ◌≡◌, ◌≤◌, ◌<◌, ◌+◌, ◌%◌}
use Rattle.lfs_model.specs.session.History.{AreUnprogrammed}
use Rattle.littlefs_flash.specs.declared.chip.Chip.{Chip}

-- the number and the sizes are unchanged
pub record KeepsSizes (old new : Chip) : Type 0 where
  pub number : new.number ≡ old.number
  pub block_size : new.block_size ≡ old.block_size
  pub page : new.page ≡ old.page
  pub block_count : new.block_count ≡ old.block_count

-- the bytes are within one block of the chip
pub record IsWithinChip (chip : Chip) (b off len : ℕ) : Type 0 where
  pub in_device : b < chip.block_count
  pub in_block : off + len ≤ chip.block_size

-- the bytes are whole pages of a block, and each is unprogrammed since the last erase of the block
pub record CanProgramChip (chip : Chip) (b off len : ℕ) : Type 0 where
  pub in_device : b < chip.block_count
  pub in_block : off + len ≤ chip.block_size
  pub begins : off % chip.page ≡ 0
  pub ends : (off + len) % chip.page ≡ 0
  pub unprogrammed : AreUnprogrammed chip.state.history b off (off + len)
