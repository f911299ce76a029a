-- What an erase of a device in memory leaves.
use Rattle.std.specs.Prelude.{ℕ, ◌<◌, List, length, replicate}
use Rattle.lfs_device.specs.declared.ram.Erased.{Erased}
use Rattle.lfs_device.specs.declared.ram.Erased.TheVariants.{Fill, Keep}
use Rattle.lfs_model.specs.format.Blocks.{Blocks, overwritten_at, programmed}

-- The fill of an erased block is a byte.
abbrev pub FillIsByte : Erased → Type 0
FillIsByte (Fill byte) = byte < 256
FillIsByte Keep = Unit {0}

-- The bytes of a block after an erase.
abbrev pub erased_bytes : Erased → List ℕ → List ℕ
erased_bytes (Fill byte) block = replicate (length block) byte
erased_bytes Keep block = block

-- The bytes after an erase of `len` of them from the offset `at` on.
abbrev pub erased_range : Erased → List ℕ → ℕ → ℕ → List ℕ
erased_range (Fill byte) bytes at len = overwritten_at bytes at (replicate len byte)
erased_range Keep bytes at len = bytes

-- All blocks after an erase of block `b`.
abbrev pub blocks_after_erase : Erased → ℕ → Blocks → ℕ → Blocks
blocks_after_erase (Fill byte) size blocks b = programmed blocks b 0 (replicate size byte)
blocks_after_erase Keep size blocks b = blocks
