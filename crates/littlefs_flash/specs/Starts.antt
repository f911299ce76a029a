-- How sessions on a flash begin and end.
use Rattle.std.specs.Prelude.{ℤ, ◌≡◌, ◌≢◌, ◌<◌, ◌⊎◌, List, [], ◌∷◌, Option, None, Some, IsSome, Result, Ok, Err}
use Rattle.lfs_device.specs.declared.error.Error.{Error}
use Rattle.lfs_device.specs.declared.error.Error.TheVariants.{Busy, Corrupt, Invalid, Io, NoMemory}
use Rattle.lfs_model.specs.declared.order.NameOrder.{NameOrder}
use Rattle.lfs_model.specs.declared.order.NameOrder.TheVariants.{LongerFirst, ShorterFirst}
use Rattle.lfs_model.specs.declared.limits.Profile.{Profile}
use Rattle.lfs_model.specs.crash.RepeatedPowerLoss.{IsJustMounted}
use Rattle.lfs_model.specs.format.Blocks.{SameExceptBlocks}
use Rattle.lfs_model.specs.format.Disk.{Disk, disk_with_order, longer_first_disk}
use Rattle.lfs_model.specs.format.Geometry.{IsValidGeometry}
use Rattle.lfs_model.specs.format.Thread.{Pair}
use Rattle.lfs_model.specs.session.History.{OnlyReadsSince, fault_count}
use Rattle.lfs_model.specs.tree.Fresh.{IsFreshDisk}
use Rattle.lfs_model.specs.tree.View.{IsAccepted}
use Rattle.lfs_fs.specs.SessionView.{BeginsByMount, SessionView, system_state}
use Rattle.littlefs_values.specs.Codes.{result_code}
use Rattle.littlefs_values.specs.Configs.{IsValidConfig, config_profile}
use Rattle.littlefs_values.specs.declared.config.Config.{Config}
use Rattle.littlefs_flash.specs.declared.chip.Chip.{Chip}

-- the disk of a chip, by a profile
abbrev pub chip_disk : Profile → Chip → Disk
chip_disk profile chip = longer_first_disk chip.block_size chip.page profile chip.state.blocks

-- The settings and the sizes of the chip are within their ranges.
pub record IsValidFlashConfig (config : Config) (chip : Chip) : Type 0 where
  pub numbers : IsValidConfig config
  pub geometry : IsValidGeometry chip.block_size chip.page chip.block_count

-- ---- a mount

-- A mount of the chip began the session, with the longer names first if both orders fit.
pub record IsSessionOfChip (config : Config) (chip : Chip) (s : SessionView) : Type 0 where
  pub valid : IsValidFlashConfig config chip
  pub begun : BeginsByMount (disk_with_order s.tree.disk.order (chip_disk (config_profile config) chip)) chip.state.history s
  pub state : IsJustMounted (disk_with_order s.tree.disk.order (chip_disk (config_profile config) chip)) (system_state s)
  pub longer : s.tree.disk.order ≡ ShorterFirst → (ps : List Pair) → ¬ IsAccepted (disk_with_order LongerFirst (chip_disk (config_profile config) chip)) ps

-- A mount failed after reads alone. The chip has the disk that it had, and the error has its cause.
pub record FailsMount (config : Config) (old new : Chip) (e : Error) : Type 0 where
  pub errors : (e ≡ Io) ⊎ ((e ≡ Corrupt) ⊎ (e ≡ NoMemory))
  pub corrupt : e ≡ Corrupt → (order : NameOrder) (ps : List Pair) → ¬ IsAccepted (disk_with_order order (chip_disk (config_profile config) old)) ps
  pub disk : (profile : Profile) → chip_disk profile new ≡ chip_disk profile old
  pub reads : OnlyReadsSince old.state.blocks old.state.history new.state.history
  pub fault : e ≡ Io → fault_count old.state.history < fault_count new.state.history
  pub no_fault : e ≢ Io → fault_count new.state.history ≡ fault_count old.state.history

-- a setting or a size is out of range, and the chip is as it was
abbrev pub RefusesInvalidConfig : Config → Chip → Chip → Error → Type 0
RefusesInvalidConfig config old new e = (e ≡ Invalid) × ((¬ IsValidFlashConfig config old) × (new ≡ old))

abbrev pub PreventsMount : Config → Chip → Chip → Error → Type 0
PreventsMount config old new e = RefusesInvalidConfig config old new e ⊎ FailsMount config old new e

-- There is a session where none was; or the session or none stays, and the error has its cause.
abbrev pub MountsOrRefuses : Config → Result Unit Error → Option SessionView → Option SessionView → Chip → Chip → Type 0
MountsOrRefuses config (Ok x) old new chip left = (old ≡ None) × ((s : SessionView) × ((new ≡ Some s) × IsSessionOfChip config chip s))
MountsOrRefuses config (Err e) old new chip left = (new ≡ old) × (((e ≡ Busy) × (IsSome old × (left ≡ chip))) ⊎ PreventsMount config chip left e)

-- the same of a result with this code
abbrev pub IsMountCode : Config → ℤ → Option SessionView → Option SessionView → Chip → Chip → Type 0
IsMountCode config code old new chip left = (r : Result Unit Error) × ((code ≡ result_code (λ _. 0) r) × MountsOrRefuses config r old new chip left)

-- ---- an unmount

-- The chip has the disk of the session, and its calls.
pub record HasDiskOf (s : SessionView) (chip : Chip) : Type 0 where
  pub disk : disk_with_order s.tree.disk.order (chip_disk s.tree.disk.profile chip) ≡ s.tree.disk
  pub history : chip.state.history ≡ s.tree.history

-- the chip comes back from a session, or is as it was if there was none
abbrev pub ReturnsChip : Option SessionView → Chip → Chip → Type 0
ReturnsChip None old new = new ≡ old
ReturnsChip (Some s) old new = HasDiskOf s new

-- ---- a format

-- The chip has a fresh file system. Only its first two blocks have changed.
pub record IsFormattedFlash (config : Config) (old new : Chip) : Type 0 where
  pub valid : IsValidFlashConfig config old
  pub block_size : new.block_size ≡ old.block_size
  pub page : new.page ≡ old.page
  pub fresh : IsFreshDisk (chip_disk (config_profile config) new)
  pub others : SameExceptBlocks (0 ∷ 1 ∷ []) old.state.blocks new.state.blocks
  pub no_fault : fault_count new.state.history ≡ fault_count old.state.history

-- A format failed. No block but the first two has changed, and none if memory was refused.
pub record FailsFormat (old new : Chip) (e : Error) : Type 0 where
  pub errors : (e ≡ Io) ⊎ (e ≡ NoMemory)
  pub others : SameExceptBlocks (0 ∷ 1 ∷ []) old.state.blocks new.state.blocks
  pub unwritten : e ≡ NoMemory → new ≡ old
  pub fault : e ≡ Io → fault_count old.state.history < fault_count new.state.history

abbrev pub FormatsOrRefuses : Config → Result Unit Error → Chip → Chip → Type 0
FormatsOrRefuses config (Ok x) old new = IsFormattedFlash config old new
FormatsOrRefuses config (Err e) old new = RefusesInvalidConfig config old new e ⊎ FailsFormat old new e

abbrev pub IsFormatCode : Config → ℤ → Chip → Chip → Type 0
IsFormatCode config code old new = (r : Result Unit Error) × ((code ≡ result_code (λ _. 0) r) × FormatsOrRefuses config r old new)
