-- How a volume begins in a handle.
use Rattle.std.specs.Prelude.{ℕ, ℤ, ◌≡◌, ◌⊎◌, ◌*◌, List, [], ◌∷◌, Option, None, Some, IsSome, Result, Ok, Err, replicate}
use Rattle.lfs_device.specs.declared.error.Error.{Error}
use Rattle.lfs_device.specs.declared.error.Error.TheVariants.{Busy, Invalid, NoMemory}
use Rattle.lfs_device.specs.RamDevice.{ram_geometry, ram_history, ram_blocks}
use Rattle.lfs_device.specs.DeviceDisk.{disk_of_blocks}
use Rattle.lfs_device.specs.declared.ram.RamDevice.{RamDevice}
use Rattle.lfs_model.specs.format.Blocks.{SameExceptBlocks, cut}
use Rattle.lfs_model.specs.format.Disk.{Disk, SameGeometry, disk_with_order}
use Rattle.lfs_model.specs.format.EntryTypes.{SuperblockFields}
use Rattle.lfs_model.specs.tree.Fresh.{IsFreshDisk, empty_tree}
use Rattle.lfs_model.specs.format.Geometry.{IsValidGeometry}
use Rattle.lfs_model.specs.tree.Profile.{profile_with_limits, image_superblock_fields}
use Rattle.lfs_model.specs.session.Run.{SystemState}
use Rattle.lfs_model.specs.session.State.{Healthy, mounted_session}
use Rattle.lfs_model.specs.format.Thread.{Pair}
use Rattle.lfs_model.specs.tree.View.{IsAccepted}
use Rattle.lfs_fs.specs.SessionView.{SessionView, system_state}
use Rattle.lfs_volume.specs.VolumeCalls.{HasNoHandles}
use Rattle.littlefs_c.specs.Images.{PreventsSession, IsSessionOverImage}
use Rattle.littlefs_values.specs.Codes.{result_code}
use Rattle.littlefs_c.specs.Configs.{IsValidConfig, config_order, config_profile}
use Rattle.littlefs_c.specs.declared.config.ImageConfig.{ImageConfig}
use Rattle.littlefs_c.specs.declared.mounted.Mounted.{Mounted}

-- ---- a mount

-- a session as a mount of the image by that configuration begins it
abbrev pub IsMountedByConfig : ImageConfig → List ℕ → SystemState → Type 0
IsMountedByConfig config image from = IsValidConfig config × IsSessionOverImage config.block_size config.page (config_profile config) image from

-- A session as a mount of the image by that configuration begins it, with the limits of the image in place of the configuration's.
pub record IsMountedWithLimits (config : ImageConfig) (image : List ℕ) (from : SystemState) : Type 0 where
  pub valid : IsValidConfig config
  pub pairs : List Pair
  pub accepted : IsAccepted from.disk pairs
  pub fields : SuperblockFields
  pub superblock : image_superblock_fields pairs ≡ Some fields
  pub mounted : IsSessionOverImage config.block_size config.page (profile_with_limits fields (config_profile config)) image from

-- a number of the configuration is out of range, or the image has no session by it, or memory wasn't granted
abbrev pub PreventsMount : ImageConfig → List ℕ → Error → Type 0
PreventsMount config image e = ((e ≡ Invalid) × (¬ IsValidConfig config)) ⊎ PreventsSession config.block_size config.page (config_profile config) image e

-- ---- a format

-- a disk of so many blocks by that configuration, whose bytes are 255
abbrev pub blank_disk : ImageConfig → ℕ → Disk
blank_disk config count = record {
  block_size = config.block_size;
  page = config.page;
  order = config_order config;
  profile = config_profile config;
  blocks = cut config.block_size count (replicate (config.block_size * count) 255);
}

-- The configuration and the number of blocks give a disk.
pub record IsDiskConfig (config : ImageConfig) (count : ℕ) : Type 0 where
  pub valid : IsValidConfig config
  pub geometry : IsValidGeometry config.block_size config.page count

-- A device in memory that has the blank disk, and has had no call.
pub record IsBlankDevice (config : ImageConfig) (count : ℕ) (d : RamDevice) : Type 0 where
  pub given : IsDiskConfig config count
  pub disk : disk_with_order (config_order config) (disk_of_blocks (ram_geometry d) (ram_blocks d)) ≡ blank_disk config count
  pub no_call : ram_history d ≡ []

-- A session over a new image: its disk is a fresh one, whose blocks but the first two are blank.
pub record IsFormattedByConfig (config : ImageConfig) (count : ℕ) (s : SessionView) : Type 0 where
  pub given : IsDiskConfig config count
  pub geometry : SameGeometry (blank_disk config count) s.tree.disk
  pub fresh : IsFreshDisk s.tree.disk
  pub others : SameExceptBlocks (0 ∷ 1 ∷ []) (blank_disk config count).blocks s.tree.disk.blocks
  pub begins : (system_state s).state ≡ Healthy (mounted_session empty_tree)

-- the numbers give no disk, or memory wasn't granted
abbrev pub PreventsFormat : ImageConfig → ℕ → Error → Type 0
PreventsFormat config count e = ((e ≡ Invalid) × (¬ IsDiskConfig config count)) ⊎ (e ≡ NoMemory)

-- ---- in a handle

abbrev pub HasNothingOpen : Mounted → Type 0
HasNothingOpen m = HasNoHandles m.volume × (m.directories.items ≡ [])

-- a volume with nothing open, whose session begins as each of the above says
abbrev pub MountsImage : ImageConfig → List ℕ → Mounted → Type 0
MountsImage config image m = HasNothingOpen m × IsMountedByConfig config image (system_state m.volume.session)

abbrev pub MountsWithImageLimits : ImageConfig → List ℕ → Mounted → Type 0
MountsWithImageLimits config image m = HasNothingOpen m × IsMountedWithLimits config image (system_state m.volume.session)

abbrev pub FormatsImage : ImageConfig → ℕ → Mounted → Type 0
FormatsImage config count m = HasNothingOpen m × IsFormattedByConfig config count m.volume.session

-- A volume of which P holds, where none was; or there is what was there, and the error has its cause.
abbrev pub PutsVolumeInHandle : (Mounted → Type 0) → (Error → Type 0) → Result Unit Error → Option Mounted → Option Mounted → Type 0
PutsVolumeInHandle P Q (Ok x) old new = (old ≡ None) × ((m : Mounted) × ((new ≡ Some m) × P m))
PutsVolumeInHandle P Q (Err e) old new = (new ≡ old) × (((e ≡ Busy) × IsSome old) ⊎ Q e)

-- the same of a result with this code
abbrev pub IsHandleCallCode : (Mounted → Type 0) → (Error → Type 0) → ℤ → Option Mounted → Option Mounted → Type 0
IsHandleCallCode P Q code old new = (r : Result Unit Error) × ((code ≡ result_code (λ _. 0) r) × PutsVolumeInHandle P Q r old new)
