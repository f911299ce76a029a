-- Mounts of a device that has a copy of an image, by a profile that isn't the device's own.
use Rattle.std.proofs.Common.{ℕ, ◌≡◌, ◌⊎◌, List, [], ap, subst, sym, ◌∙◌}
use Rattle.lfs_device.specs.RamDevice.{ram_geometry, ram_blocks}
use Rattle.lfs_device.specs.DeviceDisk.{disk_of_blocks, disk_with_profile}
use Rattle.lfs_device.specs.declared.error.Error.{Error}
use Rattle.lfs_device.specs.declared.error.Error.TheVariants.{Corrupt, Io, NoMemory}
use Rattle.lfs_device.specs.declared.ram.RamDevice.{RamDevice}
use Rattle.lfs_model.specs.format.Disk.{Disk, disk_with_order}
use Rattle.lfs_model.specs.session.History.{CallEvent}
use Rattle.lfs_model.specs.tree.Profile.{profile_with_limits}
use Rattle.lfs_model.specs.format.Thread.{Pair}
use Rattle.lfs_model.specs.tree.View.{IsAccepted}
use Rattle.lfs_model.specs.declared.limits.Profile.{Profile}
use Rattle.lfs_model.specs.declared.order.NameOrder.{NameOrder}
use Rattle.lfs_model.specs.declared.order.NameOrder.TheVariants.{LongerFirst, ShorterFirst}
use Rattle.lfs_fs.specs.ImageLimits.{BeginsWithImageLimits}
use Rattle.lfs_fs.specs.SessionView.{BeginsByMount, SessionView, system_state}
use Rattle.littlefs_c.specs.Images.{PreventsSession, IsSessionOverImage, IsImageDevice}
use Rattle.littlefs_c.specs.Configs.{IsValidConfig, config_profile}
use Rattle.lfs_volume.specs.Volume.{VolumeView}
use Rattle.lfs_volume.specs.VolumeCalls.{HasNoHandles}
use Rattle.littlefs_c.specs.Mounts.{HasNothingOpen, IsMountedWithLimits}
use Rattle.littlefs_c.specs.declared.mounted.Mounted.{Mounted}
use Rattle.littlefs_c.specs.declared.config.ImageConfig.{ImageConfig}
use Rattle.littlefs_c.proofs.Images.{disk_by_profile, mounts, prevented}

-- the disk of a device by a profile
abbrev pub disk_seen : Profile → RamDevice → Disk
disk_seen by d = disk_with_profile by (disk_of_blocks (ram_geometry d) (ram_blocks d))

module _ (block_size page : ℕ) (profile : Profile) (image : List ℕ) (d : RamDevice) (is : IsImageDevice block_size page profile image d) where
  pub mounted_by : (by : Profile) (history : List CallEvent) (h : SessionView) → BeginsByMount (disk_with_order h.tree.disk.order (disk_seen by d)) history h
      → (h.tree.disk.order ≡ ShorterFirst → (ps : List Pair) → ¬ IsAccepted (disk_with_order LongerFirst (disk_seen by d)) ps) → IsSessionOverImage block_size page by image (system_state h)
  mounted_by by history h b longer = mounts block_size page by image (disk_seen by d) history h is.whole (λ order. disk_by_profile block_size page profile image d by order is) b longer

  pub prevented_by : (by : Profile) (e : Error) → (e ≡ Io) ⊎ ((e ≡ Corrupt) ⊎ (e ≡ NoMemory)) → (e ≡ Io → ⊥) → (e ≡ Corrupt → (order : NameOrder) (ps : List Pair) → ¬ IsAccepted (disk_with_order order (disk_seen by d)) ps)
      → PreventsSession block_size page by image e
  prevented_by by e errors no_fault corrupt = prevented block_size page by image (disk_seen by d) e (λ order. disk_by_profile block_size page profile image d by order is) errors no_fault corrupt

-- a mount by the limits of the image
pub mounted_with_limits : (config : ImageConfig) (image : List ℕ) (d : RamDevice) (given : Profile) (history : List CallEvent) (h : SessionView) → IsValidConfig config
    → IsImageDevice config.block_size config.page (config_profile config) image d → given ≡ config_profile config → BeginsWithImageLimits (disk_of_blocks (ram_geometry d) (ram_blocks d)) history given h
    → (h.tree.disk.order ≡ ShorterFirst → (ps : List Pair) → ¬ IsAccepted (disk_with_order LongerFirst (disk_seen h.tree.disk.profile d)) ps) → IsMountedWithLimits config image (system_state h)
mounted_with_limits config image d given history h valid is by b longer = record {
  valid = valid;
  pairs = h.tree.pairs;
  accepted = subst (λ k. IsAccepted k h.tree.pairs) (sym b.begun.disk_is) b.begun.accepted;
  fields = b.fields;
  superblock = b.superblock;
  mounted =
      subst (λ p. IsSessionOverImage config.block_size config.page p image (system_state h)) (b.limits ∙ ap (profile_with_limits b.fields) by)
      (mounted_by config.block_size config.page (config_profile config) image d is h.tree.disk.profile history h b.begun longer);
}

-- a mounted image of a volume without handles
pub nothing_open : (v : VolumeView) (m : Mounted) → m.volume ≡ v → m.directories.items ≡ [] → HasNoHandles v → HasNothingOpen m
nothing_open v m is none no_handles = (subst HasNoHandles (sym is) no_handles, none)
