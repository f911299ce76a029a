-- A session over a blank device that is formatted.
use Rattle.std.proofs.Common.{ℕ, ◌≡◌, ◌⊎◌, [], ◌∷◌, ap, inl, inr, subst}
use Rattle.lfs_device.specs.RamDevice.{ram_geometry, ram_blocks}
use Rattle.lfs_device.specs.DeviceDisk.{disk_of_blocks, disk_with_profile}
use Rattle.lfs_device.specs.declared.error.Error.{Error}
use Rattle.lfs_device.specs.declared.error.Error.TheVariants.{Io, NoMemory}
use Rattle.lfs_device.specs.declared.ram.RamDevice.{RamDevice}
use Rattle.lfs_model.specs.format.Blocks.{SameExceptBlocks}
use Rattle.lfs_model.specs.format.Disk.{Disk, SameGeometry, disk_with_order}
use Rattle.lfs_model.specs.tree.Fresh.{IsFreshDisk, empty_tree}
use Rattle.lfs_model.specs.session.State.{Healthy, mounted_session}
use Rattle.lfs_model.specs.declared.limits.Profile.{Profile}
use Rattle.lfs_model.specs.declared.order.NameOrder.{NameOrder}
use Rattle.lfs_fs.specs.SessionView.{SessionView, system_state}
use Rattle.littlefs_c.specs.Configs.{config_order, config_profile}
use Rattle.littlefs_c.specs.Mounts.{IsBlankDevice, IsFormattedByConfig, PreventsFormat}
use Rattle.littlefs_c.specs.declared.config.ImageConfig.{ImageConfig}

pub formatted_by_config : (config : ImageConfig) (count : ℕ) (d : RamDevice) (by : Profile) (order : NameOrder) (s : SessionView) → IsBlankDevice config count d → by ≡ config_profile config → order ≡ config_order config → IsFreshDisk s.tree.disk
    → SameGeometry (disk_with_order order (disk_with_profile by (disk_of_blocks (ram_geometry d) (ram_blocks d)))) s.tree.disk → SameExceptBlocks (0 ∷ 1 ∷ []) (ram_blocks d) s.tree.disk.blocks
    → (system_state s).state ≡ Healthy (mounted_session empty_tree) → IsFormattedByConfig config count s
formatted_by_config config count d by order s is profiled ordered fresh same others begins =
    let disk : Disk = disk_of_blocks (ram_geometry d) (ram_blocks d) in
    record {
      given = is.given;
      geometry =
          subst (λ k. SameGeometry k s.tree.disk) (ap (disk_with_profile (config_profile config)) is.disk)
          (subst (λ p. SameGeometry (disk_with_order (config_order config) (disk_with_profile p disk)) s.tree.disk) profiled (subst (λ o. SameGeometry (disk_with_order o (disk_with_profile by disk)) s.tree.disk) ordered same));
      fresh = fresh;
      others = subst (λ (k : Disk). SameExceptBlocks (0 ∷ 1 ∷ []) k.blocks s.tree.disk.blocks) is.disk others;
      begins = begins;
    }

-- no call of the device failed, so memory wasn't granted
pub prevented_format : (config : ImageConfig) (count : ℕ) (e : Error) → (e ≡ Io) ⊎ (e ≡ NoMemory) → (e ≡ Io → ⊥) → PreventsFormat config count e
prevented_format config count e (inl io) no_fault = absurd (no_fault io)
prevented_format config count e (inr memory) no_fault = inr memory
