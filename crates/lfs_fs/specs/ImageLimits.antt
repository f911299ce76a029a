-- The limits that an image has, and a mount by them.
use Rattle.std.specs.Prelude.{◌≡◌, ◌≢◌, ◌<◌, ◌⊎◌, true, false, List, Some}
use Rattle.lfs_device.specs.DeviceDisk.{disk_with_profile}
use Rattle.lfs_model.specs.format.Disk.{disk_with_order, Disk}
use Rattle.lfs_device.specs.declared.device.BlockDevice.{Ghosts}
use Rattle.lfs_device.specs.declared.error.Error.{Error}
use Rattle.lfs_device.specs.declared.error.Error.TheVariants.{Failed, Io}
use Rattle.lfs_model.specs.format.EntryTypes.{SuperblockFields}
use Rattle.lfs_model.specs.session.History.{CallEvent, OnlyReadsSince, fault_count}
use Rattle.lfs_model.specs.tree.Profile.{profile_with_limits, image_superblock_fields}
use Rattle.lfs_model.specs.declared.limits.Profile.{Profile}
use Rattle.lfs_model.specs.declared.order.NameOrder.{NameOrder}
use Rattle.lfs_thread.specs.Kept.{disk_of_device}
use Rattle.lfs_tree.specs.TreeState.{OnlyReadsTree, FailedByReading, HasErrorCause}
use Rattle.lfs_fs.specs.SessionView.{BeginsByMount, SessionView}

-- ---- a session that is only read

-- A session that hasn't failed only read its device, and no call failed. Nothing has changed except the cached blocks.
pub record OnlyReadsSession (old new : SessionView) : Type 0 where
  pub works : old.tree.failed ≡ false
  pub tree : OnlyReadsTree old.tree new.tree
  pub files : new.files ≡ old.files

-- Either the session had failed before, returns `Failed` and stays as it is; or it has failed now, by the error of a read.
abbrev pub FailedByRead : SessionView → SessionView → Error → Type 0
FailedByRead old new e = ((old.tree.failed ≡ true) × (e ≡ Failed) × (new ≡ old)) ⊎ ((old.tree.failed ≡ false) × FailedByReading old.tree new.tree × HasErrorCause old.tree new.tree e)

-- ---- a mount by the limits of the image

-- The session was mounted from the disk. Its profile is the given one with the limits of the image's superblock.
pub record BeginsWithImageLimits (disk : Disk) (history : List CallEvent) (profile : Profile) (h : SessionView) : Type 0 where
  pub fields : SuperblockFields
  pub superblock : image_superblock_fields h.tree.pairs ≡ Some fields
  pub limits : h.tree.disk.profile ≡ profile_with_limits fields profile
  pub begun : BeginsByMount (disk_with_order h.tree.disk.order (disk_with_profile h.tree.disk.profile disk)) history h

-- The call returns the device with an error. The device was only read, and is the same disk, whatever the order of names and
-- the profile. The error is `Io` exactly if a device call failed.
pub record ReturnsUnchangedDevice {D : Type 0} (g : Ghosts D) (old back : D) (error : Error) : Type 0 where
  pub disk : (order : NameOrder) (profile : Profile) → disk_with_order order (disk_with_profile profile (disk_of_device g back)) ≡ disk_with_order order (disk_with_profile profile (disk_of_device g old))
  pub reads : OnlyReadsSince (g.blocks old) (g.history old) (g.history back)
  pub fault : error ≡ Io → fault_count (g.history old) < fault_count (g.history back)
  pub no_fault : error ≢ Io → fault_count (g.history back) ≡ fault_count (g.history old)
