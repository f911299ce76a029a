-- What an unpacking returns.
use Rattle.std.specs.Prelude.{ℕ, ◌≡◌, ◌⊎◌, ◌++◌, Bool, true, List, Option, Some, None, Result, Ok, Err, map, take}
use Rattle.std.specs.List.{AllByRecursion}
use Rattle.lfs_tool.specs.declared.image_layout.ImageLayout.{ImageLayout}
use Rattle.lfs_model.specs.format.Disk.{Disk, IsWholeImage, disk_with_order}
use Rattle.lfs_lookup.specs.Searchable.{CanSearchFromRoot}
use Rattle.lfs_tool.specs.declared.image_devices.MountedImage.{MountedImage}
use Rattle.lfs_model.specs.tree.View.{IsWellFormedList, DiskView}
use Rattle.lfs_model.specs.format.Slots.{Struct, Inline, Ctz, Branch}
use Rattle.lfs_model.specs.layers.Listing.{UnpackingAction, Unpack, MakeDirectory, PutFile}
use Rattle.lfs_device.specs.declared.error.Error.{Error}
use Rattle.lfs_device.specs.declared.error.Error.TheVariants.{Corrupt, Invalid, NoMemory}
use Rattle.lfs_tool.specs.declared.errors.ToolError.{ToolError}
use Rattle.lfs_tool.specs.declared.errors.ToolError.TheVariants.{Fs, Output}
use Rattle.lfs_tool.specs.Listings.{IsRejectedImage, IsMountError}
use Rattle.lfs_tool.specs.AcceptedViews.{IsAcceptedImageView, IsAcceptedDiskView}
use Rattle.lfs_lookup.specs.FileBytes.{struct_file_bytes}
use Rattle.lfs_lookup.specs.TreeWalk.{PathStruct}

-- the disk is accepted, and these actions unpack what it shows
abbrev pub AreDiskUnpackingActions : Disk → List UnpackingAction → Type 0
AreDiskUnpackingActions disk actions = (view : DiskView) × (IsAcceptedDiskView disk view × Unpack view.tree actions)

-- the bytes are an image that these actions unpack
abbrev pub AreImageUnpackingActions : ImageLayout → List ℕ → List UnpackingAction → Type 0
AreImageUnpackingActions layout image actions = IsWholeImage layout.block_size layout.page image × ((view : DiskView) × (IsAcceptedImageView layout image view × Unpack view.tree actions))

-- its thread can be searched from the root
abbrev pub CanFindAttributes : MountedImage → Type 0
CanFindAttributes image = CanSearchFromRoot image.thread image.root

-- the image of the disk is mounted still, in its order of names
pub record IsStillMounted (disk : Disk) (image : MountedImage) : Type 0 where
  pub disk_is : image.thread.kept.disk ≡ disk_with_order image.thread.kept.disk.order disk
  pub can : CanFindAttributes image

-- these actions more were done, where what was done is known
abbrev pub HasDoneActions : Option (List UnpackingAction) → Option (List UnpackingAction) → List UnpackingAction → Type 0
HasDoneActions None new actions = Unit {0}
HasDoneActions (Some old) None actions = ⊥
HasDoneActions (Some old) (Some new) actions = new ≡ old ++ actions

-- a beginning of them was done
abbrev pub HasDoneActionsPrefix : Option (List UnpackingAction) → Option (List UnpackingAction) → List UnpackingAction → Type 0
HasDoneActionsPrefix old new actions = (n : ℕ) × HasDoneActions old new (take n actions)

-- ---- the actions of what was found

abbrev pub struct_action : Disk → List ℕ → Struct → UnpackingAction
struct_action disk path (Inline bytes) = PutFile path (struct_file_bytes disk (Inline bytes))
struct_action disk path (Ctz head size) = PutFile path (struct_file_bytes disk (Ctz head size))
struct_action disk path (Branch to) = MakeDirectory path

abbrev pub path_struct_action : Disk → PathStruct → UnpackingAction
path_struct_action disk p = struct_action disk p.path p.struct

abbrev pub path_struct_actions : Disk → List PathStruct → List UnpackingAction
path_struct_actions disk places = map (path_struct_action disk) places

-- the lists among them are well formed
abbrev pub HaveWellFormedLists : Disk → List PathStruct → Type 0
HaveWellFormedLists disk places = AllByRecursion (λ p. IsWellFormedList disk p.struct) places

-- `Output` comes where the target has failed, and any other result where it hasn't: then memory ran out, if the result is an
-- error
abbrev pub IsTargetError : Bool → Bool → ToolError → Type 0
IsTargetError old new Output = new ≡ true
IsTargetError old new (Fs NoMemory) = new ≡ old
IsTargetError old new other = ⊥

abbrev pub ReportsTargetFaults : {X : Type 0} → Bool → Bool → Result X ToolError → Type 0
ReportsTargetFaults old new (Ok x) = new ≡ old
ReportsTargetFaults old new (Err e) = IsTargetError old new e

-- ---- a device in memory, and an image

-- the disk is accepted, and all that it shows was done
abbrev pub HasUnpackedDisk : Disk → Option (List UnpackingAction) → Option (List UnpackingAction) → Type 0
HasUnpackedDisk disk old new = (actions : List UnpackingAction) × (AreDiskUnpackingActions disk actions × HasDoneActions old new actions)

-- the same of a beginning of it
abbrev pub DiskPartlyUnpacked : Disk → Option (List UnpackingAction) → Option (List UnpackingAction) → Type 0
DiskPartlyUnpacked disk old new = (actions : List UnpackingAction) × (AreDiskUnpackingActions disk actions × HasDoneActionsPrefix old new actions)

-- why a disk in memory isn't unpacked, and what was done then
abbrev pub FailsUnpackingDisk : Disk → Option (List UnpackingAction) → Option (List UnpackingAction) → ToolError → Type 0
FailsUnpackingDisk disk old new (Fs Corrupt) = IsMountError disk Corrupt × (new ≡ old)
FailsUnpackingDisk disk old new (Fs NoMemory) = (new ≡ old) ⊎ DiskPartlyUnpacked disk old new
FailsUnpackingDisk disk old new Output = DiskPartlyUnpacked disk old new
FailsUnpackingDisk disk old new other = ⊥

abbrev pub HasUnpackedImage : ImageLayout → List ℕ → Option (List UnpackingAction) → Option (List UnpackingAction) → Type 0
HasUnpackedImage layout image old new = (actions : List UnpackingAction) × (AreImageUnpackingActions layout image actions × HasDoneActions old new actions)

abbrev pub ImagePartlyUnpacked : ImageLayout → List ℕ → Option (List UnpackingAction) → Option (List UnpackingAction) → Type 0
ImagePartlyUnpacked layout image old new = (actions : List UnpackingAction) × (AreImageUnpackingActions layout image actions × HasDoneActionsPrefix old new actions)

-- the same of an image
abbrev pub FailsUnpackingImage : ImageLayout → List ℕ → Option (List UnpackingAction) → Option (List UnpackingAction) → ToolError → Type 0
FailsUnpackingImage layout image old new (Fs Corrupt) = IsRejectedImage layout image × (new ≡ old)
FailsUnpackingImage layout image old new (Fs Invalid) = (¬ IsWholeImage layout.block_size layout.page image) × (new ≡ old)
FailsUnpackingImage layout image old new (Fs NoMemory) = (new ≡ old) ⊎ ImagePartlyUnpacked layout image old new
FailsUnpackingImage layout image old new Output = ImagePartlyUnpacked layout image old new
FailsUnpackingImage layout image old new other = ⊥
