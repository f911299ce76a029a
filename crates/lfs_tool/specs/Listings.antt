-- The results of a list.
use Rattle.std.specs.Prelude.{ℕ, ◌≡◌, false, List, ◌++◌, Option, Some, None, codes}
use Rattle.std.specs.List.{flat_map}
use Rattle.std.specs.Fmt.{decimal}
use Rattle.lfs_tool.specs.declared.image_layout.ImageLayout.{ImageLayout}
use Rattle.lfs_model.specs.format.Disk.{disk_with_order, disk_of_image, Disk, IsWholeImage}
use Rattle.lfs_model.specs.format.Thread.{Pair}
use Rattle.lfs_model.specs.tree.View.{IsAccepted, DiskView}
use Rattle.lfs_model.specs.declared.order.NameOrder.{NameOrder}
use Rattle.lfs_model.specs.layers.Listing.{IsListing, escaped_text, newline}
use Rattle.lfs_thread.specs.Kept.{ThreadView}
use Rattle.lfs_lookup.specs.TreeWalk.{AreWalkItems, PathStruct}
use Rattle.lfs_device.specs.declared.error.Error.{Error}
use Rattle.lfs_device.specs.declared.error.Error.TheVariants.{Invalid, Corrupt, NoMemory}
use Rattle.lfs_tool.specs.AcceptedViews.{IsAcceptedImageView}
use Rattle.lfs_lookup.specs.ListAt.{listed_struct_size}

-- the bytes are an image, and this text is its listing
abbrev pub IsImageListing : ImageLayout → List ℕ → List ℕ → Type 0
IsImageListing layout image text = IsWholeImage layout.block_size layout.page image × ((view : DiskView) × (IsAcceptedImageView layout image view × IsListing view.tree text))

-- the bytes are an image that isn't accepted, in either order of names
abbrev pub IsRejectedImage : ImageLayout → List ℕ → Type 0
IsRejectedImage layout image = IsWholeImage layout.block_size layout.page image × ((view : DiskView) → ¬ IsAcceptedImageView layout image view)

-- the reason why bytes aren't listed; memory may run out for any bytes
abbrev pub RefusesToList : ImageLayout → List ℕ → Error → Type 0
RefusesToList layout image Invalid = ¬ IsWholeImage layout.block_size layout.page image
RefusesToList layout image NoMemory = Unit {0}
RefusesToList layout image Corrupt = IsRejectedImage layout image
RefusesToList layout image other = ⊥

-- the line of a file of that size, or of a directory, at a path
abbrev pub path_line : Option ℕ → List ℕ → List ℕ
path_line (Some size) path = (codes "f " ++ decimal size ++ codes " ") ++ escaped_text path ++ newline
path_line None path = codes "d 0 " ++ escaped_text path ++ newline

abbrev pub path_struct_line : PathStruct → List ℕ
path_struct_line p = path_line (listed_struct_size p.struct) p.path

abbrev pub path_struct_lines : List PathStruct → List ℕ
path_struct_lines places = flat_map path_struct_line places

-- ---- an image that is mounted

-- the disk is accepted, and the text has a line for each path of its tree's walk
abbrev pub IsDiskListing : Disk → List ℕ → Type 0
IsDiskListing disk text = (ps : List Pair) × (IsAccepted disk ps × ((places : List PathStruct) × (AreWalkItems disk ps places × (text ≡ path_struct_lines places))))

-- the bytes are an image that is accepted in an order of names, and these are the paths of its tree's walk
abbrev pub IsImageWalk : ImageLayout → List ℕ → List PathStruct → Type 0
IsImageWalk layout image places = IsWholeImage layout.block_size layout.page image × ((order : NameOrder) × ((ps : List Pair)
    × (IsAccepted (disk_of_image layout.block_size layout.page layout.profile order image) ps × AreWalkItems (disk_of_image layout.block_size layout.page layout.profile order image) ps places)))

-- the thread is that of the disk, accepted in the thread's order of names, and these are the paths of its tree's walk
pub record IsWalkedThread (disk : Disk) (t : ThreadView) (places : List PathStruct) : Type 0 where
  pub works : t.failed ≡ false
  pub disk_is : t.kept.disk ≡ disk_with_order t.kept.disk.order disk
  pub accepted : IsAccepted (disk_with_order t.kept.disk.order disk) t.kept.pairs
  pub walked : AreWalkItems (disk_with_order t.kept.disk.order disk) t.kept.pairs places

-- the reason why a disk in memory isn't mounted or walked: it is accepted in neither order of names, or memory ran out
abbrev pub IsMountError : Disk → Error → Type 0
IsMountError disk Corrupt = (order : NameOrder) (ps : List Pair) → ¬ IsAccepted (disk_with_order order disk) ps
IsMountError disk NoMemory = Unit {0}
IsMountError disk other = ⊥
