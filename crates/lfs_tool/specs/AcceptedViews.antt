-- Views of a disk whose names are in one of the two orders.
use Rattle.std.specs.Prelude.{ℕ, List}
use Rattle.lfs_tool.specs.declared.image_layout.ImageLayout.{ImageLayout}
use Rattle.lfs_model.specs.format.Disk.{disk_with_order, Disk, disk_of_image}
use Rattle.lfs_model.specs.tree.View.{HasDiskView, DiskView}
use Rattle.lfs_model.specs.declared.order.NameOrder.{NameOrder}

-- the disk of these bytes is accepted in one of the orders of names, and has this view then
abbrev pub IsAcceptedImageView : ImageLayout → List ℕ → DiskView → Type 0
IsAcceptedImageView layout image view = (order : NameOrder) × HasDiskView (disk_of_image layout.block_size layout.page layout.profile order image) view

-- the same for a disk, whatever its own order
abbrev pub IsAcceptedDiskView : Disk → DiskView → Type 0
IsAcceptedDiskView disk view = (order : NameOrder) × HasDiskView (disk_with_order order disk) view
