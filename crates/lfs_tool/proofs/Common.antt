-- The words of the definitions and the laws below that most proofs of this crate use.
pub use Rattle.lfs_device.specs.RamDevice.{ram_blocks, ram_geometry}
pub use Rattle.lfs_lookup.specs.Items.{owned_view}
pub use Rattle.lfs_lookup.specs.TreeWalk.{AreTreeItems, AreWalkItems, IsStructNode, IsTreeItem, PathStruct, tree_items_view}
pub use Rattle.lfs_model.specs.format.Disk.{Disk, IsWholeImage, block_count, disk_of_image, disk_with_order}
pub use Rattle.lfs_model.specs.format.Slots.{Branch, Ctz, Inline, Struct}
pub use Rattle.lfs_model.specs.format.Thread.{Pair}
pub use Rattle.lfs_model.specs.layers.BlockSets.{AreUsed}
pub use Rattle.lfs_model.specs.layers.Listing.{PathNode, UnpackingAction}
pub use Rattle.lfs_model.specs.session.History.{CallEvent, fault_count}
pub use Rattle.lfs_model.specs.tree.Shown.{used_blocks}
pub use Rattle.lfs_model.specs.tree.Tree.{Node}
pub use Rattle.lfs_model.specs.tree.View.{HasDiskView, IsAccepted, IsWellFormedList, disk_view}
pub use Rattle.lfs_thread.specs.MountErrors.{error_of_mount}
pub use Rattle.lfs_thread.specs.ThreadSteps.{OnlyReadsThread}
pub use Rattle.lfs_tool.specs.CheckResults.{IsWrongSuperblockField}
pub use Rattle.lfs_tool.specs.ImageSummaries.{is_file_item}
pub use Rattle.lfs_tool.specs.KnownBytes.{AppendsPrefix}
pub use Rattle.lfs_tool.specs.Listings.{IsDiskListing, IsImageWalk, IsMountError, RefusesToList, path_struct_lines}
pub use Rattle.lfs_tool.specs.Reports.{IsReadToEnd}
pub use Rattle.lfs_tool.specs.Unpackings.{HasDoneActionsPrefix, HasDoneActions, HaveWellFormedLists, path_struct_action, path_struct_actions}
pub use Rattle.lfs_tool.specs.Verdict.{IsDiskVerdict}
pub use Rattle.lfs_tool.specs.WrongNumbers.{AreFieldsRight, SuperblocksAreRight}
pub use Rattle.std.proofs.KnownBytes.{Keeps-refl, Keeps-trans}
pub use Rattle.std.proofs.lemmas.List.{append-nil, take_all}
pub use Rattle.std.proofs.lemmas.Result.{IfErr-weaker, on_ok_weaker}
pub use Rattle.std.specs.Io.KnownBytes.{Appends, Consumes, Keeps}
