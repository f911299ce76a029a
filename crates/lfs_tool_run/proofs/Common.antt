-- The words of the definitions and the laws below that most proofs of this crate use.
pub use Rattle.lfs_device.specs.RamDevice.{ram_blocks, ram_bytes, ram_geometry}
pub use Rattle.lfs_fs.specs.FlagsView.{flags_view}
pub use Rattle.lfs_fs.specs.SessionView.{EndsInError, SessionView, system_state}
pub use Rattle.lfs_model.proofs.Counts.{Each, each_append, each_both, each_right, each_weaker}
pub use Rattle.lfs_model.proofs.Kept.{fresh_defined}
pub use Rattle.lfs_model.proofs.Names.{greater}
pub use Rattle.lfs_model.proofs.Paths.{append_step, not_longer}
pub use Rattle.lfs_model.specs.format.Disk.{Disk, block_count, disk_of_image, disk_with_order}
pub use Rattle.lfs_model.specs.format.Names.{Name, is_component, name_cmp}
pub use Rattle.lfs_model.specs.layers.Listing.{new_flags, node_copy_operations}
pub use Rattle.lfs_model.specs.layers.Source.{AFile, AFolder, IsSourceNode, IsSourceTree, TreeSource, is_named_folder, node_at, path_in_folder, source_names}
pub use Rattle.lfs_model.specs.session.Headline.{session_after_all}
pub use Rattle.lfs_model.specs.session.History.{fault_count}
pub use Rattle.lfs_model.specs.session.Operations.{Operation, Reply, path_bytes}
pub use Rattle.lfs_model.specs.session.Refusals.{path_or_root}
pub use Rattle.lfs_model.specs.session.Run.{IsStep, SystemState, is_refusal}
pub use Rattle.lfs_model.specs.session.Session.{DiskSummary, Session}
pub use Rattle.lfs_model.specs.session.State.{Healthy, SessionHealth, is_remount, mounted_session}
pub use Rattle.lfs_model.specs.session.TreeEdits.{names_with, node_with_names, same_path, tree_creating}
pub use Rattle.lfs_model.specs.tree.Fresh.{IsFreshDisk, empty_tree}
pub use Rattle.lfs_model.specs.tree.Tree.{DirectoryNode, FileNode, Node, Path, Tree}
pub use Rattle.lfs_model.specs.tree.View.{IsAccepted}
pub use Rattle.lfs_tool_run.specs.AppliedOperations.{AppliesUntilError, AreApplied, IsHealthyWithoutFiles, IsFirstRefusal, AppliesUpToError, entries_operations, entry_operations, node_of_optional_bytes}
pub use Rattle.lfs_tool_run.specs.MadeImages.{IsFirstEntriesRefusal}
pub use Rattle.lfs_tool.specs.MemorySources.{optional_bytes_view}
pub use Rattle.lfs_tool.specs.SourceEntries.{AreDepthFirst, AreSortedFolderNames, AreSourceEntries, HasSourceContents, PathAndKind, paths_in_folder}
pub use Rattle.std.proofs.lemmas.Grind.{flat_map-append}
pub use Rattle.std.proofs.lemmas.List.{append-nil}
pub use Rattle.std.proofs.lemmas.List.Elements.{All-contains, All-contains_itself, All-from_recursion, recursion_from_All}
pub use Rattle.std.proofs.lemmas.List.Sorted.{Contains-permutation, IsPermutation-map, IsPermutation-sym}
pub use Rattle.std.proofs.lemmas.Option.{same_Some}
pub use Rattle.std.proofs.lemmas.Result.{IfOk-weaker}
pub use Rattle.std.specs.List.Sorted.{IsPermutation}
