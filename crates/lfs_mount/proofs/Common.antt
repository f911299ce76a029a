-- The definitions and laws that most proofs of this crate use.
pub use Rattle.lfs_device.specs.Bytes.{AreByteBlocks}
pub use Rattle.lfs_device.specs.DeviceCalls.{ReadsOnly}
pub use Rattle.lfs_device.specs.DeviceDisk.{disk_of_blocks}
pub use Rattle.lfs_model.proofs.BlockSets.{Contains-occurrence_count, occurrence_count-Contains}
pub use Rattle.lfs_model.proofs.BrokenRules.{accepted_breaks_none}
pub use Rattle.lfs_model.proofs.Completed.{AreComplete, complete_parts, completed_parts}
pub use Rattle.lfs_model.proofs.Counts.{Each, count_append, count_here, distinct_from_once, each_append, each_counted, each_left, each_right, occurrence_count, once_from_distinct}
pub use Rattle.lfs_model.proofs.Histories.{OnlyReadsSince-trans}
pub use Rattle.lfs_model.proofs.Listings.{Ends, distinct_right}
pub use Rattle.lfs_model.proofs.Logged.{logged}
pub use Rattle.lfs_model.proofs.Names.{Rise}
pub use Rattle.lfs_model.proofs.Pairs.{pair_back, pair_on}
pub use Rattle.lfs_model.proofs.Sites.{HoldsForSome, among_from, any_from}
pub use Rattle.lfs_model.proofs.Superblocks.{HoldSlots, IsChain, StructMark, entry_is_other, pairs_behind}
pub use Rattle.lfs_model.proofs.Walks.{leads_below}
pub use Rattle.lfs_model.specs.format.Blocks.{Blocks}
pub use Rattle.lfs_model.specs.format.Content.{RawContent, RawSlot, decoded_content, decoded_slot, decoded_slots, content_after, content_at, current_block, empty_raw_content, kind_of_type, raw_content, decoded_struct}
pub use Rattle.lfs_model.specs.format.Disk.{Disk, block_count, disk_block, disk_with_order}
pub use Rattle.lfs_model.specs.format.EntryTypes.{directory_struct_type, inline_struct_type}
pub use Rattle.lfs_model.specs.format.Log.{block_entries}
pub use Rattle.lfs_model.specs.format.Names.{Name, is_valid_name, name_cmp}
pub use Rattle.lfs_model.specs.format.SkipLists.{IsSkipList, skip_list_block_count, blocks_to_head}
pub use Rattle.lfs_model.specs.format.Slots.{Branch, Ctz, Gstate, Inline, Slot, Struct, address_of_array, is_superblock, same_pair, zero_gstate}
pub use Rattle.lfs_model.specs.format.Thread.{AreLinkedByTails, BeginsDirectory, IsThread, Pair, ThreadDirectory, superblock_pair_address, count_before_root, directories_with_pair, directory_slots, first_address, has_no_entry, has_superblock, is_hard_tail, moved_id, pair_directories, pairs_blocks, pairs_from_root, pairs_gstate, root_address, slots_not_moved, begins_with_superblock, unmoved_entries}
pub use Rattle.lfs_model.specs.layers.BlockSets.{AreInFlight, AreUsed, BlockState, BlockStates, IsFree}
pub use Rattle.lfs_model.specs.layers.BlockSets.BlockState.{Free, InFlight, Used}
pub use Rattle.lfs_model.specs.layers.LoggedContent.{AreWellFormed, IsWellFormedSlot}
pub use Rattle.lfs_model.specs.layers.Steps.{directory_addresses}
pub use Rattle.lfs_model.specs.layers.Violations.{Breaks, PairsBreak}
pub use Rattle.lfs_model.specs.session.History.{CallEvent, OnlyReadsSince, fault_count, read_count}
pub use Rattle.lfs_model.specs.tree.Shown.{IsReachedDirectory, all_directories, all_unmoved_slots, struct_blocks, used_blocks}
pub use Rattle.lfs_model.specs.tree.Tree.{Path, address_from_slot, struct_directory_address, entry_named, root_slot}
pub use Rattle.lfs_model.specs.tree.View.{RepeatsSuperblockStruct, HasValidMove, IsAccepted, IsEntry, IsWellFormedList, IsSuperblockStruct, IsSuperblockFirst, IsFileOrDirectory}
pub use Rattle.lfs_mount.specs.Accepted.{IsHeaderCheckResult, IsThreadCheckResult, MapUsesBlocks}
pub use Rattle.lfs_mount.specs.Broken.{PairBreaksRule, HasInvalidOrSharedList, IsInvalidOrSharedList, HasInvalidMovedSlot, block_entry_slots, raw_block_slots}
pub use Rattle.lfs_mount.specs.Checked.{FirstSlotIsSuperblock, IsEmptyOrOnlySuperblock, HasOnlySuperblockSlot, IsDescribedThread}
pub use Rattle.lfs_mount.specs.Described.{ArePairDescriptions, IsPairDescription}
pub use Rattle.lfs_mount.specs.Directories.{BreaksGraphRule, IsDirectoryTree, IsGraphOfThread}
pub use Rattle.lfs_mount.specs.DirectoryEntries.{Below, IsNoEntryAt, InList, InSlot, NamedReference, comes_after_name, empty_scan, named_reference, raw_slot_entry, scan_with_entries, scan_with_entry, struct_reference, vertex_with_subdirectory}
pub use Rattle.lfs_mount.specs.DirectoryPlaces.{IsVertexOfSlots, IsDirectoryGraph, IsPathReached, directory_index, slots_subdirectory_addresses}
pub use Rattle.lfs_mount.specs.DirectoryView.{graph_view, vertex_view}
pub use Rattle.lfs_mount.specs.KnownView.{scan_view}
pub use Rattle.lfs_mount.specs.ListsView.{lists_view}
pub use Rattle.lfs_mount.specs.Marking.{HasExactlyUsedBlocks, MarksListBlocksUsed, MarksAllListsUsed, MarksFreeBlocksUsed, FirstNonFreeBlockIs, list_blocks_backwards, list_head_and_size, list_heads_and_sizes}
pub use Rattle.lfs_mount.specs.Members.{AreThreadDirectories, IsHeaderThread, IsThreadRead, directory_start_addresses_of, header_tail_hard, header_descriptions}
pub use Rattle.lfs_mount.specs.MountReads.{described_lists, list_reads, mount_reads, pair_reads}
pub use Rattle.lfs_mount.specs.MoveChecks.{HeadersHaveGstate, MovedSlotIsEntry, MoveSourceIsEntry, is_among_addresses}
pub use Rattle.lfs_mount.specs.Orders.{violation_in_order}
pub use Rattle.lfs_mount.specs.Passed.{ScansPairs, graph_after_tail, scan_after_tail}
pub use Rattle.lfs_mount.specs.Reaching.{AreVisitedMarks, AreReachedMarks, DirectoryGraph, IsValidCompletedSearch, OccursTwice, Vertex, subdirectories_at, visited_vertices, is_valid_vertex, subdirectories_if_any}
pub use Rattle.lfs_mount.specs.Scanned.{scan_after_slots}
pub use Rattle.lfs_mount.specs.Start.{image_seed}
pub use Rattle.lfs_mount.specs.SuperblockChain.{AreThreadHeaders, BreaksFirstSuperblock, HasSuperblockChainLength, first_filled, first_repeats_superblock, first_slot_struct}
pub use Rattle.lfs_mount.specs.Taken.{ScansPair, slots_without_superblock, entry_slot_id, raw_entry_slots, slots_without_moved}
pub use Rattle.lfs_pair.specs.Pair.{header_address}
pub use Rattle.lfs_tag.specs.ContentView.{slot_view, tail_view}
pub use Rattle.lfs_tag.specs.FieldsView.{move_view}
pub use Rattle.lfs_thread.specs.Kept.{AreHeaders, IsHeader, IsKeptOnDisk, KeptThread, PairHeader, ThreadView, disk_of_device, header_pairs}
pub use Rattle.lfs_thread.specs.MountErrors.{ReadsReportingFaults, error_of_mount}
pub use Rattle.lfs_thread.specs.PairPlaces.{address_index}
pub use Rattle.lfs_thread.specs.ThreadDevice.{GivesDeviceBack}
pub use Rattle.std.proofs.lemmas.Bool.{and_from, and_parts, cases_eq, cases_lt, or_cases}
pub use Rattle.std.proofs.lemmas.List.{drop-map, get_or-set_other, get_or-set_same, length-map, length-replicate, length-set, map-append, take-append-drop, take_all, take_more}
pub use Rattle.std.proofs.lemmas.List.Concat.{flat_map-append}
pub use Rattle.std.proofs.lemmas.List.Elements.{All-append, All-cons, All-from_recursion, All-head, All-tail, filter_map-append, recursion_from_All}
pub use Rattle.std.proofs.lemmas.Option.{get_or_from_slice_get, option_and_then_some, same_Some, slice_get-get_or, slice_get-map, slice_get_read, slice_get_within}
pub use Rattle.std.proofs.lemmas.Result.{err_from_is_err_and}
pub use Rattle.std.specs.List.{cons_option, filter_map, flat_map}
pub use Rattle.std.specs.Option.{option_map_or}
