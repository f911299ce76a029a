-- The words of the definitions and the laws below that most proofs of this crate use.
pub use Rattle.lfs_device.specs.Bytes.{AreByteBlocks}
pub use Rattle.lfs_lookup.specs.AtPath.{IsLookupResult}
pub use Rattle.lfs_lookup.specs.AttributeAt.{AreAttributesAt, IsAttributesSize, IsFoundPairCached}
pub use Rattle.lfs_lookup.specs.ByName.{AreSortedShorterFirst}
pub use Rattle.lfs_lookup.specs.BytesAt.{file_slot_and_storage}
pub use Rattle.lfs_lookup.specs.CachedPairs.{ArePairsCached, IsRecentlyUsed, BecomesMostRecent, KeepsCachedPairs, CachedBlocksStayCached, pairs_at}
pub use Rattle.lfs_lookup.specs.Entry.{IsStorageOfStruct, IsStructEntry}
pub use Rattle.lfs_lookup.specs.Finds.{IsFoundNode, listed_item_view}
pub use Rattle.lfs_lookup.specs.Halves.{LastHasNoHardTail, EachPairHasSlot, EachDirectoryPairHasSlot, ReadsAtMostBinarySearches, halving_count, directory_halving_count}
pub use Rattle.lfs_lookup.specs.Items.{NamedStruct, item_view, items_view, named_struct, owned_view, raw_entries, slots_except}
pub use Rattle.lfs_lookup.specs.ListAt.{AreNamedStructsInLimits, IsNamedStructInLimits, name_and_size}
pub use Rattle.lfs_lookup.specs.Listed.{hard_tail_count_from, joined_pairs, hard_tail_chain_from, directory_entries_from}
pub use Rattle.lfs_lookup.specs.LookupPaths.{HidesMovedSlot, IsVisibleLookupResult, IsParentAt, IsVisibleSlot, LeadsToPair, IsPathParent, parent_refusal}
pub use Rattle.lfs_lookup.specs.LookupReading.{ReadsOrReports}
pub use Rattle.lfs_lookup.specs.NameLengths.{length_after_slash}
pub use Rattle.lfs_lookup.specs.NameSearch.{IsNamePositionInDirectory, IsNamePositionInPair, IsVisibleNameResult, IsNameAtUnskipped, IsOnlyMovedSlot, IsNameAbsentFrom, IsNameAbsentExcept, IsNameAtVisibleSlot, skipped_id}
pub use Rattle.lfs_lookup.specs.ProfileChecks.{PairBreaksProfile, SomeSlotBreaksProfile, HasSuperblockStruct, IsWritablePair}
pub use Rattle.lfs_lookup.specs.TreeWalk.{AreEntriesPushed, HasFirstPairIfDirectory, PathStruct, PushesEntriesBelow, pairs_addresses, tree_items_view, with_full_paths}
pub use Rattle.lfs_model.proofs.Completed.{complete_length, complete_parts, completed_parts}
pub use Rattle.lfs_model.proofs.Counts.{Each, each_append, each_joined, each_left, each_right, each_weaker}
pub use Rattle.lfs_model.proofs.Found.{HasDirectory, chain_of_thread, led_directory}
pub use Rattle.lfs_model.proofs.Listings.{Apart, IsRun, distinct_apart, distinct_right, entries_own, listing, run_directories}
pub use Rattle.lfs_model.proofs.Logged.{logged}
pub use Rattle.lfs_model.proofs.OneCommit.{slot_there}
pub use Rattle.lfs_model.proofs.Pairs.{pair_back, pair_on}
pub use Rattle.lfs_model.proofs.Searches.{begins_directory, plain_behind, run_length_is, same_number}
pub use Rattle.lfs_model.proofs.Walks.{walk_append}
pub use Rattle.lfs_model.specs.crash.Frame.{ancestor_paths, directory_pairs, directory_pair_count}
pub use Rattle.lfs_model.specs.format.Content.{RawContent, RawSlot, attribute_bytes, decoded_content, decoded_slot, decoded_slots, kind_of_type, decoded_struct, slot_of_id}
pub use Rattle.lfs_model.specs.format.Disk.{Disk, disk_block, disk_with_order}
pub use Rattle.lfs_model.specs.format.EntryTypes.{directory_struct_type, inline_struct_type, decoded_address, superblock_fields}
pub use Rattle.lfs_model.specs.format.Names.{Name, is_component, is_less, name_cmp, same_name, slash_byte, sorted_names}
pub use Rattle.lfs_model.specs.format.Slots.{Attributes, Branch, Ctz, FitsInPair, Gstate, Inline, PairContent, Slot, Struct, address_of_array, attributes_size, is_superblock, is_superblock_kind, same_pair}
pub use Rattle.lfs_model.specs.format.Thread.{Pair, count_before_root, directory_slots, has_no_entry, has_superblock, is_hard_tail, chain_may_continue, moved_id, pair_directories, pairs_blocks, pairs_from_root, pairs_gstate, root_address, slots_not_moved, begins_with_superblock, unmoved_entries}
pub use Rattle.lfs_model.specs.layers.Cache.{CachedBlocks, cache_limit}
pub use Rattle.lfs_model.specs.layers.LoggedContent.{IsNameOrStructIfAny, AreWellFormed, AttributesInOrder, IsNameOrStruct, IsWellFormedSlot, IsWellFormed}
pub use Rattle.lfs_model.specs.layers.Lookup.{bytes_if_type, slot_bytes}
pub use Rattle.lfs_model.specs.layers.ProfileBreaches.{BreaksProfile}
pub use Rattle.lfs_model.specs.session.Effects.{listed_entries_at, node_file_size}
pub use Rattle.lfs_model.specs.session.History.{fault_count, read_count}
pub use Rattle.lfs_model.specs.session.InDirectory.{AreJoinedByHardTails, IsInsertionPosition, NameBelongsAtId, BeginsWithGreaterName, HasHardTail, HasName, HaveNoSuperblock, IsDirectoryPair, IsPairAt, IsPositionOfName, all_slots, entry_slots, joined_pair_count, last_has_hard_tail}
pub use Rattle.lfs_model.specs.session.Operations.{NoEnt, NotDir}
pub use Rattle.lfs_model.specs.session.Refusals.{is_root_path}
pub use Rattle.lfs_model.specs.session.Session.{directory_refusal, parents_refusal}
pub use Rattle.lfs_model.specs.session.SlotEdits.{slot_of_path}
pub use Rattle.lfs_model.specs.session.TreeEdits.{directory_names, is_file, last_name, node_attributes_of}
pub use Rattle.lfs_model.specs.tree.Profile.{IsWritable, IsWritableSlot}
pub use Rattle.lfs_model.specs.tree.Shown.{IsDirectoryAtPath, all_entries, all_unmoved_slots, disk_tree, disk_list_bytes}
pub use Rattle.lfs_model.specs.tree.Tree.{DirectoryEntryMap, Path, Tree, struct_directory_address, entry_named, names_at, root_slot, slot_at_path, struct_node}
pub use Rattle.lfs_model.specs.tree.View.{BeginsWithSuperblock, IsAccepted, IsWellFormedList, IsFileOrDirectory}
pub use Rattle.lfs_pair.specs.Pair.{active_block_at}
pub use Rattle.lfs_tag.specs.ContentView.{attribute_view, content_view, slot_view}
pub use Rattle.lfs_thread.specs.CachedLog.{IsContentLog, cached_log}
pub use Rattle.lfs_thread.specs.Kept.{KeptThread, ThreadView, disk_of_device}
pub use Rattle.lfs_thread.specs.PairPlaces.{SameAddressAt, blocks_of_addresses}
pub use Rattle.lfs_thread.specs.ThreadSteps.{OnlyReadsThread, empty_anchor, thread_pair}
pub use Rattle.std.proofs.Math.Seq.{drop-append_seam}
pub use Rattle.std.proofs.lemmas.Bool.{false_from_ne_true, ne_eqb}
pub use Rattle.std.proofs.lemmas.Iterator.Splits.{YieldsList-from_slice_split}
pub use Rattle.std.proofs.lemmas.List.{append-nil, get_or-drop, get_or-take, length-map, length-take, map-append, reverse-append, take-append-drop, take_all}
pub use Rattle.std.proofs.lemmas.List.Concat.{flat_map-append}
pub use Rattle.std.proofs.lemmas.List.Elements.{filter-append, recursion_from_All}
pub use Rattle.std.proofs.lemmas.List.Sums.{sum_by-append, sum_by-cons}
pub use Rattle.std.proofs.lemmas.Option.{same_Some, slice_get-get_or, slice_get_within}
pub use Rattle.std.proofs.lemmas.Result.{err_from_is_err_and}
pub use Rattle.std.specs.List.{AllByRecursion, remove}
pub use Rattle.std.specs.List.Sorted.{IsPermutation}
pub use Rattle.std.specs.Option.{option_and_then, option_copied, option_map, option_map_or, option_or}
