-- The words of the definitions and the laws below that most proofs of this crate use.
pub use Rattle.lfs_device.specs.Bytes.{AreByteBlocks}
pub use Rattle.lfs_file.specs.Bases.{IsListOrEmpty, blocks_of_list}
pub use Rattle.lfs_file.specs.BlockOwners.{AreUsedAmong, contents_blocks}
pub use Rattle.lfs_file.specs.BlocksApart.{IsTakenNotPending}
pub use Rattle.lfs_file.specs.Contents.{AreSoundContents, HaveBytesInForm, NoneInFlight, contents_bytes, contents_form, finish_room, form_after_finish}
pub use Rattle.lfs_file.specs.Form.{ContentsForm}
pub use Rattle.lfs_file.specs.Growing.{GrowingList, growing_size_with, unwritten_block}
pub use Rattle.lfs_file.specs.Hand.{CanEndOver, IsFinishedList, bytes_over_base}
pub use Rattle.lfs_file.specs.Known.{AreKnownBlocks}
pub use Rattle.lfs_file.specs.SettledMaps.{SettlesList}
pub use Rattle.lfs_lookup.proofs.AtPaths.{SizedLists, directory_at_path, sized_on}
pub use Rattle.lfs_lookup.proofs.ReadOnly.{only_read}
pub use Rattle.lfs_lookup.proofs.Reading.{HasRead, answered, answers, begun, both, further, lacks_memory, passed}
pub use Rattle.lfs_lookup.proofs.Roots.{root_begins}
pub use Rattle.lfs_lookup.proofs.ShownFindings.{found_shown, in_entry}
pub use Rattle.lfs_lookup.specs.AttributeAt.{IsAttributesSize}
pub use Rattle.lfs_lookup.specs.Entry.{IsStorageOfStruct}
pub use Rattle.lfs_lookup.specs.FileContents.{IsStorageAt, contents_struct}
pub use Rattle.lfs_lookup.specs.Finds.{IsFoundNode, has_entry_beneath}
pub use Rattle.lfs_lookup.specs.Items.{items_view}
pub use Rattle.lfs_lookup.specs.Listed.{directory_entries_from}
pub use Rattle.lfs_lookup.specs.LookupPaths.{IsSlotOfChild, LeadsToPair, IsResultOfPath}
pub use Rattle.lfs_lookup.specs.LookupReading.{ReadsOrReports}
pub use Rattle.lfs_lookup.specs.TreeWalk.{HasFirstPairIfDirectory}
pub use Rattle.lfs_model.proofs.AfterStops.{survives_then}
pub use Rattle.lfs_model.proofs.Arranged.{arranged_after, arranged_settled, recovered_stays}
pub use Rattle.lfs_model.proofs.BlockCounts.{few_flying}
pub use Rattle.lfs_model.proofs.BlockSets.{Contains-cons, Contains-head, Contains-occurrence_count, Contains-tail, occurrence_count-Contains, slice_get-set_other, slice_get-set_same, used_count-AreUsed}
pub use Rattle.lfs_model.proofs.Changes.{IsChangedImage, slots_files}
pub use Rattle.lfs_model.proofs.Committed.{CompletesOperation, no_move_from, recovered_from}
pub use Rattle.lfs_model.proofs.Counts.{Each, count_append, count_here, each_append, each_from_counted, each_left, each_pieces, each_right, each_weaker, occurrence_count, once_from_distinct}
pub use Rattle.lfs_model.proofs.Files.{SameFileBlocks, file_blocks_same, is_list_same, length_back}
pub use Rattle.lfs_model.proofs.Found.{chain_of_thread}
pub use Rattle.lfs_model.proofs.Global.{HasNoMove}
pub use Rattle.lfs_model.proofs.Histories.{HoldsAtLosses-read_count, HoldsAtLosses-trans, HoldsAtLosses-weaker, HoldsAtLosses-worst, LeftByLoss-read, OnlyReadsSince-trans, is_unprogrammed_byte-read_count}
pub use Rattle.lfs_model.proofs.Layouts.{onward_some}
pub use Rattle.lfs_model.proofs.Logged.{logged}
pub use Rattle.lfs_model.proofs.Pairs.{pair_back, pair_on}
pub use Rattle.lfs_model.proofs.Paths.{last_is}
pub use Rattle.lfs_model.proofs.Searches.{IsDirectory, begins_directory}
pub use Rattle.lfs_model.proofs.Sites.{HoldsForSome, among_right}
pub use Rattle.lfs_model.proofs.Splices.{file_blocks, unmoved_in}
pub use Rattle.lfs_model.specs.crash.Frame.{HoldsSlotOfPath, KeepsUnrelatedBlocks, ancestor_paths, changed_paths, directory_pair_count}
pub use Rattle.lfs_model.specs.crash.PowerLoss.{HasEitherTree, SurvivesLossSince, with_blocks}
pub use Rattle.lfs_model.specs.format.Blocks.{Blocks, HasBlockSizes, block_bytes}
pub use Rattle.lfs_model.specs.format.Content.{attributes_with, attributes_without, current_block, later_committed_block, empty_raw_content, has_commit, is_later, decoded_struct}
pub use Rattle.lfs_model.specs.format.Disk.{Disk, SameGeometry, block_count, half_pair_capacity, disk_block, inline_limit, profile_name_max, disk_with_order}
pub use Rattle.lfs_model.specs.format.Log.{block_revision}
pub use Rattle.lfs_model.specs.format.Names.{Name, is_component, is_valid_name, same_name}
pub use Rattle.lfs_model.specs.format.SkipLists.{IsSkipList, skip_list_block_count, blocks_to_head, list_bytes}
pub use Rattle.lfs_model.specs.format.Slots.{Attributes, Branch, Ctz, FitsInPair, Gstate, Inline, Slot, Struct, reserved_entry_size, same_pair, slot_size, zero_gstate}
pub use Rattle.lfs_model.specs.format.Thread.{Pair, address_blocks, addresses_blocks, superblock_pair_address, count_before_root, first_address, is_hard_tail, pairs_blocks, pairs_from_root, pairs_gstate, root_address}
pub use Rattle.lfs_model.specs.layers.BlockSets.{AreInFlight, AreUsed, BlockState, BlockStates, IsFree, IsInFlight, IsUsedBlock, in_flight_count, state_in_flight, used_count}
pub use Rattle.lfs_model.specs.layers.BlockSets.BlockState.{Free, InFlight, Used}
pub use Rattle.lfs_model.specs.layers.Cache.{CachedBlocks}
pub use Rattle.lfs_model.specs.layers.Changes.{ContentChange}
pub use Rattle.lfs_model.specs.layers.Keeping.{struct_at}
pub use Rattle.lfs_model.specs.layers.WrittenContent.{is_zero}
pub use Rattle.lfs_model.specs.session.Effects.{node_with_bytes}
pub use Rattle.lfs_model.specs.session.History.{AllCalls, AllCallsSince, CallEvent, OnlyReadsSince, fault_count, read_count}
pub use Rattle.lfs_model.specs.session.InDirectory.{IsInsertionPosition, HasHardTail, IsDirectoryPair, IsPairAt, IsPositionOfName}
pub use Rattle.lfs_model.specs.session.Layout.{ArePairsSplitOrDropped, IsFittingPair, IsUnreachedOrRemoved, IsLayoutAfterOperation, IsLayoutAfterRecovery, continued_directory_address, directory_address}
pub use Rattle.lfs_model.specs.session.Operations.{FlagsOfOpen, Operation}
pub use Rattle.lfs_model.specs.session.Refusals.{is_root_path, path_or_root}
pub use Rattle.lfs_model.specs.session.Run.{is_recover, renames_itself}
pub use Rattle.lfs_model.specs.session.Session.{DiskSummary, OpenFilesByNumber, Session, has_long_name, file_block_count}
pub use Rattle.lfs_model.specs.session.SlotEdits.{pair_with_slots, pairs_without_moved, slot_of_path}
pub use Rattle.lfs_model.specs.session.TreeEdits.{directory_names, file_bytes, is_file, last_name, node_attributes_of, same_path, tree_creating, tree_removing, tree_renaming, tree_with_change, without_prefix}
pub use Rattle.lfs_model.specs.tree.Profile.{HasNoEmptyPairs, InlineBytesFit, IsWritable, IsWritableSlot}
pub use Rattle.lfs_model.specs.tree.Shown.{IsReachedDirectory, IsDirectoryAtPath, all_entries, all_unmoved_slots, disk_tree, struct_blocks, disk_list_bytes, used_blocks}
pub use Rattle.lfs_model.specs.tree.Tree.{DirectoryNode, FileNode, Node, Path, Tree, struct_directory_address, entry_named, root_slot, slot_at_path, struct_node}
pub use Rattle.lfs_model.specs.tree.View.{HasFirstLogEntry, IsAccepted, IsWellFormedList, superblock_entry}
pub use Rattle.lfs_operations.proofs.Held.{here}
pub use Rattle.lfs_operations.specs.Altering.{WritesChangedPairsOrFree}
pub use Rattle.lfs_operations.specs.Changing.{HasTwoFreeBlocks, IsPairChangedOrDropped, WritesPairAndTwoFree, has_failed_after}
pub use Rattle.lfs_operations.specs.Creating.{CanCreateIn, IsFileCreated, tree_with_file}
pub use Rattle.lfs_operations.specs.Dropping.{HasSameBlocksInFlight}
pub use Rattle.lfs_operations.specs.Editing.{CanEditIn, CanSetAttribute, HasRemovedAttribute, HasSetAttribute, editable_slot, tree_setting_attributes}
pub use Rattle.lfs_operations.specs.EndingMove.{HasEndedMove}
pub use Rattle.lfs_operations.specs.Making.{AreBothChangedOrDropped, CanMakeDirectoryAt, HasFreeBlocks, IsDirectoryMade, WritesPairsAndFourFree, tree_with_directory}
pub use Rattle.lfs_operations.specs.MovingAcross.{IsRenamedBetweenPairs, route_blocks, tree_with_entry_moved}
pub use Rattle.lfs_operations.specs.MovingSteps.{WritesPairsAndTwoFree, WritesThreadAndFree, move_ending_pair}
pub use Rattle.lfs_operations.specs.Ready.{IsRecoveredWritableImage, IsWritableBeforeMapUpdate, KeepsRootPairIndex}
pub use Rattle.lfs_operations.specs.Recovering.{CanDropPairs, HasCompletedRecovery, slots_of_pairs_at}
pub use Rattle.lfs_model.specs.layers.StepResults.{AreUnreachedFrom, AreUnreachedNumbers}
pub use Rattle.lfs_operations.specs.Removing.{drops_pair_after_removal, removal_written_address}
pub use Rattle.lfs_operations.specs.Renaming.{tree_with_entry_renamed}
pub use Rattle.lfs_operations.specs.RenamingSlots.{IsRenameTargetPosition}
pub use Rattle.lfs_operations.specs.Storing.{HasStoredContents, tree_with_contents}
pub use Rattle.lfs_operations.specs.Unlinking.{ArePredecessorsChangedOrDropped, CanRemoveDirectory, IsDirectoryRemoved}
pub use Rattle.lfs_tag.specs.ContentView.{slot_view}
pub use Rattle.lfs_thread.specs.Beside.{BelongToThread, HasGeometry, KeepsPairBlocks}
pub use Rattle.lfs_thread.specs.Kept.{KeptThread, ThreadView, disk_of_device, kept_in_order}
pub use Rattle.lfs_thread.specs.ThreadSteps.{ChangesThreadBlocks, OnlyReadsThread, ThreadReportsErrors, empty_anchor, thread_pair}
pub use Rattle.lfs_tree.specs.CreationPaths.{IsCreationResult}
pub use Rattle.lfs_tree.specs.Formats.{IsEmptyWritable, IsFreshlyFormatted}
pub use Rattle.lfs_tree.specs.KeptFiles.{KeepsFileAt, KeepsListBytes}
pub use Rattle.lfs_tree.specs.LostLists.{CanFreeLists, raw_slots_lists, slots_lists}
pub use Rattle.lfs_tree.specs.MovedEntries.{CanMoveEntry, CanMoveOntoDirectory, CanMoveOntoFile, CanMoveOntoFound, CanMoveEntryTo, HasMovedEntry, HasMovedReplacingFile, WorksOrReportsIo}
pub use Rattle.lfs_tree.specs.OpenContents.{AreThreadContents, AreTreeContents, CanStoreContents, CanTruncateIn, CanWriteIn, IsOpenedForm, list_blocks_at, slot_blocks, writer_contents_bytes}
pub use Rattle.lfs_tree.specs.Openings.{AreOpenedContents, CanOpenFileSlot, opened_form}
pub use Rattle.lfs_tree.specs.Orphans.{DirectoriesBegin, IsFirstPairOfNamed, IsFirstPairOfStruct, AreReachedMarked, MarksAndQueues, unmarked_count}
pub use Rattle.lfs_tree.specs.Permissions.{CanAddEntry, CanAddEntryIn, CanRemoveAttr, CanRemoveEntry, CanRenamePath, CanSetAttr, HasNeededBlocks}
pub use Rattle.lfs_tree.specs.Recoveries.{HasDroppedUnreached, HasRecovered}
pub use Rattle.lfs_tree.specs.Removals.{CanRemoveFile, CanRemoveFound, HasRemovedEntry, RemovalKeepsUnrelatedBlocks}
pub use Rattle.lfs_tree.specs.RenameLookup.{AreRenameResults, rename_parents}
pub use Rattle.lfs_tree.specs.RootedThreads.{IsSoundWithRoot, IsSoundUnlessFailed, uncached_state, thread_state}
pub use Rattle.lfs_tree.specs.SettledFiles.{CanReplaceUsedList, ChangesOnlyMap, IsUsedListReplaced, stored_list_blocks}
pub use Rattle.lfs_tree.specs.SlotChanges.{HasPathEntry, IsSlotOfPath, is_entry_found, tree_with_attributes}
pub use Rattle.lfs_tree.specs.Stores.{CanCommitContents, CanPutContents, ChangesPathPair, HasCommittedBytes, IsFinishedForm, IsPathFile, StoresBeforeRelocation, empty_list, finished_list, finished_struct, list_in_storage, list_in_struct}
pub use Rattle.lfs_tree.specs.StructChanges.{IsNewContentsStruct}
pub use Rattle.lfs_tree.specs.ThreadContents.{AreContentsOnDisk, CanWriteRemainingDraft, CanTruncate, CanWriteToContents, HaveContentsForm, KeepsPairs, ThreadReportsFaults, contents_list_blocks}
pub use Rattle.lfs_tree.specs.TreeCalls.{IsOperationCall, tree_after_call}
pub use Rattle.lfs_tree.specs.TreeChanges.{AppliesBeforeRelocation, AppliesOperation, AppliesOrFails, CanChangeRecovered, ChangesTreeOrFails, HasAppliedCall, IsLaterOnSameDevice, HasSoundImage, HasThreadCause, IsLookupWithName, IsInsertionSlot, IsVacantPath, KeepsBlocksOutsideOperation, PowerLossLeavesEither}
pub use Rattle.lfs_tree.specs.TreeReads.{ReadsPairsOnce}
pub use Rattle.lfs_tree.specs.TreeState.{HasErrorCause, IsOperationApplied, IsFailedTree, IsMountedTree, IsSoundState, KeepsInFlight, TreeState, kept_thread, visible_tree, tree_summary, without_cache}
pub use Rattle.std.proofs.Math.Nat.{min-le_right}
pub use Rattle.std.proofs.lemmas.Bool.{cases_lt, eqb-false, ltb-false}
pub use Rattle.std.proofs.lemmas.List.{length-map, length-replicate, map-append}
pub use Rattle.std.proofs.lemmas.List.Elements.{All-contains, All-from_recursion, Contains-append_cases, Contains-append_left, Contains-append_right, recursion_from_All}
pub use Rattle.std.proofs.lemmas.List.Sums.{sum_by-append, sum_by-cons}
pub use Rattle.std.proofs.lemmas.Option.{same_Some, slice_get-get_or, slice_get_within}
pub use Rattle.std.proofs.lemmas.Result.{err_from_is_err_and}
pub use Rattle.std.specs.List.{AllByRecursion, flat_map, list_all, list_any}
pub use Rattle.std.specs.Option.{option_and_then, option_map}
