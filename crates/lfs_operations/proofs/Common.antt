-- The words of the definitions and the laws below that most proofs of this crate use.
pub use Rattle.lfs_device.specs.Bytes.{AreByteBlocks}
pub use Rattle.lfs_device.specs.declared.error.Error.{Error}
pub use Rattle.lfs_device.specs.declared.error.Error.TheVariants.{Io, NoMemory, NoSpace}
pub use Rattle.lfs_model.proofs.AfterStops.{survives_then}
pub use Rattle.lfs_model.proofs.Alike.{SameSlots, alike_append, alike_itself}
pub use Rattle.lfs_model.proofs.Became.{Became, became_front, became_shape, fits_same}
pub use Rattle.lfs_model.proofs.Beside.{IsStepBeside, last_site, threaded}
pub use Rattle.lfs_model.proofs.BlockSets.{Contains-occurrence_count, occurrence_count-Contains, slice_get-set_other, slice_get-set_same}
pub use Rattle.lfs_model.proofs.Chained.{InTwo, mkdir_in_two}
pub use Rattle.lfs_model.proofs.Changes.{IsChangedImage, SameFiles, chain_now, rearranged_chain, slots_files}
pub use Rattle.lfs_model.proofs.Committed.{CompletesOperation, IsCommit, commit_step, no_move_from, recovered_from}
pub use Rattle.lfs_model.proofs.Completed.{IsCompleted, complete_insert, complete_length, complete_parts, complete_remove, completed_from, completed_parts}
pub use Rattle.lfs_model.proofs.Counts.{Each, count_append, count_here, distinct_from_once, each_always, each_append, each_counted, each_from_counted, each_joined, each_left, each_pieces, each_right, each_weaker, occurrence_count, once_from_distinct}
pub use Rattle.lfs_model.proofs.Devices.{content_same, device_from}
pub use Rattle.lfs_model.proofs.Drops.{softened}
pub use Rattle.lfs_model.proofs.Effects.{Does, IsNamed, changed_inserted, creates_with_struct, deletes, does_first, does_nothing, ends_tail, puts_attribute, puts_move, puts_struct, puts_tail, removes_attribute, slot_with, with_attribute_put, with_struct}
pub use Rattle.lfs_model.proofs.Files.{SameFileBlocks, file_blocks_same, is_list_same}
pub use Rattle.lfs_model.proofs.Found.{HasDirectory, chain_of_thread, led_directory}
pub use Rattle.lfs_model.proofs.Global.{HasNoMove, gstate_append, gstate_assoc, gstate_comm, gstate_cons, gstate_kept, gstate_left, gstate_moved, gstate_right, gstate_self, sync_bit_delta, turned_is, unmoved_all, with_sync_inverted}
pub use Rattle.lfs_model.proofs.Halves.{content_cut, entry_small, insert_cut}
pub use Rattle.lfs_model.proofs.Histories.{AllCallsSince-behind, AllCallsSince-until, HoldsAtLosses-read_count, HoldsAtLosses-trans, HoldsAtLosses-weaker, LeftByLoss-read, LossLeavesAtWorst-read, OnlyReadsSince-trans, OthersStayUnprogrammed-read_count, OthersStayUnprogrammed-refl, OthersStayUnprogrammed-trans, OthersStayUnprogrammed-wider}
pub use Rattle.lfs_model.proofs.Indexes.{HasSite, nothing_there, site_of_number, site_shows}
pub use Rattle.lfs_model.proofs.Layouts.{NoneGoes, joined_parts, joined_singles, none_where, onward_all, onward_some, rest_all, singles}
pub use Rattle.lfs_model.proofs.Listings.{Ends, IsRun, SameVisible, flip_false}
pub use Rattle.lfs_model.proofs.Logged.{logged}
pub use Rattle.lfs_model.proofs.MoveSets.{IsMoveSet, SameAround, all_at_firsts, begins_at_firsts, directory_addresses, firsts_same, move_sets, move_sets_onto, set_rearranged, site_entries, site_firsts, site_own}
pub use Rattle.lfs_model.proofs.Moves.{AllReached, AllReachedBut, IsStep, attributes_change, bytes_change, directory_goes, entry_only, file_comes, file_goes, get_here, insert_here, place_at, remove_here, set_here, shown_before, shown_behind, shown_of, shown_place, step_each}
pub use Rattle.lfs_model.proofs.Names.{IsPlace}
pub use Rattle.lfs_model.proofs.OneCommit.{close_completed, create_completed, remove_attr_completed, remove_completed, set_attr_completed, some_filled, sync_completed}
pub use Rattle.lfs_model.proofs.Overwrites.{SameExceptBlocks-trans, SameExceptBlocks-wider}
pub use Rattle.lfs_model.proofs.Pairs.{pair_back, pair_itself, pair_on}
pub use Rattle.lfs_model.proofs.Paths.{last_is}
pub use Rattle.lfs_model.proofs.Pieces.{Gains, Keeps, Piece, Stays, olds_of, segment_of}
pub use Rattle.lfs_model.proofs.Profiles.{step_writable}
pub use Rattle.lfs_model.proofs.Recovering.{IsRecovering, recovery_begins, recovery_drops, recovery_ends, recovery_keeps}
pub use Rattle.lfs_model.proofs.RemovedDirectory.{IsRmdir, before_gone, from_kept, onward_append, rmdir_completed}
pub use Rattle.lfs_model.proofs.RenameSteps.{sibling_apart}
pub use Rattle.lfs_model.proofs.RenamedAcross.{IsNoDirectory, target_slots}
pub use Rattle.lfs_model.proofs.Renames.{renamed_addresses}
pub use Rattle.lfs_model.proofs.Replacing.{IsReplaced}
pub use Rattle.lfs_model.proofs.Rests.{IsMoveEnd, end_change, move_ends, site_gstate_moved, unmoved_elsewhere}
pub use Rattle.lfs_model.proofs.RmdirSteps.{IsGone, rmdir_named, rmdir_taken, step_chain}
pub use Rattle.lfs_model.proofs.RootSteps.{IsSameWritable}
pub use Rattle.lfs_model.proofs.Searches.{avoids_behind, avoids_front, is_site, number_is, place_of_belongs, same, same_number, site, slot_of_stands, thread_is}
pub use Rattle.lfs_model.proofs.Segments.{drafts_of, parts_of}
pub use Rattle.lfs_model.proofs.Sites.{HoldsForSome, IsSite, Site, among_from, among_left, among_parts, among_right, any_from, begin_of, dirs_at, run_changed, shown_at, thread_at}
pub use Rattle.lfs_model.proofs.Splices.{AreFree, IsDevice, IsSplice, all_slots, count_files, drop_shape, entry_slots, file_blocks, stays_shape, unmoved_in, visible_in}
pub use Rattle.lfs_model.proofs.StepsTaken.{IsPut, IsPutBeside, IsWritableChange, beside_taken, commit_taken, drop_taken, end_drop_taken, end_taken, put_filled, put_within, set_used, taken_before, taken_then, within_at, within_same}
pub use Rattle.lfs_model.proofs.StoredChanges.{logged_changed}
pub use Rattle.lfs_model.proofs.Superblocks.{IsChain, pairs_behind}
pub use Rattle.lfs_model.proofs.TwoPlaces.{OldStays, from_old, two}
pub use Rattle.lfs_model.proofs.Unchanged.{HasFirst}
pub use Rattle.lfs_model.proofs.Unthreaded.{IsReady, IsUnthreaded, Unthreads, same_parts}
pub use Rattle.lfs_model.proofs.Writable.{last_tail_is_hard}
pub use Rattle.lfs_model.proofs.WrittenAnew.{tag_length-make_tag, tag_type-make_tag}
pub use Rattle.lfs_model.specs.crash.PowerLoss.{HasEitherTree, SurvivesLossSince, with_blocks}
pub use Rattle.lfs_model.specs.format.Blocks.{Blocks, SameExceptBlocks}
pub use Rattle.lfs_model.specs.format.Content.{RawContent, RawSlot, attributes_with, attributes_without, slot_changed_at, decoded_content, decoded_slot, decoded_slots, content_after, content_at, current_block, later_committed_block, empty_raw_content, empty_slot, has_commit, is_later, kind_of_type, raw_content, decoded_struct, slot_of_id}
pub use Rattle.lfs_model.specs.format.Disk.{Disk, SameGeometry, block_count, half_pair_capacity, disk_block}
pub use Rattle.lfs_model.specs.format.EntryTypes.{directory_name_type, directory_struct_type, file_name_type}
pub use Rattle.lfs_model.specs.format.Log.{block_entries, block_revision}
pub use Rattle.lfs_model.specs.format.Names.{Name, is_valid_name}
pub use Rattle.lfs_model.specs.format.Slots.{Attributes, Branch, Ctz, Directory, File, FitsInPair, Gstate, Inline, PairContent, Slot, SlotKind, Struct, Superblock, Tail, address_of_array, attributes_size, reserved_entry_size, gstate_xor, is_superblock, is_superblock_kind, no_move_kind, null_address, same_pair, set_move_kind, slot_size, struct_len, zero_gstate}
pub use Rattle.lfs_model.specs.format.Thread.{AreLinkedByTails, BeginsDirectory, Pair, ThreadDirectory, address_blocks, addresses_blocks, superblock_pair_address, count_before_root, directories_with_pair, directory_slots, first_address, pairs_from_nonempty, has_no_entry, has_slots, has_superblock, is_hard_tail, chain_may_continue, pair_directories, pairs_blocks, pairs_from_root, pairs_gstate, root_address, slots_not_moved, begins_with_superblock, tail_target, unmoved_entries}
pub use Rattle.lfs_model.specs.layers.BlockSets.{AreUsed, BlockState, BlockStates, IsFree, IsInFlight, IsUsedBlock}
pub use Rattle.lfs_model.specs.layers.BlockSets.BlockState.{Free, InFlight, Used}
pub use Rattle.lfs_model.specs.layers.Changes.{Delete, ContentChange, PutAttribute, PutMove, PutStruct, PutTail, content_with_changes}
pub use Rattle.lfs_model.specs.layers.Cut.{AreSplittable}
pub use Rattle.lfs_model.specs.layers.LoggedContent.{IsNameOrStructIfAny, AreWellFormed, AreU32Addresses, AttributesInOrder, IsNameOrStruct, IsAllowedTail, IsWellFormedSlot, IsWellFormed, MoveStateFits}
pub use Rattle.lfs_model.specs.layers.Steps.{KeepsStruct, PathAddresses}
pub use Rattle.lfs_model.specs.layers.WrittenContent.{address_bytes}
pub use Rattle.lfs_model.specs.session.History.{AllCallsSince, CallEvent, OnlyReadsSince, fault_count}
pub use Rattle.lfs_model.specs.session.InDirectory.{IsInsertionPosition, HasName, IsDirectoryPair, IsPairAt, IsPositionOfName, joined_pair_count}
pub use Rattle.lfs_model.specs.session.Layout.{IsFittingPair, IsUnreachedOrRemoved, continued_directory_address, directory_address}
pub use Rattle.lfs_model.specs.session.Moved.{is_worn, pair_joined_to}
pub use Rattle.lfs_model.specs.session.Operations.{Operation}
pub use Rattle.lfs_model.specs.session.Refusals.{path_or_root}
pub use Rattle.lfs_model.specs.session.Session.{Session}
pub use Rattle.lfs_model.specs.session.SlotEdits.{directory_slot, pair_with_slots, pairs_without_moved, slot_of_path}
pub use Rattle.lfs_model.specs.session.TreeEdits.{last_name, tree_creating, tree_removing, tree_renaming, tree_with_change, tree_with_subtree, without_prefix}
pub use Rattle.lfs_model.specs.tree.Profile.{HasNoEmptyPairs, IsWritable, IsWritableEntry, IsWritableSlot}
pub use Rattle.lfs_model.specs.tree.Shown.{IsReachedDirectory, IsDirectoryAtPath, all_directories, all_entries, all_unmoved_slots, disk_tree, struct_blocks, used_blocks}
pub use Rattle.lfs_model.specs.tree.Tree.{DirectoryNode, DirectoryEntryMap, FileNode, Path, Tree, address_at_path, struct_directory_address}
pub use Rattle.lfs_model.specs.tree.View.{HasFirstLogEntry, BeginsWithSuperblock, IsKindOfStruct, HasValidMove, IsAccepted, IsEntry, IsWellFormedList, IsThreadEntry, IsFileOrDirectory, first_pair_slots, first_slot_name, superblock_entry}
pub use Rattle.lfs_operations.specs.declared.moves.Route.{Route}
pub use Rattle.lfs_operations.specs.Altering.{IsBlockOfChangedPair, WritesChangedPairsOrFree}
pub use Rattle.lfs_operations.specs.Changing.{AreCommittedOrSplit, AreTwoFreeBlocks, CanCommit, CanCommitOrSplit, HasTwoFreeBlocks, IsPairSplit, IsPairChangedOrDropped, IsSplitInto, LeftByCommitOrSplit, LeftBySplit, OverfillsPair, ReportsCommitOrSplit, ReportsSpaceErrors, ReportsAllocatingCommit, AllocatesAtMostTwoBlocks, WritesPairAndTwoFree, WritesThreadAndTwoFree, has_failed_after, map_allocating_two}
pub use Rattle.lfs_operations.specs.Creating.{CanCreateIn, IsFileCreated, creation_changes, tree_with_file}
pub use Rattle.lfs_operations.specs.Deltas.{CanSetGstate, content_reaching_gstate, delta_reaching_gstate, gstate_changes, tail_is_hard}
pub use Rattle.lfs_operations.specs.Dropping.{CanDropAt, IsPairDropped, LeftByDrop, HasSameBlocksInFlight, HasTreeAfterDrops, content_after_drop, delta_after_drop, dropping_changes, tail_after_drop}
pub use Rattle.lfs_model.specs.layers.StepResults.{predecessor_tail_after_drop, gstate_without_move, gstate_with_move, gstate_without_sync, pair_index_after_drop, AreUnreachedFrom, AreUnreachedNumbers, IsDirectoryEnd}
pub use Rattle.lfs_operations.specs.Editing.{CanEditIn, CanSetAttribute, HasRemovedAttribute, HasSetAttribute, editable_slot, tree_setting_attributes}
pub use Rattle.lfs_operations.specs.EndingMove.{CanEndMove, HasEndedMove, HasMovedSlot, KeepsRecoveryLayouts, drops_pair_after_move}
pub use Rattle.lfs_operations.specs.Making.{AreBothChangedOrDropped, CanLinkPairAfter, CanMakeDirectoryAt, FitsWithNewTail, HasFreeBlocks, IsDirectoryMade, ReportsDirectoryCreation, WritesPairsAndFourFree, directory_entry_changes, entry_changes, threading_changes, tree_with_directory}
pub use Rattle.lfs_operations.specs.MoveEnds.{CanEndMoveAt, HasEndedMoveAt, content_after_move_ended, continues_directory, delta_without_move, move_ending_dropped_blocks, move_ending_changes, map_after_move_ended, pairs_after_move_ended, move_ending_written_pair}
pub use Rattle.lfs_operations.specs.MovingAcross.{CanMoveBetweenPairs, CanReplaceDirectoryBetweenPairs, IsMovedBetweenPairs, IsRenamedBetweenPairs, move_start_changes, removal_changes, route_blocks, tree_with_entry_moved}
pub use Rattle.lfs_operations.specs.MovingSteps.{CanEndMoveAfterCopy, CanCopyAndEndMove, IsMoveCopiedAndEnded, ReportsAllocatingCommits, PowerLossKeepsEitherTree, WritesPairsAndTwoFree, WritesThreadAndFree, pair_index_after_insertion, move_ending_pair}
pub use Rattle.lfs_operations.specs.Ready.{AreUsedBeforeMapUpdate, AddsNoneInFlight, IsLogContentDecodable, IsRecoveredWritableImage, KeepsRootPairIndex, KeepsNonFreeStates, IsRecoveredWithTree, HasTreeBeforeMapUpdate}
pub use Rattle.lfs_operations.specs.Recovering.{CanClearSync, CanDropPairs, HasCompletedRecovery, IsSyncCleared, ReportsRecovery, gstate_while_dropping, list_blocks_of_pairs, slots_of_pairs_at}
pub use Rattle.lfs_operations.specs.Removing.{CanRemoveIn, IsFileRemoved, ReportsCommit, drops_pair_after_removal, tree_without_entry, removal_written_address}
pub use Rattle.lfs_operations.specs.Renaming.{CanRenameInPair, IsRenamedInPair, CompletesRename, ReportsReadCommitOrSplit, id_after_removal, tree_with_entry_renamed, renaming_changes}
pub use Rattle.lfs_operations.specs.RenamingOver.{CanRenameOverDirectory, CanReplaceDirectory, IsDirectoryReplaced, IsRenamedOverDirectory, ReportsReadCommit, ReportsReadCommits, replace_directory_changes}
pub use Rattle.lfs_operations.specs.RenamingSlots.{PairHasSlotId, slot_without_name_at}
pub use Rattle.lfs_model.specs.layers.SlotChanges.{NamelessSlot, attribute_changes, slot_without_name, slot_creation_changes}
pub use Rattle.lfs_operations.specs.RenamingView.{attribute_copy_view}
pub use Rattle.lfs_operations.specs.Storing.{CanSetStruct, HasStoredContents, tree_with_contents}
pub use Rattle.lfs_operations.specs.Unlinking.{ArePredecessorsChangedOrDropped, CanRemoveDirectory, IsDirectoryRemoved, ReportsCommits, unlink_changes}
pub use Rattle.lfs_pair.specs.ChangeView.{changes_view}
pub use Rattle.lfs_pair.specs.Commits.{changed_pair_content}
pub use Rattle.lfs_pair.specs.Split.{KeepsOutsideBoth}
pub use Rattle.lfs_pair.specs.declared.commits.Outcome.{Outcome}
pub use Rattle.lfs_tag.specs.ContentView.{attribute_view}
pub use Rattle.lfs_tag.specs.FieldsView.{move_view}
pub use Rattle.lfs_thread.specs.CachedLog.{cached_log}
pub use Rattle.lfs_thread.specs.Kept.{KeptThread, ThreadView}
pub use Rattle.lfs_thread.specs.Moves.{CanMoveNext, IsNextMoved, LossLeavesNextMoved, pair_revision}
pub use Rattle.lfs_thread.specs.ThreadDevice.{CleanLossLeaves}
pub use Rattle.lfs_thread.specs.ThreadSteps.{BeginWithSuperblock, SplitOnDisk, CanChangePair, CanDropNext, CanSplitAt, CanThreadIn, ChangesThreadBlocks, FreshInFlight, HasOldPair, HasSplit, IsNextDropped, IsPairCommitted, IsPairWritten, IsThreadedIn, KeepsSuperblockFirst, LossLeavesThreadSplit, LossLeavesPair, LossLeavesThreaded, OnlyReadsThread, PartsFit, RefusesChanges, SameGeometryAs, ThreadReportsErrors, ThreadReportsKeepingOthers, ThreadedInOnDisk, back_pair, complete_after, empty_anchor, fresh_with_tail, front_pair, map_freeing, map_using, pairs_split, pairs_with_content, tail_change, thread_pair}
pub use Rattle.lfs_thread.specs.Unloads.{CanUnload, IsUnloaded, LossLeavesUnloaded}
pub use Rattle.std.proofs.Common.{Bool, Err, Less, List, None, Ok, Option, Result, Some, [], ap, append_assoc, ap₂, arith, cond, drop, eq-eqb, eqb-true, false, get_or, inl, inr, insert, length, length-append, length-set, map, nat_eq, not, refl, remove, set, slice_get, subst, subst₂, suc, sum_by, sym, take, true, zero, ℕ, ⊎_elim, ◌++◌, ◌+◌, ◌-◌, ◌<◌, ◌==◌, ◌^◌, ◌∙◌, ◌∷◌, ◌≡◌, ◌≤◌, ◌⊎◌}
pub use Rattle.std.proofs.lemmas.Bool.{and_parts, cases_lt, eqb-false, le-ltb, lt-ltb, ne_eqb}
pub use Rattle.std.proofs.lemmas.List.{append-nil, length-map, length-take-le, take-append-drop}
pub use Rattle.std.proofs.lemmas.List.Concat.{flat_map-append}
pub use Rattle.std.proofs.lemmas.List.Elements.{All-from_recursion, filter-append, recursion_from_All}
pub use Rattle.std.proofs.lemmas.List.Sums.{sum_by-append, sum_by-cons}
pub use Rattle.std.proofs.lemmas.Nat.{xor_lt}
pub use Rattle.std.proofs.lemmas.Option.{same_Some}
pub use Rattle.std.proofs.lemmas.Result.{err_from_is_err_and, on_ok_weaker}
pub use Rattle.std.specs.List.{AllByRecursion, IsDistinct, flat_map}
pub use Rattle.std.specs.Option.{option_and_then, option_map}
pub use Rattle.std.specs.Prelude.{All, Any, Contains, IfErr, IfNone, IfSome, IsErrOf, IsSome, OnOk, is_err, is_none, is_some, nat_le, nat_lt, slice_index, slice_index_or, unwrap_or, ◌&&◌, ◌↔◌, ◌≢◌}
