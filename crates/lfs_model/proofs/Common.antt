-- The words of the definitions and the laws below that most proofs of this crate use.
pub use Rattle.lfs_model.specs.crash.Conformance.{CallsConform, CallConforms}
pub use Rattle.lfs_model.specs.crash.FailedCalls.{FailLikeLossSince}
pub use Rattle.lfs_model.specs.crash.Frame.{HoldsSlotOfPath, KeepsUnrelatedBlocks, directory_pair_count}
pub use Rattle.lfs_model.specs.crash.Performed.{ArePerformed, IsRun, IsPerformed}
pub use Rattle.lfs_model.specs.crash.PowerLoss.{FailsLikeLoss, HasEitherTree, IsHealthySession, SurvivesStoppedCalls, SurvivesLossSince, SurvivesPowerLoss, with_blocks}
pub use Rattle.lfs_model.specs.crash.Premises.{MeetsPowerLossPremises}
pub use Rattle.lfs_model.specs.crash.ReadBounds.{accepted_operation}
pub use Rattle.lfs_model.specs.crash.RepeatedPowerLoss.{IsJustMounted, KeepsTree}
pub use Rattle.lfs_model.specs.crash.Stops.{ErasesCleanly, LeftByLoss, MayEraseLeave, MayProgramLeave, erases_cleanly, power_loss_may_leave}
pub use Rattle.lfs_model.specs.examples.Histories.{history_after_erase, history_after_program, after_read, example_after_program, example_before_erase, failed_read, program_event}
pub use Rattle.lfs_model.specs.examples.Images.{appending_commit, large_image, small_block, small_commit, small_image, superblock_struct_with, tree_of_nodes, two_commit_image}
pub use Rattle.lfs_model.specs.examples.Runs.{blockless_disk, fresh_state, large_fresh_state, long_attribute_slot, pair_with_tail, root_and_directory, root_and_two_pairs, root_with_file, state_after_open, writer_session}
pub use Rattle.lfs_model.specs.examples.Sessions.{creating_flags}
pub use Rattle.lfs_model.specs.format.Blocks.{Blocks, HasBlockSizes, SameExcept, SameExceptBlocks, block_bytes, overwritten_at, programmed}
pub use Rattle.lfs_model.specs.format.Content.{RawContent, RawSlot, attributes_with, attributes_without, slot_changed_at, decoded_content, decoded_slot, decoded_slots, content_after, content_after_entry, content_at, current_block, later_committed_block, empty_raw_content, empty_slot, has_commit, kind_of_type, padded_slots, decoded_struct, slot_of_id, slots_after}
pub use Rattle.lfs_model.specs.format.Disk.{Disk, SameGeometry, block_count, default_profile, disk_block, disk_with_order, pair_capacity, slots_limit}
pub use Rattle.lfs_model.specs.format.EntryTypes.{allows_any_length, create_tag_type, delete_tag_type, directory_name_type, directory_struct_type, file_name_type, hard_tail_type, has_needed_id, inline_struct_type, is_attribute_removal, is_known_tag, move_state_type, no_id, decoded_address, decoded_gstate, requires_eight_bytes, requires_no_bytes, superblock_fields, tail_if_not_null}
pub use Rattle.lfs_model.specs.format.Log.{AreAdjacentCommits, BlockLog, CommitSequence, IsCommit, LogEntry, block_entries, block_log, commit_at, entry_end, is_checksum_entry, with_entry}
pub use Rattle.lfs_model.specs.format.Names.{Name, is_component, is_equal, is_less, is_valid_name, name_cmp, same_name, sorted_names}
pub use Rattle.lfs_model.specs.format.SkipLists.{AreListBlocks, IsSkipList, block_capacity, skip_list_block_count, block_data, blocks_to_head, bytes_before_block, list_bytes, pointer_count, word_at}
pub use Rattle.lfs_model.specs.format.Slots.{Attributes, Branch, Ctz, Directory, File, FitsInPair, Gstate, Inline, PairContent, Slot, SlotKind, Struct, Superblock, Tail, address_of_array, attributes_size, gstate_xor, is_superblock, is_superblock_kind, same_pair, set_move_kind, slot_size, struct_len, zero_gstate}
pub use Rattle.lfs_model.specs.format.Tag.{tag_class, make_tag, tag_chunk, tag_data_size, tag_id, tag_length, tag_type}
pub use Rattle.lfs_model.specs.format.Thread.{AreLinkedByTails, BeginsDirectory, IsThread, Pair, ThreadDirectory, address_blocks, superblock_pair_address, count_before_root, directories_with_pair, directory_slots, first_address, pairs_from_nonempty, has_no_entry, has_slots, has_superblock, is_hard_tail, chain_may_continue, pair_directories, pairs_blocks, pairs_from_root, pairs_gstate, root_address, slots_not_moved, superblock_first_or_empty, begins_with_superblock, tail_target, unmoved_entries}
pub use Rattle.lfs_model.specs.layers.BlockBytes.{unwritten_bytes}
pub use Rattle.lfs_model.specs.layers.BlockSets.{BlockState, BlockStates, IsFree, in_flight_count, is_used, state_in_flight, used_count}
pub use Rattle.lfs_model.specs.layers.BlockSets.BlockState.{Free, InFlight, Used}
pub use Rattle.lfs_model.specs.layers.Changes.{Create, Delete, ContentChange, PutAttribute, PutMove, PutStruct, PutTail, RemoveAttribute, change_entries, content_with_changes, entries_of_changes, is_storable}
pub use Rattle.lfs_model.specs.layers.Keeping.{KeepsOtherStructs, is_open_at, may_store_at, struct_at}
pub use Rattle.lfs_model.specs.layers.Listing.{PathNode, entry_paths}
pub use Rattle.lfs_model.specs.layers.LoggedContent.{IsNameOrStructIfAny, AreWellFormed, AreU32Addresses, AttributesInOrder, HasTagLength, HaveTagLengths, IsNameOrStruct, IsAllowedTail, IsWellFormedSlot, IsWellFormed, MoveStateFits}
pub use Rattle.lfs_model.specs.layers.ProfileBreaches.{IsSmallContent}
pub use Rattle.lfs_model.specs.layers.Steps.{HoldsForSome, IsWritableChange, KeepsStruct, SameFileBlocks, last_tail_is_hard, occurrence_count}
pub use Rattle.lfs_model.specs.layers.Violations.{AreFirstThreadPairs, IsDiskSuperblock, AreLinkedUpTo}
pub use Rattle.lfs_model.specs.layers.WrittenContent.{RawContentFitsInPair, address_bytes, attribute_entries, bytes_of_move_state, content_entries, name_or_struct_entries, name_or_struct_size, entries_of_slots, first_attribute_type, is_zero, log_entry, move_state_entries, raw_slots_size, slot_entries, raw_slot_size, tail_entries}
pub use Rattle.lfs_model.specs.session.Effects.{node_with_bytes, operation_effect, operation_result, read_effect, unless_refused}
pub use Rattle.lfs_model.specs.session.Headline.{HasDiskTree, read_reply}
pub use Rattle.lfs_model.specs.session.History.{AllCalls, AllCallsSince, Blank, CallEvent, DeviceCall, Erase, HoldsAtLosses, IsRead, LeftByLatestCall, LossLeavesAtWorst, Program, Read, call_event, fault_count, is_unprogrammed_byte, program_count, read_count}
pub use Rattle.lfs_model.specs.session.InDirectory.{all_slots, entry_slots}
pub use Rattle.lfs_model.specs.session.Layout.{ArePairsSplitOrDropped, IsFittingPair, IsUnreachedOrRemoved, IsLayoutAfterOperation, IsLayoutAfterRecovery, IsPairSplitOrDropped, continued_directory_address, directory_address, removed_directory_addresses, slot_directory_addresses}
pub use Rattle.lfs_model.specs.session.Moved.{AreUnused, is_worn, is_worn_block}
pub use Rattle.lfs_model.specs.session.Operations.{Operation, Refusal, Reply}
pub use Rattle.lfs_model.specs.session.Recovery.{IsRecovered}
pub use Rattle.lfs_model.specs.session.Refusals.{operation_refusal, path_or_root}
pub use Rattle.lfs_model.specs.session.Run.{AreSteps, EffectRelation, HealthyHasDiskTree, IsDiskEffectWithLayout, IsDiskEffect, IsStep, IsStepWith, IsTreeStep, ShowsTree, SystemState, is_refusal}
pub use Rattle.lfs_model.specs.session.Session.{DiskSummary, FileReader, FileWriter, Session, Writing, file_numbered, file_reader, refuse_if}
pub use Rattle.lfs_model.specs.session.SlotEdits.{EditsSlots, IsStructOfBytes, RemovesSlot, ReplacesSlot, ReplacesSlots, StoresWriter, directory_slot, file_slot, pair_with_slots, pairs_without_moved, slot_of_path}
pub use Rattle.lfs_model.specs.session.State.{HasFailed, Healthy, IsDiskSummary, SessionHealth, is_remount, mounted_session, nonremount_result, remount_result}
pub use Rattle.lfs_model.specs.session.TreeEdits.{is_file, last_name, names_with, names_without, node_attributes_of, node_with_names, parent_path, same_path, tree_creating, tree_removing, tree_renaming, tree_with_change, tree_with_subtree, with_attributes, without_prefix}
pub use Rattle.lfs_model.specs.tree.Fresh.{IsFreshDisk, empty_tree, fresh_pair, superblock_bytes, superblock_slot}
pub use Rattle.lfs_model.specs.tree.Profile.{HasNoEmptyPairs, InlineBytesFit, IsWritable, IsWritableDisk, IsWritableSlot}
pub use Rattle.lfs_model.specs.tree.Shown.{IsReachedDirectory, IsDirectoryAtPath, all_directories, all_entries, all_unmoved_slots, disk_tree, struct_blocks, disk_list_bytes, used_blocks}
pub use Rattle.lfs_model.specs.tree.Tree.{DirectoryNode, DirectoryEntryMap, FileNode, Node, Path, Tree, address_at_path, address_from_slot, root_subtree, slot_subtree, struct_directory_address, child_slot, entry_named, names_at, root_slot, slot_at_path, struct_node}
pub use Rattle.lfs_model.specs.tree.View.{HasFirstLogEntry, BeginsWithSuperblock, DiskView, HasDiskView, IsKindOfStruct, RepeatsSuperblockStruct, HasValidMove, IsAccepted, IsEntry, IsWellFormedList, IsSuperblockStruct, IsSuperblockFirst, IsThreadEntry, IsFileOrDirectory, SameExceptVersion, SuperblockFirstIfAny, accepts_version, pairs_after_chain, superblock_chain_pairs, disk_view, first_pair_slots, first_slot_name, superblock_entry}
pub use Rattle.std.proofs.Math.Seq.{drop-append-add, get_or-append_seam, set-append_seam}
pub use Rattle.std.proofs.lemmas.Bool.{and_from, and_parts, and_right, cases_eq, cases_lt, false_from_ne_true, le-leb, le-ltb, leb-true, lt-ltb, ltb-false, ltb-true, ne_eqb, or_cases, or_left, or_right}
pub use Rattle.std.proofs.lemmas.Bool.Decides.{nat_tests}
pub use Rattle.std.proofs.lemmas.Cmp.{nat_list_cmp_total, ranked, tied_itself}
pub use Rattle.std.proofs.lemmas.List.{append-nil, append_cancel_right, drop-append-le, drop-drop, drop-take, drop_at, get_or-set_other, get_or-set_same, get_or_past, length-drop, length-set, length-take, length-take-le, take-append-drop, take-append-le, take-take, take_at}
pub use Rattle.std.proofs.lemmas.List.Concat.{flat_map-append}
pub use Rattle.std.proofs.lemmas.List.Edits.{length-insert}
pub use Rattle.std.proofs.lemmas.List.Elements.{All-cons, All-contains, All-from_recursion, All-head, All-nil, All-tail, filter-append, recursion_from_All}
pub use Rattle.std.proofs.lemmas.List.Folds.{list_any-from_Any}
pub use Rattle.std.proofs.lemmas.List.Sums.{sum_by-append, sum_by-cons}
pub use Rattle.std.proofs.lemmas.Nat.{xor_comm}
pub use Rattle.std.proofs.lemmas.Option.{get_or_from_slice_get, none-some, same_Some, slice_get_within}
pub use Rattle.std.specs.Int.Bits.{xor_assoc, xor_self}
pub use Rattle.std.specs.List.{AllByRecursion, Contains, count_by, enumerate_from, flat_map, insert, list_all, remove, slice_get}
pub use Rattle.std.specs.Option.{option_and_then, option_map, option_map_or}
pub use Rattle.std.specs.Ordering.{ordering_then}
