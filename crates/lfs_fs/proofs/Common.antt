-- The words of the definitions and the laws below that most proofs of this crate use.
pub use Rattle.lfs_device.specs.DeviceDisk.{disk_with_profile}
pub use Rattle.lfs_file.specs.Contents.{contents_form}
pub use Rattle.lfs_file.specs.Form.{ContentsForm, FormFitsWriter, IsWriterForm}
pub use Rattle.lfs_file.specs.Known.{AreKnownBlocks, no_known_blocks}
pub use Rattle.lfs_fs.specs.CallEffects.{IsCall, KeepsUnrelatedIfRecovered}
pub use Rattle.lfs_fs.specs.CallEnds.{MeetsReplyRules}
pub use Rattle.lfs_fs.specs.DeviceLaws.{HasSessionInvariant, DeviceConforms}
pub use Rattle.lfs_fs.specs.EntryPaths.{entry_path}
pub use Rattle.lfs_fs.specs.FileAnswers.{file_position}
pub use Rattle.lfs_fs.specs.FileView.{RuntimeFiles, last_change_end, file_view, file_with_index_cache, file_with_position, files_view, has_unsaved, is_open_where, is_writer_with_draft, is_draft_nonsequential, lowest_free_fd, open_file_at, prepend_if_some, as_reader, reader_view, readers_among, writer_block_reserve, writers_block_reserve, draft_block_reserve, files_with_entry, filter_map_files, draft_or_stored_bytes, writer_if_any, writer_view, writers_among, writers_paths}
pub use Rattle.lfs_fs.specs.FlagsView.{flags_view}
pub use Rattle.lfs_fs.specs.ImageLimits.{ReturnsUnchangedDevice}
pub use Rattle.lfs_fs.specs.LookUps.{CachedLookupReadsNothing, NoReadsIfCached, ReadsSearchedPairsOnce}
pub use Rattle.lfs_fs.specs.OpView.{HasRefusalError, op_view, reply_view}
pub use Rattle.lfs_fs.specs.OpenFilesStay.{AffectsNoOpenFile, UnrelatedOperationKeepsFiles, KeepsWriterFiles, OpenFilesStayReady}
pub use Rattle.lfs_fs.specs.ReaderReads.{BoundsFileReads}
pub use Rattle.lfs_fs.specs.RenamePaths.{prevents_rename}
pub use Rattle.lfs_fs.specs.Replies.{reply_from, result_unless_refused}
pub use Rattle.lfs_fs.specs.SessionView.{AreCurrentReaders, AreSoundUnsavedContents, AreSoundIfUnsaved, FailsChecks, HasValidIndexCache, IsChecksResult, IsCurrentReader, IsReadableFile, IsReady, IsWriterReady, PassesReadlessChecks, SessionFails, SessionView, StepsOrFails, refusal_by_checks, session_view, system_state, view_with_files, viewed_session}
pub use Rattle.lfs_fs.specs.WriterChanges.{CanChangeWriter, CanOpenWriter, CanSaveWriter, CanTruncateTo, CanWriteBytes, IsChangedWriter, IsOpenedWriter, IsSavedWriter, IsDraftOrFileForm}
pub use Rattle.lfs_lookup.specs.AttributeAt.{IsAttributesSize}
pub use Rattle.lfs_lookup.specs.CachedPairs.{AreFewOnePairDirectories}
pub use Rattle.lfs_lookup.specs.FileContents.{IsStorageAt, contents_struct}
pub use Rattle.lfs_lookup.specs.Finds.{IsFoundNode, has_entry_beneath, is_absent, is_directory_node, is_file_node, listed_item_view, node_size_if_file, stat_view}
pub use Rattle.lfs_lookup.specs.RefusalErrors.{error_refusal, is_refusal, refusal_error}
pub use Rattle.lfs_model.proofs.BlockCounts.{few_flying, in_flight-freed}
pub use Rattle.lfs_model.proofs.Committed.{recovered_from}
pub use Rattle.lfs_model.proofs.Counts.{Each, each_weaker}
pub use Rattle.lfs_model.proofs.Histories.{OnlyReadsSince-trans}
pub use Rattle.lfs_model.proofs.Paths.{Names, alike, names, path_from_same, path_itself, unlike}
pub use Rattle.lfs_model.proofs.SessionSteps.{not_remount}
pub use Rattle.lfs_model.proofs.StepsMade.{filled_step, spread_step}
pub use Rattle.lfs_model.proofs.Uniqueness.{one_thread}
pub use Rattle.lfs_model.specs.crash.Frame.{KeepsUnrelatedBlocks, ReadsEachPairOnce, ancestor_paths, is_session_query, refused_before_search, is_look_up, needs_session_alone, directory_pair_count, searched_directories}
pub use Rattle.lfs_model.specs.crash.PowerLoss.{HasEitherTree, SurvivesStoppedCalls, SurvivesPowerLoss}
pub use Rattle.lfs_model.specs.crash.ReadBounds.{AlwaysReadsPairsOnce}
pub use Rattle.lfs_model.specs.crash.RepeatedPowerLoss.{IsJustMounted}
pub use Rattle.lfs_model.specs.format.Blocks.{Blocks}
pub use Rattle.lfs_model.specs.format.Content.{attribute_bytes, attributes_with, attributes_without, content_at}
pub use Rattle.lfs_model.specs.format.Disk.{Disk, SameGeometry, profile_attr_max, block_count, disk_block, profile_file_max, inline_limit, profile_name_max, disk_with_order}
pub use Rattle.lfs_model.specs.format.Names.{is_component, same_name, slash_byte}
pub use Rattle.lfs_model.specs.format.SkipLists.{skip_list_block_count}
pub use Rattle.lfs_model.specs.format.Slots.{Attributes, Branch, Ctz, Inline, Slot, Struct, attributes_size, zero_gstate}
pub use Rattle.lfs_model.specs.format.Thread.{Pair, pairs_blocks, pairs_gstate}
pub use Rattle.lfs_model.specs.layers.BlockSets.{IsInFlight, in_flight_count}
pub use Rattle.lfs_model.specs.layers.Cache.{CachedBlocks}
pub use Rattle.lfs_model.specs.layers.Keeping.{struct_at, vacates_path}
pub use Rattle.lfs_model.specs.session.Effects.{repositioned_file, node_with_bytes, node_file_size, operation_effect, operation_result, tree_after_storing}
pub use Rattle.lfs_model.specs.session.Headline.{is_query}
pub use Rattle.lfs_model.specs.session.History.{AllCalls, CallEvent, IsRead, LeftByLatestCall, OnlyReadsSince, call_reads, fault_count, read_count}
pub use Rattle.lfs_model.specs.session.Layout.{IsLayoutAfterRecovery}
pub use Rattle.lfs_model.specs.session.Operations.{Failed, FlagsOfOpen, Operation, Refusal, Reply, parse_path}
pub use Rattle.lfs_model.specs.session.Refusals.{is_root_path, path_unusable, operation_refusal, path_or_root}
pub use Rattle.lfs_model.specs.session.Run.{HealthyHasDiskTree, IsStep, SystemState, WriteNothing, is_dirty, is_read_only, needs_no_device, opens_existing_file, renames_itself, writes_or_truncates}
pub use Rattle.lfs_model.specs.session.Session.{DiskSummary, OpenFilesByNumber, Reading, Session, Writing, all_readers, all_writers, flags_allowed, exceeds_half_pair, file_numbered, file_reader, file_writer, files_with_file, first_refusal, free_number_of, has_open_file, has_long_name, lacks_room, overfills_disk, parents_refusal, refuse_if, reserved_for_writer, reserved_for_writers}
pub use Rattle.lfs_model.specs.session.SlotEdits.{slot_of_path}
pub use Rattle.lfs_model.specs.session.State.{HasFailed, Healthy, SessionHealth, is_remount, mounted_session}
pub use Rattle.lfs_model.specs.session.TreeEdits.{directory_names, file_bytes, is_beneath, is_directory, is_file, last_name, names_with, names_without, node_attributes_of, node_with_names, parent_path, same_path, tree_creating, tree_removing, tree_renaming, tree_with_change, without_prefix}
pub use Rattle.lfs_model.specs.session.Writers.{opened_writer, synced_writer, truncated_writer, turns_writer, write_position, written_contents, writer_after_write, zero_padded}
pub use Rattle.lfs_model.specs.tree.Shown.{all_entries, all_unmoved_slots, disk_tree, struct_blocks, disk_list_bytes, used_blocks}
pub use Rattle.lfs_model.specs.tree.Tree.{DirectoryNode, FileNode, Node, Path, Tree, struct_node}
pub use Rattle.lfs_model.specs.tree.View.{DiskView, IsAccepted}
pub use Rattle.lfs_thread.specs.Kept.{disk_of_device}
pub use Rattle.lfs_tree.specs.CreationPaths.{IsCreationResult}
pub use Rattle.lfs_tree.specs.KeptFiles.{KeepsOtherFiles}
pub use Rattle.lfs_tree.specs.OpenContents.{AreTreeContents, InlineWithinLimit, KeepsImage, IsStoreApplied, writer_contents_bytes}
pub use Rattle.lfs_tree.specs.Permissions.{CanCreateFile, CanMakeDirectory}
pub use Rattle.lfs_tree.specs.RenameLookup.{AreRenameFindings}
pub use Rattle.lfs_tree.specs.SlotChanges.{tree_with_attributes}
pub use Rattle.lfs_tree.specs.TreeReads.{HasCachedDirectories}
pub use Rattle.lfs_tree.specs.TreeState.{FailedByReading, HasErrorCause, HasMountCause, IsOperationApplied, IsFailedTree, IsMountedTree, IsRemountedTree, IsSoundState, KeepsOthersIfRecovered, OnlyReadsTree, PowerLossesLeaveEither, TreeState, kept_thread, visible_tree, tree_summary}
pub use Rattle.std.proofs.lemmas.Bool.{eq-eqb, eqb-true, le-leb, lt-ltb, ltb-false, ltb-true, ne_eqb}
pub use Rattle.std.proofs.lemmas.Bool.Decides.{nat_tests}
pub use Rattle.std.proofs.lemmas.List.{length-take, map-append, map-set, take_all}
pub use Rattle.std.proofs.lemmas.List.Elements.{All-from_recursion}
pub use Rattle.std.proofs.lemmas.Option.{same_Some}
pub use Rattle.std.proofs.lemmas.Result.{err_from_is_err_and}
pub use Rattle.std.specs.List.{AllByRecursion, list_all, list_any, onto_first, slice_split}
pub use Rattle.std.specs.Option.{option_flatten, option_map, option_or}
