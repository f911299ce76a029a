-- The definitions and laws that most proofs of this crate use.
pub use Rattle.lfs_device.specs.DeviceCalls.{ChangesTheseBlocks, ReadsOnly}
pub use Rattle.lfs_device.specs.DeviceDisk.{disk_of_blocks}
pub use Rattle.lfs_model.proofs.Appended.{appended_content}
pub use Rattle.lfs_model.proofs.Histories.{AllCallsSince-behind, AllCallsSince-only, AllCallsSince-until, AreUnprogrammed-read_count, HoldsAtLosses-read_count, HoldsAtLosses-weaker, LeftByLoss-read, OthersStayUnprogrammed-wider, began, blank_answer_count-read_count, erase_count-read_count, goes_on, goes_on_by, program_count-read_count}
pub use Rattle.lfs_model.proofs.Logged.{logged, nothing_logged}
pub use Rattle.lfs_model.proofs.Overwrites.{SameExcept-refl, SameExcept-trans, SameExceptBlocks-refl, SameExceptBlocks-trans, SameExceptBlocks-wider}
pub use Rattle.lfs_model.proofs.Staying.{AreElsewhere, current_block-stays, raw_content-stays}
pub use Rattle.lfs_model.specs.crash.Stops.{ErasesCleanly, HasNoLog, LeftByLoss, SameLog, SameRevision, log_revision}
pub use Rattle.lfs_model.specs.format.Blocks.{Blocks, SameExcept, SameExceptBlocks, block_bytes, overwritten_at}
pub use Rattle.lfs_model.specs.format.Content.{RawContent, RawSlot, content_after, current_block, empty_raw_content, has_commit, is_later, raw_content}
pub use Rattle.lfs_model.specs.format.Disk.{Disk, disk_block, pair_capacity, slots_limit}
pub use Rattle.lfs_model.specs.format.Geometry.{IsValidGeometry}
pub use Rattle.lfs_model.specs.format.Log.{LogEntry, block_entries, block_revision}
pub use Rattle.lfs_model.specs.format.Slots.{address_of_array}
pub use Rattle.lfs_model.specs.format.Thread.{address_blocks}
pub use Rattle.lfs_model.specs.layers.Changes.{ContentChange, change_entries, content_with_changes, entries_of_changes, is_storable}
pub use Rattle.lfs_model.specs.layers.Commit.{aligned_commit_end, encoded_size}
pub use Rattle.lfs_model.specs.layers.LoggedContent.{AreNamed, AreWellFormed, IsWellFormed}
pub use Rattle.lfs_model.specs.layers.WrittenContent.{RawContentFitsInPair, attribute_entries, content_entries, entries_of_slots, log_entry, raw_slot_size}
pub use Rattle.lfs_model.specs.session.History.{AllCallsSince, AreUnprogrammed, CallEvent, Erase, HoldsAtLosses, OnlyReadsSince, OthersStayUnprogrammed, blank_answer_count, call_event, erase_count, fault_count, program_count, read_count}
pub use Rattle.lfs_model.specs.tree.View.{HasFirstLogEntry}
pub use Rattle.lfs_pair.specs.ChangeView.{change_view, changes_view}
pub use Rattle.lfs_pair.specs.Commits.{AppendFits, HasNewContent, HasOldContent, HasWrittenContent, HeaderSaysActive, IsEndUnprogrammed, IsPairAddress, KeepsFirstEntry, KeepsOutsidePair, LossLeavesChanged, LossLeavesNew, changed_log_content, changed_pair_content}
pub use Rattle.lfs_pair.specs.FreshPair.{ErasedOneMore}
pub use Rattle.lfs_pair.specs.HalfCut.{IsFittingSplit, IsHalfCut}
pub use Rattle.lfs_pair.specs.Pair.{HeaderDescribesLog, IsTrueHeader, active_block_at, header_address, is_second_active}
pub use Rattle.lfs_pair.specs.Split.{CanSplitPair, LossLeavesSplit}
pub use Rattle.lfs_pair.specs.Writing.{ChangesReadingFew, DiffersInBlock, HasOneCommit, IsWrittenAnew, LogGetsCommit, LossLeavesCommit, LossLeavesRewritten, OnlyAsksBlank, commit_with_entries}
pub use Rattle.lfs_tag.specs.Builder.{IsCommitOffset, PartialCommit, earlier_commits, padded_commit_end}
pub use Rattle.lfs_tag.specs.ContentView.{attribute_view, content_view, slot_view}
pub use Rattle.std.proofs.lemmas.Bool.{and_parts, cases_lt, lt-ltb, ltb-true, ne_eqb}
pub use Rattle.std.proofs.lemmas.List.{append-nil, length-map, length-take-le}
pub use Rattle.std.proofs.lemmas.List.Concat.{flat_map-append}
pub use Rattle.std.proofs.lemmas.Result.{err_from_is_err_and}
pub use Rattle.std.specs.List.{list_all}
pub use Rattle.std.specs.Option.{option_and_then}
