-- The definitions and laws that most proofs of this crate use.
pub use Rattle.lfs_device.specs.Bytes.{ElementsAreBytes}
pub use Rattle.lfs_device.specs.DeviceCalls.{ReadsOnly}
pub use Rattle.lfs_device.specs.DeviceDisk.{disk_of_blocks}
pub use Rattle.lfs_model.proofs.BlockSets.{Contains-occurrence_count, slice_get-set_other, slice_get-set_same}
pub use Rattle.lfs_model.proofs.Cache.{cached_bytes-without_other}
pub use Rattle.lfs_model.proofs.Completed.{complete_length, complete_parts, complete_take, completed_from, completed_parts, fits_pair, fits_raw}
pub use Rattle.lfs_model.proofs.Counts.{Each, count_here, distinct_from_once, occurrence_count, once_from_distinct}
pub use Rattle.lfs_model.proofs.Effects.{does_first, does_nothing, puts_tail}
pub use Rattle.lfs_model.proofs.FirstEntries.{superblock_anew}
pub use Rattle.lfs_model.proofs.Histories.{AllCallsSince-behind, HoldsAtLosses-weaker, HoldsAtLosses-worst, fault_count-since, goes_on_by}
pub use Rattle.lfs_model.proofs.Logged.{nothing_logged}
pub use Rattle.lfs_model.proofs.Staying.{AreElsewhere, IsSameAt, raw_content-stays, raw_same}
pub use Rattle.lfs_model.specs.crash.Stops.{LeftByLoss}
pub use Rattle.lfs_model.specs.format.Blocks.{Blocks, SameExceptBlocks, block_bytes}
pub use Rattle.lfs_model.specs.format.Content.{RawContent, RawSlot, decoded_content, decoded_slots, content_after, content_at, current_block, empty_raw_content, raw_content}
pub use Rattle.lfs_model.specs.format.Disk.{Disk, block_count, disk_block, disk_with_order}
pub use Rattle.lfs_model.specs.format.EntryTypes.{tail_if_not_null}
pub use Rattle.lfs_model.specs.format.Log.{LogEntry, block_entries}
pub use Rattle.lfs_model.specs.format.Slots.{FitsInPair, Gstate, PairContent, Slot, Tail, address_of_array, gstate_xor, null_address, same_pair, zero_gstate}
pub use Rattle.lfs_model.specs.format.Thread.{AreLinkedByTails, IsThread, Pair, address_blocks, addresses_blocks, superblock_pair_address, is_hard_tail, pairs_blocks, pairs_gstate, tail_target}
pub use Rattle.lfs_model.specs.layers.BlockSets.{BlockStates, Free, InFlight, IsFree, IsInFlight, IsUsedBlock, Used}
pub use Rattle.lfs_model.specs.layers.Cache.{CachedBlocks, cache_without, cached_bytes}
pub use Rattle.lfs_model.specs.layers.Changes.{ContentChange, PutMove, PutTail, content_with_changes}
pub use Rattle.lfs_model.specs.layers.LoggedContent.{AreNamed, AreWellFormed, IsAllowedTail, IsWellFormed}
pub use Rattle.lfs_model.specs.session.History.{CallEvent, HoldsAtLosses, LossLeavesAtWorst, OnlyReadsSince, read_count}
pub use Rattle.lfs_model.specs.tree.View.{HasFirstLogEntry, superblock_entry}
pub use Rattle.lfs_pair.specs.ChangeView.{changes_view}
pub use Rattle.lfs_pair.specs.Commits.{CanCommit, CommitsChanges, HasChangedContent, HasOldContent, IsPairAddress, KeepsFirstEntry, KeepsOutsidePair, LossLeavesChanged, OutsideStaysUnprogrammed, content_after_changes, changed_pair_content}
pub use Rattle.lfs_pair.specs.Copies.{CanCopyPair, IsPairCopied}
pub use Rattle.lfs_pair.specs.FreshPair.{IsFreshPair}
pub use Rattle.lfs_pair.specs.Pair.{active_block_at, fetch_reads, header_address, is_second_active}
pub use Rattle.lfs_pair.specs.Split.{AreApart, KeepsOutsideBoth}
pub use Rattle.lfs_pair.specs.Writing.{ChangesReadingFew}
pub use Rattle.lfs_tag.specs.ContentView.{tail_view}
pub use Rattle.lfs_tag.specs.FieldsView.{move_view}
pub use Rattle.lfs_thread.specs.Begun.{ThreadBeginsWith, IsThreadBeginning}
pub use Rattle.lfs_thread.specs.Beside.{KeepsPairBlocks}
pub use Rattle.lfs_thread.specs.CachedLog.{IsContentLog, cached_log, reads_unless_cached}
pub use Rattle.lfs_thread.specs.Kept.{AllBlocksUsed, AreHeaders, IsCacheCurrent, IsHeader, IsKeptOnDisk, KeptThread, PairHeader, ThreadView, disk_of_device, disk_pair_at, header_pairs, kept_in_order, kept_of_device, kept_view}
pub use Rattle.lfs_thread.specs.MountErrors.{IsThreadViolation}
pub use Rattle.lfs_thread.specs.Moves.{CanMoveNext, IsNextMoved, LossLeavesNextMoved, NextMovedOnDisk, pair_revision}
pub use Rattle.lfs_thread.specs.PairPlaces.{FindsByLesser, address_index, blocks_of_addresses, lesser_of}
pub use Rattle.lfs_thread.specs.ThreadDevice.{CleanLossLeaves, ReportsWritingNothing}
pub use Rattle.lfs_thread.specs.ThreadSteps.{SplitOnDisk, CanChangePair, CanDropNext, CanSplitAt, CanThreadIn, ChangesWithinReads, FreshInFlight, HasOldPair, HasSplit, HasSuperblock, IsNextDropped, IsPairCommitted, IsPairWritten, IsThreadedIn, KeepsSuperblockFirst, LossLeavesThreadSplit, LossLeavesPair, LossLeavesThreaded, PartsFit, RefusesChanges, RefusesThreading, ThreadReportsErrors, ThreadReportsKeepingOthers, ThreadedInOnDisk, complete_after, empty_anchor, map_freeing, map_using, pairs_split, pairs_with_content, tail_change, thread_pair}
pub use Rattle.lfs_thread.specs.Unloads.{CanUnload, IsUnloaded, LossLeavesUnloaded, UnloadedOnDisk}
pub use Rattle.std.proofs.Math.Seq.{set-append_seam}
pub use Rattle.std.proofs.lemmas.Bool.{ne_eqb}
pub use Rattle.std.proofs.lemmas.Bool.Decides.{eqb_tells}
pub use Rattle.std.proofs.lemmas.List.{length-map, length-set, map-append}
pub use Rattle.std.proofs.lemmas.List.Concat.{flat_map-append}
pub use Rattle.std.proofs.lemmas.List.Elements.{All-from_recursion}
pub use Rattle.std.proofs.lemmas.Option.{same_Some, slice_get_within}
pub use Rattle.std.proofs.lemmas.Result.{err_from_is_err_and}
pub use Rattle.std.specs.BTreeMap.{get}
pub use Rattle.std.specs.List.{AllByRecursion, IsDistinct, fold}
pub use Rattle.std.specs.Option.{option_and_then, option_map}
