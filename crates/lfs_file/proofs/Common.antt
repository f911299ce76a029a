-- The definitions and laws that most proofs of this crate use.
pub use Rattle.lfs_device.specs.DeviceCalls.{ChangesTheseBlocks, ReadsOnly, ReportsFaults}
pub use Rattle.lfs_file.specs.BaseRoom.{in_flight_limit}
pub use Rattle.lfs_file.specs.Bases.{IsListOrEmpty, blocks_of_list}
pub use Rattle.lfs_file.specs.BlockOwners.{AreUsedAmong, KeepsStoredBlocks, contents_blocks, stored_blocks}
pub use Rattle.lfs_file.specs.BlocksApart.{GrowsInFree, HasBlocksTaken, IsTakenNotPending, KeepsTakenBytes, TakenStayUnprogrammed}
pub use Rattle.lfs_file.specs.Contents.{HaveBytesInForm, buffered_bytes, contents_form, truncation_room, write_room}
pub use Rattle.lfs_file.specs.ContentsCalls.{CallKeepsUsed, KeepsTakenBlocks}
pub use Rattle.lfs_file.specs.Counts.{WritesEachOnce}
pub use Rattle.lfs_file.specs.Extended.{ListHasBytes}
pub use Rattle.lfs_file.specs.Extending.{HasBufferedBytes}
pub use Rattle.lfs_file.specs.Extensions.{CanEndAlone}
pub use Rattle.lfs_file.specs.FewReads.{FillsFew, further_pointers}
pub use Rattle.lfs_file.specs.Fields.{IsExtender, growing_view}
pub use Rattle.lfs_file.specs.Filled.{CountsAgree}
pub use Rattle.lfs_file.specs.Finished.{ListHoldsBytes}
pub use Rattle.lfs_file.specs.Form.{ContentsForm, Finished, InHand, InMemory, IsWriterForm, form_written_within, form_size, shortened_form, truncated_form, written_form}
pub use Rattle.lfs_file.specs.Growing.{GrowingList, IsAllBuffered, DiskHasList, IsRestAt, IsRestShared, IsRestShort, appended_count, block_for_push, blocks_data, growing_blocks, growing_bytes, growing_size, growing_size_with, lasting_blocks, lacks_last_block, rest_block, rest_lacks_block, unwritten_block, unwritten_rest_block}
pub use Rattle.lfs_file.specs.Hand.{CanEndOver, IsFinishedList, KeepsUsedBlocks, KeepsUsedBytes, SharesFirstBlocks, stored_list_bytes}
pub use Rattle.lfs_file.specs.HandWrites.{CanEndUnfinished, AreZerosWritten, IsUnfinishedTo, unfinished_bytes, unfinished_length}
pub use Rattle.lfs_file.specs.Known.{AreKnownBlocks, ArePointedKnown, ArePointersKnown, IsKnownIndex, OnlyBelowKnown, ReadsKnownList, index_row}
pub use Rattle.lfs_file.specs.Releases.{ReleasesInFlight}
pub use Rattle.lfs_file.specs.Right.{ArePointersCopied, LaterPointersName}
pub use Rattle.lfs_file.specs.SettledMaps.{KeepsOtherStates, SetsState, SettlesList, used_or_free}
pub use Rattle.lfs_file.specs.SharedBlocks.{IsSharedCount}
pub use Rattle.lfs_file.specs.TakenBlocks.{ChangesOnlyFree, TakesFreeBlocks}
pub use Rattle.lfs_file.specs.Way.{HasNotedPointers, HasNotedWalk, IsIndexVisited, visit_count}
pub use Rattle.lfs_model.proofs.BlockSets.{occurrence_count-Contains, slice_get-set_other, slice_get-set_same}
pub use Rattle.lfs_model.proofs.Counts.{occurrence_count}
pub use Rattle.lfs_model.proofs.Files.{Same, back_same, data_same, length_back}
pub use Rattle.lfs_model.proofs.Histories.{AllCallsSince-weaker, HoldsAtLosses-read_count, LossLeavesAtWorst-read, OnlyReadsSince-trans, OthersStayUnprogrammed-trans, began, goes_on, goes_on_by}
pub use Rattle.lfs_model.proofs.ListParts.{part_of_bytes, place-lt}
pub use Rattle.lfs_model.proofs.ListSizes.{AllSized, skip_list_block_count-more, head_of_back}
pub use Rattle.lfs_model.proofs.Overwrites.{SameExcept-refl, SameExcept-trans, SameExceptBlocks-refl, length-overwritten}
pub use Rattle.lfs_model.specs.format.Blocks.{Blocks, HasBlockSizes, SameExcept, SameExceptBlocks, block_bytes, overwritten_at}
pub use Rattle.lfs_model.specs.format.Disk.{inline_limit}
pub use Rattle.lfs_model.specs.format.SkipLists.{AreListBlocks, IsByteInListBlock, IsSkipList, block_capacity, skip_list_block_count, block_data, blocks_to_head, bytes_before_block, list_bytes, pointer_count, word_at}
pub use Rattle.lfs_model.specs.layers.BlockSets.{BlockState, BlockStates, IsFree, IsInFlight, IsUsedBlock, in_flight_count, is_used, used_count}
pub use Rattle.lfs_model.specs.layers.BlockSets.BlockState.{Free, InFlight, Used}
pub use Rattle.lfs_model.specs.session.History.{CallEvent, HoldsAtLosses, LossLeavesAtWorst, OthersStayUnprogrammed, call_event, fault_count, read_count}
pub use Rattle.lfs_model.specs.session.History.DeviceCall.{Read}
pub use Rattle.lfs_model.specs.session.Session.{FileWriter, reserved_for_writer}
pub use Rattle.lfs_model.specs.session.Writers.{truncated_writer, write_position, written_contents, writer_after_write, zero_padded}
pub use Rattle.std.proofs.Math.Nat.{add-mul, mul_assoc, one-le-pow, pow-suc}
pub use Rattle.std.proofs.Math.Pow.{pow_mono}
pub use Rattle.std.proofs.Math.Seq.{drop-append-add, take-add, take-append-add}
pub use Rattle.std.proofs.lemmas.Bool.{and_parts, cases_eq, cases_lt, eq-eqb, eqb-false, eqb-true, le-leb, lt-leb, ltb-true, ne_eqb}
pub use Rattle.std.proofs.lemmas.Bool.Decides.{nat_tests}
pub use Rattle.std.proofs.lemmas.Grind.{common_steps}
pub use Rattle.std.proofs.lemmas.List.{append-nil, drop-append-le, drop-drop, drop-take, drop_all, drop_at, drop_more, get_or-drop, get_or-replicate, get_or-take, get_or_append_left, get_or_at, get_or_default, length-replicate, length-set, length-take, length-take-le, replicate-append-replicate, take-append-drop, take-append-le, take-take, take_all, take_at, take_more, with_items_is}
pub use Rattle.std.proofs.lemmas.List.Elements.{All-append, All-cons, All-contains, All-contains_itself, All-nil, All-take, Contains-append_cases, Contains-append_left, Contains-append_right, recursion_from_All}
pub use Rattle.std.proofs.lemmas.Map.Keys.{IsDistinct-from_apart, apart_from_distinct}
pub use Rattle.std.proofs.lemmas.Nat.{mul-le, one_shl, pow-add}
pub use Rattle.std.proofs.lemmas.Nat.Bits.{bit_at-trailing_zeros}
pub use Rattle.std.proofs.lemmas.Option.{slice_get-get_or, slice_get_within}
pub use Rattle.std.proofs.lemmas.Result.{IfOk-weaker, err_from_is_err_and}
pub use Rattle.std.proofs.lemmas.Slice.{drop-put_mid}
pub use Rattle.std.specs.Int.{from_le_bytes, trailing_zeros, w32}
pub use Rattle.std.specs.List.{FoldsTo, enumerate_from, slice_get}
pub use Rattle.std.specs.Vec.{with_items}
