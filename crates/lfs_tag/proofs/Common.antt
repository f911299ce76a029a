-- The definitions and laws that most proofs of this crate use.
pub use Rattle.lfs_model.proofs.Chains.{chain_none, chain_on, chain_sound, commit_complete, commit_none, commit_space, lies, stop}
pub use Rattle.lfs_model.proofs.Checksums.{AreBytes, crc-append}
pub use Rattle.lfs_model.specs.format.Blocks.{overwritten_at}
pub use Rattle.lfs_model.specs.format.Content.{RawContent, RawSlot, attribute_bytes, attributes_after, attributes_with, attributes_without, slot_changed_at, content_after, content_after_entry, empty_raw_content, empty_slot, has_commit, padded_slots, slot_of_id, slots_after, entry_type_bytes}
pub use Rattle.lfs_model.specs.format.Crc.{crc_after_bit}
pub use Rattle.lfs_model.specs.format.EntryTypes.{create_tag_type, delete_tag_type, has_needed_id, is_attribute_removal, is_known_tag, no_id}
pub use Rattle.lfs_model.specs.format.Geometry.{is_valid_page_size}
pub use Rattle.lfs_model.specs.format.Log.{AreAdjacentCommits, IsCommit, LogEntry, block_entries, commit_at, entry_end, is_checksum_entry, longest_sequence, tag_at, with_commit}
pub use Rattle.lfs_model.specs.format.Names.{Name, is_equal}
pub use Rattle.lfs_model.specs.format.Slots.{Attributes}
pub use Rattle.lfs_model.specs.format.Tag.{IsValidTag, tag_class, make_tag, tag_for_next_xor, tag_chunk, tag_data_size, tag_id, tag_length, tag_type}
pub use Rattle.lfs_model.specs.layers.Commit.{checksum_type, encoded_entries, encoded_size, four_bytes_at}
pub use Rattle.lfs_model.specs.layers.Lookup.{bytes_if_type}
pub use Rattle.lfs_tag.specs.Builder.{PartialCommit, checksum_start, checksum_tag, commit_adding_entry, entries_start, padded_commit_end}
pub use Rattle.lfs_tag.specs.BuilderKeeps.{AreStorableEntries, BuildsCommit, IsStorableEntry, carried_tag, checksummed_bytes, revision_bytes}
pub use Rattle.lfs_tag.specs.ContentView.{attribute_view, part_view, index_for_attribute, slot_view}
pub use Rattle.lfs_tag.specs.EntrySearch.{found_in_entries, searched_count}
pub use Rattle.lfs_tag.specs.Find.{comparison_with_slot, comparisons_after, first_wanted_slot}
pub use Rattle.lfs_tag.specs.FindView.{IsNameLookup, lookup_of_comparisons}
pub use Rattle.lfs_tag.specs.LogEntryView.{log_entry_view}
pub use Rattle.lfs_tag.specs.SlotCount.{count_after}
pub use Rattle.lfs_tag.specs.Summary.{empty_outline, is_complete_mark, outline_after, outline_view, slot_mark}
pub use Rattle.std.proofs.Math.Seq.{drop-append_seam, take-append_seam}
pub use Rattle.std.proofs.lemmas.Bool.{cases_lt, cases_order, eqb-true, le-ltb}
pub use Rattle.std.proofs.lemmas.Bool.Decides.{nat_tests}
pub use Rattle.std.proofs.lemmas.List.{append-nil, drop-drop, get_or-map, get_or_past, length-append, length-drop, length-map, length-replicate, length-take-le, map-append, map-set, take_all}
pub use Rattle.std.proofs.lemmas.List.Sums.{sum_by-cons}
pub use Rattle.std.proofs.lemmas.Nat.{and_mask, xor_comm, xor_mod, xor_shr}
pub use Rattle.std.proofs.lemmas.Option.{option_and_then_some, same_Some}
pub use Rattle.std.specs.Cmp.Lexicographic.{slice_cmp}
pub use Rattle.std.specs.Int.Bits.{bit_xor, xor_assoc, xor_shifted, xor_zero_r}
pub use Rattle.std.specs.List.{list_all}
pub use Rattle.std.specs.Option.{option_and_then, option_map, option_map_or}
pub use Rattle.std.specs.Ordering.{ordering_then}
