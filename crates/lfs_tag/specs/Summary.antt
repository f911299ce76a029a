-- The content of a log without the contents of its slots: their number, and whether each has a name
-- and a struct.
use Rattle.std.specs.Prelude.{◌≡◌, ℕ, ◌+◌, ◌-◌, ◌==◌, ◌&&◌, not, nat_lt, nat_le, if◌then◌else◌, Bool, true, false, List, [], ◌∷◌, ◌++◌, length, map, replicate, slice_set, slice_index_or, Option, Some, None, is_some}
use Rattle.std.specs.Option.{option_map, option_and_then}
use Rattle.std.specs.List.{insert, remove}
use Rattle.lfs_model.specs.format.Slots.{Gstate, zero_gstate}
use Rattle.lfs_model.specs.format.Slots as slots
use Rattle.lfs_model.specs.format.Tag.{tag_type, tag_id, tag_class}
use Rattle.lfs_model.specs.format.Log.{LogEntry, block_entries}
use Rattle.lfs_model.specs.format.Content.{RawSlot, RawContent, content_after, empty_raw_content, decoded_content}
use Rattle.lfs_model.specs.format.EntryTypes.{create_tag_type, delete_tag_type, is_known_tag, has_needed_id, entry_tail, decoded_gstate}
use Rattle.lfs_tag.specs.ContentView.{tail_view}
use Rattle.lfs_tag.specs.FieldsView.{move_view}
use Rattle.lfs_tag.specs.declared.summary.SlotSummary.{SlotSummary}
use Rattle.lfs_tag.specs.declared.summary.PartialSummary as code
use Rattle.lfs_tag.specs.declared.summary.Summary.{Summary}

-- The block's log has the content `c`, and `s` is its summary.
pub record IsLogSummary (block : List ℕ) (c : RawContent) (s : Summary) : Type 0 where
  pub content : content_after empty_raw_content (block_entries block) ≡ Some c
  pub slot_count : s.slot_count ≡ length c.slots
  pub tail : option_map tail_view s.tail ≡ c.tail
  pub move_state : move_view s.move_state ≡ c.move
  pub complete : s.is_complete ≡ is_some (decoded_content c)

-- ---- the computation: for each slot, only whether it has a name and a struct

-- Whether a slot has a name, and whether it has a struct.
abbrev pub slot_mark : RawSlot → SlotSummary
slot_mark s = record { has_name = is_some s.name; has_struct = is_some s.struct }

-- The content of a log, with only a mark for each slot.
pub record LogOutline : Type 0 where
  pub marks : List SlotSummary
  pub tail : Option slots.Tail
  pub move : Gstate

-- The outline of a content.
abbrev pub content_outline : RawContent → LogOutline
content_outline c = record { marks = map slot_mark c.slots; tail = c.tail; move = c.move }

abbrev pub outline_view : code.PartialSummary → LogOutline
outline_view o = record { marks = o.marks.items; tail = option_map tail_view o.tail; move = move_view o.move_state }

abbrev pub empty_mark : SlotSummary
empty_mark = record { has_name = false; has_struct = false }

-- The mark of the slot `id`, or an empty mark if there is no slot.
abbrev pub id_mark : List SlotSummary → ℕ → SlotSummary
id_mark marks id = slice_index_or marks id empty_mark

-- The marks with `f` applied to that of the slot `id`.
abbrev pub marks_with_change : (SlotSummary → SlotSummary) → List SlotSummary → ℕ → List SlotSummary
marks_with_change f marks id = slice_set marks id (f (id_mark marks id))

-- The marks, extended to include the slot `id`.
abbrev pub padded_marks : List SlotSummary → ℕ → List SlotSummary
padded_marks marks id = marks ++ replicate (id + 1 - length marks) empty_mark

abbrev pub is_complete_mark : SlotSummary → Bool
is_complete_mark m = m.has_name && m.has_struct

-- The marks after an entry, or None if the entry isn't allowed there.
abbrev pub marks_after_entry : List SlotSummary → LogEntry → Option (List SlotSummary)
marks_after_entry marks e =
    if tag_class e.tag == 0 then Some (marks_with_change (λ m. record m { has_name = true }) (padded_marks marks (tag_id e.tag)) (tag_id e.tag))
    else (if tag_type e.tag == create_tag_type then (if nat_le (tag_id e.tag) (length marks) then Some (insert marks (tag_id e.tag) empty_mark) else None)
    else (if tag_type e.tag == delete_tag_type then (if nat_lt (tag_id e.tag) (length marks) then Some (remove marks (tag_id e.tag)) else None)
    else (if not (id_mark marks (tag_id e.tag)).has_name then None
    else (if tag_class e.tag == 2 then Some (marks_with_change (λ m. record m { has_struct = true }) marks (tag_id e.tag))
    else Some marks))))

-- The outline after an entry, or None if the log is malformed.
abbrev pub outline_after_entry : LogOutline → LogEntry → Option LogOutline
outline_after_entry o e =
    if tag_class e.tag == 5 then Some o
    else (if not (is_known_tag e.tag && has_needed_id e.tag) then None
    else (if tag_class e.tag == 6 then Some (record o { tail = entry_tail e })
    else (if tag_class e.tag == 7 then Some (record o { move = decoded_gstate e.bytes })
    else option_map (λ marks. record o { marks = marks }) (marks_after_entry o.marks e))))

-- The outline after several entries, or None if the log is malformed.
abbrev pub outline_after : LogOutline → List LogEntry → Option LogOutline
outline_after o [] = Some o
outline_after o (e ∷ es) = option_and_then (λ p. outline_after p es) (outline_after_entry o e)

abbrev pub empty_outline : LogOutline
empty_outline = record { marks = []; tail = None; move = zero_gstate }
