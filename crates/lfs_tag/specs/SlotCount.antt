-- The number of slots after the entries of a log.
use Rattle.std.specs.Prelude.{ℕ, ◌+◌, ◌-◌, ◌==◌, not, nat_lt, nat_le, max, if◌then◌else◌, List, [], ◌∷◌}
use Rattle.lfs_model.specs.format.Tag.{tag_type, tag_id, tag_class}
use Rattle.lfs_model.specs.format.Log.{LogEntry}
use Rattle.lfs_model.specs.format.EntryTypes.{create_tag_type}

-- The number of slots after an entry that is valid in a log with `count` slots.
abbrev pub slot_count_after_entry : ℕ → LogEntry → ℕ
slot_count_after_entry count e =
    if tag_class e.tag == 0 then max count (tag_id e.tag + 1)
    else (if not (tag_class e.tag == 4) then count
    else (if tag_type e.tag == create_tag_type
    then (if nat_le (tag_id e.tag) count then count + 1 else count)
    else (if nat_lt (tag_id e.tag) count then count - 1 else count)))

-- The number of slots after several entries.
abbrev pub count_after : ℕ → List LogEntry → ℕ
count_after count [] = count
count_after count (e ∷ es) = count_after (slot_count_after_entry count e) es
