-- A search for a part of a slot, from the newest entry back. Each create and delete shifts the
-- slot's id.
use Rattle.std.specs.Prelude.{ℕ, ◌+◌, ◌-◌, ◌/◌, ◌^◌, ◌==◌, ◌&&◌, ◌||◌, not, nat_lt, nat_le, if◌then◌else◌, Bool, List, [], ◌∷◌, Option, None}
use Rattle.lfs_model.specs.format.Tag.{tag_type, tag_id, tag_class}
use Rattle.lfs_model.specs.format.Log.{LogEntry}
use Rattle.lfs_model.specs.format.EntryTypes.{create_tag_type, is_attribute_removal}
use Rattle.lfs_model.specs.format.Content.{entry_type_bytes}

-- The effect of an entry on the slot with a given id after it. Either the entry determines the part
-- that is searched for, as a type and bytes or as None, or the slot had the id `id` before the
-- entry.
pub data SlotEffect : Type 0 where
  Holds : (part : Option (ℕ × List ℕ)) → SlotEffect
  Was : (id : ℕ) → SlotEffect

-- Whether the entry sets or removes the part of this type of the slot `id`, or replaces it by one
-- of another type.
abbrev pub is_entry_about : LogEntry → ℕ → ℕ → Bool
is_entry_about e type id =
    tag_id e.tag == id && (nat_lt (tag_class e.tag) 4 && (tag_class e.tag == type / 2 ^ 8 && (not (tag_class e.tag == 3) || tag_type e.tag == type)))

-- The effect of a create or a delete on the slot `id`.
abbrev pub splice_effect_of : LogEntry → ℕ → SlotEffect
splice_effect_of e id =
    if tag_type e.tag == create_tag_type
    then (if tag_id e.tag == id then Holds None else Was (if nat_lt (tag_id e.tag) id then id - 1 else id))
    else Was (if nat_le (tag_id e.tag) id then id + 1 else id)

-- The effect of any entry on the slot `id`, in a search for the type `type`.
abbrev pub slot_effect : LogEntry → ℕ → ℕ → SlotEffect
slot_effect e type id =
    if tag_class e.tag == 4 then splice_effect_of e id
    else (if is_entry_about e type id then Holds (if is_attribute_removal e.tag then None else entry_type_bytes e) else Was id)

-- The part found, given the effect of an entry. `before id` is the part that the earlier entries
-- determine for an id.
abbrev pub found_given_effect : SlotEffect → (ℕ → Option (ℕ × List ℕ)) → Option (ℕ × List ℕ)
found_given_effect (Holds part) before = part
found_given_effect (Was id) before = before id

-- The part that the entries, newest first, determine for a type and an id. It may have another type
-- of the same class.
abbrev pub found_in_entries : List LogEntry → ℕ → ℕ → Option (ℕ × List ℕ)
found_in_entries [] type id = None
found_in_entries (e ∷ es) type id = found_given_effect (slot_effect e type id) (λ i. found_in_entries es type i)

-- The number of entries searched, given the effect of an entry. `before id` is the number of
-- earlier ones searched for an id.
abbrev pub count_given_effect : SlotEffect → (ℕ → ℕ) → ℕ
count_given_effect (Holds part) before = 1
count_given_effect (Was id) before = 1 + before id

-- The number of entries, newest first, that the search examines.
abbrev pub searched_count : List LogEntry → ℕ → ℕ → ℕ
searched_count [] type id = 0
searched_count (e ∷ es) type id = count_given_effect (slot_effect e type id) (λ i. searched_count es type i)
