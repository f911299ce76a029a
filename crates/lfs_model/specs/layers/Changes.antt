-- Changes to the content of a pair. Each change consists of one or two entries of the log.
use Rattle.std.specs.Prelude.{ℕ, ◌+◌, ◌^◌, ◌&&◌, nat_le, nat_lt, if◌then◌else◌, Bool, List, [], ◌∷◌, length, Option, None}
use Rattle.std.specs.List.{flat_map, list_all}
use Rattle.lfs_model.specs.format.Slots.{Gstate}
use Rattle.lfs_model.specs.format.Tag.{make_tag, tag_data_limit, removal_length}
use Rattle.lfs_model.specs.format.Log.{LogEntry}
use Rattle.lfs_model.specs.format.Content.{RawContent, content_after}
use Rattle.lfs_model.specs.format.EntryTypes.{create_tag_type, delete_tag_type, no_id}
use Rattle.lfs_model.specs.layers.WrittenContent.{log_entry, first_attribute_type, tail_entry, move_entry, tail_or_null}

-- A change to the content of a pair. `kind` is the type of a name or a struct; `attribute` is the
-- type of a user attribute, from 0 to 255.
pub data ContentChange : Type 0 where
  -- Inserts a slot with this name at the id.
  Create : (id kind : ℕ) (name : List ℕ) → ContentChange
  Delete : (id : ℕ) → ContentChange
  PutStruct : (id kind : ℕ) (bytes : List ℕ) → ContentChange
  PutAttribute : (id attribute : ℕ) (bytes : List ℕ) → ContentChange
  RemoveAttribute : (id attribute : ℕ) → ContentChange
  -- Sets the tail, or removes it if `pair` is `None`.
  PutTail : (hard : Bool) (pair : Option (ℕ × ℕ)) → ContentChange
  PutMove : (state : Gstate) → ContentChange

abbrev pub change_entries : ContentChange → List LogEntry
change_entries (Create id kind name) = log_entry create_tag_type id [] ∷ log_entry kind id name ∷ []
change_entries (Delete id) = log_entry delete_tag_type id [] ∷ []
change_entries (PutStruct id kind bytes) = log_entry kind id bytes ∷ []
change_entries (PutAttribute id attribute bytes) = log_entry (first_attribute_type + attribute) id bytes ∷ []
change_entries (RemoveAttribute id attribute) = record { tag = make_tag (first_attribute_type + attribute) id removal_length; bytes = [] } ∷ []
change_entries (PutTail hard pair) = tail_entry hard pair ∷ []
change_entries (PutMove state) = move_entry state ∷ []

abbrev pub entries_of_changes : List ContentChange → List LogEntry
entries_of_changes changes = flat_map change_entries changes

-- ---- what fits in a tag and its data

-- True if both addresses fit in 32 bits.
abbrev pub has_word_addresses : ℕ × ℕ → Bool
has_word_addresses pair = nat_lt pair.0 (2 ^ 32) && nat_lt pair.1 (2 ^ 32)

-- True if the bytes fit in the data of one tag.
abbrev pub fits_in_tag : List ℕ → Bool
fits_in_tag bytes = nat_le (length bytes) tag_data_limit

-- True for the type of a name (class 0).
abbrev pub is_name_type : ℕ → Bool
is_name_type kind = nat_lt kind 0x100

-- True for the type of a struct (class 2).
abbrev pub is_struct_type : ℕ → Bool
is_struct_type kind = nat_le 0x200 kind && nat_lt kind 0x300

-- True if all fields of the change fit in its entries.
abbrev pub is_storable : ContentChange → Bool
is_storable (Create id kind name) = nat_lt id no_id && (is_name_type kind && fits_in_tag name)
is_storable (Delete id) = nat_lt id no_id
is_storable (PutStruct id kind bytes) = nat_lt id no_id && (is_struct_type kind && fits_in_tag bytes)
is_storable (PutAttribute id attribute bytes) = nat_lt id no_id && (nat_lt attribute 0x100 && fits_in_tag bytes)
is_storable (RemoveAttribute id attribute) = nat_lt id no_id && nat_lt attribute 0x100
is_storable (PutTail hard pair) = has_word_addresses (tail_or_null pair)
is_storable (PutMove state) = nat_lt state.kind (2 ^ 11) && (nat_lt state.id (2 ^ 10) && has_word_addresses state.pair)

-- ---- the content after changes

-- The content after the changes in order, or `None` if one of them can't be stored or isn't allowed
-- at its point of the log.
abbrev pub content_with_changes : RawContent → List ContentChange → Option RawContent
content_with_changes c changes = if list_all is_storable changes then content_after c (entries_of_changes changes) else None
