-- The entries that write the content of a pair to an empty log.
use Rattle.std.specs.Prelude.{ℕ, ◌+◌, ◌*◌, ◌^◌, ◌≤◌, ◌==◌, ◌&&◌, not, if◌then◌else◌, Bool, List, [], ◌∷◌, ◌++◌, length, map, Option, Some, None, sum_by}
use Rattle.std.specs.List.{flat_map}
use Rattle.byteorder.specs.Endian.{little_bytes}
use Rattle.lfs_model.specs.format.Disk.{pair_capacity, slots_limit}
use Rattle.lfs_model.specs.format.Slots.{Attributes, Tail, Gstate, attributes_size, null_address}
use Rattle.lfs_model.specs.format.Tag.{make_tag}
use Rattle.lfs_model.specs.format.Log.{LogEntry}
use Rattle.lfs_model.specs.format.Content.{RawSlot, RawContent}
use Rattle.lfs_model.specs.format.EntryTypes.{SuperblockFields, soft_tail_type, hard_tail_type, move_state_type, no_id}

-- ---- fields

abbrev pub address_bytes : ℕ × ℕ → List ℕ
address_bytes pair = little_bytes 4 pair.0 ++ little_bytes 4 pair.1

abbrev pub superblock_fields_bytes : SuperblockFields → List ℕ
superblock_fields_bytes s = flat_map (little_bytes 4) (s.version ∷ s.block_size ∷ s.block_count ∷ s.name_max ∷ s.file_max ∷ s.attr_max ∷ [])

-- The first word of a move state: the sync bit, the move type, the move id, and ten zero bits.
abbrev pub move_word : Gstate → ℕ
move_word g = (if g.sync then 2 ^ 31 else 0) + g.kind * 2 ^ 20 + g.id * 2 ^ 10

abbrev pub bytes_of_move_state : Gstate → List ℕ
bytes_of_move_state g = little_bytes 4 (move_word g) ++ address_bytes g.pair

-- The address of the pair that a tail points to, or two null addresses for `None`.
abbrev pub tail_or_null : Option (ℕ × ℕ) → ℕ × ℕ
tail_or_null None = (null_address, null_address)
tail_or_null (Some pair) = pair

-- ---- entries

-- The entry with the type `type`, the id `id` and the data `bytes`.
abbrev pub log_entry : ℕ → ℕ → List ℕ → LogEntry
log_entry type id bytes = record { tag = make_tag type id (length bytes); bytes = bytes }

-- The lowest tag type of a user attribute.
abbrev pub first_attribute_type : ℕ
first_attribute_type = 0x300

abbrev pub tail_type : Bool → ℕ
tail_type hard = if hard then hard_tail_type else soft_tail_type

abbrev pub tail_entry : Bool → Option (ℕ × ℕ) → LogEntry
tail_entry hard pair = log_entry (tail_type hard) no_id (address_bytes (tail_or_null pair))

abbrev pub move_entry : Gstate → LogEntry
move_entry g = log_entry move_state_type no_id (bytes_of_move_state g)

-- ---- the content of a pair

-- The entry of a slot's name or struct, if there is one.
abbrev pub name_or_struct_entries : ℕ → Option (ℕ × List ℕ) → List LogEntry
name_or_struct_entries id None = []
name_or_struct_entries id (Some part) = log_entry part.0 id part.1 ∷ []

abbrev pub attribute_entries : ℕ → Attributes → List LogEntry
attribute_entries id attributes = map (λ a. log_entry (first_attribute_type + a.0) id a.1) attributes

abbrev pub slot_entries : ℕ → RawSlot → List LogEntry
slot_entries id s = name_or_struct_entries id s.name ++ name_or_struct_entries id s.struct ++ attribute_entries id s.attributes

-- The entries of the slots, whose ids begin at `id`.
abbrev pub entries_of_slots : ℕ → List RawSlot → List LogEntry
entries_of_slots id [] = []
entries_of_slots id (s ∷ slots) = slot_entries id s ++ entries_of_slots (id + 1) slots

abbrev pub tail_entries : Option Tail → List LogEntry
tail_entries None = []
tail_entries (Some t) = tail_entry t.hard (Some t.to) ∷ []

abbrev pub is_zero : Gstate → Bool
is_zero g = not g.sync && (g.kind == 0 && (g.id == 0 && (g.pair.0 == 0 && g.pair.1 == 0)))

abbrev pub move_state_entries : Gstate → List LogEntry
move_state_entries g = if is_zero g then [] else move_entry g ∷ []

-- The entries of each slot's name, struct and attributes (by ascending type), then of the tail if
-- there is one, then of the move state if it isn't zero.
abbrev pub content_entries : RawContent → List LogEntry
content_entries c = entries_of_slots 0 c.slots ++ tail_entries c.tail ++ move_state_entries c.move

-- ---- sizes

abbrev pub name_or_struct_size : Option (ℕ × List ℕ) → ℕ
name_or_struct_size None = 0
name_or_struct_size (Some part) = 4 + length part.1

-- The size of a slot: its name, struct and attributes, each with a 4-byte tag.
abbrev pub raw_slot_size : RawSlot → ℕ
raw_slot_size s = name_or_struct_size s.name + name_or_struct_size s.struct + attributes_size s.attributes

-- The size of all slots in bytes.
abbrev pub raw_slots_size : RawContent → ℕ
raw_slots_size c = sum_by raw_slot_size c.slots

-- The size and the number of the slots are within the limits of a pair that is written.
pub record RawContentFitsInPair (block_size page : ℕ) (c : RawContent) : Type 0 where
  pub size : raw_slots_size c ≤ pair_capacity block_size page
  pub count : length c.slots ≤ slots_limit
