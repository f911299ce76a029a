-- The content of a pair: the result of all entries of its log, applied in order.
use Rattle.std.specs.Prelude.{ℕ, ◌+◌, ◌-◌, ◌%◌, ◌^◌, ◌==◌, ◌&&◌, not, nat_lt, nat_le, if◌then◌else◌, Bool, List, [], ◌∷◌, ◌++◌, length, drop, filter, find, replicate, slice_set, slice_index_or, Option, Some, None, is_some}
use Rattle.std.specs.List.{insert, remove}
use Rattle.std.specs.Option.{option_and_then, option_map}
use Rattle.byteorder.specs.Endian.{little_number}
use Rattle.lfs_model.specs.format.Tag.{tag_type, tag_id, tag_class, tag_chunk}
use Rattle.lfs_model.specs.format.Log.{LogEntry, chain_of, block_revision, block_entries}
use Rattle.lfs_model.specs.format.Disk.{Disk, disk_block}
use Rattle.lfs_model.specs.format.Slots.{SlotKind, File, Directory, Superblock, Struct, Inline, Ctz, Branch, Attributes, Slot, Tail, Gstate, PairContent, zero_gstate}
use Rattle.lfs_model.specs.format.EntryTypes.{file_name_type, directory_name_type, directory_struct_type, inline_struct_type, create_tag_type, delete_tag_type, is_attribute_removal, is_known_tag, has_needed_id, decoded_address, entry_tail, decoded_gstate}

-- A slot as a log defines it. Its name and its struct each have a type and bytes, and may be
-- missing.
pub record RawSlot : Type 0 where
  pub name : Option (ℕ × List ℕ)
  pub struct : Option (ℕ × List ℕ)
  pub attributes : Attributes

-- The content of a pair whose slots may be incomplete. `move` is its delta of the global state.
pub record RawContent : Type 0 where
  pub slots : List RawSlot
  pub tail : Option Tail
  pub move : Gstate

-- ---- what an entry does

abbrev pub empty_slot : RawSlot
empty_slot = record { name = None; struct = None; attributes = [] }

-- The slot with the id `id`, or an empty one if there is none.
abbrev pub slot_of_id : List RawSlot → ℕ → RawSlot
slot_of_id slots id = slice_index_or slots id empty_slot

-- The slots with `f` applied to the one with the id `id`.
abbrev pub slot_changed_at : (RawSlot → RawSlot) → List RawSlot → ℕ → List RawSlot
slot_changed_at f slots id = slice_set slots id (f (slot_of_id slots id))

-- The slots, followed by empty ones if needed, so that there is one with the id `id`.
abbrev pub padded_slots : List RawSlot → ℕ → List RawSlot
padded_slots slots id = slots ++ replicate (id + 1 - length slots) empty_slot

-- The attributes without the one of the type `type`.
abbrev pub attributes_without : ℕ → Attributes → Attributes
attributes_without type attributes = filter (λ a. not (a.0 == type)) attributes

-- The attributes with `bytes` for the type `type`, by ascending type.
abbrev pub attributes_with : ℕ → List ℕ → Attributes → Attributes
attributes_with type bytes [] = (type, bytes) ∷ []
attributes_with type bytes (a ∷ others) =
    if nat_lt type a.0 then (type, bytes) ∷ a ∷ others
    else (if type == a.0 then (type, bytes) ∷ others else a ∷ attributes_with type bytes others)

-- The bytes of the attribute of the type `type`, if there is one.
abbrev pub attribute_bytes : ℕ → Attributes → Option (List ℕ)
attribute_bytes type attributes = option_map (λ a. a.1) (find (λ a. a.0 == type) attributes)

-- The attributes after the entry `e`, which sets or removes one of them.
abbrev pub attributes_after : LogEntry → Attributes → Attributes
attributes_after e attributes =
    if is_attribute_removal e.tag then attributes_without (tag_chunk e.tag) attributes else attributes_with (tag_chunk e.tag) e.bytes attributes

-- The type and the bytes of an entry, as a slot's name or struct.
abbrev pub entry_type_bytes : LogEntry → Option (ℕ × List ℕ)
entry_type_bytes e = Some (tag_type e.tag, e.bytes)

-- The slots after an entry of a class below 5, or `None` if the entry isn't allowed at this point.
abbrev pub slots_after : List RawSlot → LogEntry → Option (List RawSlot)
slots_after slots e =
    if tag_class e.tag == 0 then Some (slot_changed_at (λ s. record s { name = entry_type_bytes e }) (padded_slots slots (tag_id e.tag)) (tag_id e.tag))
    else (if tag_type e.tag == create_tag_type then (if nat_le (tag_id e.tag) (length slots) then Some (insert slots (tag_id e.tag) empty_slot) else None)
    else (if tag_type e.tag == delete_tag_type then (if nat_lt (tag_id e.tag) (length slots) then Some (remove slots (tag_id e.tag)) else None)
    else (if not (is_some (slot_of_id slots (tag_id e.tag)).name) then None
    else (if tag_class e.tag == 2 then Some (slot_changed_at (λ s. record s { struct = entry_type_bytes e }) slots (tag_id e.tag))
    else Some (slot_changed_at (λ s. record s { attributes = attributes_after e s.attributes }) slots (tag_id e.tag))))))

-- The content after the entry `e`, or `None` if the entry isn't allowed at this point.
abbrev pub content_after_entry : RawContent → LogEntry → Option RawContent
content_after_entry c e =
    if tag_class e.tag == 5 then Some c
    else (if not (is_known_tag e.tag && has_needed_id e.tag) then None
    else (if tag_class e.tag == 6 then Some (record c { tail = entry_tail e })
    else (if tag_class e.tag == 7 then Some (record c { move = decoded_gstate e.bytes })
    else option_map (λ slots. record c { slots = slots }) (slots_after c.slots e))))

-- The content after all the entries in order, or `None` if one of them isn't allowed.
abbrev pub content_after : RawContent → List LogEntry → Option RawContent
content_after c [] = Some c
content_after c (e ∷ es) = option_and_then (λ d. content_after d es) (content_after_entry c e)

abbrev pub empty_raw_content : RawContent
empty_raw_content = record { slots = []; tail = None; move = zero_gstate }

-- ---- pairs

-- True if the block has at least one valid commit.
abbrev pub has_commit : List ℕ → Bool
has_commit block = nat_lt 0 (length (chain_of block).commits)

-- True if the revision count `b` is later than `a`, by the sign of their 32-bit difference.
abbrev pub is_later : ℕ → ℕ → Bool
is_later a b = nat_lt 0 ((b + 2 ^ 32 - a) % 2 ^ 32) && nat_lt ((b + 2 ^ 32 - a) % 2 ^ 32) (2 ^ 31)

-- The active block of two. If both have a commit, it is `b` if `b` has the later revision count,
-- else `a`. If only one of them has a commit, it is that one; if neither has one, it is `None`.
abbrev pub later_committed_block : List ℕ → List ℕ → Option (List ℕ)
later_committed_block a b =
    if not (has_commit a) then (if has_commit b then Some b else None)
    else (if has_commit b && is_later (block_revision a) (block_revision b) then Some b else Some a)

-- The bytes of the active block of the pair at `at`, if it has a commit.
abbrev pub current_block : Disk → ℕ × ℕ → Option (List ℕ)
current_block disk at = later_committed_block (disk_block disk at.0) (disk_block disk at.1)

-- The content of the pair at `at`, whose slots may be incomplete, or `None` if its log is
-- malformed.
abbrev pub raw_content : Disk → ℕ × ℕ → Option RawContent
raw_content disk at = option_and_then (λ block. content_after empty_raw_content (block_entries block)) (current_block disk at)

-- ---- complete slots

abbrev pub kind_of_type : ℕ → SlotKind
kind_of_type type = if type == file_name_type then File else (if type == directory_name_type then Directory else Superblock)

abbrev pub decoded_struct : ℕ → List ℕ → Struct
decoded_struct type bytes =
    if type == inline_struct_type then Inline bytes
    else (if type == directory_struct_type then Branch (decoded_address bytes) else Ctz (little_number 4 bytes) (little_number 4 (drop 4 bytes)))

-- The decoded slot, or `None` if its name or its struct is missing.
abbrev pub decoded_slot : RawSlot → Option Slot
decoded_slot s = option_and_then (λ name. option_map (λ struct. record {
  kind = kind_of_type name.0;
  name = name.1;
  struct = decoded_struct struct.0 struct.1;
  attributes = s.attributes;
}) s.struct) s.name

abbrev pub decoded_slots : List RawSlot → Option (List Slot)
decoded_slots [] = Some []
decoded_slots (s ∷ slots) = option_and_then (λ t. option_map (λ ts. t ∷ ts) (decoded_slots slots)) (decoded_slot s)

-- The content with decoded slots, or `None` if a slot has no name or no struct.
abbrev pub decoded_content : RawContent → Option PairContent
decoded_content raw = option_map (λ slots. record { slots = slots; tail = raw.tail; move = raw.move }) (decoded_slots raw.slots)

-- The content of the pair at `at`, or `None` if its log is malformed or a slot has no name or no
-- struct.
abbrev pub content_at : Disk → ℕ × ℕ → Option PairContent
content_at disk at = option_and_then decoded_content (raw_content disk at)
