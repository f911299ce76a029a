-- The types of log entries, and the decoding of their data.
use Rattle.std.specs.Prelude.{ℕ, ◌/◌, ◌%◌, ◌^◌, ◌==◌, ◌&&◌, ◌||◌, not, nat_le, if◌then◌else◌, Bool, true, List, drop, Option, Some, None}
use Rattle.byteorder.specs.Endian.{little_number}
use Rattle.lfs_model.specs.format.Tag.{tag_type, tag_id, tag_length, tag_class, removal_length}
use Rattle.lfs_model.specs.format.Log.{LogEntry}
use Rattle.lfs_model.specs.format.Slots.{Tail, Gstate, null_address}

-- ---- types

abbrev pub file_name_type : ℕ
file_name_type = 0x001

abbrev pub directory_name_type : ℕ
directory_name_type = 0x002

abbrev pub superblock_name_type : ℕ
superblock_name_type = 0x0ff

abbrev pub directory_struct_type : ℕ
directory_struct_type = 0x200

abbrev pub inline_struct_type : ℕ
inline_struct_type = 0x201

abbrev pub ctz_struct_type : ℕ
ctz_struct_type = 0x202

abbrev pub create_tag_type : ℕ
create_tag_type = 0x401

abbrev pub delete_tag_type : ℕ
delete_tag_type = 0x4ff

abbrev pub soft_tail_type : ℕ
soft_tail_type = 0x600

abbrev pub hard_tail_type : ℕ
hard_tail_type = 0x601

abbrev pub move_state_type : ℕ
move_state_type = 0x7ff

-- True if the tag has the length that removes a user attribute. No other entry may have this
-- length.
abbrev pub is_attribute_removal : ℕ → Bool
is_attribute_removal tag = tag_length tag == removal_length

-- The id of an entry that isn't about a slot.
abbrev pub no_id : ℕ
no_id = 0x3ff

-- True for a user attribute, the name of a file or a directory, or an inline struct: their data may
-- have any length.
abbrev pub allows_any_length : ℕ → Bool
allows_any_length tag =
    tag_class tag == 3 || (tag_type tag == file_name_type || (tag_type tag == directory_name_type || tag_type tag == inline_struct_type))

-- True for the name of a superblock, a directory struct, a CTZ struct or a tail: their data has 8
-- bytes.
abbrev pub requires_eight_bytes : ℕ → Bool
requires_eight_bytes tag =
    tag_type tag == superblock_name_type
    || (tag_type tag == directory_struct_type || (tag_type tag == ctz_struct_type || (tag_type tag == soft_tail_type || tag_type tag == hard_tail_type)))

-- True for a create or a delete tag, which has no data.
abbrev pub requires_no_bytes : ℕ → Bool
requires_no_bytes tag = tag_type tag == create_tag_type || tag_type tag == delete_tag_type

-- True if the format defines this type with this length. Checksums (class 5) aren't included.
abbrev pub is_known_tag : ℕ → Bool
is_known_tag tag =
    if is_attribute_removal tag then tag_class tag == 3
    else (if allows_any_length tag then true
    else (if requires_eight_bytes tag then tag_length tag == 8
    else (if requires_no_bytes tag then tag_length tag == 0
    else tag_type tag == move_state_type && tag_length tag == 12)))

-- True unless the tag is about a slot (class 0 to 4) and its id is `no_id`. The ids of all other
-- tags are ignored.
abbrev pub has_needed_id : ℕ → Bool
has_needed_id tag = nat_le 5 (tag_class tag) || not (tag_id tag == no_id)

-- ---- fields

-- The two block addresses in the data of a directory struct or a tail.
abbrev pub decoded_address : List ℕ → ℕ × ℕ
decoded_address bytes = (little_number 4 bytes, little_number 4 (drop 4 bytes))

-- The tail to the pair at `to`, or `None` if both addresses are null.
abbrev pub tail_if_not_null : Bool → ℕ × ℕ → Option Tail
tail_if_not_null hard to = if to.0 == null_address && to.1 == null_address then None else Some (record { hard = hard; to = to })

-- The tail that the tail entry `e` sets, or `None` if `e` removes the tail.
abbrev pub entry_tail : LogEntry → Option Tail
entry_tail e = tail_if_not_null (tag_type e.tag == hard_tail_type) (decoded_address e.bytes)

-- The global state with the pair `pair`, and with the sync bit, the move type and the move id from
-- `word`.
abbrev pub unpacked_gstate : ℕ → ℕ × ℕ → Gstate
unpacked_gstate word pair = record { sync = nat_le (2 ^ 31) word; kind = word / 2 ^ 20 % 2 ^ 11; id = word / 2 ^ 10 % 2 ^ 10; pair = pair }

abbrev pub decoded_gstate : List ℕ → Gstate
decoded_gstate bytes = unpacked_gstate (little_number 4 bytes) (decoded_address (drop 4 bytes))

-- The data of a superblock's inline struct. The three limits are in bytes, for a name, a file and a
-- user attribute.
pub record SuperblockFields : Type 0 where
  pub version : ℕ
  pub block_size : ℕ
  pub block_count : ℕ
  pub name_max : ℕ
  pub file_max : ℕ
  pub attr_max : ℕ

abbrev pub superblock_fields : List ℕ → SuperblockFields
superblock_fields bytes = record {
  version = little_number 4 bytes;
  block_size = little_number 4 (drop 4 bytes);
  block_count = little_number 4 (drop 8 bytes);
  name_max = little_number 4 (drop 12 bytes);
  file_max = little_number 4 (drop 16 bytes);
  attr_max = little_number 4 (drop 20 bytes);
}
