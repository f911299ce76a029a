-- The content of a metadata pair: its slots, its tail and its delta of the global state.
use Rattle.std.specs.Prelude.{ℕ, ◌+◌, ◌≤◌, Bool, true, false, not, ◌&&◌, ◌||◌, ◌==◌, List, length, slice_index, Option, bit_xor, sum_by}
use Rattle.lfs_model.specs.declared.limits.Profile.{Profile}
use Rattle.lfs_model.specs.format.Disk.{struct_max, pair_capacity, slots_limit}
use Rattle.lfs_model.specs.format.Names.{Name}

abbrev pub null_address : ℕ
null_address = 0xffffffff

-- The two block addresses in the array `words`.
abbrev pub address_of_array : List ℕ → ℕ × ℕ
address_of_array words = (slice_index words 0, slice_index words 1)

pub data SlotKind : Type 0 where
  File : SlotKind
  Directory : SlotKind
  Superblock : SlotKind

-- The struct of a slot: the bytes of an inline file, the head and the size of a CTZ skip-list, or
-- the address of a directory's first pair.
pub data Struct : Type 0 where
  Inline : (bytes : List ℕ) → Struct
  Ctz : (head size : ℕ) → Struct
  Branch : (to : ℕ × ℕ) → Struct

-- User attributes, each with its type and its bytes, by ascending type.
abbrev pub Attributes : Type 0
Attributes = List (ℕ × List ℕ)

-- The part of a pair's content that belongs to one id: a file, a directory or a superblock.
pub record Slot : Type 0 where
  pub kind : SlotKind
  pub name : Name
  pub struct : Struct
  pub attributes : Attributes

-- The tail of a pair: the address of the next pair of the thread. A hard tail continues the
-- directory; after a soft tail, another directory begins.
pub record Tail : Type 0 where
  pub hard : Bool
  pub to : ℕ × ℕ

-- The global state (gstate), or the delta of it in one pair: the sync bit, and the type, the id and
-- the pair of a move.
pub record Gstate : Type 0 where
  pub sync : Bool
  pub kind : ℕ
  pub id : ℕ
  pub pair : ℕ × ℕ

-- The content of a metadata pair. `move` is its delta of the global state. A tail to two null
-- addresses counts as `None`.
pub record PairContent : Type 0 where
  pub slots : List Slot
  pub tail : Option Tail
  pub move : Gstate

-- The move type of a global state without a pending move.
abbrev pub no_move_kind : ℕ
no_move_kind = 0x000

-- The move type of a global state with a pending move.
abbrev pub set_move_kind : ℕ
set_move_kind = 0x4ff

abbrev pub zero_gstate : Gstate
zero_gstate = record { sync = false; kind = 0; id = 0; pair = (0, 0) }

abbrev pub bool_xor : Bool → Bool → Bool
bool_xor true b = not b
bool_xor false b = b

abbrev pub gstate_xor : Gstate → Gstate → Gstate
gstate_xor a b = record {
  sync = bool_xor a.sync b.sync;
  kind = bit_xor a.kind b.kind;
  id = bit_xor a.id b.id;
  pair = (bit_xor a.pair.0 b.pair.0, bit_xor a.pair.1 b.pair.1);
}

-- True if both pairs have the same two addresses, in either order.
abbrev pub same_pair : ℕ × ℕ → ℕ × ℕ → Bool
same_pair a b = (a.0 == b.0 && a.1 == b.1) || (a.0 == b.1 && a.1 == b.0)

abbrev pub is_superblock_kind : SlotKind → Bool
is_superblock_kind Superblock = true
is_superblock_kind File = false
is_superblock_kind Directory = false

abbrev pub is_superblock : Slot → Bool
is_superblock s = is_superblock_kind s.kind

-- ---- sizes in bytes, as they count towards the capacity of a pair

abbrev pub struct_len : Struct → ℕ
struct_len (Inline bytes) = length bytes
struct_len (Ctz head size) = 8
struct_len (Branch to) = 8

abbrev pub attributes_size : Attributes → ℕ
attributes_size attributes = sum_by (λ a. 4 + length a.1) attributes

-- The size of a slot: its name, its struct and its attributes, each with a 4-byte tag.
abbrev pub slot_size : Slot → ℕ
slot_size s = 4 + length s.name + (4 + struct_len s.struct) + attributes_size s.attributes

abbrev pub slots_size : PairContent → ℕ
slots_size c = sum_by slot_size c.slots

-- The size of an entry if its struct has the maximum size, `struct_max`.
abbrev pub reserved_entry_size : Profile → ℕ → Name → Attributes → ℕ
reserved_entry_size profile block_size name attributes = 4 + length name + (4 + struct_max profile block_size) + attributes_size attributes

-- The size and the number of the slots are within the limits of a pair that is written.
pub record FitsInPair (block_size page : ℕ) (c : PairContent) : Type 0 where
  pub size : slots_size c ≤ pair_capacity block_size page
  pub count : length c.slots ≤ slots_limit
