-- The CTZ skip lists of slots that are dropped with their pairs. Their blocks are freed afterwards.
use Rattle.std.specs.Prelude.{ℕ, ◌≤◌, ◌+◌, false, List, [], ◌∷◌, Option, Some, None}
use Rattle.std.specs.List.{AllByRecursion, flat_map}
use Rattle.lfs_tree.specs.SettledFiles.{stored_list_blocks}
use Rattle.lfs_model.specs.format.Content.{RawSlot, decoded_struct}
use Rattle.lfs_model.specs.format.Slots.{Slot, Struct, Inline, Ctz, Branch}
use Rattle.lfs_model.specs.tree.Shown.{used_blocks}
use Rattle.lfs_model.specs.layers.Steps.{occurrence_count}
use Rattle.lfs_operations.specs.Ready.{IsWritableBeforeMapUpdate}
use Rattle.lfs_thread.specs.Kept.{KeptThread}
use Rattle.lfs_file.specs.Bases.{IsListOrEmpty}
use Rattle.lfs_file.specs.declared.stored_list.StoredList.{StoredList}

-- ---- which lists

abbrev pub struct_lists : Struct → List StoredList
struct_lists (Ctz head size) = record { head = head; size = size; in_flight = false } ∷ []
struct_lists (Inline bytes) = []
struct_lists (Branch to) = []

abbrev pub slots_lists : List Slot → List StoredList
slots_lists slots = flat_map (λ s. struct_lists s.struct) slots

-- the list of a log's slot, whose struct is a type and bytes
abbrev pub raw_struct_lists : Option (ℕ × List ℕ) → List StoredList
raw_struct_lists None = []
raw_struct_lists (Some struct) = struct_lists (decoded_struct struct.0 struct.1)

abbrev pub raw_slots_lists : List RawSlot → List StoredList
raw_slots_lists slots = flat_map (λ s. raw_struct_lists s.struct) slots

-- ---- their blocks

abbrev pub blocks_of_lists : KeptThread → List StoredList → List ℕ
blocks_of_lists t lists = flat_map (stored_list_blocks t) lists

-- The image no longer has the files of these lists. The lists are still on the disk, and their blocks still marked as used.
pub record CanFreeLists (t : KeptThread) (lists : List StoredList) : Type 0 where
  pub ready : IsWritableBeforeMapUpdate t (blocks_of_lists t lists) []
  pub once : (b : ℕ) → occurrence_count b (used_blocks t.disk t.pairs) + occurrence_count b (blocks_of_lists t lists) ≤ 1
  pub stand : AllByRecursion (λ list. IsListOrEmpty t.disk.blocks t.disk.block_size list.head list.size) lists
