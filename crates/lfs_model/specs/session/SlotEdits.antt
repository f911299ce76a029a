-- How an operation changes the slots of the pairs, before any pair is split or dropped.
use Rattle.std.specs.Prelude.{ℕ, ◌≡◌, ◌⊎◌, ◌≤◌, ◌<◌, true, false, List, [], ◌∷◌, ◌++◌, length, map, Option, Some, None}
use Rattle.lfs_model.specs.format.Disk.{Disk, inline_limit}
use Rattle.lfs_model.specs.format.Names.{Name}
use Rattle.lfs_model.specs.format.Slots.{Slot, File, Directory, Struct, Inline, Ctz, Branch}
use Rattle.lfs_model.specs.format.Content.{attributes_with, attributes_without}
use Rattle.lfs_model.specs.format.Thread.{Pair, pairs_gstate, slots_not_moved, root_address}
use Rattle.lfs_model.specs.tree.Tree.{Path, Node, root_slot, slot_at_path}
use Rattle.lfs_model.specs.tree.Shown.{disk_list_bytes, all_entries}
use Rattle.lfs_model.specs.session.TreeEdits.{last_name}
use Rattle.lfs_model.specs.session.Operations as ops
use Rattle.lfs_model.specs.session.Operations.{Operation}
use Rattle.lfs_model.specs.session.Session.{Session, OpenFile, Reading, Writing, file_numbered}
use Rattle.lfs_model.specs.session.Refusals.{path_or_root}

-- The pair `p` with other slots.
abbrev pub pair_with_slots : List Slot → Pair → Pair
pair_with_slots slots p = record { at = p.at; content = record { slots = slots; tail = p.content.tail; move = p.content.move } }

-- The pairs without the slot of a set move.
abbrev pub pairs_without_moved : List Pair → List Pair
pairs_without_moved ps = map (λ p. pair_with_slots (slots_not_moved (pairs_gstate ps) p) p) ps

-- In one of the pairs, the slots `news` replace the slots `olds`.
pub record ReplacesSlots (olds news : List Slot) (old new : List Pair) : Type 0 where
  pub before : List Pair
  pub pair : Pair
  pub after : List Pair
  pub left : List Slot
  pub right : List Slot
  pub was : old ≡ before ++ pair ∷ after
  pub held : pair.content.slots ≡ left ++ (olds ++ right)
  pub is : new ≡ before ++ pair_with_slots (left ++ (news ++ right)) pair ∷ after

-- The slot that a path leads to.
abbrev pub slot_of_path : List Pair → Path → Option Slot
slot_of_path ps path = slot_at_path (all_entries ps) (root_slot (root_address ps)) path

-- A slot replaces the one at `path`, and `P` relates the old one to the new one.
abbrev pub ReplacesSlot : (Slot → Slot → Type 0) → List Pair → Path → List Pair → List Pair → Type 0
ReplacesSlot P ps path old new = (u v : Slot) × ((slot_of_path ps path ≡ Some u) × P u v × ReplacesSlots (u ∷ []) (v ∷ []) old new)

-- The struct has these bytes: inline if they are within the inline limit, otherwise in a CTZ
-- skip-list.
abbrev pub IsStructOfBytes : Disk → List ℕ → Struct → Type 0
IsStructOfBytes disk bytes (Inline own) = (own ≡ bytes) × (length bytes ≤ inline_limit disk.profile disk.block_size)
IsStructOfBytes disk bytes (Ctz head size) = (size ≡ length bytes) × (disk_list_bytes disk head size ≡ bytes) × (inline_limit disk.profile disk.block_size < length bytes)
IsStructOfBytes disk bytes (Branch to) = ⊥

-- The slot of a new, empty file.
abbrev pub file_slot : Name → Slot
file_slot name = record { kind = File; name = name; struct = Inline []; attributes = [] }

-- The slot of a new directory, whose first pair is at the address `to`.
abbrev pub directory_slot : Name → ℕ × ℕ → Slot
directory_slot name to = record { kind = Directory; name = name; struct = Branch to; attributes = [] }

-- The slot is removed, if there was one.
abbrev pub RemovesSlot : Option Slot → List Pair → List Pair → Type 0
RemovesSlot None old new = new ≡ old
RemovesSlot (Some u) old new = ReplacesSlots (u ∷ []) [] old new

-- The slot of an empty file is added, if there was no node.
abbrev pub AddsFile : Option Node → Name → List Pair → List Pair → Type 0
AddsFile None name old new = ReplacesSlots [] (file_slot name ∷ []) old new
AddsFile (Some node) name old new = new ≡ old

-- The slot moves with its struct and attributes, gets its new name, and replaces the slot at `to`,
-- if there was one.
abbrev pub MovesSlot : List Pair → Path → Path → List Pair → List Pair → Type 0
MovesSlot ps from to old new = (u : Slot) × (left cleared : List Pair)
    × ((slot_of_path ps from ≡ Some u) × ReplacesSlots (u ∷ []) [] old left × RemovesSlot (slot_of_path ps to) left cleared
    × ReplacesSlots [] (record u { name = last_name to } ∷ []) cleared new)

-- The slot of a directory is added. The directory has one new pair, without slots.
abbrev pub AddsDirectory : Name → List Pair → List Pair → List Pair → Type 0
AddsDirectory name [] old new = ⊥
AddsDirectory name (p ∷ []) old new = (p.content.slots ≡ []) × ReplacesSlots [] (directory_slot name p.at ∷ []) old new
AddsDirectory name (p ∷ q ∷ fresh) old new = ⊥

-- The contents of a dirty writer are stored in its slot.
abbrev pub StoresWriter : Disk → List Pair → Option OpenFile → List Pair → List Pair → Type 0
StoresWriter disk ps None old new = new ≡ old
StoresWriter disk ps (Some (Reading r)) old new = new ≡ old
StoresWriter disk ps (Some (Writing w)) old new = (w.dirty ≡ false × (new ≡ old))
    ⊎ (w.dirty ≡ true × ReplacesSlot (λ u v. (v ≡ record u { struct = v.struct }) × IsStructOfBytes disk w.contents v.struct) ps w.path old new)

-- The operation changes the slots of the pairs from `old` to `new`. The pairs before the operation
-- are `ps`, the pair that it adds is `fresh`, and the disk after it is `disk`.
abbrev pub EditsSlots : Disk → List Pair → Session → Operation → List Pair → List Pair → List Pair → Type 0
EditsSlots disk ps s (ops.Open path flags) fresh old new = (fresh ≡ []) × AddsFile (s.tree (path_or_root path)) (last_name (path_or_root path)) old new
EditsSlots disk ps s (ops.Mkdir path) fresh old new = AddsDirectory (last_name (path_or_root path)) fresh old new
EditsSlots disk ps s (ops.Remove path) fresh old new = (fresh ≡ []) × (u : Slot) × ((slot_of_path ps (path_or_root path) ≡ Some u) × ReplacesSlots (u ∷ []) [] old new)
EditsSlots disk ps s (ops.Rename from to) fresh old new = (fresh ≡ []) × MovesSlot ps (path_or_root from) (path_or_root to) old new
EditsSlots disk ps s (ops.Sync fd) fresh old new = (fresh ≡ []) × StoresWriter disk ps (file_numbered s.files fd) old new
EditsSlots disk ps s (ops.Close fd) fresh old new = (fresh ≡ []) × StoresWriter disk ps (file_numbered s.files fd) old new
EditsSlots disk ps s (ops.SetAttr path kind bytes) fresh old new =
    (fresh ≡ []) × ReplacesSlot (λ u v. v ≡ record u { attributes = attributes_with kind bytes u.attributes }) ps (path_or_root path) old new
EditsSlots disk ps s (ops.RemoveAttr path kind) fresh old new =
    (fresh ≡ []) × ReplacesSlot (λ u v. v ≡ record u { attributes = attributes_without kind u.attributes }) ps (path_or_root path) old new
EditsSlots disk ps s _ fresh old new = (fresh ≡ []) × (new ≡ old)
