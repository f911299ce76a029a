-- The tree of a file system. A directory is identified by the address of its first pair; `entries`
-- gives its slots.
use Rattle.std.specs.Prelude.{ℕ, List, [], ◌∷◌, map, find, Option, Some, None}
use Rattle.std.specs.Option.{option_and_then, option_map}
use Rattle.lfs_model.specs.declared.order.NameOrder.TheVariants.{ShorterFirst}
use Rattle.lfs_model.specs.format.Names.{Name, same_name, sorted_names}
use Rattle.lfs_model.specs.format.Slots.{Slot, Struct, Inline, Ctz, Branch, Attributes, Directory}

abbrev pub Path : Type 0
Path = List Name

-- The entries of the directory at each address, in order.
abbrev pub DirectoryEntryMap : Type 0
DirectoryEntryMap = ℕ × ℕ → List Slot

-- A file or a directory. The names of a directory are in the same order for all disks.
pub data Node : Type 0 where
  FileNode : (attributes : Attributes) (bytes : List ℕ) → Node
  DirectoryNode : (attributes : Attributes) (names : List Name) → Node

-- The node at each path from the root, if there is one.
abbrev pub Tree : Type 0
Tree = Path → Option Node

abbrev pub entry_named : Name → List Slot → Option Slot
entry_named name slots = find (λ s. same_name name s.name) slots

-- The address in a directory's struct, or `None` for the struct of a file.
abbrev pub struct_directory_address : Struct → Option (ℕ × ℕ)
struct_directory_address (Branch to) = Some to
struct_directory_address (Inline bytes) = None
struct_directory_address (Ctz head size) = None

-- A slot for the root directory, whose first pair is at `at`. No directory has this slot.
abbrev pub root_slot : ℕ × ℕ → Slot
root_slot at = record { kind = Directory; name = []; struct = Branch at; attributes = [] }

-- The entry with the name `name` in the directory of the slot `s`.
abbrev pub child_slot : DirectoryEntryMap → Slot → Name → Option Slot
child_slot entries s name = option_and_then (λ at. entry_named name (entries at)) (struct_directory_address s.struct)

-- The slot that a path leads to from the slot `s`.
abbrev pub slot_at_path : DirectoryEntryMap → Slot → Path → Option Slot
slot_at_path entries s [] = Some s
slot_at_path entries s (name ∷ path) = option_and_then (λ child. slot_at_path entries child path) (child_slot entries s name)

-- The address of the directory that `path` leads to from the slot `s`.
abbrev pub address_from_slot : DirectoryEntryMap → Slot → Path → Option (ℕ × ℕ)
address_from_slot entries s path = option_and_then (λ found. struct_directory_address found.struct) (slot_at_path entries s path)

-- The address of the directory that a path leads to from the root directory at `root`.
abbrev pub address_at_path : DirectoryEntryMap → ℕ × ℕ → Path → Option (ℕ × ℕ)
address_at_path entries root = address_from_slot entries (root_slot root)

-- The names in the directory at `at`, in order.
abbrev pub names_at : DirectoryEntryMap → ℕ × ℕ → List Name
names_at entries at = map (λ s. s.name) (entries at)

-- The node of a slot with these attributes and this struct. `contents` gives the bytes of a file by
-- the head and the size of its CTZ skip-list.
abbrev pub struct_node : (ℕ → ℕ → List ℕ) → DirectoryEntryMap → Attributes → Struct → Node
struct_node contents entries attributes (Inline bytes) = FileNode attributes bytes
struct_node contents entries attributes (Ctz head size) = FileNode attributes (contents head size)
struct_node contents entries attributes (Branch to) = DirectoryNode attributes (sorted_names ShorterFirst (names_at entries to))

-- The tree whose root is the slot `s`.
abbrev pub slot_subtree : (ℕ → ℕ → List ℕ) → DirectoryEntryMap → Slot → Tree
slot_subtree contents entries s path = option_map (λ found. struct_node contents entries found.attributes found.struct) (slot_at_path entries s path)

abbrev pub root_subtree : (ℕ → ℕ → List ℕ) → DirectoryEntryMap → ℕ × ℕ → Tree
root_subtree contents entries root = slot_subtree contents entries (root_slot root)
