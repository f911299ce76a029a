-- The entries of a directory.
use Rattle.std.specs.Prelude.{ℕ, not, if◌then◌else◌, List, [], ◌∷◌, map, filter, Option, Some, None}
use Rattle.std.specs.List.{flat_map, remove}
use Rattle.std.specs.Option.{option_and_then}
use Rattle.lfs_model.specs.format.Content.{RawSlot, decoded_slot}
use Rattle.lfs_model.specs.format.Names.{Name}
use Rattle.lfs_model.specs.format.Slots.{Slot, Struct, address_of_array, is_superblock}
use Rattle.lfs_model.specs.format.Slots as slots
use Rattle.lfs_lookup.specs.declared.items.NameAndOwnedStruct.{NameAndOwnedStruct}
use Rattle.lfs_lookup.specs.declared.items.OwnedStruct.{OwnedStruct}
use Rattle.lfs_lookup.specs.declared.items.OwnedStruct.TheVariants as variant

-- the name and the struct of an entry
pub record NamedStruct : Type 0 where
  pub name : Name
  pub struct : Struct

abbrev pub named_struct : Slot → NamedStruct
named_struct s = record { name = s.name; struct = s.struct }

abbrev pub owned_view : OwnedStruct → Struct
owned_view (variant.Inline bytes) = slots.Inline bytes.items
owned_view (variant.Ctz head size) = slots.Ctz head size
owned_view (variant.Branch to) = slots.Branch (address_of_array to)

abbrev pub item_view : NameAndOwnedStruct → NamedStruct
item_view i = record { name = i.name.items; struct = owned_view i.structure }

abbrev pub items_view : List NameAndOwnedStruct → List NamedStruct
items_view items = map item_view items

-- the entry of a slot, if it isn't the superblock's
abbrev pub entry_unless_superblock : Slot → Option NamedStruct
entry_unless_superblock s = if is_superblock s then None else Some (named_struct s)

-- the entry of a log's slot, if it has a name and a struct
abbrev pub raw_entry : RawSlot → Option NamedStruct
raw_entry s = option_and_then entry_unless_superblock (decoded_slot s)

abbrev pub optional_entry_list : Option NamedStruct → List NamedStruct
optional_entry_list None = []
optional_entry_list (Some x) = x ∷ []

abbrev pub raw_entries : List RawSlot → List NamedStruct
raw_entries slots = flat_map (λ s. optional_entry_list (raw_entry s)) slots

-- the slots without the one with that id, if any
abbrev pub slots_except : {X : Type 0} → Option ℕ → List X → List X
slots_except None slots = slots
slots_except (Some id) slots = remove slots id

-- the entries among slots, without the slot that a pending move names
abbrev pub visible_slot_entries : Option ℕ → List Slot → List NamedStruct
visible_slot_entries moved slots = map named_struct (filter (λ s. not (is_superblock s)) (slots_except moved slots))
