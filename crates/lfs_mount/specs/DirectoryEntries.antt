-- The entries in the slots of a pair, added to the scan of a directory.
use Rattle.std.specs.Prelude.{ℕ, ◌≡◌, ◌==◌, ◌&&◌, Bool, true, false, if◌then◌else◌, List, [], ◌∷◌, ◌++◌, length, slice_get, Option, Some, None}
use Rattle.std.specs.Option.{option_and_then, option_map}
use Rattle.lfs_model.specs.declared.order.NameOrder.{NameOrder}
use Rattle.lfs_model.specs.format.Names.{Name, name_cmp, is_less, is_valid_name}
use Rattle.lfs_model.specs.format.Slots.{Slot, Struct, Inline, Ctz, Branch}
use Rattle.lfs_model.specs.format.Content.{RawSlot}
use Rattle.lfs_model.specs.format.EntryTypes.{file_name_type, directory_name_type, inline_struct_type, ctz_struct_type, directory_struct_type, decoded_address}
use Rattle.lfs_thread.specs.PairPlaces.{address_index}
use Rattle.lfs_mount.specs.Reaching.{Vertex}

-- what an entry of a directory names, without a file's bytes
pub data EntryReference : Type 0 where
  InSlot : EntryReference
  InList : (head size : ℕ) → EntryReference
  Below : (to : ℕ × ℕ) → EntryReference

abbrev pub struct_reference : Struct → EntryReference
struct_reference (Inline bytes) = InSlot
struct_reference (Ctz head size) = InList head size
struct_reference (Branch to) = Below to

-- an entry: its name and what it names
abbrev pub NamedReference : Type 0
NamedReference = Name × EntryReference

abbrev pub named_reference : Slot → NamedReference
named_reference s = (s.name, struct_reference s.struct)

-- what an entry with this type of name and this struct names; None if the struct doesn't suit the type
abbrev pub raw_reference : ℕ → ℕ × List ℕ → Option EntryReference
raw_reference kind part =
    if kind == file_name_type && part.0 == inline_struct_type then Some InSlot
    else (if kind == file_name_type && part.0 == ctz_struct_type then (if length part.1 == 8 then Some (InList (decoded_address part.1).0 (decoded_address part.1).1) else None)
    else (if kind == directory_name_type && part.0 == directory_struct_type then (if length part.1 == 8 then Some (Below (decoded_address part.1)) else None)
    else None))

-- the entry in a slot of a log, if the slot may be in a directory
abbrev pub raw_slot_entry : RawSlot → Option NamedReference
raw_slot_entry s = option_and_then (λ name. option_and_then (λ struct.
    if is_valid_name name.1 then option_map (λ stand. (name.1, stand)) (raw_reference name.0 struct) else None) s.struct) s.name

-- the slot at an index holds no entry
abbrev pub IsNoEntryAt : List RawSlot → ℕ → Type 0
IsNoEntryAt slots index = (s : RawSlot) × ((slice_get slots index ≡ Some s) × (raw_slot_entry s ≡ None))

-- ---- one more entry

abbrev pub vertex_with_subdirectory : Vertex → Option ℕ → Vertex
vertex_with_subdirectory v None = record v { leads = false }
vertex_with_subdirectory v (Some i) = record v { branches = v.branches ++ i ∷ [] }

abbrev pub vertex_with_entry : List (ℕ × ℕ) → Vertex → EntryReference → Vertex
vertex_with_entry firsts v InSlot = v
vertex_with_entry firsts v (InList head size) = v
vertex_with_entry firsts v (Below to) = vertex_with_subdirectory v (address_index firsts to)

-- whether a name comes after the last one, which is empty if there is none
abbrev pub comes_after_name : NameOrder → Name → Name → Bool
comes_after_name order [] name = true
comes_after_name order (b ∷ last) name = is_less (name_cmp order (b ∷ last) name)

-- the scan with one more entry
abbrev pub scan_with_entry : NameOrder → List (ℕ × ℕ) → Name × Vertex → NamedReference → Name × Vertex
scan_with_entry order firsts (last, v) (name, stand) = (name, vertex_with_entry firsts (record v { rises = v.rises && comes_after_name order last name }) stand)

abbrev pub scan_with_entries : NameOrder → List (ℕ × ℕ) → Name × Vertex → List NamedReference → Name × Vertex
scan_with_entries order firsts known [] = known
scan_with_entries order firsts known (e ∷ es) = scan_with_entries order firsts (scan_with_entry order firsts known e) es

-- the scan before the first entry
abbrev pub empty_scan : Name × Vertex
empty_scan = ([], record { rises = true; leads = true; branches = [] })
