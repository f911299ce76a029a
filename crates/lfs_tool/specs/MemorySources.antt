-- The tree of a source in memory.
use Rattle.std.specs.Prelude.{◌+◌, ◌==◌, ◌&&◌, not, ℕ, Bool, true, false, [], ◌∷◌, List, Option, Some, None, Vec, drop, filter, find, if◌then◌else◌, length, map, nat_lt, slice_index, take, unwrap_or}
use Rattle.std.specs.Global.{Global}
use Rattle.std.specs.List.{list_any}
use Rattle.std.specs.Option.{option_and_then}
use Rattle.std.specs.Str.{bytes_eq}
use Rattle.lfs_model.specs.format.Names.{Name, slash_byte}
use Rattle.lfs_model.specs.layers.Source.{TreeSource}
use Rattle.lfs_tool.specs.declared.entries.SourceEntry.{SourceEntry}

-- a path, and the bytes of a file there
abbrev pub PathAndBytes : Type 0
PathAndBytes = List ℕ × Option (List ℕ)

abbrev pub optional_bytes_view : Option (Vec ℕ Global) → Option (List ℕ)
optional_bytes_view None = None
optional_bytes_view (Some bytes) = Some bytes.items

abbrev pub memory_view : SourceEntry → PathAndBytes
memory_view h = (h.path.items, optional_bytes_view h.bytes)

abbrev pub has_no_bytes : Option (List ℕ) → Bool
has_no_bytes None = true
has_no_bytes (Some bytes) = false

-- the path is that of an entry directly in the folder
abbrev pub is_directly_in : List ℕ → List ℕ → Bool
is_directly_in folder path = nat_lt (length folder) (length path) && (bytes_eq (take (length folder) path) folder
    && (slice_index path (length folder) == slash_byte
    && not (list_any (λ b. b == slash_byte) (drop (length folder + 1) path))))

abbrev pub memory_entry_name : List ℕ → PathAndBytes → Name × Bool
memory_entry_name folder e = (drop (length folder + 1) e.0, has_no_bytes e.1)

-- the name of the entry at a path, if it is directly in the folder
abbrev pub name_in_folder : List ℕ → PathAndBytes → List (Name × Bool)
name_in_folder folder e = if is_directly_in folder e.0 then memory_entry_name folder e ∷ [] else []

abbrev pub names_in_folder : List PathAndBytes → List ℕ → List (Name × Bool)
names_in_folder held folder = map (memory_entry_name folder) (filter (λ e. is_directly_in folder e.0) held)

-- the bytes of the first file at the path
abbrev pub file_bytes_at : List PathAndBytes → List ℕ → Option (List ℕ)
file_bytes_at held path = option_and_then (λ e. e.1) (find (λ e. bytes_eq e.0 path) held)

abbrev pub memory_source : List PathAndBytes → TreeSource
memory_source held = record { names = names_in_folder held; bytes = λ path. unwrap_or (file_bytes_at held path) [] }
