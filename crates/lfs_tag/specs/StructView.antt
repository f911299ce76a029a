-- The code's structs as the definitions see them.
use Rattle.std.specs.Prelude.{ℕ, ◌==◌, ◌&&◌, ◌||◌, if◌then◌else◌, Bool, List, length, Option, Some, None}
use Rattle.lfs_model.specs.format.Content.{decoded_struct}
use Rattle.lfs_model.specs.format.EntryTypes.{ctz_struct_type, directory_struct_type, inline_struct_type}
use Rattle.lfs_model.specs.format.Slots.{address_of_array}
use Rattle.lfs_model.specs.format.Slots as slots
use Rattle.lfs_tag.specs.declared.structure.Struct.{Struct}
use Rattle.lfs_tag.specs.declared.structure.Struct.TheVariants as variant

abbrev pub struct_view : Struct → slots.Struct
struct_view (variant.Inline bytes) = slots.Inline bytes.now
struct_view (variant.Ctz head size) = slots.Ctz head size
struct_view (variant.Branch to) = slots.Branch (address_of_array to)

-- Whether a type and bytes form a struct: a file's bytes, or 8 bytes that refer to a CTZ skip-list
-- or a metadata pair.
abbrev pub is_struct_part : ℕ × List ℕ → Bool
is_struct_part part = part.0 == inline_struct_type || ((part.0 == ctz_struct_type || part.0 == directory_struct_type) && length part.1 == 8)

-- The decoded struct, if the type and the bytes form one.
abbrev pub part_struct : ℕ × List ℕ → Option slots.Struct
part_struct part = if is_struct_part part then Some (decoded_struct part.0 part.1) else None
