-- What a buffer holds after an answer.
use Rattle.std.specs.Prelude.{ℕ, ◌≡◌, ◌++◌, nat_le, if◌then◌else◌, List, length, map, Option, Some, None, Result, Ok, Err, Vec, codes}
use Rattle.std.specs.List.{flat_map}
use Rattle.std.specs.Fmt.{decimal}
use Rattle.std.specs.Global.{Global}
use Rattle.lfs_device.specs.declared.error.Error.{Error}
use Rattle.lfs_device.specs.declared.error.Error.TheVariants.{NoMemory}
use Rattle.lfs_lookup.specs.Finds.{listed_item_view}
use Rattle.lfs_lookup.specs.declared.kinds.ListItem.{ListItem}
use Rattle.lfs_model.specs.format.Blocks.{overwritten_at}
use Rattle.lfs_model.specs.layers.Listing.{escaped_text, newline}
use Rattle.lfs_model.specs.session.Operations.{ListedEntry}

-- the part of a line before its name: of a file of that size, or of a directory
abbrev pub line_prefix : Option ℕ → List ℕ
line_prefix (Some size) = codes "f " ++ decimal size ++ codes " "
line_prefix None = codes "d 0 "

abbrev pub item_line : ListedEntry → List ℕ
item_line item = line_prefix item.size ++ escaped_text item.name ++ newline

abbrev pub entries_of_items : Vec ListItem Global → List ListedEntry
entries_of_items items = map listed_item_view items.items

abbrev pub item_lines : List ListedEntry → List ℕ
item_lines items = flat_map item_line items

-- the buffer with the bytes at its beginning, or as it was if they don't fit
abbrev pub buffer_if_fitting : List ℕ → List ℕ → List ℕ
buffer_if_fitting bytes buffer = if nat_le (length bytes) (length buffer) then overwritten_at buffer 0 bytes else buffer

-- a buffer after a call that returns bytes
abbrev pub filled_buffer : Result (Vec ℕ Global) Error → List ℕ → List ℕ
filled_buffer (Ok v) buffer = buffer_if_fitting v.items buffer
filled_buffer (Err e) buffer = buffer

-- The buffer has the lines of the entries, if they fit, and n is the room that they need; or the listing failed, or memory was refused.
abbrev pub FillsWithLines : Result (Vec ListItem Global) Error → Result ℕ Error → List ℕ → List ℕ → Type 0
FillsWithLines (Ok x) (Ok n) buffer filled = (n ≡ length (item_lines (entries_of_items x))) × (filled ≡ buffer_if_fitting (item_lines (entries_of_items x)) buffer)
FillsWithLines (Ok x) (Err e) buffer filled = (e ≡ NoMemory) × (filled ≡ buffer)
FillsWithLines (Err e) (Ok n) buffer filled = ⊥
FillsWithLines (Err e) (Err e') buffer filled = (e' ≡ e) × (filled ≡ buffer)
