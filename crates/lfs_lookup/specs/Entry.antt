-- A slot's struct, decoded.
use Rattle.std.specs.Prelude.{ℕ, ◌≡◌, ◌<◌, List, length}
use Rattle.lfs_model.specs.format.Slots.{Struct, Inline, Ctz, Branch, address_of_array}
use Rattle.lfs_lookup.specs.declared.entry.FileStorage.{FileStorage}
use Rattle.lfs_lookup.specs.declared.entry.FileStorage.TheVariants as contents
use Rattle.lfs_lookup.specs.declared.entry.FileOrDirectory.{FileOrDirectory}
use Rattle.lfs_lookup.specs.declared.entry.FileOrDirectory.TheVariants as entry

abbrev pub IsStorageOfStruct : FileStorage → Struct → Type 0
IsStorageOfStruct (contents.Inline len) t = (bytes : List ℕ) × ((t ≡ Inline bytes) × ((length bytes ≡ len) × (len < 0x3ff)))
IsStorageOfStruct (contents.List head size) t = t ≡ Ctz head size

abbrev pub IsStructEntry : FileOrDirectory → Struct → Type 0
IsStructEntry (entry.File contents) t = IsStorageOfStruct contents t
IsStructEntry (entry.Directory at) t = t ≡ Branch (address_of_array at)
