-- An entry, as a listing returns it.
use Rattle.std.specs.Prelude.{ℕ, ◌<◌, ◌≤◌, List, [], ◌∷◌, length, Option, Some, None}
use Rattle.lfs_model.specs.format.Names.{name_limit}
use Rattle.lfs_model.specs.session.Operations as ops
use Rattle.lfs_model.specs.format.Slots.{Struct, Inline, Ctz, Branch}
use Rattle.lfs_lookup.specs.Items.{NamedStruct}

-- the size of a file in bytes
abbrev pub listed_struct_size : Struct → Option ℕ
listed_struct_size (Inline bytes) = Some (length bytes)
listed_struct_size (Ctz head size) = Some size
listed_struct_size (Branch to) = None

abbrev pub name_and_size : NamedStruct → ops.ListedEntry
name_and_size x = record { name = x.name; size = listed_struct_size x.struct }

-- inline bytes are short enough for an entry's tag
abbrev pub StructFitsTag : Struct → Type 0
StructFitsTag (Inline bytes) = length bytes < 0x3ff
StructFitsTag (Ctz head size) = Unit {0}
StructFitsTag (Branch to) = Unit {0}

-- the same, and the name is no longer than the format allows
abbrev pub IsNamedStructInLimits : NamedStruct → Type 0
IsNamedStructInLimits x = StructFitsTag x.struct × (length x.name ≤ name_limit)

abbrev pub AreNamedStructsInLimits : List NamedStruct → Type 0
AreNamedStructsInLimits [] = Unit {0}
AreNamedStructsInLimits (x ∷ xs) = IsNamedStructInLimits x × AreNamedStructsInLimits xs
