-- The tree of a source, while it is read.
use Rattle.std.specs.Prelude.{◌≡◌, Bool, true, false, Option, Some, None}
use Rattle.lfs_model.specs.format.Names.{Name}
use Rattle.lfs_tool.specs.declared.source.SourceKind.{SourceKind}
use Rattle.lfs_tool.specs.declared.source.SourceKind.TheVariants.{File, Folder}
use Rattle.lfs_tool.specs.declared.source.ListedName.{ListedName}

-- a tree that is known is unchanged
abbrev pub IsUnchangedIfKnown : {X : Type 0} → Option X → Option X → Type 0
IsUnchangedIfKnown None new = Unit {0}
IsUnchangedIfKnown (Some x) None = ⊥
IsUnchangedIfKnown (Some x) (Some y) = y ≡ x

abbrev pub is_folder : SourceKind → Bool
is_folder File = false
is_folder Folder = true

abbrev pub listed_view : ListedName → Name × Bool
listed_view l = (l.name.items, is_folder l.kind)
