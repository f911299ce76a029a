-- The contents of a file, as its entry names them.
use Rattle.std.specs.Prelude.{◌≡◌, ◌<◌, false, List, Option, Some, None, length}
use Rattle.lfs_model.specs.layers.Keeping.{struct_at}
use Rattle.lfs_model.specs.tree.Shown.{disk_tree}
use Rattle.lfs_model.specs.format.Slots.{Struct, Inline, Ctz}
use Rattle.lfs_model.specs.format.Thread.{Pair}
use Rattle.lfs_model.specs.tree.Tree.{Path}
use Rattle.lfs_model.specs.session.TreeEdits.{is_file}
use Rattle.lfs_thread.specs.Kept.{KeptThread}
use Rattle.lfs_lookup.specs.declared.file_contents.FileContents.{FileContents}
use Rattle.lfs_lookup.specs.declared.file_contents.FileContents.TheVariants as contents

-- the struct of an entry with these contents
abbrev pub contents_struct : FileContents → Struct
contents_struct (contents.Inline bytes) = Inline bytes.items
contents_struct (contents.List head size) = Ctz head size

-- inline bytes are short enough for an entry's tag
abbrev pub ContentsFitTag : FileContents → Type 0
ContentsFitTag (contents.Inline bytes) = length bytes.items < 0x3ff
ContentsFitTag (contents.List head size) = Unit {0}

-- the contents are those of an entry with this struct
pub record AreStructContents (s : Struct) (contents : FileContents) : Type 0 where
  pub struct : contents_struct contents ≡ s
  pub fits : ContentsFitTag contents

-- the contents are those of the entry at the path
pub record IsStorageAt (ps : List Pair) (path : Path) (contents : FileContents) : Type 0 where
  pub struct : struct_at ps path ≡ Some (contents_struct contents)
  pub fits : ContentsFitTag contents

-- the contents of the file at the path, or None if it has no file
abbrev pub AreContentsAt : KeptThread → Path → Option FileContents → Type 0
AreContentsAt t path None = is_file (disk_tree t.disk t.pairs path) ≡ false
AreContentsAt t path (Some contents) = IsStorageAt t.pairs path contents
