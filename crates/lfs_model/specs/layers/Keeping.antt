-- An operation keeps the structs of all files that it isn't about.
use Rattle.std.specs.Prelude.{◌≡◌, Bool, true, false, ◌||◌, List, Option, Some, None, is_some}
use Rattle.std.specs.Option.{option_map}
use Rattle.lfs_model.specs.format.Disk.{Disk}
use Rattle.lfs_model.specs.format.Slots.{Struct}
use Rattle.lfs_model.specs.format.Thread.{Pair}
use Rattle.lfs_model.specs.tree.Tree.{Path}
use Rattle.lfs_model.specs.tree.Shown.{disk_tree}
use Rattle.lfs_model.specs.session.TreeEdits.{same_path, without_prefix, is_file}
use Rattle.lfs_model.specs.session.Operations as ops
use Rattle.lfs_model.specs.session.Operations.{Operation}
use Rattle.lfs_model.specs.session.Session.{Session, OpenFile, file_path, file_numbered}
use Rattle.lfs_model.specs.session.Refusals.{path_or_root}
use Rattle.lfs_model.specs.session.SlotEdits.{slot_of_path}

-- True if the operation removes, moves or replaces the entry at the path `q`, or an entry above it.
abbrev pub vacates_path : Operation → Path → Bool
vacates_path (ops.Remove path) q = is_some (without_prefix (path_or_root path) q)
vacates_path (ops.Rename old new) q = is_some (without_prefix (path_or_root old) q) || is_some (without_prefix (path_or_root new) q)
vacates_path _ q = false

-- True if there is an open file and its path is `q`.
abbrev pub is_open_at : Option OpenFile → Path → Bool
is_open_at None q = false
is_open_at (Some file) q = same_path (file_path file) q

-- True if the operation may store the contents of an open file at the path `q`.
abbrev pub may_store_at : Session → Operation → Path → Bool
may_store_at s (ops.Sync fd) q = is_open_at (file_numbered s.files fd) q
may_store_at s (ops.Close fd) q = is_open_at (file_numbered s.files fd) q
may_store_at s _ q = false

-- The struct of the slot that a path leads to, if there is one.
abbrev pub struct_at : List Pair → Path → Option Struct
struct_at ps path = option_map (λ u. u.struct) (slot_of_path ps path)

-- Each file that `op` neither removes, moves, replaces nor stores has the same struct in the pairs
-- `qs`, after the operation, as in `ps`.
abbrev pub KeepsOtherStructs : Disk → List Pair → Session → Operation → List Pair → Type 0
KeepsOtherStructs disk ps s op qs = (q : Path) → is_file (disk_tree disk ps q) ≡ true → vacates_path op q ≡ false → may_store_at s op q ≡ false → struct_at qs q ≡ struct_at ps q
