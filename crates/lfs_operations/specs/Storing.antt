-- The commit of a file's new struct.
use Rattle.std.specs.Prelude.{ℕ, ◌≡◌, ◌⊎◌, ◌≤◌, ◌+◌, true, nat_eq, List, [], ◌∷◌, ◌++◌, Some, None, Contains}
use Rattle.std.specs.List.{AllByRecursion, IsDistinct}
use Rattle.lfs_model.specs.session.TreeEdits.{tree_with_change}
use Rattle.lfs_model.specs.layers.BlockSets.{IsFree, IsInFlight}
use Rattle.lfs_model.specs.format.Content.{decoded_struct}
use Rattle.lfs_model.specs.layers.LoggedContent.{IsNameOrStruct}
use Rattle.lfs_model.specs.format.Names.{Name}
use Rattle.lfs_model.specs.session.Operations as ops
use Rattle.lfs_model.specs.session.Session.{Session, FileWriter, Writing, file_numbered}
use Rattle.lfs_model.specs.session.SlotEdits.{IsStructOfBytes}
use Rattle.lfs_model.specs.session.Effects.{node_with_bytes}
use Rattle.lfs_model.specs.format.Thread.{pairs_blocks}
use Rattle.lfs_model.specs.tree.Tree.{Path, Tree, struct_directory_address}
use Rattle.lfs_model.specs.tree.View.{IsWellFormedList}
use Rattle.lfs_model.specs.tree.Shown.{struct_blocks, disk_tree, used_blocks}
use Rattle.lfs_model.specs.layers.Steps.{CompletesOperation, occurrence_count}
use Rattle.lfs_thread.specs.Kept.{KeptThread}
use Rattle.lfs_operations.specs.Editing.{CanEditIn, editable_slot}
use Rattle.lfs_operations.specs.Ready.{HasTreeBeforeMapUpdate}

-- The pair has a file with the id, and the struct names its new contents: inline bytes, or a list that is on the disk. `come`
-- are the new list's blocks that the old one doesn't share; they are in flight. `gone` are those that only the old list has.
pub record CanSetStruct (t : KeptThread) (pair id kind : ℕ) (bytes : List ℕ) : Type 0 where
  pub can : CanEditIn t pair id
  pub file : struct_directory_address (editable_slot can).struct ≡ None
  pub part : IsNameOrStruct 2 (kind, bytes)
  pub contents : List ℕ
  pub stores : IsStructOfBytes t.disk contents (decoded_struct kind bytes)
  pub list : IsWellFormedList t.disk (decoded_struct kind bytes)
  pub gone : List ℕ
  pub come : List ℕ
  pub flying : AllByRecursion (IsInFlight t.map) come
  pub apart : IsDistinct nat_eq come
  pub blocks : (b : ℕ) → occurrence_count b (struct_blocks t.disk (decoded_struct kind bytes)) + occurrence_count b gone ≡ occurrence_count b come + occurrence_count b (struct_blocks t.disk (editable_slot can).struct)

-- the tree with the file's new contents
abbrev pub tree_with_contents : KeptThread → Path → Name → List ℕ → Tree
tree_with_contents t path name contents = tree_with_change (path ++ name ∷ []) (node_with_bytes contents) (disk_tree t.disk t.pairs)

abbrev pub IsDirtyWriter : Session → ℕ → Path → List ℕ → FileWriter → Type 0
IsDirtyWriter s fd path contents writer = (file_numbered s.files fd ≡ Some (Writing writer)) × ((writer.dirty ≡ true) × ((writer.path ≡ path) × (writer.contents ≡ contents)))

-- The tree has the file with those contents, and its slot is in the right pair. So a sync or a close of a writer with changes
-- is complete. The blocks `gone` are distinct, and none of them is the image's. A block of the pairs was one before, or was
-- free.
pub record HasStoredContents (old new : KeptThread) (path : Path) (name : Name) (contents gone come : List ℕ) : Type 0 where
  pub now : HasTreeBeforeMapUpdate old new (tree_with_contents old path name contents) gone come
  pub synced : (s : Session) (fd : ℕ) (writer : FileWriter) → s.tree ≡ disk_tree old.disk old.pairs → IsDirtyWriter s fd (path ++ name ∷ []) contents writer
      → CompletesOperation old.disk old.pairs s (ops.Sync fd) new.disk new.pairs
  pub closed : (s : Session) (fd : ℕ) (writer : FileWriter) → s.tree ≡ disk_tree old.disk old.pairs → IsDirtyWriter s fd (path ++ name ∷ []) contents writer
      → CompletesOperation old.disk old.pairs s (ops.Close fd) new.disk new.pairs
  pub once : (b : ℕ) → occurrence_count b (used_blocks new.disk new.pairs) + occurrence_count b gone ≤ occurrence_count b come + 1
  pub places : (b : ℕ) → Contains (pairs_blocks new.pairs) b → Contains (pairs_blocks old.pairs) b ⊎ IsFree old.map b
