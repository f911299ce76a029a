-- The creation of an empty file.
use Rattle.std.specs.Prelude.{ℕ, ◌≡◌, true, List, [], ◌∷◌, ◌++◌}
use Rattle.lfs_model.specs.session.TreeEdits.{tree_creating}
use Rattle.lfs_model.specs.layers.Changes.{ContentChange, Create, PutStruct}
use Rattle.lfs_model.specs.format.EntryTypes.{file_name_type, inline_struct_type}
use Rattle.lfs_model.specs.session.InDirectory.{IsPairAt, IsInsertionPosition}
use Rattle.lfs_model.specs.format.Names.{Name, is_valid_name}
use Rattle.lfs_model.specs.session.Operations as ops
use Rattle.lfs_model.specs.session.Operations.{FlagsOfOpen}
use Rattle.lfs_model.specs.session.Session.{Session}
use Rattle.lfs_model.specs.session.SlotEdits.{file_slot}
use Rattle.lfs_model.specs.session.Refusals.{path_or_root}
use Rattle.lfs_model.specs.tree.Tree.{Path, Tree, FileNode}
use Rattle.lfs_model.specs.tree.Profile.{IsWritableEntry}
use Rattle.lfs_model.specs.tree.Shown.{IsDirectoryAtPath, disk_tree}
use Rattle.lfs_model.specs.layers.Steps.{CompletesOperation}
use Rattle.lfs_thread.specs.Kept.{KeptThread}
use Rattle.lfs_thread.specs.ThreadSteps.{thread_pair}
use Rattle.lfs_operations.specs.Ready.{IsRecoveredWithTree, IsLogContentDecodable, IsRecoveredWritableImage}

abbrev pub creation_changes : ℕ → Name → List ContentChange
creation_changes id name = Create id file_name_type name ∷ PutStruct id inline_struct_type [] ∷ []

-- The image may be changed. The name is a valid new one, and belongs at the id of the pair, in the directory at a path.
pub record CanCreateIn (t : KeptThread) (pair id : ℕ) (name : Name) : Type 0 where
  pub ready : IsRecoveredWritableImage t
  pub path : Path
  pub at : ℕ × ℕ
  pub leads : IsDirectoryAtPath t.pairs path at
  pub first : ℕ
  pub begins : IsPairAt t.pairs at first
  pub belongs : IsInsertionPosition t.disk.order t.pairs first name pair id
  pub is_name : is_valid_name name ≡ true
  pub fits : IsWritableEntry t.disk.profile t.disk.block_size t.disk.page (file_slot name)
  pub logged : IsLogContentDecodable t.disk (thread_pair t pair).at

-- the tree with the new file
abbrev pub tree_with_file : KeptThread → Path → Name → Tree
tree_with_file t path name = tree_creating (path ++ name ∷ []) (FileNode [] []) (disk_tree t.disk t.pairs)

-- The tree has the file, and its slot is in the right pair. So an open that creates the file is complete.
pub record IsFileCreated (old new : KeptThread) (path : Path) (name : Name) : Type 0 where
  pub now : IsRecoveredWithTree old new (tree_with_file old path name)
  pub completed : (s : Session) (given : List ℕ) (flags : FlagsOfOpen) → s.tree ≡ disk_tree old.disk old.pairs → path_or_root given ≡ path ++ name ∷ []
      → CompletesOperation old.disk old.pairs s (ops.Open given flags) new.disk new.pairs
