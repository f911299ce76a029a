-- What an operation on the tree leaves of the open files.
use Rattle.std.specs.Prelude.{◌≡◌, ◌⊎◌, ◌+◌, ◌≤◌, true, false, List, length}
use Rattle.std.specs.List.{AllByRecursion}
use Rattle.lfs_model.specs.session.TreeEdits.{file_bytes, is_file}
use Rattle.lfs_model.specs.format.Disk.{block_count}
use Rattle.lfs_model.specs.session.Operations.{Operation}
use Rattle.lfs_model.specs.session.Session.{reserved_for_writers}
use Rattle.lfs_tree.specs.TreeState.{IsOperationApplied, TreeState, tree_summary, visible_tree}
use Rattle.lfs_fs.specs.FileView.{RuntimeFiles, files_view, readers_among, writers_among}
use Rattle.lfs_fs.specs.SessionView.{IsReady}
use Rattle.lfs_model.specs.layers.Keeping.{vacates_path}
use Rattle.lfs_tree.specs.KeptFiles.{max_allocated_blocks}
use Rattle.lfs_fs.specs.declared.files.Writer.{Writer}

-- the operation neither removes nor moves an open file, and enough blocks are free for it, besides those reserved for writers
pub record AffectsNoOpenFile (t : TreeState) (op : Operation) (files : RuntimeFiles) : Type 0 where
  pub apart : AllByRecursion (λ w. vacates_path op w.path ≡ false) (writers_among files)
  pub unread : AllByRecursion (λ r. vacates_path op r.path ≡ false) (readers_among files)
  pub room : (max_allocated_blocks op ≡ 0) ⊎ (length (tree_summary t).used + reserved_for_writers t.disk.profile t.disk.block_size (files_view t files) + max_allocated_blocks op ≤ block_count t.disk)

-- the tree still has the writers' files, with the same bytes
abbrev pub KeepsWriterFiles : TreeState → TreeState → List Writer → Type 0
KeepsWriterFiles old new ws = AllByRecursion (λ w. (is_file (visible_tree new w.path) ≡ true) × (file_bytes (visible_tree new w.path) ≡ file_bytes (visible_tree old w.path))) ws

-- the open files are as before, and the session is ready
pub record OpenFilesStayReady (old new : TreeState) (files : RuntimeFiles) : Type 0 where
  pub ready : IsReady new files
  pub same : files_view old files ≡ files_view new files

-- an applied operation that concerns no open file keeps them all
abbrev pub UnrelatedOperationKeepsFiles : Type 0
UnrelatedOperationKeepsFiles = (old new : TreeState) (op : Operation) (files : RuntimeFiles) → IsReady old files → AffectsNoOpenFile old op files → KeepsWriterFiles old new (writers_among files) → IsOperationApplied old op new → OpenFilesStayReady old new files
