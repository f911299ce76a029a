-- What a writer's calls require of the tree, and what they do.
use Rattle.std.specs.Prelude.{ℕ, ◌≡◌, ◌+◌, ◌^◌, ◌≤◌, ◌<◌, Bool, true, false, List, length, Option, Some, None, is_some, slice_set}
use Rattle.lfs_model.specs.declared.limits.Profile.{Profile}
use Rattle.lfs_model.specs.session.TreeEdits.{is_file}
use Rattle.lfs_model.specs.layers.BlockSets.{in_flight_count}
use Rattle.lfs_model.specs.format.Disk.{block_count}
use Rattle.lfs_model.specs.session.Session as session
use Rattle.lfs_model.specs.session.Session.{reserved_for_writer}
use Rattle.lfs_model.specs.session.Writers.{truncated_writer, writer_after_write, write_position}
use Rattle.lfs_model.specs.session.Effects.{node_file_size}
use Rattle.lfs_model.specs.tree.Tree.{Path}
use Rattle.lfs_tree.specs.OpenContents.{IsOpenedForm, AreTreeContents}
use Rattle.lfs_tree.specs.TreeState.{IsSoundState, TreeState, tree_summary, visible_tree}
use Rattle.lfs_file.specs.Contents.{contents_form}
use Rattle.lfs_file.specs.Form.{ContentsForm}
use Rattle.lfs_fs.specs.FileView.{RuntimeFiles, writer_view}
use Rattle.lfs_fs.specs.SessionView.{IsWriterReady}
use Rattle.lfs_fs.specs.declared.files.OpenFile.TheVariants as file
use Rattle.lfs_fs.specs.declared.files.UnsavedContents.{UnsavedContents}
use Rattle.lfs_fs.specs.declared.files.Writer.{Writer}
use Rattle.lfs_model.specs.format.Slots.{zero_gstate}
use Rattle.lfs_model.specs.format.Thread.{pairs_gstate}

-- nothing is to recover, and the path has a file; `unsaved` is its draft, if there is one
pub record IsWritablePath (t : TreeState) (path : Path) (unsaved : Option UnsavedContents) : Type 0 where
  pub works : t.failed ≡ false
  pub writable : t.writable ≡ true
  pub settled : pairs_gstate t.pairs ≡ zero_gstate
  pub file : is_file (visible_tree t path) ≡ true
  pub idle : is_some unsaved ≡ false → in_flight_count t.map ≡ 0
  pub over : (u : UnsavedContents) → unsaved ≡ Some u → AreTreeContents t path u.contents

-- the form of the draft, or of the file's contents
abbrev pub IsDraftOrFileForm : Profile → ℕ → Option UnsavedContents → ℕ → ContentsForm → Type 0
IsDraftOrFileForm profile block_size None size shape = IsOpenedForm profile block_size size shape
IsDraftOrFileForm profile block_size (Some u) size shape = shape ≡ contents_form u.contents

-- The writer may be changed: the tree hasn't failed, and only the writer has blocks in flight.
pub record CanChangeWriter (t : TreeState) (w : Writer) : Type 0 where
  pub works : t.failed ≡ false
  pub written : IsWriterReady t w
  pub idle : is_some w.unsaved ≡ false → in_flight_count t.map ≡ 0

-- enough blocks are free for those that would be reserved for the writer
abbrev pub CanReserveWriterBlocks : TreeState → session.FileWriter → Type 0
CanReserveWriterBlocks t w = length (tree_summary t).used + reserved_for_writer t.disk.profile t.disk.block_size w ≤ block_count t.disk

pub record CanWriteBytes (t : TreeState) (w : Writer) (bytes : List ℕ) : Type 0 where
  pub can : CanChangeWriter t w
  pub some : 1 ≤ length bytes
  pub small : write_position (writer_view t w) + length bytes < 2 ^ 31
  pub room : CanReserveWriterBlocks t (writer_after_write (writer_view t w) bytes)

pub record CanTruncateTo (t : TreeState) (w : Writer) (size : ℕ) : Type 0 where
  pub can : CanChangeWriter t w
  pub other : size ≡ w.size → ⊥
  pub small : size < 2 ^ 31
  pub room : CanReserveWriterBlocks t (truncated_writer (writer_view t w) size)

-- the writer is `is` in the definitions' words, and stays open
pub record IsChangedWriter (t : TreeState) (is : session.FileWriter) (w : Writer) : Type 0 where
  pub seen : writer_view t w ≡ is
  pub written : IsWriterReady t w
  pub changed : is_some w.unsaved ≡ true

-- File `fd` is a writer that meets `Holds`, and no other open file has changed.
pub record ChangesWriterAt (files : RuntimeFiles) (fd : ℕ) (Holds : Writer → Type 0) (later : RuntimeFiles) : Type 0 where
  pub writer : Writer
  pub only : later ≡ slice_set files fd (Some (file.Writing writer))
  pub holds : Holds writer

-- the writer has changes, which can be saved
pub record CanSaveWriter (t : TreeState) (w : Writer) : Type 0 where
  pub works : t.failed ≡ false
  pub written : IsWriterReady t w
  pub changed : is_some w.unsaved ≡ true

-- the writer is `is` in the definitions' words, stays open, and has no unsynced changes
pub record IsSavedWriter (t : TreeState) (is : session.FileWriter) (w : Writer) : Type 0 where
  pub seen : writer_view t w ≡ is
  pub written : IsWriterReady t w
  pub saved : w.unsaved ≡ None

-- the path has a file of `size` bytes, which may be opened for writing
pub record CanOpenWriter (t : TreeState) (path : Path) (size : ℕ) (truncates : Bool) : Type 0 where
  pub works : t.failed ≡ false
  pub writable : t.writable ≡ true
  pub sound : IsSoundState t
  pub idle : in_flight_count t.map ≡ 0
  pub there : node_file_size (visible_tree t path) ≡ Some size
  -- to truncate a file that isn't empty, two blocks are free
  pub room : truncates ≡ true → 1 ≤ size → length (tree_summary t).used + 2 ≤ block_count t.disk

-- the writer is `is` in the definitions' words, and stays open
pub record IsOpenedWriter (t : TreeState) (is : session.FileWriter) (w : Writer) : Type 0 where
  pub seen : writer_view t w ≡ is
  pub written : IsWriterReady t w
