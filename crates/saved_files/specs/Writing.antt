-- A file is written: opened, written and closed. A file is read: opened, read whole and closed.
use Rattle.std.specs.Prelude.{ℕ, ◌≡◌, ◌⊎◌, true, false, List, Option, Some, None}
use Rattle.lfs_model.specs.tree.Tree.{Path, Node, FileNode, DirectoryNode, Tree}
use Rattle.lfs_model.specs.session.Operations.{FlagsOfOpen}
use Rattle.lfs_model.specs.session.TreeEdits.{same_path, parent_path, file_bytes}
use Rattle.lfs_model.specs.session.Writers.{opened_writer, writer_after_write}
use Rattle.lfs_model.specs.session.Session.{Session}
use Rattle.lfs_model.specs.session.Refusals.{path_or_root}
use Rattle.lfs_model.specs.session.State.{Healthy}
use Rattle.lfs_model.specs.session.Run.{SystemState}
use Rattle.saved_files.specs.Working.{LossLeavesTreeWith}

-- the flags for a file that is replaced by the written bytes
abbrev pub saving_flags : FlagsOfOpen
saving_flags = record { read = false; write = true; create = true; exclusive = false; truncate = true; append = false; unknown = false }

-- the flags for a file to which the written bytes are appended
abbrev pub appending_flags : FlagsOfOpen
appending_flags = record { read = false; write = true; create = true; exclusive = false; truncate = false; append = true; unknown = false }

abbrev pub reading_flags : FlagsOfOpen
reading_flags = record { read = true; write = false; create = false; exclusive = false; truncate = false; append = false; unknown = false }

-- the bytes of a node if it is a file, else None
abbrev pub bytes_if_file : Option Node → Option (List ℕ)
bytes_if_file None = None
bytes_if_file (Some (FileNode attributes bytes)) = Some bytes
bytes_if_file (Some (DirectoryNode attributes names)) = None

-- the bytes of a file after an open with these flags and a write of these bytes
abbrev pub bytes_after_write : Path → FlagsOfOpen → (old bytes : List ℕ) → List ℕ
bytes_after_write path flags old bytes = (writer_after_write (opened_writer path flags old) bytes).contents

-- the trees are equal at each other path, except for the directory above
abbrev pub SameAtOtherPaths : Path → Tree → Tree → Type 0
SameAtOtherPaths path old new = (other : Path) → same_path path other ≡ false → same_path (parent_path path) other ≡ false → new other ≡ old other

-- the file at the path has these bytes; if they are none, there may be no file; all else is as before
pub record HasBytesAt (path : Path) (bytes : List ℕ) (old new : Tree) : Type 0 where
  pub elsewhere : SameAtOtherPaths path old new
  pub has : file_bytes (new path) ≡ bytes

-- the file has its old bytes, or those after the write
abbrev pub IsBeforeOrAfterWrite : Path → FlagsOfOpen → List ℕ → Tree → Tree → Type 0
IsBeforeOrAfterWrite path flags bytes old new = HasBytesAt path (file_bytes (old path)) old new ⊎ HasBytesAt path (bytes_after_write path flags (file_bytes (old path)) bytes) old new

-- if power is lost anywhere between these states, the next start finds the file from before the write, or from after it
abbrev pub WriteSurvivesPowerLoss : (path : List ℕ) → FlagsOfOpen → List ℕ → SystemState → SystemState → Type 0
WriteSurvivesPowerLoss path flags bytes from to = (s : Session) → from.state ≡ Healthy s → LossLeavesTreeWith (IsBeforeOrAfterWrite (path_or_root path) flags bytes s.tree) from to

-- the file has the bytes of the write; all else is as before
pub record IsWritten (path : Path) (flags : FlagsOfOpen) (bytes : List ℕ) (old new : Tree) : Type 0 where
  pub elsewhere : SameAtOtherPaths path old new
  pub file : bytes_if_file (new path) ≡ Some (bytes_after_write path flags (file_bytes (old path)) bytes)

-- the session works on, and the file is written
abbrev pub WritesFile : (path : List ℕ) → FlagsOfOpen → List ℕ → SystemState → SystemState → Type 0
WritesFile path flags bytes from to = (s : Session) → from.state ≡ Healthy s → (t : Session) × ((to.state ≡ Healthy t) × IsWritten (path_or_root path) flags bytes s.tree t.tree)

-- ---- a file that is read

-- if power is lost anywhere between these states, the next start finds the same bytes at the path, or none if there were none,
-- and the rest of the tree unchanged, except for the names in the directory above
abbrev pub ReadSurvivesPowerLoss : (path : List ℕ) → SystemState → SystemState → Type 0
ReadSurvivesPowerLoss path from to = (s : Session) → from.state ≡ Healthy s → LossLeavesTreeWith (HasBytesAt (path_or_root path) (file_bytes (s.tree (path_or_root path))) s.tree) from to

-- These are the file's bytes. The session works on, with the same bytes there, and the rest of the tree unchanged, except for the
-- names in the directory above.
abbrev pub ReadsFile : (path bytes : List ℕ) → SystemState → SystemState → Type 0
ReadsFile path bytes from to = (s : Session) → from.state ≡ Healthy s → (bytes_if_file (s.tree (path_or_root path)) ≡ Some bytes)
    × ((t : Session) × ((to.state ≡ Healthy t) × HasBytesAt (path_or_root path) bytes s.tree t.tree))
