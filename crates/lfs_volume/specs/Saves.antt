-- The session's calls that load a file's bytes, and those that store new ones.
use Rattle.std.specs.Prelude.{ℕ, ◌≡◌, ◌≤◌, ◌-◌, ◌⊎◌, Bool, nat_lt, true, false, if◌then◌else◌, List, [], ◌∷◌, ◌++◌, length, take, drop, None, is_none, Result, Ok, Err}
use Rattle.lfs_device.specs.declared.error.Error.{Error}
use Rattle.lfs_device.specs.declared.error.Error.TheVariants.{NoSpace}
use Rattle.lfs_lookup.specs.RefusalErrors as refusals
use Rattle.lfs_model.specs.format.Disk.{profile_file_max}
use Rattle.lfs_model.specs.format.Thread.{Pair}
use Rattle.lfs_model.specs.tree.Tree.{FileNode, Path, Tree}
use Rattle.lfs_model.specs.tree.View.{IsAccepted}
use Rattle.lfs_model.specs.session.Operations as ops
use Rattle.lfs_model.specs.session.Operations.{FlagsOfOpen, Operation}
use Rattle.lfs_model.specs.session.Session.{DiskSummary, FileWriter, Writing}
use Rattle.lfs_model.specs.session.State.{IsDiskSummary}
use Rattle.lfs_model.specs.session.Refusals.{operation_refusal, path_or_root}
use Rattle.lfs_model.specs.session.TreeEdits.{file_bytes, tree_creating, tree_with_change}
use Rattle.lfs_model.specs.session.Effects.{node_with_bytes}
use Rattle.lfs_tree.specs.TreeState.{visible_tree}
use Rattle.lfs_fs.specs.CallEffects.{IsCall}
use Rattle.lfs_fs.specs.SessionView.{SessionView}
use Rattle.lfs_volume.specs.declared.dirty_range.DirtyRange.{DirtyRange}
use Rattle.lfs_volume.specs.DirtyRanges.{DiffersOnlyWithinRange}
use Rattle.lfs_volume.specs.Opened.{HasOneOpenFile, IsIdleSession, HasRoom, LacksFreeBlocks, blocks_for_save, reading_flags, writing_flags}
use Rattle.lfs_volume.specs.Volume.{idle_session}
use Rattle.lfs_volume.specs.SessionCalls.{AreTreePreservingCalls, IsAcceptedCall, EndsAtErrorOperation, error_result}

-- the bytes of the file in the session's tree
abbrev pub path_bytes_of : SessionView → List ℕ → List ℕ
path_bytes_of h path = file_bytes (visible_tree h.tree (path_or_root path))

-- if the call was refused, the session works, has the same tree, and no file is open
abbrev pub IsIdleIfRefused : Error → SessionView → SessionView → Type 0
IsIdleIfRefused e old new = refusals.is_refusal e ≡ true → IsIdleSession new (visible_tree old.tree)

-- ---- a file is found, or made

-- the tree with a file at the path, which is created if there is none
abbrev pub found_tree : Tree → Path → Tree
found_tree tree p = if is_none (tree p) then tree_creating p (FileNode [] []) tree else tree

-- The session opened the file with these flags, and closed it. The file was there, or was created.
pub record OpensAndClosesFile (old : SessionView) (path : List ℕ) (flags : FlagsOfOpen) (size : ℕ) (new : SessionView) : Type 0 where
  pub around : DiskSummary
  pub pairs : List Pair
  pub accepted : IsAccepted old.tree.disk pairs
  pub surrounds : IsDiskSummary old.tree.disk pairs around
  pub passes : operation_refusal around (idle_session (visible_tree old.tree)) (ops.Open path flags) ≡ None
  pub size_is : size ≡ length (file_bytes (found_tree (visible_tree old.tree) (path_or_root path) (path_or_root path)))
  pub idle : IsIdleSession new (found_tree (visible_tree old.tree) (path_or_root path))
  pub between : SessionView
  pub opens : IsAcceptedCall old (ops.Open path flags) between
  pub closes : IsAcceptedCall between (ops.Close 0) new
  pub kept : visible_tree new.tree ≡ visible_tree between.tree

-- ---- a load

abbrev pub loading_operations : List ℕ → ℕ → List Operation
loading_operations path size = ops.Open path reading_flags ∷ ops.Read 0 size ∷ ops.Close 0 ∷ []

-- The session returned all bytes of the file, and is as idle as before.
pub record IsLoaded (old : SessionView) (path bytes : List ℕ) (new : SessionView) : Type 0 where
  pub is : bytes ≡ path_bytes_of old path
  pub calls : AreTreePreservingCalls old (loading_operations path (length bytes)) new
  pub idle : IsIdleSession new (visible_tree old.tree)

-- ---- a save

-- the bytes in the dirty range
abbrev pub dirty_bytes : DirtyRange → List ℕ → List ℕ
dirty_bytes h bytes = take (h.end - h.from) (drop h.from bytes)

-- opens the file, and moves to the beginning of the dirty range
abbrev pub open_and_seek_operations : List ℕ → ℕ → List Operation
open_and_seek_operations path from = ops.Open path writing_flags ∷ ops.Seek 0 from ∷ []

-- then asks for the used blocks; nothing was written yet
abbrev pub free_block_query_operations : List ℕ → ℕ → List Operation
free_block_query_operations path from = open_and_seek_operations path from ++ ops.UsedCount ∷ []

-- then cuts the file, if it was longer, and writes the dirty range
abbrev pub writing_operations : ℕ → List ℕ → DirtyRange → List Operation
writing_operations stored bytes h = (if nat_lt (length bytes) stored then ops.Truncate 0 (length bytes) ∷ [] else []) ++ ops.Write 0 (dirty_bytes h bytes) ∷ []

abbrev pub saving_operations : ℕ → List ℕ → List ℕ → DirtyRange → List Operation
saving_operations stored path bytes h = free_block_query_operations path h.from ++ writing_operations stored bytes h

-- ---- its parts

-- a writer that has cut the file, or changed nothing
abbrev pub writer_at : Path → List ℕ → ℕ → Bool → FileWriter
writer_at path contents position dirty = record { path = path; contents = contents; position = position; append = false; dirty = dirty; turned = false; last_end = None }

-- the file is open for writing, and its position is `from`
pub record IsOpenedForWriting (old : SessionView) (path : List ℕ) (from fd : ℕ) (new : SessionView) : Type 0 where
  pub number : fd ≡ 0
  pub quiet : AreTreePreservingCalls old (open_and_seek_operations path from) new
  pub opened : HasOneOpenFile new (visible_tree old.tree) (Writing (writer_at (path_or_root path) (path_bytes_of old path) from false))

-- whether there is room for a save of a file of `size` bytes
abbrev pub IsFreeBlocksAnswer : SessionView → ℕ → Result Bool Error → Type 0
IsFreeBlocksAnswer h size (Ok true) = IsAcceptedCall h ops.UsedCount h × HasRoom h (blocks_for_save h.tree.disk size)
IsFreeBlocksAnswer h size (Ok false) = IsAcceptedCall h ops.UsedCount h × LacksFreeBlocks h (blocks_for_save h.tree.disk size)
IsFreeBlocksAnswer h size (Err e) = IsCall h ops.UsedCount (error_result e) h

-- the session works, the writer has the new bytes, and its close stores them in the tree
pub record IsWritten (old : SessionView) (tree : Tree) (path : Path) (stored bytes : List ℕ) (dirty_range : DirtyRange) (new : SessionView) : Type 0 where
  pub quiet : AreTreePreservingCalls old (writing_operations (length stored) bytes dirty_range) new
  pub writer : FileWriter
  pub written : HasOneOpenFile new tree (Writing writer)
  pub at : writer.path ≡ path
  pub contents : writer.contents ≡ bytes
  pub changes : (writer.dirty ≡ true) ⊎ (stored ≡ bytes)

-- what a write of the dirty range requires: the file is open and unchanged, and there is room
pub record CanWriteDirtyRange (h : SessionView) (tree : Tree) (path : Path) (stored bytes : List ℕ) (dirty_range : DirtyRange) : Type 0 where
  pub opened : HasOneOpenFile h tree (Writing (writer_at path stored dirty_range.from false))
  pub room : HasRoom h (blocks_for_save h.tree.disk (length bytes))
  pub small : length bytes ≤ profile_file_max h.tree.disk.profile
  pub differs : DiffersOnlyWithinRange stored bytes dirty_range

-- ---- the whole

-- what a save requires: no file is open, and the stored bytes differ from the new ones in the dirty range alone
pub record CanSave (h : SessionView) (path bytes : List ℕ) (dirty_range : DirtyRange) : Type 0 where
  pub idle : IsIdleSession h (visible_tree h.tree)
  pub small : length bytes ≤ profile_file_max h.tree.disk.profile
  pub differs : DiffersOnlyWithinRange (path_bytes_of h path) bytes dirty_range

-- The file has the new bytes, and the tree changed only at the file's close. There was room when it was asked for.
pub record IsSaved (old : SessionView) (path bytes : List ℕ) (dirty_range : DirtyRange) (new : SessionView) : Type 0 where
  pub asked_at : SessionView
  pub asked : AreTreePreservingCalls old (free_block_query_operations path dirty_range.from) asked_at
  pub room : HasRoom asked_at (blocks_for_save asked_at.tree.disk (length bytes))
  pub at : SessionView
  pub quiet : AreTreePreservingCalls old (saving_operations (length (path_bytes_of old path)) path bytes dirty_range) at
  pub closed : IsAcceptedCall at (ops.Close 0) new
  pub idle : IsIdleSession new (tree_with_change (path_or_root path) (node_with_bytes bytes) (visible_tree old.tree))

-- There was too little room when it was asked for. The tree is as it was.
pub record RefusesSaveNoSpace (old : SessionView) (path bytes : List ℕ) (dirty_range : DirtyRange) (new : SessionView) : Type 0 where
  pub at : SessionView
  pub asked : AreTreePreservingCalls old (free_block_query_operations path dirty_range.from) at
  pub lacks : LacksFreeBlocks at (blocks_for_save at.tree.disk (length bytes))
  pub closed : IsAcceptedCall at (ops.Close 0) new
  pub idle : IsIdleSession new (visible_tree old.tree)

-- How a save is refused: there is too little room, or the session refuses the open.
abbrev pub IsSaveRefused : Error → SessionView → List ℕ → List ℕ → DirtyRange → SessionView → Type 0
IsSaveRefused e old path bytes dirty_range new = refusals.is_refusal e ≡ true →
    ((e ≡ NoSpace) × RefusesSaveNoSpace old path bytes dirty_range new)
    ⊎ IsCall old (ops.Open path writing_flags) (error_result e) new

-- How a save ends in an error: there is too little room, or an operation ended in that error (the open was refused, or the session
-- failed).
abbrev pub FailsSave : Error → SessionView → List ℕ → List ℕ → DirtyRange → SessionView → Type 0
FailsSave e old path bytes dirty_range new =
    ((e ≡ NoSpace) × RefusesSaveNoSpace old path bytes dirty_range new)
    ⊎ EndsAtErrorOperation e old (saving_operations (length (path_bytes_of old path)) path bytes dirty_range ++ ops.Close 0 ∷ []) new
