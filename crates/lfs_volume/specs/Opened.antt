-- A session between the calls of a volume, and one with the single file that a call of a volume opens.
use Rattle.std.specs.Prelude.{ℕ, ◌≡◌, ◌+◌, ◌≤◌, ◌⊎◌, true, false, List, [], ◌∷◌, length, Some, None, is_none}
use Rattle.lfs_model.specs.format.Disk.{Disk, block_count}
use Rattle.lfs_model.specs.format.Thread.{Pair}
use Rattle.lfs_model.specs.tree.Tree.{Tree}
use Rattle.lfs_model.specs.tree.View.{IsAccepted}
use Rattle.lfs_model.specs.tree.Shown.{used_blocks}
use Rattle.lfs_model.specs.session.Operations.{FlagsOfOpen, parse_path}
use Rattle.lfs_model.specs.session.Refusals.{path_or_root}
use Rattle.lfs_model.specs.session.Session.{OpenFile, OpenFilesByNumber, Session, file_block_count, parents_refusal}
use Rattle.lfs_model.specs.session.TreeEdits.{is_file}
use Rattle.lfs_tree.specs.TreeState.{visible_tree}
use Rattle.lfs_fs.specs.SessionView.{SessionView, viewed_session}

-- no file is open in the session: none was, or the one that was is closed
abbrev pub HasNoOpenFiles : OpenFilesByNumber → Type 0
HasNoOpenFiles files = (files ≡ []) ⊎ (files ≡ None ∷ [])

-- The session works, has this tree, and no file is open in it.
pub record IsIdleSession (h : SessionView) (tree : Tree) : Type 0 where
  pub works : h.tree.failed ≡ false
  pub shows : visible_tree h.tree ≡ tree
  pub files : HasNoOpenFiles h.files

abbrev pub session_with_file : Tree → OpenFile → Session
session_with_file tree file = record { tree = tree; files = Some file ∷ [] }

-- The session works, has this tree, and one file is open in it, with the number 0.
pub record HasOneOpenFile (h : SessionView) (tree : Tree) (file : OpenFile) : Type 0 where
  pub works : h.tree.failed ≡ false
  pub is : viewed_session h ≡ session_with_file tree file

-- the flags with which the volume opens a file in the session
abbrev pub reading_flags : FlagsOfOpen
reading_flags = record { read = true; write = false; create = false; exclusive = false; truncate = false; append = false; unknown = false }

abbrev pub writing_flags : FlagsOfOpen
writing_flags = record { read = false; write = true; create = false; exclusive = false; truncate = false; append = false; unknown = false }

-- A path leads to a file of the tree, so an open for reading isn't refused.
pub record LeadsToFile (tree : Tree) (path : List ℕ) : Type 0 where
  pub given : is_none (parse_path path) ≡ false
  pub parents : parents_refusal tree [] (path_or_root path) ≡ None
  pub file : is_file (tree (path_or_root path)) ≡ true

-- ---- room

-- the free blocks that a save of a file of `size` bytes needs: two, and those of its list, as for a writer that isn't turned
abbrev pub blocks_for_save : Disk → ℕ → ℕ
blocks_for_save disk size = 2 + file_block_count disk.profile disk.block_size size

-- at least `need` blocks of the disk aren't used
abbrev pub HasRoom : SessionView → ℕ → Type 0
HasRoom h need = (ps : List Pair) → IsAccepted h.tree.disk ps → length (used_blocks h.tree.disk ps) + need ≤ block_count h.tree.disk

abbrev pub LacksFreeBlocks : SessionView → ℕ → Type 0
LacksFreeBlocks h need = (ps : List Pair) → IsAccepted h.tree.disk ps → length (used_blocks h.tree.disk ps) + need ≤ block_count h.tree.disk → ⊥
