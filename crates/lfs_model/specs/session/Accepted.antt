-- The effect of an operation that wasn't refused.
use Rattle.std.specs.Prelude.{ℕ, ◌≡◌, true, false, if◌then◌else◌, List, Some, None, is_none}
use Rattle.lfs_model.specs.format.Thread.{Pair}
use Rattle.lfs_model.specs.tree.View.{IsAccepted}
use Rattle.lfs_model.specs.session.Operations.{FlagsOfOpen, Operation, Reply}
use Rattle.lfs_model.specs.session.Session.{Session, DiskSummary, Reading, Writing, file_numbered}
use Rattle.lfs_model.specs.session.Effects.{open_effect, operation_effect}
use Rattle.lfs_model.specs.session.Refusals.{operation_refusal, path_or_root}
use Rattle.lfs_model.specs.session.State.{IsDiskSummary, Healthy}
use Rattle.lfs_model.specs.session.TreeEdits.{file_bytes, is_directory}
use Rattle.lfs_model.specs.session.Writers.{opened_writer}
use Rattle.lfs_model.specs.session.Run.{SystemState}

-- The operation passed its checks against the disk, and the reply and the session after it are its
-- effect.
pub record IsAcceptedStep (from : SystemState) (s : Session) (op : Operation) (reply : Reply) (to : SystemState) : Type 0 where
  pub around : DiskSummary
  pub surrounds : (ps : List Pair) × (IsAccepted from.disk ps × IsDiskSummary from.disk ps around)
  pub passed : operation_refusal around s op ≡ None
  pub replied : reply ≡ (operation_effect around s op).0
  pub after : to.state ≡ Healthy (operation_effect around s op).1

-- The open wasn't refused: there is no directory at the path, a file was created if there was none,
-- and the file is open under the number `fd`.
pub record IsAcceptedOpen (s : Session) (path : List ℕ) (flags : FlagsOfOpen) (fd : ℕ) : Type 0 where
  pub no_directory : is_directory (s.tree (path_or_root path)) ≡ false
  pub made : is_none (s.tree (path_or_root path)) ≡ true → flags.create ≡ true
  pub file : file_numbered (open_effect s (path_or_root path) flags).1.files fd
      ≡ Some (if flags.write then Writing (opened_writer (path_or_root path) flags (file_bytes (s.tree (path_or_root path)))) else Reading (record { path = path_or_root path; position = 0 }))
