-- A log in a file.
use Rattle.std.specs.Prelude.{ℕ, ◌≡◌, ◌⊎◌, List, [], ◌∷◌, ◌++◌, codes}
use Rattle.lfs_model.specs.format.Disk.{Disk}
use Rattle.lfs_model.specs.tree.Tree.{Path, Tree}
use Rattle.lfs_model.specs.session.TreeEdits.{file_bytes}
use Rattle.lfs_model.specs.session.History.{AllCallsSince}
use Rattle.lfs_model.specs.session.Session.{Session}
use Rattle.lfs_model.specs.session.State.{Healthy}
use Rattle.lfs_model.specs.session.Run.{SystemState}
use Rattle.lfs_model.specs.crash.Stops.{ErasesCleanly}
use Rattle.lfs_model.specs.crash.RepeatedPowerLoss.{IsJustMounted, SameBytes, LeftBetween}
use Rattle.lfs_fs.specs.Starts.{IsReachableByCalls}
use Rattle.saved_files.specs.Working.{LossLeavesTreeWith, KeepsWorkingBetween}

abbrev pub log_path : Path
log_path = codes "log" ∷ []

-- the bytes of the log; none if there is no file
abbrev pub log_in : Tree → List ℕ
log_in tree = file_bytes (tree log_path)

-- These bytes are appended between these states, or the append fails. If power is lost anywhere in it, the next start finds the
-- old log, or the old log followed by these bytes.
pub record IsCrashSafeAppend (from : SystemState) (bytes : List ℕ) (to : SystemState) : Type 0 where
  pub survives : (s : Session) → from.state ≡ Healthy s → LossLeavesTreeWith (λ tree. (log_in tree ≡ log_in s.tree) ⊎ (log_in tree ≡ log_in s.tree ++ bytes)) from to
  pub lived : IsReachableByCalls from to

-- these bytes are appended, without an error
pub record IsCompletedAppend (from : SystemState) (bytes : List ℕ) (to : SystemState) : Type 0 where
  pub append : IsCrashSafeAppend from bytes to
  pub works : KeepsWorkingBetween from to
  pub has : (s : Session) → from.state ≡ Healthy s → (t : Session) × ((to.state ≡ Healthy t) × (log_in t.tree ≡ log_in s.tree ++ bytes))

-- ---- one append after another

-- a session appends these, at least one, one after another; the last append may end in an error
abbrev pub AreSequentialAppends : SystemState → List (List ℕ) → SystemState → Type 0
AreSequentialAppends from [] to = ⊥
AreSequentialAppends from (bytes ∷ []) to = IsCrashSafeAppend from bytes to
AreSequentialAppends from (bytes ∷ next ∷ more) to = (middle : SystemState) × (IsCompletedAppend from bytes middle × AreSequentialAppends middle (next ∷ more) to)

-- the log is the old one, followed by the first few of these entries, or none, or all of them
abbrev pub HasPrefixOfEntries : List ℕ → List (List ℕ) → List ℕ → Type 0
HasPrefixOfEntries old [] log = log ≡ old
HasPrefixOfEntries old (bytes ∷ more) log = (log ≡ old) ⊎ HasPrefixOfEntries (old ++ bytes) more log

-- ---- any number of losses

-- A session mounted the disk, and appended these. Then power was lost, and another disk was left.
pub record AreInterruptedAppends (disk : Disk) (entries : List (List ℕ)) (left : Disk) : Type 0 where
  pub begin : SystemState
  pub same : SameBytes disk begin.disk
  pub mounts : IsJustMounted begin.disk begin
  pub to : SystemState
  pub appends : AreSequentialAppends begin entries to
  pub cleanly : AllCallsSince ErasesCleanly begin.calls to.calls
  pub stop : LeftBetween begin to left

-- one such session after another, each on the disk that the one before left
abbrev pub AreInterruptedSessions : Disk → List (List (List ℕ)) → Disk → Type 0
AreInterruptedSessions disk [] left = left ≡ disk
AreInterruptedSessions disk (entries ∷ sessions) left = (next : Disk) × (AreInterruptedAppends disk entries next × AreInterruptedSessions next sessions left)

-- the log is the old one, followed by the first entries of each session
abbrev pub HasPrefixPerSession : List ℕ → List (List (List ℕ)) → List ℕ → Type 0
HasPrefixPerSession old [] log = log ≡ old
HasPrefixPerSession old (entries ∷ sessions) log = (kept : List ℕ) × (HasPrefixOfEntries old entries kept × HasPrefixPerSession kept sessions log)
