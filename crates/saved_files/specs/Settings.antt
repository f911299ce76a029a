-- Settings in a file.
use Rattle.std.specs.Prelude.{ℕ, ◌≡◌, ◌⊎◌, List, [], ◌∷◌, Option, Some, None, codes}
use Rattle.lfs_model.specs.tree.Tree.{Path, Tree}
use Rattle.lfs_model.specs.tree.Fresh.{IsFreshDisk}
use Rattle.lfs_model.specs.format.Disk.{Disk}
use Rattle.lfs_model.specs.session.History.{AllCallsSince}
use Rattle.lfs_model.specs.session.Session.{Session}
use Rattle.lfs_model.specs.session.State.{Healthy}
use Rattle.lfs_model.specs.session.Run.{SystemState}
use Rattle.lfs_model.specs.crash.Stops.{ErasesCleanly}
use Rattle.lfs_model.specs.crash.RepeatedPowerLoss.{IsJustMounted, SameBytes, LeftBetween}
use Rattle.lfs_model.specs.crash.LifeTrees.{HasWritableDiskTree, HasMountableTree}
use Rattle.saved_files.specs.Working.{LossLeavesTreeWith}
use Rattle.saved_files.specs.Writing.{bytes_if_file}

abbrev pub settings_path : Path
settings_path = codes "settings" ∷ []

abbrev pub settings_in : Tree → Option (List ℕ)
settings_in tree = bytes_if_file (tree settings_path)

-- the settings are the old ones or these
abbrev pub IsEither : Option (List ℕ) → List ℕ → Option (List ℕ) → Type 0
IsEither old bytes is = (is ≡ old) ⊎ (is ≡ Some bytes)

-- If power is lost anywhere between these states of a session, which saves these bytes, the next start finds the old settings or
-- these.
abbrev pub SaveSurvivesPowerLoss : SystemState → List ℕ → SystemState → Type 0
SaveSurvivesPowerLoss from bytes to = (s : Session) → from.state ≡ Healthy s → LossLeavesTreeWith (λ tree. IsEither (settings_in s.tree) bytes (settings_in tree)) from to

-- the session works on, with these settings
abbrev pub SavesSettings : SystemState → List ℕ → SystemState → Type 0
SavesSettings from bytes to = (s : Session) → from.state ≡ Healthy s → (t : Session) × ((to.state ≡ Healthy t) × (settings_in t.tree ≡ Some bytes))

-- The session saves these bytes, and power may be lost in it. The next session finds the old settings or these.
abbrev pub FindsEitherSettings : SystemState → List ℕ → SystemState → Type 0
FindsEitherSettings from bytes next = (s t : Session) → from.state ≡ Healthy s → HasWritableDiskTree from → next.state ≡ Healthy t → IsEither (settings_in s.tree) bytes (settings_in t.tree)

-- ---- any number of losses

-- A session mounted the disk and saved these bytes. Then power was lost, and another disk was left.
pub record IsInterruptedSave (disk : Disk) (bytes : List ℕ) (left : Disk) : Type 0 where
  pub begin : SystemState
  pub same : SameBytes disk begin.disk
  pub mounts : IsJustMounted begin.disk begin
  pub to : SystemState
  pub survives : SaveSurvivesPowerLoss begin bytes to
  pub cleanly : AllCallsSince ErasesCleanly begin.calls to.calls
  pub stop : LeftBetween begin to left

-- one save after another, each on the disk that the one before left
abbrev pub AreInterruptedSaves : Disk → List (List ℕ) → Disk → Type 0
AreInterruptedSaves disk [] left = left ≡ disk
AreInterruptedSaves disk (bytes ∷ saves) left = (next : Disk) × (IsInterruptedSave disk bytes next × AreInterruptedSaves next saves left)

-- the settings are one of these
abbrev pub IsOneOfSettings : List (List ℕ) → Option (List ℕ) → Type 0
IsOneOfSettings [] is = ⊥
IsOneOfSettings (bytes ∷ saves) is = (is ≡ Some bytes) ⊎ IsOneOfSettings saves is

-- The session began on a fresh disk. If power was lost at any moment since, the next start finds no settings, or these.
abbrev pub FirstSaveSurvivesLoss : List ℕ → SystemState → Type 0
FirstSaveSurvivesLoss bytes to = (from : SystemState) × (IsFreshDisk from.disk × ((left : Disk) → LeftBetween from to left → HasMountableTree (λ tree. IsEither None bytes (settings_in tree)) left))
