-- A counter in a file.
use Rattle.std.specs.Prelude.{ℕ, ◌≡◌, ◌⊎◌, ◌+◌, List, [], ◌∷◌, codes}
use Rattle.std.specs.Int.{w32, from_le_bytes}
use Rattle.lfs_model.specs.tree.Tree.{Path, Tree}
use Rattle.lfs_model.specs.session.TreeEdits.{file_bytes}
use Rattle.lfs_model.specs.session.Session.{Session}
use Rattle.lfs_model.specs.session.State.{Healthy}
use Rattle.lfs_model.specs.session.Run.{SystemState}
use Rattle.saved_files.specs.Working.{LossLeavesTreeWith}

abbrev pub counter_path : Path
counter_path = codes "counter" ∷ []

-- the number in the first four bytes, the lowest byte first; 0 if there are fewer
abbrev pub number_of : List ℕ → ℕ
number_of (a ∷ b ∷ c ∷ d ∷ more) = from_le_bytes w32 (a ∷ b ∷ c ∷ d ∷ [])
number_of _ = 0

-- 0 if there is no file
abbrev pub counter_in : Tree → ℕ
counter_in tree = number_of (file_bytes (tree counter_path))

-- if power is lost anywhere between these states, the next start finds the old number, or the next one
abbrev pub IncrementSurvivesPowerLoss : SystemState → SystemState → Type 0
IncrementSurvivesPowerLoss from to = (s : Session) → from.state ≡ Healthy s → LossLeavesTreeWith (λ tree. (counter_in tree ≡ counter_in s.tree) ⊎ (counter_in tree ≡ counter_in s.tree + 1)) from to

-- if power is lost anywhere between these states, the next start finds the old number
abbrev pub CounterReadSurvivesLoss : SystemState → SystemState → Type 0
CounterReadSurvivesLoss from to = (s : Session) → from.state ≡ Healthy s → LossLeavesTreeWith (λ tree. counter_in tree ≡ counter_in s.tree) from to

-- the session works on, with this number as before
abbrev pub ReadsCounterAs : ℕ → SystemState → SystemState → Type 0
ReadsCounterAs number from to = (s : Session) → from.state ≡ Healthy s → (number ≡ counter_in s.tree) × ((t : Session) × ((to.state ≡ Healthy t) × (counter_in t.tree ≡ number)))

-- the session works on, with the number after the old one
abbrev pub IncrementsCounterTo : ℕ → SystemState → SystemState → Type 0
IncrementsCounterTo number from to = (s : Session) → from.state ≡ Healthy s → (number ≡ counter_in s.tree + 1) × ((t : Session) × ((to.state ≡ Healthy t) × (counter_in t.tree ≡ number)))

-- if power is lost anywhere between these states, the next start finds the old number, or this one
abbrev pub SetCounterSurvivesLoss : SystemState → ℕ → SystemState → Type 0
SetCounterSurvivesLoss from number to = (s : Session) → from.state ≡ Healthy s → LossLeavesTreeWith (λ tree. (counter_in tree ≡ counter_in s.tree) ⊎ (counter_in tree ≡ number)) from to

-- the session works on, with this number
abbrev pub SetsCounterTo : ℕ → SystemState → SystemState → Type 0
SetsCounterTo number from to = (s : Session) → from.state ≡ Healthy s → (t : Session) × ((to.state ≡ Healthy t) × (counter_in t.tree ≡ number))
