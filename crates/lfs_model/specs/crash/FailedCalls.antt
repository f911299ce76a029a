-- What failed calls leave: the same as power losses in them may leave.
use Rattle.std.specs.Prelude.{◌≡◌, true, List, [], ◌∷◌}
use Rattle.lfs_model.specs.format.Blocks.{Blocks}
use Rattle.lfs_model.specs.session.History.{CallEvent, AllCallsSince}
use Rattle.lfs_model.specs.crash.PowerLoss.{FailsLikeLoss}

-- Each failed call since the history `old` left a disk that a power loss in it might have left.
abbrev pub FailLikeLossSince : List CallEvent → List CallEvent → Type 0
FailLikeLossSince old new = AllCallsSince FailsLikeLoss old new

-- A power loss in the newest call may leave the blocks `disk`. The relation `stops` holds if a
-- power loss in a call may leave a disk.
abbrev pub LeftByLatestLoss : (CallEvent → Blocks → Type 0) → List CallEvent → Blocks → Type 0
LeftByLatestLoss stops [] disk = ⊥
LeftByLatestLoss stops (e ∷ older) disk = stops e disk

-- The newest call failed, and left the blocks `disk`.
abbrev pub LeftByFailure : List CallEvent → Blocks → Type 0
LeftByFailure [] disk = ⊥
LeftByFailure (e ∷ older) disk = (e.failed ≡ true) × (e.after ≡ disk)
