-- Which blocks are used and which are in flight, as one state for each block.
use Rattle.std.specs.Prelude.{◌≡◌, ◌↔◌, ℕ, Bool, true, false, List, Some, Contains, count_by, slice_get}

-- The state of a block. A block in flight is allocated, and no commit has made it used yet.
pub data BlockState : Type 0 where
  Free : BlockState
  InFlight : BlockState
  Used : BlockState

-- The state of each block, by its address.
abbrev pub BlockStates : Type 0
BlockStates = List BlockState

abbrev pub IsFree : BlockStates → ℕ → Type 0
IsFree sets b = slice_get sets b ≡ Some Free

abbrev pub IsInFlight : BlockStates → ℕ → Type 0
IsInFlight sets b = slice_get sets b ≡ Some InFlight

abbrev pub IsUsedBlock : BlockStates → ℕ → Type 0
IsUsedBlock sets b = slice_get sets b ≡ Some Used

abbrev pub state_in_flight : BlockState → Bool
state_in_flight Free = false
state_in_flight InFlight = true
state_in_flight Used = false

abbrev pub is_used : BlockState → Bool
is_used Free = false
is_used InFlight = false
is_used Used = true

abbrev pub in_flight_count : BlockStates → ℕ
in_flight_count sets = count_by state_in_flight sets

abbrev pub used_count : BlockStates → ℕ
used_count sets = count_by is_used sets

-- The blocks in flight are exactly those in `bs`.
abbrev pub AreInFlight : BlockStates → List ℕ → Type 0
AreInFlight sets bs = (b : ℕ) → IsInFlight sets b ↔ Contains bs b

-- The used blocks are exactly those in `bs`.
abbrev pub AreUsed : BlockStates → List ℕ → Type 0
AreUsed sets bs = (b : ℕ) → IsUsedBlock sets b ↔ Contains bs b
