-- A list of pairs' addresses, and the list index of one.
use Rattle.std.specs.Prelude.{ℕ, suc, ◌≡◌, ◌<◌, ◌^◌, true, if◌then◌else◌, min, max, All, List, [], ◌∷◌, Option, Some, None, slice_get}
use Rattle.std.specs.List.{flat_map}
use Rattle.std.specs.Option.{option_map}
use Rattle.lfs_model.specs.format.Slots.{same_pair}

-- the blocks of the pairs at these addresses
abbrev pub blocks_of_addresses : List (ℕ × ℕ) → List ℕ
blocks_of_addresses addresses = flat_map (λ at. at.0 ∷ at.1 ∷ []) addresses

-- the list index of the first address with the same two blocks
abbrev pub address_index : List (ℕ × ℕ) → ℕ × ℕ → Option ℕ
address_index [] at = None
address_index (a ∷ addresses) at = if same_pair a at then Some 0 else option_map (λ i. suc i) (address_index addresses at)

-- the address at this list index has the same two blocks
pub record SameAddressAt (addresses : List (ℕ × ℕ)) (at : ℕ × ℕ) (place : ℕ) : Type 0 where
  pub address : ℕ × ℕ
  pub there : slice_get addresses place ≡ Some address
  pub same : same_pair address at ≡ true

-- ---- found by the lesser block

abbrev pub lesser_of : ℕ × ℕ → ℕ
lesser_of at = min at.0 at.1

abbrev pub greater_of : ℕ × ℕ → ℕ
greater_of at = max at.0 at.1

-- Each address is found by its lesser block, a number of 32 bits. No other block finds one.
pub record FindsByLesser (addresses : List (ℕ × ℕ)) (place : ℕ → Option ℕ) : Type 0 where
  pub each : (i : ℕ) (at : ℕ × ℕ) → slice_get addresses i ≡ Some at → place (lesser_of at) ≡ Some i
  pub only : (b i : ℕ) → place b ≡ Some i → option_map lesser_of (slice_get addresses i) ≡ Some b
  pub small : All (λ at. lesser_of at < 2 ^ 32) addresses
