-- The global state of a thread, computed from its headers, and the move that it sets.
use Rattle.std.specs.Prelude.{ℕ, ◌≡◌, ◌==◌, ◌&&◌, ◌||◌, Bool, false, List, [], ◌∷◌, ◌++◌, length, map, slice_get, Option, Some, None}
use Rattle.std.specs.List.{AllByRecursion, fold}
use Rattle.lfs_model.specs.format.Slots.{Gstate, Slot, gstate_xor, zero_gstate, same_pair}
use Rattle.lfs_model.specs.format.Thread.{Pair, pairs_gstate, count_before_root, moved_id}
use Rattle.lfs_model.specs.tree.View.{IsFileOrDirectory}
use Rattle.lfs_tag.specs.FieldsView.{move_view}
use Rattle.lfs_pair.specs.Pair.{header_address}
use Rattle.lfs_thread.specs.Kept.{PairHeader}

-- the XOR of all pairs' deltas
abbrev pub gstate_of_headers : List PairHeader → Gstate
gstate_of_headers headers = fold gstate_xor zero_gstate (map (λ h. move_view h.move_state) headers)

-- whether one of these addresses has the same two blocks
abbrev pub is_among_addresses : ℕ × ℕ → List (ℕ × ℕ) → Bool
is_among_addresses pair [] = false
is_among_addresses pair (at ∷ ats) = same_pair pair at || is_among_addresses pair ats

-- whether no move is set, or one of a slot in one of the pairs at these addresses
abbrev pub is_move_within_pairs : Gstate → List (ℕ × ℕ) → Bool
is_move_within_pairs g ats = (g.kind == 0 && g.id == 0 && (g.pair.0 == 0 && g.pair.1 == 0)) || (g.kind == 0x4ff && is_among_addresses g.pair ats)

-- these are the headers of the directories' pairs in a thread with that global state
pub record HeadersHaveGstate (g : Gstate) (headers : List PairHeader) (chain : List Pair) (p : Pair) (rest : List Pair) : Type 0 where
  pub at : map (λ q. q.at) (p ∷ rest) ≡ map header_address headers
  pub global : pairs_gstate (chain ++ p ∷ rest) ≡ g
  pub chain_is : count_before_root (chain ++ p ∷ rest) ≡ length chain

abbrev pub MovedSlotIsEntry : Option ℕ → List Slot → Type 0
MovedSlotIsEntry None slots = Unit {0}
MovedSlotIsEntry (Some id) slots = (t : Slot) × ((slice_get slots id ≡ Some t) × IsFileOrDirectory t)

-- the slot that a set move names is an entry of its pair
abbrev pub MoveSourceIsEntry : Gstate → List Pair → Type 0
MoveSourceIsEntry g ps = AllByRecursion (λ p. MovedSlotIsEntry (moved_id g p) p.content.slots) ps
