-- The results of commits and splits: the global state, the tail before a dropped pair, and the
-- pairs that a recovery drops.
use Rattle.std.specs.Prelude.{ℕ, suc, ◌≡◌, ◌⊎◌, ◌<◌, ◌+◌, ◌-◌, ◌&&◌, if◌then◌else◌, nat_lt, Bool, false, List, [], ◌∷◌, drop, length, Option, Some, None}
use Rattle.lfs_model.specs.format.Slots.{Gstate, Tail, set_move_kind, zero_gstate}
use Rattle.lfs_model.specs.format.Thread.{Pair, count_before_root, is_hard_tail, pairs_from_root}
use Rattle.lfs_model.specs.session.InDirectory.{joined_pair_count}
use Rattle.lfs_model.specs.session.Layout.{continued_directory_address, directory_address}
use Rattle.lfs_model.specs.tree.Shown.{IsReachedDirectory}

-- ---- the global state

-- The global state with the sync bit `sync` and a pending move of slot `id` of the pair at `at`.
abbrev pub gstate_with_move : Bool → ℕ × ℕ → ℕ → Gstate
gstate_with_move sync at id = record { sync = sync; kind = set_move_kind; id = id; pair = at }

-- The global state with its sync bit cleared.
abbrev pub gstate_without_sync : Gstate → Gstate
gstate_without_sync g = record g { sync = false }

-- The global state without its move. Only the sync bit is kept.
abbrev pub gstate_without_move : Gstate → Gstate
gstate_without_move g = record zero_gstate { sync = g.sync }

-- ---- a dropped pair

-- The new tail of the pair before a dropped one, from its old tail `front` and the tail of the
-- dropped pair. It is hard only if both are hard; otherwise, the pair after the dropped one would
-- continue another directory.
abbrev pub predecessor_tail_after_drop : Option Tail → Option Tail → Option Tail
predecessor_tail_after_drop front None = None
predecessor_tail_after_drop front (Some t) = Some (record { hard = is_hard_tail front && t.hard; to = t.to })

-- The index in the thread of the pair that had the index `pair`, after the pair with the index
-- `other` was dropped.
abbrev pub pair_index_after_drop : ℕ → ℕ → ℕ
pair_index_after_drop other pair = if nat_lt other pair then pair - 1 else pair

-- ---- unreached pairs

-- The list `numbers` has, in ascending order, the indices of the pairs whose directory's address
-- doesn't have the property `R`. The first pair has the index `n`. If a hard tail leads to the
-- first pair, `from` is the address of its directory.
abbrev pub AreUnreachedFrom : (ℕ × ℕ → Type 0) → ℕ → Option (ℕ × ℕ) → List Pair → List ℕ → Type 0
AreUnreachedFrom R n from [] numbers = numbers ≡ []
AreUnreachedFrom R n from (x ∷ xs) numbers = (R (directory_address from x) × AreUnreachedFrom R (suc n) (continued_directory_address from x) xs numbers)
    ⊎ ((rest : List ℕ) × ((numbers ≡ n ∷ rest) × ((R (directory_address from x) → ⊥) × AreUnreachedFrom R (suc n) (continued_directory_address from x) xs rest)))

-- The list `numbers` has, in ascending order, the indices in the thread of all pairs whose
-- directory no path leads to.
abbrev pub AreUnreachedNumbers : List Pair → List ℕ → Type 0
AreUnreachedNumbers ps numbers = AreUnreachedFrom (IsReachedDirectory ps) (count_before_root ps) None (pairs_from_root ps) numbers

-- ---- the last pair of a directory

-- Hard tails lead from the pair with the index `index` to the one with the index `last`, whose tail
-- isn't hard.
pub record IsDirectoryEnd (ps : List Pair) (index last : ℕ) : Type 0 where
  pub below : last < length ps
  pub is : last + 1 ≡ index + joined_pair_count (drop index ps)
