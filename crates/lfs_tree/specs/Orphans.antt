-- Marks of the pairs that a path leads to.
use Rattle.std.specs.Prelude.{ℕ, ◌≡◌, ◌⊎◌, ◌+◌, ◌≤◌, Bool, true, if◌then◌else◌, List, [], ◌∷◌, length, slice_get, Some, Contains}
use Rattle.std.specs.List.{AllByRecursion}
use Rattle.lfs_model.specs.session.InDirectory.{IsPairAt}
use Rattle.lfs_model.specs.format.Slots.{Struct, Inline, Ctz, Branch}
use Rattle.lfs_model.specs.format.Thread.{Pair}
use Rattle.lfs_model.specs.tree.Shown.{IsReachedDirectory}
use Rattle.lfs_model.specs.layers.Steps.{HoldsForSome}
use Rattle.lfs_lookup.specs.Items.{NamedStruct}
use Rattle.lfs_lookup.specs.TreeWalk.{HasFirstPairIfDirectory}

abbrev pub IsMarkedReached : List Bool → ℕ → Type 0
IsMarkedReached marks n = slice_get marks n ≡ Some true

-- how many marks aren't set
abbrev pub unmarked_count : List Bool → ℕ
unmarked_count [] = 0
unmarked_count (b ∷ marks) = (if b then 0 else 1) + unmarked_count marks

-- the pair of this index is the first one of the directory that the struct names
abbrev pub IsFirstPairOfStruct : List Pair → Struct → ℕ → Type 0
IsFirstPairOfStruct ps (Branch to) n = IsPairAt ps to n
IsFirstPairOfStruct ps (Inline bytes) n = ⊥
IsFirstPairOfStruct ps (Ctz head size) n = ⊥

abbrev pub IsFirstPairOfNamed : List Pair → List NamedStruct → ℕ → Type 0
IsFirstPairOfNamed ps shapes n = HoldsForSome (λ (s : NamedStruct). IsFirstPairOfStruct ps s.struct n) shapes

-- the named directories begin with pairs of the thread
abbrev pub DirectoriesBegin : List Pair → List NamedStruct → Type 0
DirectoriesBegin ps shapes = AllByRecursion (λ (s : NamedStruct). HasFirstPairIfDirectory ps s.struct) shapes

-- The pair indices that meet `P` are marked now, and those of them that weren't marked before are queued in `pending`.
pub record MarksAndQueues (P : ℕ → Type 0) (old : List Bool) (waiting : List ℕ) (new : List Bool) (pending : List ℕ) : Type 0 where
  pub len : length new ≡ length old
  pub stay : (n : ℕ) → IsMarkedReached old n → IsMarkedReached new n
  pub marked : (n : ℕ) → P n → IsMarkedReached new n
  pub from : (n : ℕ) → IsMarkedReached new n → IsMarkedReached old n ⊎ (P n × Contains pending n)
  pub kept : (n : ℕ) → Contains waiting n → Contains pending n
  pub pend : (n : ℕ) → Contains pending n → Contains waiting n ⊎ IsMarkedReached new n
  pub less : unmarked_count new + length pending ≤ unmarked_count old + length waiting

-- a pair is marked exactly if it is the first one of a directory that a path leads to
pub record AreReachedMarked (ps : List Pair) (marks : List Bool) : Type 0 where
  pub len : length marks ≡ length ps
  pub marked : (n : ℕ) (p : Pair) → slice_get ps n ≡ Some p → IsReachedDirectory ps p.at → IsMarkedReached marks n
  pub reached : (n : ℕ) (p : Pair) → slice_get ps n ≡ Some p → IsMarkedReached marks n → IsReachedDirectory ps p.at
