-- The search for directories from the root, in which a directory is a number.
use Rattle.std.specs.Prelude.{ℕ, zero, suc, ◌≡◌, ◌<◌, ◌&&◌, Bool, true, false, List, [], ◌∷◌, ◌++◌, length, All, Option, Some, None, slice_get, nat_eq}
use Rattle.std.specs.List.{IsDistinct}
use Rattle.std.specs.Option.{option_map_or}

-- A directory by itself: whether its names are sorted (`rises`), whether each of its subdirectories is in the graph (`leads`),
-- and their numbers. It is sound if both are true.
pub record Vertex : Type 0 where
  pub rises : Bool
  pub leads : Bool
  pub branches : List ℕ

-- the root is the first vertex
abbrev pub DirectoryGraph : Type 0
DirectoryGraph = List Vertex

abbrev pub subdirectories_at : DirectoryGraph → ℕ → List ℕ
subdirectories_at graph v = option_map_or (λ x. x.branches) (slice_get graph v) []

abbrev pub is_valid_vertex : DirectoryGraph → ℕ → Bool
is_valid_vertex graph v = option_map_or (λ x. x.rises && x.leads) (slice_get graph v) false

abbrev pub subdirectories_if_any : DirectoryGraph → Option ℕ → List ℕ
subdirectories_if_any graph None = []
subdirectories_if_any graph (Some v) = subdirectories_at graph v

-- the directories found so far, and the subdirectories of the one at list index k
abbrev pub visited_with_subdirectories : DirectoryGraph → ℕ → List ℕ → List ℕ
visited_with_subdirectories graph k found = found ++ subdirectories_if_any graph (slice_get found k)

-- the directories found from the root, in the order in which they are found, once the subdirectories of the first k are added
abbrev pub visited_vertices : DirectoryGraph → ℕ → List ℕ
visited_vertices graph zero = 0 ∷ []
visited_vertices graph (suc k) = visited_with_subdirectories graph k (visited_vertices graph k)

-- The search has ended: the subdirectories of each directory found were added, each is sound, and none was found twice.
pub record IsValidCompletedSearch (graph : DirectoryGraph) (k : ℕ) : Type 0 where
  pub all : length (visited_vertices graph k) ≡ k
  pub distinct : IsDistinct nat_eq (visited_vertices graph k)
  pub sound : All (λ v. is_valid_vertex graph v ≡ true) (visited_vertices graph k)

-- the marks are those of the directories that were found, each once
pub record AreVisitedMarks (marks : List Bool) (found : List ℕ) : Type 0 where
  pub distinct : IsDistinct nat_eq found
  pub all : (i v : ℕ) → slice_get found i ≡ Some v → slice_get marks v ≡ Some true
  pub only : (v : ℕ) → slice_get marks v ≡ Some true → (i : ℕ) × (slice_get found i ≡ Some v)

-- the number occurs at two indices of the list
pub record OccursTwice (xs : List ℕ) (x : ℕ) : Type 0 where
  pub i : ℕ
  pub j : ℕ
  pub apart : i < j
  pub one : slice_get xs i ≡ Some x
  pub other : slice_get xs j ≡ Some x

-- these directories are found as well, each for the first time
pub record VisitsNewDirectories (marks : List Bool) (found branches : List ℕ) (new_marks : List Bool) (new_found : List ℕ) : Type 0 where
  pub found_is : new_found ≡ found ++ branches
  pub marked : AreVisitedMarks new_marks new_found
  pub len : length new_marks ≡ length marks

-- The marks are those of the directories that the search has found when it has ended.
pub record AreReachedMarks (graph : DirectoryGraph) (marks : List Bool) : Type 0 where
  pub steps : ℕ
  pub finished : IsValidCompletedSearch graph steps
  pub marked : AreVisitedMarks marks (visited_vertices graph steps)
  pub len : length marks ≡ length graph
