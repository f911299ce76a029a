-- The blocks that two lists share.
use Rattle.std.specs.Prelude.{ℕ, ◌≡◌, ◌≢◌, ◌<◌, ◌≤◌, ◌+◌, List, length, take, drop, slice_index}

-- how many blocks two lists share at their beginnings
pub record IsSharedCount (xs ys : List ℕ) (n : ℕ) : Type 0 where
  pub within : (n ≤ length xs) × (n ≤ length ys)
  pub same : take n xs ≡ take n ys
  pub most : n < length xs → n < length ys → slice_index xs n ≢ slice_index ys n

-- how many blocks both lists have behind those, together
abbrev pub unshared_count : List ℕ → List ℕ → ℕ → ℕ
unshared_count xs ys n = length (drop n xs) + length (drop n ys)
