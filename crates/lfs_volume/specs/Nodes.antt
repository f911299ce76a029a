-- The invariant of an open file's size, bytes and dirty range.
use Rattle.std.specs.Prelude.{ℕ, ◌≡◌, ◌≤◌, List, length, Option, Some, None, IsSome}
use Rattle.lfs_volume.specs.declared.dirty_range.DirtyRange.{DirtyRange}

-- contents that are in memory have the node's size
abbrev pub HasSizeIfLoaded : ℕ → Option (List ℕ) → Type 0
HasSizeIfLoaded size None = Unit {0}
HasSizeIfLoaded size (Some bytes) = length bytes ≡ size

-- a dirty range ends within the file, and its bytes are in memory
abbrev pub IsWithin : ℕ → Option (List ℕ) → Option DirtyRange → Type 0
IsWithin size contents None = Unit {0}
IsWithin size contents (Some h) = (h.from ≤ h.end) × (h.end ≤ size) × IsSome contents

pub record HasNodeInvariant (size : ℕ) (contents : Option (List ℕ)) (dirty_range : Option DirtyRange) : Type 0 where
  pub sized : HasSizeIfLoaded size contents
  pub within : IsWithin size contents dirty_range
