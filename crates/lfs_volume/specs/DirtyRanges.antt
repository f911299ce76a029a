-- The range of a file's bytes that may differ from the stored ones.
use Rattle.std.specs.Prelude.{ℕ, ◌≡◌, ◌≤◌, nat_lt, min, max, if◌then◌else◌, List, length, take, drop, Option, Some, None}
use Rattle.lfs_volume.specs.declared.dirty_range.DirtyRange.{DirtyRange}

-- the least dirty range that includes these bytes, too
abbrev pub extend_dirty_range : Option DirtyRange → ℕ → ℕ → DirtyRange
extend_dirty_range None from end = record { from = from; end = end }
extend_dirty_range (Some h) from end = record { from = min h.from from; end = max h.end end }

-- the dirty range after the contents were cut to a size
abbrev pub truncate_dirty_range : Option DirtyRange → ℕ → DirtyRange
truncate_dirty_range None size = record { from = size; end = size }
truncate_dirty_range (Some h) size = record { from = min h.from size; end = min h.end size }

-- the dirty range after the contents were resized from `old` to `new` bytes
abbrev pub resize_dirty_range : Option DirtyRange → ℕ → ℕ → DirtyRange
resize_dirty_range dirty_range old new = if nat_lt old new then extend_dirty_range dirty_range old new else truncate_dirty_range dirty_range new

-- The stored bytes become the new ones if they are cut to the new length, where that is shorter, and the bytes of the dirty range are
-- written.
pub record DiffersOnlyWithinRange (stored now : List ℕ) (h : DirtyRange) : Type 0 where
  pub order : h.from ≤ h.end
  pub inside : h.end ≤ length now
  pub begins : h.from ≤ length stored
  pub before : take h.from stored ≡ take h.from now
  pub behind : drop h.end (take (length now) stored) ≡ drop h.end now

-- the same; without a dirty range the bytes are equal
abbrev pub DiffersInDirtyRange : List ℕ → List ℕ → Option DirtyRange → Type 0
DiffersInDirtyRange stored now None = stored ≡ now
DiffersInDirtyRange stored now (Some h) = DiffersOnlyWithinRange stored now h
