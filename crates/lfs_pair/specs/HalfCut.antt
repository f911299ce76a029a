-- The division of slots into two parts, each for one pair.
use Rattle.std.specs.Prelude.{ℕ, ◌*◌, ◌<◌, ◌≤◌, List, take, sum_by}
use Rattle.lfs_model.specs.format.Content.{RawSlot}
use Rattle.lfs_model.specs.layers.WrittenContent.{raw_slot_size}
use Rattle.lfs_model.specs.layers.Cut.{IsFittingSplit}
pub use Rattle.lfs_model.specs.layers.Cut.{SlotsFitPair, IsFittingSplit, AreSplittable}

-- The cut is the last fitting one with at most half of the bytes before it, or the first fitting
-- one if every fitting cut has more than half of them before it.
pub record IsHalfCut (block_size page : ℕ) (slots : List RawSlot) (cut : ℕ) : Type 0 where
  pub is_cut : IsFittingSplit block_size page slots cut
  pub later : (k : ℕ) → cut < k → IsFittingSplit block_size page slots k → sum_by raw_slot_size slots < 2 * sum_by raw_slot_size (take k slots)
  pub earlier : (k : ℕ) → k < cut → IsFittingSplit block_size page slots k → 2 * sum_by raw_slot_size (take cut slots) ≤ sum_by raw_slot_size slots
