-- The split of a pair's slots between two pairs.
use Rattle.std.specs.Prelude.{ℕ, ◌≤◌, List, length, take, drop, sum_by}
use Rattle.lfs_model.specs.format.Disk.{pair_capacity, slots_limit}
use Rattle.lfs_model.specs.format.Content.{RawSlot}
use Rattle.lfs_model.specs.layers.WrittenContent.{raw_slot_size}

-- The size and the number of the slots are within the limits of a pair that is written.
pub record SlotsFitPair (block_size page : ℕ) (slots : List RawSlot) : Type 0 where
  pub size : sum_by raw_slot_size slots ≤ pair_capacity block_size page
  pub count : length slots ≤ slots_limit

-- The first `cut` slots fit in one pair, and the others fit in another.
pub record IsFittingSplit (block_size page : ℕ) (slots : List RawSlot) (cut : ℕ) : Type 0 where
  pub within : cut ≤ length slots
  pub front : SlotsFitPair block_size page (take cut slots)
  pub back : SlotsFitPair block_size page (drop cut slots)

-- The slots can be split between two pairs so that both parts fit.
pub record AreSplittable (block_size page : ℕ) (slots : List RawSlot) : Type 0 where
  pub cut : ℕ
  pub is_cut : IsFittingSplit block_size page slots cut
