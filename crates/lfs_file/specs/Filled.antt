-- The counts of an extender.
use Rattle.std.specs.Prelude.{ℕ, ◌≡◌, ◌≤◌, ◌<◌, ◌+◌, ◌-◌, ◌*◌, ◌^◌}
use Rattle.lfs_model.specs.format.SkipLists.{pointer_count, bytes_before_block}

-- behind `full` full blocks, the next one is filled up to `filled`, pointers first, and all blocks hold `size` bytes
pub record CountsAgree (block_size full filled size : ℕ) : Type 0 where
  pub low : 4 * pointer_count full ≤ filled
  pub high : filled < block_size
  pub sum : size ≡ bytes_before_block block_size full + (filled - 4 * pointer_count full)
  pub fits : size < 2 ^ 31
